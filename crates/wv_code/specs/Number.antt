-- Numbers that fit the room behind them, of which so many bytes are missing at the end. A fault is the number of bytes that are
-- left from it on, 0 where the bytes end.
use Rattle.std.specs.Prelude.{ℕ, zero, suc, ◌+◌, ◌-◌, ◌*◌, ◌^◌, Bool, true, false, if◌then◌else◌, List, [], ◌∷◌, length, Result, Ok, Err}

-- some number below passes the test
unfoldable pub some_below : ℕ → (ℕ → Bool) → Bool
some_below zero test = false
some_below (suc n) test = if test n then true else some_below n test

-- A number with so many bytes to come, the first bytes of which were read as n; with each byte some number that passes the
-- test begins.
unfoldable pub number_from : (ℕ → Bool) → ℕ → ℕ → List ℕ → Result (ℕ × List ℕ) ℕ
number_from test zero n bytes = Ok (n, bytes)
number_from test (suc width) n [] = Err 0
number_from test (suc width) n (byte ∷ rest) =
    if some_below (256 ^ width) (λ k. test ((n * 256 + byte) * 256 ^ width + k)) then number_from test width (n * 256 + byte) rest else Err (suc (length rest))

-- a number of so many bytes that passes the test for the room behind it
abbrev pub number_at : ℕ → (ℕ → ℕ → Bool) → ℕ → List ℕ → Result (ℕ × List ℕ) ℕ
number_at width test missing bytes = number_from (test (length bytes + missing - width)) width 0 bytes
