-- Reading modified UTF-8 from left to right (JVM Specification 4.4.7), with the place of the first
-- fault. That this is the reading of `spelling` and of no other bytes, the laws of `one_reading` say.
use Rattle.std.specs.Prelude.{◌≡◌, ℕ, zero, suc, ◌+◌, ◌-◌, ◌*◌, Bool, ◌&&◌, ◌||◌, ◌==◌, nat_lt, nat_le, if◌then◌else◌, List, [], ◌∷◌, length, Result, Ok, Err}
use Rattle.wv_base.specs.declared.modified.TextFault.{TextFault}
use Rattle.wv_base.specs.declared.modified.TextFault.TheVariants as faults
use Rattle.wv_base.specs.Modified.{unit_spelling}

-- a byte behind the first, with six bits
abbrev pub is_next : ℕ → Bool
is_next byte = nat_le 0x80 byte && nat_lt byte 0xC0

-- the unit at the front and the bytes after it, where two bytes spell it
unfoldable pub two_at : ℕ → List ℕ → Result (ℕ × List ℕ) ℕ
two_at first [] = Err 1
two_at first (second ∷ rest) =
    if is_next second && (nat_lt 0xC1 first || second == 0x80)
    then Ok ((first - 0xC0) * 64 + (second - 0x80), rest) else Err 1

-- the same behind the first two of three bytes
unfoldable pub third_at : ℕ → ℕ → List ℕ → Result (ℕ × List ℕ) ℕ
third_at first second [] = Err 2
third_at first second (third ∷ rest) =
    if is_next third
    then Ok ((first - 0xE0) * 4096 + (second - 0x80) * 64 + (third - 0x80), rest) else Err 2

-- the same where three bytes spell it
unfoldable pub three_at : ℕ → List ℕ → Result (ℕ × List ℕ) ℕ
three_at first [] = Err 1
three_at first (second ∷ rest) =
    if is_next second && (nat_lt 0xE0 first || nat_le 0xA0 second) then third_at first second rest else Err 1

-- the unit at the front and the bytes after it, or how many bytes precede the fault
unfoldable pub unit_at : List ℕ → Result (ℕ × List ℕ) ℕ
unit_at [] = Err 0
unit_at (first ∷ rest) =
    if nat_lt 0 first && nat_lt first 0x80 then Ok (first, rest)
    else if first == 0xC0 || (nat_le 0xC2 first && nat_lt first 0xE0) then two_at first rest
    else if nat_le 0xE0 first && nat_lt first 0xF0 then three_at first rest
    else Err 0

-- a unit before what is read behind it
abbrev pub unit_before : ℕ → Result (List ℕ) ℕ → Result (List ℕ) ℕ
unit_before unit (Ok name) = Ok (unit ∷ name)
unit_before unit (Err at) = Err (length (unit_spelling unit) + at)

-- a step, and what follows where it gives no fault
infixl 10 ◌>>=◌
abbrev pub ◌>>=◌ : {A B : Type 0} → Result A ℕ → (A → Result B ℕ) → Result B ℕ
(Ok x) >>= f = f x
(Err at) >>= f = Err at

-- the name of at most so many units, or how many bytes precede the fault
unfoldable pub units_in : ℕ → List ℕ → Result (List ℕ) ℕ
units_in zero bytes = Ok []
units_in (suc most) [] = Ok []
units_in (suc most) (first ∷ rest) = do
  found ← unit_at (first ∷ rest)
  unit_before found.0 (units_in most found.1)

-- the name that the bytes spell, or how many bytes precede the fault
unfoldable pub name_in : List ℕ → Result (List ℕ) ℕ
name_in bytes = units_in (length bytes) bytes

-- what holds of the place, where it is a fault
abbrev pub IfFault : TextFault → (ℕ → Type 0) → Type 0
IfFault faults.Memory P = Unit {0}
IfFault (faults.Fault at) P = P at

-- A result is what reading gives, unless memory ran out.
abbrev pub GivesName : Result (List ℕ) TextFault → Result (List ℕ) ℕ → Type 0
GivesName (Ok name) read = read ≡ Ok name
GivesName (Err faults.Memory) read = Unit {0}
GivesName (Err (faults.Fault at)) read = read ≡ Err at
