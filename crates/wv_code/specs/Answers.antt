-- What the readers of a Code attribute's parts answer: a fault is the number of bytes that are left from it on.
use Rattle.std.specs.Prelude.{◌≡◌, ℕ, Result, Ok, Err}
use Rattle.wv_code.specs.declared.stop.Stop.{Stop}
use Rattle.wv_code.specs.declared.stop.Stop.TheVariants as stops

-- What a function returned, seen by view, is what reading gives, unless memory ran out.
abbrev pub Fails : {Y : Type 0} → Stop → Result Y ℕ → Type 0
Fails stops.Memory read = Unit {0}
Fails (stops.Left left) read = read ≡ Err left

abbrev pub Gives : {X Y : Type 0} → (X → Y) → Result X Stop → Result Y ℕ → Type 0
Gives view (Ok x) read = read ≡ Ok (view x)
Gives view (Err e) read = Fails e read
