-- What a reader answers where a part of what it reads isn't there.
use Rattle.std.proofs.Common.{◌≡◌, ℕ, List, Result, Ok, Err, Bor, sym, subst}
use Rattle.std.specs.Prelude.{IsErrAnd}
use Rattle.wv_class.specs.declared.stop.Stop.{Stop}
use Rattle.wv_class.specs.declared.stop.Stop.TheVariants as stops
use Rattle.wv_class.specs.Reading.{Stopped, Reads}

-- a value and the bytes behind it
abbrev pub seen : {X : Type 0} → X × Bor (List ℕ) → X × List ℕ
seen x = (x.0, x.1.now)

module _ {V W X Y : Type 0} {S : ℕ → X → List ℕ → Type 0} {T : ℕ → Y → List ℕ → Type 0} (view : V → X × List ℕ) (other : W → Y × List ℕ) (bytes all : List ℕ) (to : (left : ℕ) → Stopped S bytes left → Stopped T all left) where
  stop_fails : (e : Stop) → Reads view S bytes (Err e) → Reads other T all (Err e)
  stop_fails (stops.Left left) r = to left r
  stop_fails stops.Memory r = tt

  pub fails_as : (result : Result W Stop) (e : Stop) → IsErrAnd result (λ y. y ≡ e) → Reads view S bytes (Err e) → Reads other T all result
  fails_as (Ok x) e is r = absurd is
  fails_as (Err y) e is r = subst (λ (z : Stop). Reads other T all (Err z)) (sym is) (stop_fails e r)

module _ {X Y : Type 0} {S : ℕ → X → List ℕ → Type 0} {T : ℕ → Y → List ℕ → Type 0} (bytes all : List ℕ) (to : (left : ℕ) → Stopped S bytes left → Stopped T all left) where
  pub fails : (result : Result (Y × Bor (List ℕ)) Stop) (e : Stop) → IsErrAnd result (λ y. y ≡ e) → Reads (seen {X = X}) S bytes (Err e) → Reads (seen {X = Y}) T all result
  fails result e is r = fails_as (seen {X = X}) (seen {X = Y}) bytes all to result e is r
