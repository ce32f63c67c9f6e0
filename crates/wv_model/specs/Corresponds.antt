-- When two machines correspond, for every budget of steps. Our own.
use Rattle.std.specs.Prelude.{◌≡◌, ◌↔◌, ℕ, ◌+◌, ◌*◌}
use Rattle.wv_model.specs.Machine.{Machine, Ended, Run, run, Begins}

-- so many steps of the first machine at most stand for one step of the second
abbrev pub steps_for_one : ℕ
steps_for_one = 800

-- from these states the two machines show the same and end alike, in both directions and for every budget, where the
-- first machine may take `factor` steps for one of the second
pub record CorrespondsWithin (factor : ℕ) {S T Piece Ending : Type 0} (first : Machine S Piece Ending) (s : S) (second : Machine T Piece Ending) (t : T) : Type 0 where
  -- where the first ends within a budget, the second's run within it is the same
  pub ends_of_first : (n : ℕ) (e : Ending) → (run first n s).finish ≡ Ended e → run second n t ≡ run first n s
  -- where the second ends within a budget, the first's run within the multiple of it is the same
  pub ends_of_second : (n : ℕ) (e : Ending) → (run second n t).finish ≡ Ended e → run first (factor * (n + 1)) s ≡ run second n t
  -- what the first shows within a budget, the second has shown within it
  pub shown_by_first : (n : ℕ) → Begins (run first n s).trace (run second n t).trace
  -- what the second shows within a budget, the first has shown within the multiple of it
  pub shown_by_second : (n : ℕ) → Begins (run second n t).trace (run first (factor * (n + 1)) s).trace

-- the same with the factor of the woven program
abbrev pub Corresponds : {S T Piece Ending : Type 0} → Machine S Piece Ending → S → Machine T Piece Ending → T → Type 0
Corresponds first s second t = CorrespondsWithin steps_for_one first s second t

-- a run that ends is a run of the one from its state exactly where it is a run of the other
abbrev pub EndsAlike : {S T Piece Ending : Type 0} → Machine S Piece Ending → S → Machine T Piece Ending → T → Type 0
EndsAlike {S} {T} {Piece} {Ending} first s second t =
    (seen : Run Piece Ending) (e : Ending) → seen.finish ≡ Ended e → ((n : ℕ) × (run first n s ≡ seen)) ↔ ((n : ℕ) × (run second n t ≡ seen))
