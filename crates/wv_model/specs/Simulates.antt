-- A relation with a number by which one machine follows another step by step. Our own.
use Rattle.std.specs.Prelude.{◌≡◌, ℕ, suc, ◌<◌, ◌⊎◌, None}
use Rattle.wv_model.specs.Machine.{Machine, after}

-- a relation of states; the number says how many steps of the first machine may come before one of the second
abbrev pub Numbered : Type 0 → Type 0 → Type 1
Numbered S T = ℕ → S → T → Type 0

-- the first machine's step stands for none of the second, and the number falls
abbrev pub Lowers : {S T Piece Ending : Type 0} → Machine S Piece Ending → Numbered S T → ℕ → S → T → Type 0
Lowers first Related n s t = (k : ℕ) × (k < n) × Related k (first.step s) t

-- the first machine's step stands for the second's
abbrev pub Matches : {S T Piece Ending : Type 0} → Machine S Piece Ending → Machine T Piece Ending → Numbered S T → S → T → Type 0
Matches first second Related s t = (k : ℕ) × Related k (first.step s) (second.step t)

-- related states have shown the same and have ended alike, and each step of the first machine lowers the number or
-- stands for a step of the second
pub record SimulatesWithin (factor : ℕ) {S T Piece Ending : Type 0} (first : Machine S Piece Ending) (second : Machine T Piece Ending) (Related : Numbered S T) : Type 0 where
  pub below : (n : ℕ) (s : S) (t : T) → Related n s t → n < factor
  pub same_trace : (n : ℕ) (s : S) (t : T) → Related n s t → first.trace s ≡ second.trace t
  pub same_ending : (n : ℕ) (s : S) (t : T) → Related n s t → first.ending s ≡ second.ending t
  pub moves : (n : ℕ) (s : S) (t : T) → Related n s t → first.ending s ≡ None → Lowers first Related n s t ⊎ Matches first second Related s t

-- from related states where the second hasn't ended, the first takes from one step to `factor` steps to a state that is
-- related to the second's next, and until the last of them it shows nothing
pub record Follows (factor : ℕ) {S T Piece Ending : Type 0} (first : Machine S Piece Ending) (second : Machine T Piece Ending) (Related : Numbered S T) (s : S) (t : T) : Type 0 where
  pub quiet : ℕ
  pub few : quiet < factor
  pub unseen : first.trace (after first quiet s) ≡ second.trace t
  pub going : first.ending (after first quiet s) ≡ None
  pub number : ℕ
  pub related : Related number (after first (suc quiet) s) (second.step t)
