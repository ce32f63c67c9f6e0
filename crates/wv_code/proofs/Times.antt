-- Reading one item after the other, as a loop does.
use Rattle.std.proofs.Common.{◌≡◌, ℕ, suc, ◌-◌, ◌+◌, ◌≤◌, ◌<◌, List, [], ◌∷◌, ◌++◌, Result, Ok, Err, refl, sym, ap, ◌∙◌, append_assoc, arith}
use Rattle.std.proofs.lemmas.List.{append-nil}
use Rattle.wv_pool.specs.Reading.{◌>>=◌}
use Rattle.wv_code.specs.declared.stop.Stop.{Stop}
use Rattle.wv_code.specs.declared.stop.Stop.TheVariants as stops
use Rattle.wv_code.specs.Answers.{Fails}
use Rattle.wv_code.specs.Reading.{times}

-- what was read before, and what is still read
abbrev pub with_front : {A : Type 0} → List A → Result (List A × List ℕ) ℕ → Result (List A × List ℕ) ℕ
with_front front read = read >>= λ x. Ok (front ++ x.0, x.1)

regroup : {A : Type 0} (front : List A) (item : A) (read : Result (List A × List ℕ) ℕ) → with_front front (read >>= λ x. Ok (item ∷ x.0, x.1)) ≡ with_front (front ++ item ∷ []) read
regroup {A} front item (Ok x) = ap (λ (items : List A). Ok (items, x.1)) (simp append_assoc)
regroup front item (Err left) = refl

pub starts : {A : Type 0} (read : Result (List A × List ℕ) ℕ) → with_front [] read ≡ read
starts (Ok x) = refl
starts (Err left) = refl

pub goes_on : {A : Type 0} (one : ℕ → ℕ → List ℕ → Result (A × List ℕ) ℕ) (missing : ℕ) (front : List A) (count i : ℕ) (bytes : List ℕ) (item : A) (after : List ℕ) (total : Result (List A × List ℕ) ℕ) → i < count → one (count - i - 1) missing bytes ≡ Ok (item, after)
    → with_front front (times one (count - i) missing bytes) ≡ total → with_front (front ++ item ∷ []) (times one (count - (i + 1)) missing after) ≡ total
unfolding times
goes_on one missing front count i bytes item after total lt h so_far =
    let k : count - i ≡ suc (count - (i + 1)) = omega arith in
    let j : count - i - 1 ≡ count - (i + 1) = omega arith in
    let read : one (count - (i + 1)) missing bytes ≡ Ok (item, after) = ap (λ (n : ℕ). one n missing bytes) (sym j) ∙ h in
    let step : with_front front (times one (count - i) missing bytes) ≡ with_front (front ++ item ∷ []) (times one (count - (i + 1)) missing after) = rw (k, read) (regroup front item (times one (count - (i + 1)) missing after)) in
    sym step ∙ so_far

pub ends : {A : Type 0} (one : ℕ → ℕ → List ℕ → Result (A × List ℕ) ℕ) (missing : ℕ) (e : Stop) (front : List A) (count i : ℕ) (bytes : List ℕ) (total : Result (List A × List ℕ) ℕ) → i < count → Fails e (one (count - i - 1) missing bytes)
    → with_front front (times one (count - i) missing bytes) ≡ total → Fails e total
unfolding times
ends one missing stops.Memory front count i bytes total lt h so_far = tt
ends one missing (stops.Left left) front count i bytes total lt h so_far =
    let k : count - i ≡ suc (count - (i + 1)) = omega arith in
    let j : count - i - 1 ≡ count - (i + 1) = omega arith in
    let read : one (count - (i + 1)) missing bytes ≡ Err left = ap (λ (n : ℕ). one n missing bytes) (sym j) ∙ h in
    let step : with_front front (times one (count - i) missing bytes) ≡ Err left = rw (k, read) refl in
    sym so_far ∙ step

pub is_done : {A : Type 0} (one : ℕ → ℕ → List ℕ → Result (A × List ℕ) ℕ) (missing : ℕ) (front : List A) (count i : ℕ) (bytes : List ℕ) (total : Result (List A × List ℕ) ℕ) → count ≤ i → with_front front (times one (count - i) missing bytes) ≡ total → total ≡ Ok (front, bytes)
unfolding times
is_done {A} one missing front count i bytes total le so_far =
    let k : count - i ≡ 0 = omega arith in
    let step : with_front front (times one (count - i) missing bytes) ≡ Ok (front, bytes) = rw k (ap (λ (items : List A). Ok (items, bytes)) (append-nil front)) in
    sym so_far ∙ step
