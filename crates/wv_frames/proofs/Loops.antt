-- Reading one item after the other, as a loop does.
use Rattle.std.proofs.Common.{◌≡◌, ℕ, suc, ◌-◌, ◌+◌, ◌≤◌, ◌<◌, List, [], ◌∷◌, ◌++◌, Result, Ok, Err, refl, sym, ap, ◌∙◌, append_assoc, arith}
use Rattle.std.proofs.lemmas.List.{append-nil}
use Rattle.wv_pool.specs.Reading.{◌>>=◌}
use Rattle.wv_frames.specs.declared.stop.Stop.{Stop}
use Rattle.wv_frames.specs.declared.stop.Stop.TheVariants as stops
use Rattle.wv_frames.specs.Reading.{Fails, items_in}

-- what was read before, and what is still read
abbrev pub with_front : {A : Type 0} → List A → Result (List A × List ℕ) ℕ → Result (List A × List ℕ) ℕ
with_front front read = read >>= λ x. Ok (front ++ x.0, x.1)

regroup : {A : Type 0} (front : List A) (item : A) (read : Result (List A × List ℕ) ℕ) → with_front front (read >>= λ x. Ok (item ∷ x.0, x.1)) ≡ with_front (front ++ item ∷ []) read
regroup {A} front item (Ok x) = ap (λ (items : List A). Ok (items, x.1)) (simp append_assoc)
regroup front item (Err left) = refl

pub starts : {A : Type 0} (read : Result (List A × List ℕ) ℕ) → with_front [] read ≡ read
starts (Ok x) = refl
starts (Err left) = refl

pub goes_on : {A : Type 0} (one : ℕ → List ℕ → Result (A × List ℕ) ℕ) (front : List A) (count i : ℕ) (bytes : List ℕ) (item : A) (after : List ℕ) (total : Result (List A × List ℕ) ℕ) → i < count → one (count - i - 1) bytes ≡ Ok (item, after)
    → with_front front (items_in one (count - i) bytes) ≡ total → with_front (front ++ item ∷ []) (items_in one (count - (i + 1)) after) ≡ total
unfolding items_in
goes_on one front count i bytes item after total lt h so_far =
    let k : count - i ≡ suc (count - (i + 1)) = omega arith in
    let j : count - i - 1 ≡ count - (i + 1) = omega arith in
    let read : one (count - (i + 1)) bytes ≡ Ok (item, after) = ap (λ (n : ℕ). one n bytes) (sym j) ∙ h in
    let step : with_front front (items_in one (count - i) bytes) ≡ with_front (front ++ item ∷ []) (items_in one (count - (i + 1)) after) = rw (k, read) (regroup front item (items_in one (count - (i + 1)) after)) in
    sym step ∙ so_far

pub ends : {A : Type 0} (one : ℕ → List ℕ → Result (A × List ℕ) ℕ) (e : Stop) (front : List A) (count i : ℕ) (bytes : List ℕ) (total : Result (List A × List ℕ) ℕ) → i < count → Fails e (one (count - i - 1) bytes)
    → with_front front (items_in one (count - i) bytes) ≡ total → Fails e total
unfolding items_in
ends one stops.Memory front count i bytes total lt h so_far = tt
ends one (stops.Left left) front count i bytes total lt h so_far =
    let k : count - i ≡ suc (count - (i + 1)) = omega arith in
    let j : count - i - 1 ≡ count - (i + 1) = omega arith in
    let read : one (count - (i + 1)) bytes ≡ Err left = ap (λ (n : ℕ). one n bytes) (sym j) ∙ h in
    let step : with_front front (items_in one (count - i) bytes) ≡ Err left = rw (k, read) refl in
    sym so_far ∙ step

pub is_done : {A : Type 0} (one : ℕ → List ℕ → Result (A × List ℕ) ℕ) (front : List A) (count i : ℕ) (bytes : List ℕ) (total : Result (List A × List ℕ) ℕ) → count ≤ i → with_front front (items_in one (count - i) bytes) ≡ total → total ≡ Ok (front, bytes)
unfolding items_in
is_done {A} one front count i bytes total le so_far =
    let k : count - i ≡ 0 = omega arith in
    let step : with_front front (items_in one (count - i) bytes) ≡ Ok (front, bytes) = rw k (ap (λ (items : List A). Ok (items, bytes)) (append-nil front)) in
    sym so_far ∙ step
