-- Reading one item after the other, as a loop does.
use Rattle.std.proofs.Common.{◌≡◌, ℕ, suc, ◌-◌, ◌+◌, ◌≤◌, ◌<◌, List, [], ◌∷◌, ◌++◌, Result, Ok, Err, refl, sym, ap, ◌∙◌, append_assoc, arith}
use Rattle.std.proofs.lemmas.List.{append-nil}
use Rattle.wv_insn.specs.declared.fault.Stop.{Stop}
use Rattle.wv_insn.specs.declared.fault.Stop.TheVariants as stop
use Rattle.wv_insn.specs.Reading.{◌>>=◌, Fails, times}

-- what was read before, and what is still read
abbrev pub with_front : {A : Type 0} → List A → Result (List A × List ℕ) ℕ → Result (List A × List ℕ) ℕ
with_front front read = read >>= λ x. Ok (front ++ x.0, x.1)

regroup : {A : Type 0} (front : List A) (item : A) (read : Result (List A × List ℕ) ℕ) → with_front front (read >>= λ x. Ok (item ∷ x.0, x.1)) ≡ with_front (front ++ item ∷ []) read
regroup {A} front item (Ok x) = ap (λ (items : List A). Ok (items, x.1)) (simp append_assoc)
regroup front item (Err left) = refl

pub goes_on : {A : Type 0} (read : List ℕ → Result (A × List ℕ) ℕ) (front : List A) (count i : ℕ) (bytes : List ℕ) (item : A) (after : List ℕ) (total : Result (List A × List ℕ) ℕ) → i < count → read bytes ≡ Ok (item, after)
    → with_front front (times read (count - i) bytes) ≡ total → with_front (front ++ item ∷ []) (times read (count - (i + 1)) after) ≡ total
unfolding times
goes_on read front count i bytes item after total lt h so_far =
    let k : count - i ≡ suc (count - (i + 1)) = omega arith in
    let one : with_front front (times read (count - i) bytes) ≡ with_front (front ++ item ∷ []) (times read (count - (i + 1)) after) = rw (k, h) (regroup front item (times read (count - (i + 1)) after)) in
    sym one ∙ so_far

pub ends : {A : Type 0} (read : List ℕ → Result (A × List ℕ) ℕ) (e : Stop) (front : List A) (count i : ℕ) (bytes : List ℕ) (total : Result (List A × List ℕ) ℕ) → i < count → Fails e (read bytes)
    → with_front front (times read (count - i) bytes) ≡ total → Fails e total
unfolding times
ends read stop.Memory front count i bytes total lt h so_far = tt
ends read (stop.At left) front count i bytes total lt h so_far =
    let k : count - i ≡ suc (count - (i + 1)) = omega arith in
    let one : with_front front (times read (count - i) bytes) ≡ Err left = rw (k, h) refl in
    sym so_far ∙ one

pub is_done : {A : Type 0} (read : List ℕ → Result (A × List ℕ) ℕ) (front : List A) (count i : ℕ) (bytes : List ℕ) (total : Result (List A × List ℕ) ℕ) → count ≤ i → with_front front (times read (count - i) bytes) ≡ total → total ≡ Ok (front, bytes)
unfolding times
is_done {A} read front count i bytes total le so_far =
    let k : count - i ≡ 0 = omega arith in
    let one : with_front front (times read (count - i) bytes) ≡ Ok (front, bytes) = rw k (ap (λ (items : List A). Ok (items, bytes)) (append-nil front)) in
    sym so_far ∙ one
