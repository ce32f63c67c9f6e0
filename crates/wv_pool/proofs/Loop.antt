-- Reading entries one after the other, as a loop does.
use Rattle.std.proofs.Common.{◌≡◌, ℕ, suc, ◌-◌, ◌+◌, ◌≤◌, ◌<◌, Bool, List, [], ◌∷◌, ◌++◌, Result, Ok, Err, refl, sym, ap, ◌∙◌, append_assoc, arith}
use Rattle.std.specs.Prelude.{◌==◌}
use Rattle.std.proofs.lemmas.List.{append-nil}
use Rattle.wv_base.specs.declared.class_file.PoolEntry.{PoolEntry}
use Rattle.wv_pool.specs.declared.stop.Stop.{Stop}
use Rattle.wv_pool.specs.declared.stop.Stop.TheVariants as stops
use Rattle.wv_pool.specs.Reading.{◌>>=◌, Fails, is_wide, slot_at, slots_in}

-- what was read before, and what is still read
abbrev pub with_front : List PoolEntry → Result (List PoolEntry × List ℕ) ℕ → Result (List PoolEntry × List ℕ) ℕ
with_front front read = read >>= λ x. Ok (front ++ x.0, x.1)

regroup : (front : List PoolEntry) (e : PoolEntry) (read : Result (List PoolEntry × List ℕ) ℕ) → with_front front (read >>= λ x. Ok (e ∷ x.0, x.1)) ≡ with_front (front ++ e ∷ []) read
regroup front e (Ok x) = ap (λ (es : List PoolEntry). Ok (es, x.1)) (simp append_assoc)
regroup front e (Err f) = refl

step : (front : List PoolEntry) (wide : Bool) (left : ℕ) (bytes : List ℕ) (e : PoolEntry) (after : List ℕ) → slot_at wide (left == 0) bytes ≡ Ok (e, after)
    → with_front front (slots_in wide (suc left) bytes) ≡ with_front (front ++ e ∷ []) (slots_in (is_wide e) left after)
unfolding slots_in
step front wide left bytes e after h = rw h (regroup front e (slots_in (is_wide e) left after))

pub goes_on : (front : List PoolEntry) (wide : Bool) (count i : ℕ) (bytes : List ℕ) (e : PoolEntry) (after : List ℕ) (total : Result (List PoolEntry × List ℕ) ℕ) → i < count → slot_at wide ((count - i - 1) == 0) bytes ≡ Ok (e, after)
    → with_front front (slots_in wide (count - i) bytes) ≡ total → with_front (front ++ e ∷ []) (slots_in (is_wide e) (count - (i + 1)) after) ≡ total
goes_on front wide count i bytes e after total lt h so_far =
    let k : count - i ≡ suc (count - i - 1) = omega arith in
    let j : count - i - 1 ≡ count - (i + 1) = omega arith in
    let one : with_front front (slots_in wide (count - i) bytes) ≡ with_front (front ++ e ∷ []) (slots_in (is_wide e) (count - (i + 1)) after) =
    rw (k) (step front wide (count - i - 1) bytes e after h ∙ ap (λ (n : ℕ). with_front (front ++ e ∷ []) (slots_in (is_wide e) n after)) j) in
    sym one ∙ so_far

fails : (f : ℕ) (front : List PoolEntry) (wide : Bool) (left : ℕ) (bytes : List ℕ) → slot_at wide (left == 0) bytes ≡ Err f → with_front front (slots_in wide (suc left) bytes) ≡ Err f
unfolding slots_in
fails f front wide left bytes h = rw h refl

pub ends : (stop : Stop) (front : List PoolEntry) (wide : Bool) (count i : ℕ) (bytes : List ℕ) (total : Result (List PoolEntry × List ℕ) ℕ) → i < count → Fails stop (slot_at wide ((count - i - 1) == 0) bytes)
    → with_front front (slots_in wide (count - i) bytes) ≡ total → Fails stop total
ends stops.Memory front wide count i bytes total lt h so_far = tt
ends (stops.Left f) front wide count i bytes total lt h so_far =
    let k : count - i ≡ suc (count - i - 1) = omega arith in
    let one : with_front front (slots_in wide (count - i) bytes) ≡ Err f = rw k (fails f front wide (count - i - 1) bytes h) in
    sym so_far ∙ one

none_left : (front : List PoolEntry) (wide : Bool) (bytes : List ℕ) → with_front front (slots_in wide 0 bytes) ≡ Ok (front, bytes)
unfolding slots_in
none_left front wide bytes = ap (λ (es : List PoolEntry). Ok (es, bytes)) (append-nil front)

pub is_done : (front : List PoolEntry) (wide : Bool) (count i : ℕ) (bytes : List ℕ) (total : Result (List PoolEntry × List ℕ) ℕ) → count ≤ i → with_front front (slots_in wide (count - i) bytes) ≡ total → total ≡ Ok (front, bytes)
is_done front wide count i bytes total le so_far =
    let k : count - i ≡ 0 = omega arith in
    let one : with_front front (slots_in wide (count - i) bytes) ≡ Ok (front, bytes) = rw k (none_left front wide bytes) in
    sym so_far ∙ one

pub starts : (read : Result (List PoolEntry × List ℕ) ℕ) → with_front [] read ≡ read
starts (Ok x) = refl
starts (Err f) = refl
