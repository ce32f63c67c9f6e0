-- A loop over the entries of a pool, and over the units of a text.
use Rattle.std.proofs.Common.{◌≡◌, ℕ, zero, suc, ◌+◌, ◌≤◌, ◌<◌, Bool, true, false, List, [], ◌∷◌, ◌++◌, length, get_or, take, drop, refl, sym, ap, ◌∙◌, arith, add-one}
use Rattle.std.specs.List.{flat_map, AllByRecursion}
use Rattle.std.proofs.lemmas.List.{length-append, append-nil, take-append-drop, take_more}
use Rattle.std.proofs.lemmas.List.Concat.{flat_map-append}
use Rattle.wv_base.specs.declared.class_file.PoolEntry.{PoolEntry}
use Rattle.wv_base.specs.declared.class_file.PoolEntry.TheVariants as entries
use Rattle.wv_pool.specs.Reading.{is_wide}
use Rattle.wv_pool.specs.Entries.{entry_bytes, IsEntry, AreSlots}

-- one item more
pub flat_map-more : {X : Type 0} (f : X → List ℕ) (xs : List X) (i : ℕ) (d : X) → i < length xs → length (flat_map f (take (i + 1) xs)) ≡ length (flat_map f (take i xs)) + length (f (get_or xs i d))
flat_map-more f xs i d lt =
    ap (λ t. length (flat_map f t)) (take_more xs i d lt) ∙ ap length (flat_map-append f (take i xs) (get_or xs i d ∷ []) ∙ ap (λ (t : List ℕ). flat_map f (take i xs) ++ t) (append-nil (f (get_or xs i d)))) ∙ length-append (flat_map f (take i xs)) (f (get_or xs i d))

-- the first items take no more than all
pub flat_map-front : {X : Type 0} (f : X → List ℕ) (xs : List X) (i : ℕ) → length (flat_map f (take i xs)) ≤ length (flat_map f xs)
flat_map-front f xs i =
    omega (arith, length-append (flat_map f (take i xs)) (flat_map f (drop i xs)), ap length (sym (flat_map-append f (take i xs) (drop i xs)) ∙ ap (flat_map f) (take-append-drop i xs)))

pub split_at : {X : Type 0} (xs : List X) (i : ℕ) (d : X) → i < length xs → xs ≡ take i xs ++ get_or xs i d ∷ drop (i + 1) xs
split_at [] i d lt = absurd (omega arith)
split_at (x ∷ xs) zero d lt = refl
split_at (x ∷ xs) (suc i) d lt = rw (add-one) (ap (λ t. x ∷ t) (split_at xs i d (omega arith) ∙ rw add-one refl))

pub AllByRecursion-push : {X : Type 0} (P : X → Type 0) (xs : List X) (x : X) → AllByRecursion P xs → P x → AllByRecursion P (xs ++ x ∷ [])
AllByRecursion-push P [] x h k = (k, tt)
AllByRecursion-push P (y ∷ xs) x h k = (h.0, AllByRecursion-push P xs x h.1 k)

entry_small : (e : PoolEntry) → IsEntry e → length (entry_bytes e) ≤ 65538
entry_small (entries.Utf8 name) h = omega (arith, h.1)
entry_small (entries.Integer v) h = omega arith
entry_small (entries.Float v) h = omega arith
entry_small (entries.Long v) h = omega arith
entry_small (entries.Double v) h = omega arith
entry_small (entries.Class n) h = omega arith
entry_small (entries.String n) h = omega arith
entry_small (entries.Field m n) h = omega arith
entry_small (entries.Method m n) h = omega arith
entry_small (entries.InterfaceMethod m n) h = omega arith
entry_small (entries.NameAndType m n) h = omega arith
entry_small (entries.MethodHandle k n) h = omega arith
entry_small (entries.MethodType n) h = omega arith
entry_small (entries.InvokeDynamic m n) h = omega arith
entry_small entries.Unusable h = absurd h

pub slots_small : (wide : Bool) (pool : List PoolEntry) (i : ℕ) (d : PoolEntry) → AreSlots wide pool → i < length pool → length (entry_bytes (get_or pool i d)) ≤ 65538
slots_small wide [] i d h lt = absurd (omega arith)
slots_small true (e ∷ pool) zero d h lt = rw h.0 (omega arith)
slots_small false (e ∷ pool) zero d h lt = entry_small e h.0
slots_small true (e ∷ pool) (suc i) d h lt = slots_small false pool i d h.1 (omega arith)
slots_small false (e ∷ pool) (suc i) d h lt = slots_small (is_wide e) pool i d h.1 (omega arith)
