-- Lists, as a loop goes over them.
use Rattle.std.proofs.Common.{◌≡◌, ℕ, zero, suc, ◌+◌, ◌<◌, ◌≤◌, List, [], ◌∷◌, ◌++◌, length, get_or, take, drop, refl, sym, ap, subst, ◌∙◌, arith, add-one}
use Rattle.std.specs.List.{flat_map, AllByRecursion}
use Rattle.std.proofs.lemmas.List.{append-nil, take_more}
use Rattle.std.proofs.lemmas.List.Concat.{flat_map-append}

pub split_at : {X : Type 0} (xs : List X) (i : ℕ) (d : X) → i < length xs → xs ≡ take i xs ++ get_or xs i d ∷ drop (i + 1) xs
split_at [] i d lt = absurd (omega arith)
split_at (x ∷ xs) zero d lt = refl
split_at (x ∷ xs) (suc i) d lt = rw (add-one) (ap (λ t. x ∷ t) (split_at xs i d (omega arith) ∙ rw add-one refl))

-- one item more
pub flat_map-more : {X Y : Type 0} (f : X → List Y) (xs : List X) (i : ℕ) (d : X) → i < length xs → flat_map f (take (i + 1) xs) ≡ flat_map f (take i xs) ++ f (get_or xs i d)
flat_map-more {X} {Y} f xs i d lt =
    ap (λ t. flat_map f t) (take_more xs i d lt) ∙ flat_map-append f (take i xs) (get_or xs i d ∷ []) ∙ ap (λ (t : List Y). flat_map f (take i xs) ++ t) (append-nil (f (get_or xs i d)))

pub AllByRecursion-push : {X : Type 0} (P : X → Type 0) (xs : List X) (x : X) → AllByRecursion P xs → P x → AllByRecursion P (xs ++ x ∷ [])
AllByRecursion-push P [] x h k = (k, tt)
AllByRecursion-push P (y ∷ xs) x h k = (h.0, AllByRecursion-push P xs x h.1 k)

pub AllByRecursion-at : {X : Type 0} (P : X → Type 0) (xs : List X) (i : ℕ) (d : X) → i < length xs → AllByRecursion P xs → P (get_or xs i d)
AllByRecursion-at P [] i d lt h = absurd (omega arith)
AllByRecursion-at P (x ∷ xs) zero d lt h = h.0
AllByRecursion-at P (x ∷ xs) (suc i) d lt h = AllByRecursion-at P xs i d (omega arith) h.1

-- what holds of each item still does, where it grows weaker
pub AllByRecursion-map : {X : Type 0} (P Q : X → Type 0) (xs : List X) → ((x : X) → P x → Q x) → AllByRecursion P xs → AllByRecursion Q xs
AllByRecursion-map P Q [] f h = tt
AllByRecursion-map P Q (x ∷ xs) f h = (f x h.0, AllByRecursion-map P Q xs f h.1)

pub AllByRecursion-more : {X : Type 0} (P : X → Type 0) (xs : List X) (i : ℕ) (d : X) → i < length xs → AllByRecursion P (take i xs) → P (get_or xs i d) → AllByRecursion P (take (i + 1) xs)
AllByRecursion-more P xs i d lt h k = subst (AllByRecursion P) (sym (take_more xs i d lt)) (AllByRecursion-push P (take i xs) (get_or xs i d) h k)

-- what is below one bound is below a greater one
pub below_more : (xs : List ℕ) (a b : ℕ) → a ≤ b → AllByRecursion (λ x. x ≤ a) xs → AllByRecursion (λ x. x ≤ b) xs
below_more xs a b le h = AllByRecursion-map (λ x. x ≤ a) (λ x. x ≤ b) xs (λ x k. omega arith) h

-- a number of the list, or 0 behind its end
pub small_at : (xs : List ℕ) (k bound : ℕ) → AllByRecursion (λ x. x ≤ bound) xs → get_or xs k 0 ≤ bound
small_at [] k bound h = omega arith
small_at (x ∷ xs) zero bound h = h.0
small_at (x ∷ xs) (suc k) bound h = small_at xs k bound h.1
