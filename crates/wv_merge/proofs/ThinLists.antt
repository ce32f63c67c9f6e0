-- Lists, as a loop goes over them up to the first item that is such.
use Rattle.std.proofs.Common.{◌≡◌, ℕ, zero, suc, ◌+◌, ◌<◌, ◌≤◌, List, [], ◌∷◌, ◌++◌, length, get_or, take, drop, Some, refl, sym, ap, subst, ◌∙◌, arith, take_all, take-append-drop}
use Rattle.std.specs.Prelude.{slice_get}
use Rattle.std.specs.List.{AllByRecursion}
use Rattle.std.proofs.lemmas.List.{drop_more}

pub parts_at : {X : Type 0} (xs : List X) (i : ℕ) (x : X) → i < length xs → x ≡ get_or xs i x → xs ≡ take i xs ++ x ∷ drop (i + 1) xs
parts_at xs i x within is =
    sym (take-append-drop i xs) ∙ ap (λ t. take i xs ++ t) (drop_more xs i x within ∙ ap (λ y. y ∷ drop (i + 1) xs) (sym is))

-- there is one way to part a list at the first item that is such
pub same_parts : {X : Type 0} (P : X → Type 0) (a b c d : List X) (x y : X) → AllByRecursion (λ z. P z → ⊥) a → AllByRecursion (λ z. P z → ⊥) b → P x → P y
    → a ++ x ∷ c ≡ b ++ y ∷ d → (a ≡ b) × (x ≡ y) × (c ≡ d)
same_parts P [] [] c d x y free none is such e = (refl, cc, cc)
same_parts P [] (z ∷ b) c d x y free none is such e = let same : x ≡ z = cc in absurd (none.0 (subst P same is))
same_parts P (z ∷ a) [] c d x y free none is such e = let same : y ≡ z = cc in absurd (free.0 (subst P same such))
same_parts P (z ∷ a) (w ∷ b) c d x y free none is such e =
    let head : z ≡ w = cc in
    let tail : a ++ x ∷ c ≡ b ++ y ∷ d = cc in
    let rest = same_parts P a b c d x y free.1 none.1 is such tail in
    let front : a ≡ b = rest.0 in
    (cc, rest.1, rest.2)

pub none_in_parts : {X : Type 0} (P : X → Type 0) (xs before after : List X) (x : X) → AllByRecursion (λ z. P z → ⊥) xs → xs ≡ before ++ x ∷ after → P x → ⊥
none_in_parts P [] [] after x none e is = cc
none_in_parts P [] (z ∷ before) after x none e is = cc
none_in_parts P (y ∷ xs) [] after x none e is = let same : x ≡ y = cc in none.0 (subst P same is)
none_in_parts P (y ∷ xs) (z ∷ before) after x none e is = let tail : xs ≡ before ++ x ∷ after = cc in none_in_parts P xs before after x none.1 tail is

pub none_at : {X : Type 0} (P : X → Type 0) (xs : List X) (i : ℕ) (x : X) → AllByRecursion (λ z. P z → ⊥) xs → slice_get xs i ≡ Some x → P x → ⊥
none_at P [] i x none e is = cc
none_at P (y ∷ xs) zero x none e is = let same : x ≡ y = cc in none.0 (subst P same is)
none_at P (y ∷ xs) (suc i) x none e is = none_at P xs i x none.1 e is

-- what holds of all items that a loop has gone over holds of all items at its end
pub all_gone : {X : Type 0} (P : X → Type 0) (xs : List X) (i : ℕ) → length xs ≤ i → AllByRecursion P (take i xs) → AllByRecursion P xs
all_gone P xs i over all = subst (AllByRecursion P) (take_all i xs over) all

pub one_item : {X : Type 0} (xs : List X) (x : X) → 1 ≤ length xs → length xs < 2 → x ≡ get_or xs 0 x → xs ≡ x ∷ []
one_item [] x some few is = absurd (omega arith)
one_item (y ∷ []) x some few is = ap (λ z. z ∷ []) (sym is)
one_item (y ∷ z ∷ xs) x some few is = absurd (omega arith)

pub two_items : {X : Type 0} (xs : List X) (x y : X) → 2 ≤ length xs → length xs < 3 → x ≡ get_or xs 0 x → y ≡ get_or xs 1 y → xs ≡ x ∷ y ∷ []
two_items [] x y some few is too = absurd (omega arith)
two_items (a ∷ []) x y some few is too = absurd (omega arith)
two_items (a ∷ b ∷ []) x y some few is too = sym (ap (λ z. z ∷ y ∷ []) is ∙ ap (λ z. a ∷ z ∷ []) too)
two_items (a ∷ b ∷ c ∷ xs) x y some few is too = absurd (omega arith)

-- what holds of all items that are such holds where less is asked
pub all_so : {X : Type 0} (P Q : X → Type 0) (xs : List X) → ((x : X) → P x → Q x) → AllByRecursion P xs → AllByRecursion Q xs
all_so P Q [] so all = tt
all_so P Q (x ∷ xs) so all = (so x all.0, all_so P Q xs so all.1)
