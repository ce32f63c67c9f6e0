-- Lists that are read item by item.
use Rattle.std.proofs.Common.{◌≡◌, ℕ, ◌+◌, ◌<◌, List, [], ◌∷◌, ◌++◌, length, get_or, take, drop, ap, sym, ◌∙◌, subst, add-one}
use Rattle.std.specs.List.{AllByRecursion}
use Rattle.std.proofs.lemmas.List.{take_more, take-append-drop}
use Rattle.std.proofs.Math.Seq.{drop-cons}
use Rattle.std.specs.List.{AllZip}

append : {A B : Type 0} (R : A → B → Type 0) (xs : List A) (ys : List B) (x : A) (y : B) → AllZip R xs ys → R x y → AllZip R (xs ++ x ∷ []) (ys ++ y ∷ [])
append R [] [] x y h one = (one, tt)
append R [] (z ∷ ys) x y h one = absurd h
append R (w ∷ xs) [] x y h one = absurd h
append R (w ∷ xs) (z ∷ ys) x y h one = (h.0, append R xs ys x y h.1 one)

-- one more
pub relates-push : {A B : Type 0} (R : A → B → Type 0) (list : List A) (i : ℕ) (ys : List B) (x : A) (y : B) → i < length list → x ≡ get_or list i x → AllZip R (take i list) ys → R x y → AllZip R (take (i + 1) list) (ys ++ y ∷ [])
relates-push {A} {B} R list i ys x y inside at h one =
    let whole : take (i + 1) list ≡ take i list ++ x ∷ [] = take_more list i x inside ∙ ap (λ w. take i list ++ w ∷ []) (sym at) in
    subst (λ (ws : List A). AllZip R ws (ys ++ y ∷ [])) (sym whole) (append R (take i list) ys x y h one)

-- what is read has what reading shows
pub relates-each : {A B : Type 0} (R : A → B → Type 0) (Has : A → Type 0) → ((x : A) (y : B) → R x y → Has x) → (xs : List A) (ys : List B) → AllZip R xs ys → AllByRecursion Has xs
relates-each R Has has [] ys h = tt
relates-each R Has has (x ∷ xs) [] h = absurd h
relates-each R Has has (x ∷ xs) (y ∷ ys) h = (has x y h.0, relates-each R Has has xs ys h.1)

piece : {A : Type 0} (list : List A) (i : ℕ) (x : A) → i < length list → take i list ++ drop i list ≡ take i list ++ (get_or list i x ∷ drop (i + 1) list)
piece list i x inside = rw (add-one, drop-cons list i x)

-- a list is what stands before a place, what stands at it and what stands behind
pub cut-at : {A : Type 0} (list : List A) (i : ℕ) (x : A) → i < length list → x ≡ get_or list i x → list ≡ take i list ++ x ∷ drop (i + 1) list
cut-at list i x inside at = sym (take-append-drop i list) ∙ piece list i x inside ∙ ap (λ w. take i list ++ w ∷ drop (i + 1) list) (sym at)
