-- Lists that go with each other place by place.
use Rattle.std.proofs.Common.{◌≡◌, inl, inr, ℕ, List, [], ◌∷◌, Contains, subst, arith}
use Rattle.std.specs.List.{AllZip}
use Rattle.wv_resolve.proofs.OneMods.{contains-cases, contains-head, contains-later}

-- what stands in one list has its like in the other
pub zip-right : {A B : Type 0} (R : A → B → Type 0) (xs : List A) (ys : List B) → AllZip R xs ys → (y : B) → Contains ys y → (x : A) × Contains xs x × R x y
zip-right R [] [] zip y (k, inside, at) = absurd (omega arith)
zip-right R [] (z ∷ ys) zip y there = elim zip [ ]
zip-right R (x ∷ xs) [] zip y there = elim zip [ ]
zip-right R (x ∷ xs) (z ∷ ys) (one, more) y there = elim (contains-cases z ys y there) [
  | inl same ↦ (x, contains-head x xs, subst (R x) same one)
  | inr later ↦ let found = zip-right R xs ys more y later in (found.0, contains-later x xs found.0 found.1, found.2)
]

pub zip-left : {A B : Type 0} (R : A → B → Type 0) (xs : List A) (ys : List B) → AllZip R xs ys → (x : A) → Contains xs x → (y : B) × Contains ys y × R x y
zip-left R [] [] zip x (k, inside, at) = absurd (omega arith)
zip-left R [] (y ∷ ys) zip x there = elim zip [ ]
zip-left R (z ∷ xs) [] zip x there = elim zip [ ]
zip-left R (z ∷ xs) (y ∷ ys) (one, more) x there = elim (contains-cases z xs x there) [
  | inl same ↦ (y, contains-head y ys, subst (λ w. R w y) same one)
  | inr later ↦ let found = zip-left R xs ys more x later in (found.0, contains-later y ys found.0 found.1, found.2)
]
