-- The least of the places of a list's items, and of places that are counted from a base on.
use Rattle.std.proofs.Common.{◌≡◌, ℕ, zero, suc, ◌+◌, ◌*◌, ◌<◌, ◌≤◌, List, [], ◌∷◌, length, get_or, take, Option, Some, refl, sym, subst, ◌∙◌, arith}
use Rattle.std.specs.Prelude.{slice_get}
use Rattle.std.specs.List.{sum_by}
use Rattle.std.proofs.lemmas.List.Sums.{sum_by-cons}
use Rattle.std.proofs.lemmas.Option.{slice_get_within}
use Rattle.wv_code.specs.Least.{IsLeastOf, Broken, Behind, InItems}
use Rattle.wv_code.proofs.LeastPlaces.{same}
use Rattle.wv_class.specs.Breaks.{InList, InNumbers}

-- ---- from a base on

pub behind_broken : (A : Type 0) (base place full : ℕ) {o : Option ℕ} → full ≡ base + place → IsLeastOf (Broken A full) o → IsLeastOf (Behind base (Broken A place)) o
behind_broken A base place full e h = same to from h
  where
    to : (n : ℕ) → Broken A full n → Behind base (Broken A place) n
    to n k = (place, (refl, k.1), k.0 ∙ e)

    from : (n : ℕ) → Behind base (Broken A place) n → Broken A full n
    from n k = (omega (arith, k.1.0, k.2), k.1.1)

pub behind_behind : (P : ℕ → Type 0) (base place : ℕ) {o : Option ℕ} → IsLeastOf (Behind (base + place) P) o → IsLeastOf (Behind base (Behind place P)) o
behind_behind P base place h = same to from h
  where
    to : (n : ℕ) → Behind (base + place) P n → Behind base (Behind place P) n
    to n k = (place + k.0, (k.0, k.1, refl), omega (arith, k.2))

    from : (n : ℕ) → Behind base (Behind place P) n → Behind (base + place) P n
    from n k = (k.1.0, k.1.1, omega (arith, k.1.2, k.2))

pub list_behind : {X : Type 0} (len : X → ℕ) (base place : ℕ) (xs : List X) (P : ℕ → X → ℕ → Type 0) {o : Option ℕ} → IsLeastOf (InList len (base + place) xs P) o → IsLeastOf (Behind base (InList len place xs P)) o
list_behind len base place xs P h = same to from h
  where
    to : (n : ℕ) → InList len (base + place) xs P n → Behind base (InList len place xs P) n
    to n (k, x, is, (m, p, e)) = (place + sum_by len (take k xs) + m, (k, x, is, (m, p, refl)), omega (arith, e))

    from : (n : ℕ) → Behind base (InList len place xs P) n → InList len (base + place) xs P n
    from n (l, (k, x, is, (m, p, e)), f) = (k, x, is, (m, p, omega (arith, e, f)))

-- ---- numbers

sum_twos : (xs : List ℕ) (k : ℕ) → k ≤ length xs → sum_by (λ _. 2) (take k xs) ≡ 2 * k
sum_twos xs zero le = refl
sum_twos [] (suc k) le = absurd (omega arith)
sum_twos (x ∷ xs) (suc k) le = sum_by-cons (λ _. 2) x (take k xs) ∙ omega (arith, sum_twos xs k (omega arith))

pub numbers_least : (base : ℕ) (xs : List ℕ) (A : ℕ → Type 0) {o : Option ℕ} → IsLeastOf (InItems xs (λ k x. Broken (A x) (base + 2 * k))) o → IsLeastOf (InNumbers base xs A) o
numbers_least base xs A h = same to from h
  where
    before : (k x : ℕ) → slice_get xs k ≡ Some x → sum_by (λ _. 2) (take k xs) ≡ 2 * k
    before k x is = let within : k < length xs = slice_get_within xs k x is in sum_twos xs k (omega arith)

    to : (n : ℕ) → InItems xs (λ k x. Broken (A x) (base + 2 * k)) n → InNumbers base xs A n
    to n (k, x, is, b) = (k, x, is, (0, (refl, b.1), omega (arith, b.0, before k x is)))

    from : (n : ℕ) → InNumbers base xs A n → InItems xs (λ k x. Broken (A x) (base + 2 * k)) n
    from n (k, x, is, (m, b, e)) = (k, x, is, (omega (arith, b.0, e, before k x is), b.1))

-- ---- the items of a list, as a loop goes over them

-- the place of an item, where those before it take so many bytes
pub item_least : {X : Type 0} (len : X → ℕ) (base : ℕ) (xs : List X) (P : ℕ → X → ℕ → Type 0) (i place : ℕ) (x : X) {o : Option ℕ} → place ≡ base + sum_by len (take i xs) → x ≡ get_or xs i x
    → IsLeastOf (Behind place (P i x)) o → IsLeastOf (Behind (base + sum_by len (take i xs)) (P i (get_or xs i x))) o
item_least {X = X} len base xs P i place x {o = o} e is h =
    subst (λ (z : X). IsLeastOf (Behind (base + sum_by len (take i xs)) (P i z)) o) is (subst (λ (p : ℕ). IsLeastOf (Behind p (P i x)) o) e h)
