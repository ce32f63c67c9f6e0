-- Tests of lists in turn, each element standing for a list.
use Rattle.std.proofs.Common.{◌≡◌, ◌||◌, ℕ, ◌+◌, ◌<◌, ◌≤◌, Bool, true, false, List, [], ◌∷◌, ◌++◌, length, get_or, take, drop, map, flat_map, refl, ap, sym, ◌∙◌}
use Rattle.std.specs.Borrow.{Bor}
use Rattle.std.specs.List.{list_any}
use Rattle.std.proofs.lemmas.List.{take_all}
use Rattle.std.proofs.lemmas.List.Folds.{list_any-append, flat_map-map}
use Rattle.wv_resolve.proofs.Lists.{flat-more, flat-cut}

either : (b c : Bool) → b ≡ false → c ≡ false → (b || c) ≡ false
either true c e f = e
either false c e f = f

or-left : (b c : Bool) → b ≡ true → (b || c) ≡ true
or-left true c e = refl
or-left false c e = cc

or-right : (b c : Bool) → c ≡ true → (b || c) ≡ true
or-right true c e = refl
or-right false c e = e

module _ {A B : Type 0} (p : B → Bool) (f : A → List B) (list : List A) (i : ℕ) where
  -- none of one more passes
  pub none-more : (x : A) → i < length list → x ≡ get_or list i x → list_any p (flat_map f (take i list)) ≡ false → list_any p (f x) ≡ false → list_any p (flat_map f (take (i + 1) list)) ≡ false
  none-more x inside at none here =
      ap (list_any p) (flat-more f list i x inside at) ∙ list_any-append p (flat_map f (take i list)) (f x)
      ∙ either (list_any p (flat_map f (take i list))) (list_any p (f x)) none here

  -- one at the place passes
  pub some-here : (x : A) → i < length list → x ≡ get_or list i x → list_any p (f x) ≡ true → list_any p (flat_map f list) ≡ true
  some-here x inside at here =
      ap (list_any p) (flat-cut f list i x inside at)
      ∙ list_any-append p (flat_map f (take i list) ++ f x) (flat_map f (drop (i + 1) list))
      ∙ or-left (list_any p (flat_map f (take i list) ++ f x)) (list_any p (flat_map f (drop (i + 1) list)))
      (list_any-append p (flat_map f (take i list)) (f x) ∙ or-right (list_any p (flat_map f (take i list))) (list_any p (f x)) here)

  -- none of all passes
  pub none-all : length list ≤ i → list_any p (flat_map f (take i list)) ≡ false → list_any p (flat_map f list) ≡ false
  none-all past none = ap (λ l. list_any p (flat_map f l)) (sym (take_all i list past)) ∙ none

-- ---- Three lists

pub in-first : {B : Type 0} (p : B → Bool) (xs ys zs : List B) → list_any p xs ≡ true → list_any p (xs ++ ys ++ zs) ≡ true
in-first p xs ys zs e = list_any-append p (xs ++ ys) zs ∙ or-left (list_any p (xs ++ ys)) (list_any p zs) (list_any-append p xs ys ∙ or-left (list_any p xs) (list_any p ys) e)

pub in-second : {B : Type 0} (p : B → Bool) (xs ys zs : List B) → list_any p ys ≡ true → list_any p (xs ++ ys ++ zs) ≡ true
in-second p xs ys zs e = list_any-append p (xs ++ ys) zs ∙ or-left (list_any p (xs ++ ys)) (list_any p zs) (list_any-append p xs ys ∙ or-right (list_any p xs) (list_any p ys) e)

pub in-third : {B : Type 0} (p : B → Bool) (xs ys zs : List B) (found : Bool) → list_any p xs ≡ false → list_any p ys ≡ false → found ≡ list_any p zs → found ≡ list_any p (xs ++ ys ++ zs)
in-third p xs ys zs found e f is = is ∙ sym (list_any-append p (xs ++ ys) zs ∙ ap (λ b. b || list_any p zs) (list_any-append p xs ys ∙ either (list_any p xs) (list_any p ys) e f))

-- ---- Texts that are referred to

module _ {B : Type 0} (p : B → Bool) (f : List ℕ → List B) (texts : List (List ℕ)) (parts : List (Bor (List ℕ))) (i : ℕ) (are : map (λ (part : Bor (List ℕ)). part.now) parts ≡ texts) where
  whole : flat_map (λ (part : Bor (List ℕ)). f part.now) parts ≡ flat_map f texts
  whole = sym (flat_map-map f (λ (part : Bor (List ℕ)). part.now) parts) ∙ ap (flat_map f) are

  pub some-part : (part : Bor (List ℕ)) → i < length parts → part ≡ get_or parts i part → list_any p (f part.now) ≡ true → list_any p (flat_map f texts) ≡ true
  some-part part inside at here = ap (list_any p) (sym whole) ∙ some-here p (λ (part : Bor (List ℕ)). f part.now) parts i part inside at here

  pub none-part : length parts ≤ i → list_any p (flat_map (λ (part : Bor (List ℕ)). f part.now) (take i parts)) ≡ false → list_any p (flat_map f texts) ≡ false
  none-part past none = ap (list_any p) (sym whole) ∙ none-all p (λ (part : Bor (List ℕ)). f part.now) parts i past none
