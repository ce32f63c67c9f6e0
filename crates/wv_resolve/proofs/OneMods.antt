-- A folder describes its mods in one way.
use Rattle.std.proofs.Common.{◌≡◌, ◌⊎◌, inl, inr, ℕ, zero, suc, List, [], ◌∷◌, AllPairs, Contains, Some, refl, ap, sym, ◌∙◌, subst, arith}
use Rattle.std.proofs.lemmas.List.Elements.{All-contains}
use Rattle.wv_base.specs.declared.side.Side.{Side}
use Rattle.wv_base.specs.Folder.{File, IsPathBefore, content_of}
use Rattle.wv_mod.specs.declared.mod_info.ModInfo.{ModInfo}
use Rattle.wv_mod.specs.ModInfo.{IsMod}
use Rattle.wv_mod.proofs.OneMod.{mod-one}
use Rattle.wv_resolve.specs.Discovery.{IsDescribed, AreMods}
use Rattle.wv_resolve.proofs.Paths.{not-both_before}

-- ---- Lists in order that have the same elements

pub contains-cases : {A : Type 0} (x : A) (xs : List A) (z : A) → Contains (x ∷ xs) z → (x ≡ z) ⊎ Contains xs z
contains-cases x xs z (zero, inside, at) = inl at
contains-cases x xs z (suc k, inside, at) = inr (k, omega arith, at)

pub contains-head : {A : Type 0} (x : A) (xs : List A) → Contains (x ∷ xs) x
contains-head x xs = (0, omega arith, refl)

pub contains-later : {A : Type 0} (x : A) (xs : List A) (z : A) → Contains xs z → Contains (x ∷ xs) z
contains-later x xs z (k, inside, at) = (suc k, omega arith, at)

module _ {A : Type 0} (R : A → A → Type 0) (one_way : (a b : A) → R a b → R b a → ⊥) where
  head-before : (x : A) (xs : List A) (z : A) → AllPairs R (x ∷ xs) → Contains xs z → R x z
  head-before x xs z pairs (k, inside, at) = subst (R x) at (pairs 0 (suc k) z (omega arith) (omega arith))

  tail-pairs : (x : A) (xs : List A) → AllPairs R (x ∷ xs) → AllPairs R xs
  tail-pairs x xs pairs i j d below inside = pairs (suc i) (suc j) d (omega arith) (omega arith)

  -- the elements behind the heads are those of the other list
  behind : (x : A) (xs ys : List A) → AllPairs R (x ∷ xs) → ((z : A) → Contains (x ∷ xs) z → Contains (x ∷ ys) z) → (z : A) → Contains xs z → Contains ys z
  behind x xs ys pairs within z found = elim (contains-cases x ys z (within z (contains-later x xs z found))) [
    | inl same ↦ absurd (let before : R x x = subst (R x) (sym same) (head-before x xs z pairs found) in one_way x x before before)
    | inr later ↦ later
  ]

  same-heads : (x y : A) (xs ys : List A) → AllPairs R (x ∷ xs) → AllPairs R (y ∷ ys) → Contains (y ∷ ys) x → Contains (x ∷ xs) y → x ≡ y
  same-heads x y xs ys pairs pairs' found found' = elim (contains-cases y ys x found) [
    | inl same ↦ sym same
    | inr later ↦ elim (contains-cases x xs y found') [
      | inl same ↦ same
      | inr later' ↦ absurd (one_way x y (head-before x xs y pairs later') (head-before y ys x pairs' later))
    ]
  ]

  pub same-ordered : (xs ys : List A) → AllPairs R xs → AllPairs R ys → ((z : A) → Contains xs z → Contains ys z) → ((z : A) → Contains ys z → Contains xs z) → xs ≡ ys
  same-ordered [] [] pairs pairs' within within' = refl
  same-ordered [] (y ∷ ys) pairs pairs' within within' = absurd (let found = within' y (contains-head y ys) in let inside = found.1 in omega arith)
  same-ordered (x ∷ xs) [] pairs pairs' within within' = absurd (let found = within x (contains-head x xs) in let inside = found.1 in omega arith)
  same-ordered (x ∷ xs) (y ∷ ys) pairs pairs' within within' =
      let heads : x ≡ y = same-heads x y xs ys pairs pairs' (within x (contains-head x xs)) (within' y (contains-head y ys)) in
      let tails = same-ordered xs ys (tail-pairs x xs pairs) (tail-pairs y ys pairs')
      (behind x xs ys pairs (λ z found. subst (λ (h : A). Contains (h ∷ ys) z) (sym heads) (within z found)))
      (behind y ys xs pairs' (λ z found. subst (λ (h : A). Contains (h ∷ xs) z) heads (within' z found))) in
      ap (λ zs. x ∷ zs) tails ∙ ap (λ z. z ∷ ys) heads

-- ---- The mods

some-same : (x y : List ℕ) → Some x ≡ Some y → x ≡ y
some-same x y e = cc

-- one description says one thing
described-one : (folder : List File) (side : Side) (info other : ModInfo) → IsDescribed folder side info → IsDescribed folder side other → info.path ≡ other.path → info ≡ other
described-one folder side info other (content, has, says) (content', has', says') same =
    let contents : content ≡ content' = some-same content content' (sym has.1 ∙ ap (λ p. content_of p folder) same ∙ has'.1) in
    mod-one info.path content side info other says
    (subst (λ (p : List ℕ). IsMod p content side other) (sym same) (subst (λ (c : List ℕ). IsMod other.path c side other) (sym contents) says'))

within : (folder : List File) (side : Side) (mods other : List ModInfo) → AreMods folder side mods → AreMods folder side other → (info : ModInfo) → Contains mods info → Contains other info
within folder side mods other g h info found =
    let described = All-contains (IsDescribed folder side) mods info g.each found in
    let there = h.all info.path described.1.0 in
    let same = described-one folder side there.1 info (All-contains (IsDescribed folder side) other there.1 h.each (there.0, there.2, there.3)) described there.4 in
    subst (Contains other) same (there.0, there.2, there.3)

pub one-mods : (folder : List File) (side : Side) (mods other : List ModInfo) → AreMods folder side mods → AreMods folder side other → mods ≡ other
one-mods folder side mods other g h =
    same-ordered (λ info later. IsPathBefore info.path later.path) (λ a b. not-both_before a.path b.path) mods other g.ordered h.ordered (within folder side mods other g h) (within folder side other mods h g)
