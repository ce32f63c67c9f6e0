-- Files of a folder, whose paths are in order.
use Rattle.std.proofs.Common.{◌≡◌, inl, inr, ℕ, zero, suc, ◌<◌, Bool, true, false, List, [], ◌∷◌, ◌++◌, length, get_or, All, AllPairs, Contains, Some, None, bytes_eq, refl, ap, sym, ◌∙◌, subst, arith, true≢false}
use Rattle.std.proofs.lemmas.Bool.{cases_Bool}
use Rattle.std.proofs.lemmas.Slice.Eq.{bytes_eq-Decides}
use Rattle.wv_base.specs.Folder.{File, IsPathBefore, IsInOrder, content_of}
use Rattle.wv_resolve.proofs.OneMods.{contains-cases, contains-head, contains-later}
use Rattle.wv_resolve.proofs.Paths.{not-before_itself}

-- ---- Lists in order

module _ {A : Type 0} (R : A → A → Type 0) where
  pub pairs-tail : (x : A) (xs : List A) → AllPairs R (x ∷ xs) → AllPairs R xs
  pairs-tail x xs pairs i j d below inside = pairs (suc i) (suc j) d (omega arith) (omega arith)

  pub pairs-head : (x : A) (xs : List A) (y : A) → AllPairs R (x ∷ xs) → Contains xs y → R x y
  pairs-head x xs y pairs (k, inside, at) = subst (R x) at (pairs 0 (suc k) y (omega arith) (omega arith))

-- ---- The content at a path

content-here : (file : File) (files : List File) (path : List ℕ) → bytes_eq file.0 path ≡ true → content_of path (file ∷ files) ≡ Some file.1
content-here file files path e = rw e

content-later : (file : File) (files : List File) (path : List ℕ) → bytes_eq file.0 path ≡ false → content_of path (file ∷ files) ≡ content_of path files
content-later file files path e = rw e

not-same : (a b : List ℕ) → (a ≡ b → ⊥) → bytes_eq a b ≡ false
not-same a b apart = elim (cases_Bool (bytes_eq a b)) [ inl e ↦ absurd (apart ((bytes_eq-Decides a b).0 e)) | inr e ↦ e ]

pub content-of_file : (files : List File) (file : File) → IsInOrder files → Contains files file → content_of file.0 files ≡ Some file.1
content-of_file [] file order (k, inside, at) = absurd (omega arith)
content-of_file (f ∷ files) file order found = elim (contains-cases f files file found) [
  | inl same ↦ content-here f files file.0 ((bytes_eq-Decides f.0 file.0).1 (ap (λ (g : File). g.0) same)) ∙ ap (λ (g : File). Some g.1) same
  | inr later ↦
      let before : IsPathBefore f.0 file.0 = pairs-head (λ (g h : File). IsPathBefore g.0 h.0) f files file order later in
      content-later f files file.0 (not-same f.0 file.0 (λ same. not-before_itself file.0 (subst (λ (p : List ℕ). IsPathBefore p file.0) same before)))
      ∙ content-of_file files file (pairs-tail (λ (g h : File). IsPathBefore g.0 h.0) f files order) later
]

some-same : (x y : List ℕ) → Some x ≡ Some y → x ≡ y
some-same x y e = cc

none-some : (content : List ℕ) → None ≡ Some content → ⊥
none-some content e = cc

pub file-of_content : (files : List File) (path content : List ℕ) → content_of path files ≡ Some content → Contains files (path, content)
file-of_content [] path content e = absurd (none-some content e)
file-of_content (f ∷ files) path content e = elim (cases_Bool (bytes_eq f.0 path)) [
  | inl same ↦
      let contents : f.1 ≡ content = some-same f.1 content (sym (content-here f files path same) ∙ e) in
      let paths : f.0 ≡ path = (bytes_eq-Decides f.0 path).0 same in
      subst (Contains (f ∷ files)) (ap (λ (p : List ℕ). (p, f.1)) paths ∙ ap (λ (c : List ℕ). (path, c)) contents) (contains-head f files)
  | inr other ↦ contains-later f files (path, content) (file-of_content files path content (sym (content-later f files path other) ∙ e))
]

-- a path has one content
pub one-content : (files : List File) (path content other : List ℕ) → content_of path files ≡ Some content → content_of path files ≡ Some other → content ≡ other
one-content files path content other g h = some-same content other (sym g ∙ h)
