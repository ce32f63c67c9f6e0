-- What one class file breaks.
use Rattle.std.proofs.Common.{◌≡◌, ◌⊎◌, inl, inr, ℕ, ◌<◌, ◌≤◌, List, refl, ap, sym, ◌∙◌, subst, arith}
use Rattle.wv_base.specs.declared.broken.Broken.{Broken}
use Rattle.wv_base.specs.declared.class_file.ClassFile.{ClassFile}
use Rattle.wv_base.specs.Rule.{number_of}
use Rattle.wv_classes.specs.declared.class_read.ClassRead.{ClassRead}
use Rattle.wv_classes.specs.declared.class_read.ClassRead.TheVariants.{Class, Layout, Reference}
use Rattle.wv_classes.specs.declared.folder_class.FolderClass.{FolderClass}
use Rattle.wv_classes.specs.declared.loaded_class.LoadedClass.{LoadedClass}
use Rattle.wv_classes.specs.LoadedClass.{IsLoadedAs}
use Rattle.wv_classes.specs.Refusal.{IsBadClass, HasOtherVersion, HasOtherName, IsOfVersions, IsTextOf, bad_layout, bad_reference, other_version, other_name}
use Rattle.wv_classes.specs.Rules.{Breaks, BreaksFrom, IsLeastOf}

-- ---- Kinds of readings

same-class : (class other : ClassFile) → Class class ≡ Class other → class ≡ other
same-class class other e = cc

same-layout : (at other : ℕ) → Layout at ≡ Layout other → at ≡ other
same-layout at other e = cc

same-reference : (at other : ℕ) → Reference at ≡ Reference other → at ≡ other
same-reference at other e = cc

layout-no_class : (at : ℕ) (class : ClassFile) → Layout at ≡ Class class → ⊥
layout-no_class at class e = cc

reference-no_class : (at : ℕ) (class : ClassFile) → Reference at ≡ Class class → ⊥
reference-no_class at class e = cc

layout-no_reference : (at other : ℕ) → Layout at ≡ Reference other → ⊥
layout-no_reference at other e = cc

-- ---- Numbers and places of what is broken

module _ (file : FolderClass) (broken : Broken) where
  bad-number : IsBadClass file broken → number_of broken.rule ≡ 30
  bad-number (at, inl (is, told)) = ap (λ (b : Broken). number_of b.rule) told
  bad-number (at, inr (is, told)) = ap (λ (b : Broken). number_of b.rule) told

  version-number : HasOtherVersion file broken → number_of broken.rule ≡ 31
  version-number (class, is, outside, told) = ap (λ (b : Broken). number_of b.rule) told

  name-number : HasOtherName file broken → number_of broken.rule ≡ 32
  name-number (class, is, other, told) = ap (λ (b : Broken). number_of b.rule) told

  bad-place : IsBadClass file broken → broken.place.file ≡ file.path
  bad-place (at, inl (is, told)) = ap (λ (b : Broken). b.place.file) told
  bad-place (at, inr (is, told)) = ap (λ (b : Broken). b.place.file) told

  pub place-of : Breaks file broken → broken.place.file ≡ file.path
  place-of (inl bad) = bad-place bad
  place-of (inr (inl (class, is, outside, told))) = ap (λ (b : Broken). b.place.file) told
  place-of (inr (inr (class, is, other, told))) = ap (λ (b : Broken). b.place.file) told

  bad-no_class : (class : ClassFile) → file.read ≡ Class class → IsBadClass file broken → ⊥
  bad-no_class class read (at, inl (is, told)) = layout-no_class at class (sym is ∙ read)
  bad-no_class class read (at, inr (is, told)) = reference-no_class at class (sym is ∙ read)

  -- a class of the versions that are read
  old-version : (class : ClassFile) → file.read ≡ Class class → IsOfVersions class.version.major → HasOtherVersion file broken → ⊥
  old-version class read inside (other, is, outside, told) =
      outside (subst (λ (c : ClassFile). IsOfVersions c.version.major) (same-class class other (sym read ∙ is)) inside)

  own-name : (class : ClassFile) → file.read ≡ Class class → IsTextOf class.name file.name → HasOtherName file broken → ⊥
  own-name class read own (other, is, apart, told) =
      apart (subst (λ (c : ClassFile). IsTextOf c.name file.name) (same-class class other (sym read ∙ is)) own)

-- ---- The least that a class file breaks

module _ (file : FolderClass) (broken : Broken) where
  pub least-layout : (at : ℕ) → file.read ≡ Layout at → broken ≡ bad_layout file.path at → IsLeastOf file broken
  least-layout at read told = let bad : IsBadClass file broken = (at, inl (read, told)) in (inl bad, from bad)
    where
      from : IsBadClass file broken → BreaksFrom (number_of broken.rule) file
      from bad other (inl h) = omega (arith, bad-number file broken bad, bad-number file other h)
      from bad other (inr (inl h)) = omega (arith, bad-number file broken bad, version-number file other h)
      from bad other (inr (inr h)) = omega (arith, bad-number file broken bad, name-number file other h)

  pub least-reference : (at : ℕ) → file.read ≡ Reference at → broken ≡ bad_reference file.path at → IsLeastOf file broken
  least-reference at read told = let bad : IsBadClass file broken = (at, inr (read, told)) in (inl bad, from bad)
    where
      from : IsBadClass file broken → BreaksFrom (number_of broken.rule) file
      from bad other (inl h) = omega (arith, bad-number file broken bad, bad-number file other h)
      from bad other (inr (inl h)) = omega (arith, bad-number file broken bad, version-number file other h)
      from bad other (inr (inr h)) = omega (arith, bad-number file broken bad, name-number file other h)

  pub least-version : (class : ClassFile) → file.read ≡ Class class → (IsOfVersions class.version.major → ⊥) → broken ≡ other_version file.path class → IsLeastOf file broken
  least-version class read outside told = let has : HasOtherVersion file broken = (class, read, outside, told) in (inr (inl has), from has)
    where
      from : HasOtherVersion file broken → BreaksFrom (number_of broken.rule) file
      from has other (inl h) = absurd (bad-no_class file other class read h)
      from has other (inr (inl h)) = omega (arith, version-number file broken has, version-number file other h)
      from has other (inr (inr h)) = omega (arith, version-number file broken has, name-number file other h)

  pub least-name : (class : ClassFile) → file.read ≡ Class class → IsOfVersions class.version.major → (IsTextOf class.name file.name → ⊥) → broken ≡ other_name file.path file.name class → IsLeastOf file broken
  least-name class read inside other_text told = let has : HasOtherName file broken = (class, read, other_text, told) in (inr (inr has), from has)
    where
      from : HasOtherName file broken → BreaksFrom (number_of broken.rule) file
      from has other (inl h) = absurd (bad-no_class file other class read h)
      from has other (inr (inl h)) = absurd (old-version file other class read inside h)
      from has other (inr (inr h)) = omega (arith, name-number file broken has, name-number file other h)

-- a class that is loaded breaks no rule
pub loaded-none : (file : FolderClass) (loaded : LoadedClass) (broken : Broken) → IsLoadedAs file loaded → Breaks file broken → ⊥
loaded-none file loaded broken h (inl bad) = bad-no_class file broken loaded.class h.read bad
loaded-none file loaded broken h (inr (inl other)) = old-version file broken loaded.class h.read h.own.version other
loaded-none file loaded broken h (inr (inr other)) = own-name file broken loaded.class h.read (subst (IsTextOf loaded.class.name) h.name h.own.name) other

-- ---- A class file breaks a rule in one way

bad-one : (file : FolderClass) (broken other : Broken) → IsBadClass file broken → IsBadClass file other → broken ≡ other
bad-one file broken other (at, inl (is, told)) (at', inl (is', told')) = told ∙ ap (bad_layout file.path) (same-layout at at' (sym is ∙ is')) ∙ sym told'
bad-one file broken other (at, inl (is, told)) (at', inr (is', told')) = absurd (layout-no_reference at at' (sym is ∙ is'))
bad-one file broken other (at, inr (is, told)) (at', inl (is', told')) = absurd (layout-no_reference at' at (sym is' ∙ is))
bad-one file broken other (at, inr (is, told)) (at', inr (is', told')) = told ∙ ap (bad_reference file.path) (same-reference at at' (sym is ∙ is')) ∙ sym told'

pub one-break : (file : FolderClass) (broken other : Broken) → Breaks file broken → Breaks file other → number_of broken.rule ≡ number_of other.rule → broken ≡ other
one-break file broken other (inl g) (inl h) same = bad-one file broken other g h
one-break file broken other (inl g) (inr (inl h)) same = absurd (omega (arith, bad-number file broken g, version-number file other h))
one-break file broken other (inl g) (inr (inr h)) same = absurd (omega (arith, bad-number file broken g, name-number file other h))
one-break file broken other (inr (inl g)) (inl h) same = absurd (omega (arith, version-number file broken g, bad-number file other h))
one-break file broken other (inr (inl (class, is, _, told))) (inr (inl (class', is', _, told'))) same =
    told ∙ ap (other_version file.path) (same-class class class' (sym is ∙ is')) ∙ sym told'
one-break file broken other (inr (inl g)) (inr (inr h)) same = absurd (omega (arith, version-number file broken g, name-number file other h))
one-break file broken other (inr (inr g)) (inl h) same = absurd (omega (arith, name-number file broken g, bad-number file other h))
one-break file broken other (inr (inr g)) (inr (inl h)) same = absurd (omega (arith, name-number file broken g, version-number file other h))
one-break file broken other (inr (inr (class, is, _, told))) (inr (inr (class', is', _, told'))) same =
    told ∙ ap (other_name file.path file.name) (same-class class class' (sym is ∙ is')) ∙ sym told'
