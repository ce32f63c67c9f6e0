-- What the tests of annotations tell.
use Rattle.std.proofs.Common.{◌≡◌, ◌↔◌, ℕ, ◌+◌, ◌-◌, ◌<◌, ◌≤◌, List, [], ◌∷◌, ◌++◌, length, get_or, take, drop, Bool, true, false, not, Option, Some, None, refl, sym, ap, subst, ◌∙◌, arith, take_all, take-append-drop}
use Rattle.std.specs.Prelude.{IsTrue, MatchOption, is_some, codes}
use Rattle.std.specs.List.{AllByRecursion}
use Rattle.std.proofs.lemmas.List.{take_rest}
use Rattle.wv_base.specs.declared.note.NamedElement.{NamedElement}
use Rattle.wv_base.specs.declared.note.Note.{Note}
use Rattle.wv_merge.specs.ThinClass.{AreMixinElements, alone, before, behind, BeginsWith, HasOneNote, IsMixinNoteOn, IsOtherNote, IsOverwriteNote, IsPriority, IsTargetElement, note_class}
use Rattle.wv_merge.proofs.ThinLists.{parts_at, same_parts, none_in_parts, all_gone, all_so}

pub begins : (name front units bytes : List ℕ) (n : ℕ) → units ≡ name → bytes ≡ front → length bytes ≤ n → take n units ≡ take n bytes → BeginsWith front name
begins name front units bytes n a b over e =
    (drop n units, sym a ∙ sym (take-append-drop n units) ∙ ap (λ (t : List ℕ). t ++ drop n units) (e ∙ take_all n bytes over ∙ b))

-- ---- The target of an annotation

-- a target that is found, or none, for what holds of the same descriptors
pub found_so : {R : Type 0} (found : Option R) (read : R → List ℕ) (P Q : List ℕ → Type 0) → ((d : List ℕ) → P d → Q d) → ((d : List ℕ) → Q d → P d)
    → MatchOption found ((d : List ℕ) → P d → ⊥) (λ r. P (read r)) → MatchOption found ((d : List ℕ) → Q d → ⊥) (λ r. Q (read r))
found_so None read P Q so back none = λ d q. none d (back d q)
found_so (Some r) read P Q so back is = so (read r) is

-- whether one is found
pub found_some : {R : Type 0} (found : Option R) (read : R → List ℕ) (P : List ℕ → Type 0) → MatchOption found ((d : List ℕ) → P d → ⊥) (λ r. P (read r))
    → IsTrue (is_some found) ↔ ((d : List ℕ) × P d)
found_some None read P none = (λ t. absurd cc, λ has. absurd (none has.0 has.1))
found_some (Some r) read P is = (λ _. (read r, is), λ _. refl)

pub alone_in : (descriptor : List ℕ) (target : NamedElement) → AreMixinElements descriptor (target ∷ []) → IsTargetElement descriptor target
alone_in descriptor target (alone is) = is

-- a target is no priority
apart : (descriptor : List ℕ) (element : NamedElement) → IsTargetElement descriptor element → IsPriority element → ⊥
apart descriptor element is other = let e = sym is.name ∙ other.name in cc

pub before_in : (descriptor : List ℕ) (target priority : NamedElement) → IsPriority priority → AreMixinElements descriptor (target ∷ priority ∷ []) → IsTargetElement descriptor target
before_in descriptor target priority is (before found behind_it) = found
before_in descriptor target priority is (behind found before_it) = absurd (apart descriptor priority found is)

pub behind_in : (descriptor : List ℕ) (priority target : NamedElement) → IsPriority priority → AreMixinElements descriptor (priority ∷ target ∷ []) → IsTargetElement descriptor target
behind_in descriptor priority target is (before found behind_it) = absurd (apart descriptor priority found is)
behind_in descriptor priority target is (behind found before_it) = found

pub no_priority : (descriptor : List ℕ) (first second : NamedElement) → (IsPriority first → ⊥) → (IsPriority second → ⊥) → AreMixinElements descriptor (first ∷ second ∷ []) → ⊥
no_priority descriptor first second one two (before found is) = two is
no_priority descriptor first second one two (behind found is) = one is

pub some_elements : (descriptor : List ℕ) {elements : List NamedElement} → AreMixinElements descriptor elements → (1 ≤ length elements) × (length elements ≤ 2)
some_elements descriptor (alone is) = (omega arith, omega arith)
some_elements descriptor (before is other) = (omega arith, omega arith)
some_elements descriptor (behind is other) = (omega arith, omega arith)

-- ---- The one annotation that is marked

not_mixin : (descriptor : List ℕ) (note : Note) → IsMixinNoteOn descriptor note → IsOtherNote note → ⊥
not_mixin descriptor note is other =
    other.not_mixin (subst (BeginsWith (codes "org/spongepowered/asm/")) (sym is.of_class) (codes "mixin/Mixin", refl))

not_overwrite : (note : Note) → IsOverwriteNote note → IsOtherNote note → ⊥
not_overwrite note is other =
    other.not_mixin (subst (BeginsWith (codes "org/spongepowered/asm/")) (sym is.of_class) (codes "mixin/Overwrite", refl))

-- the other notes are those before the marked one, and those behind it
abbrev pub AreOthers : List Note → ℕ → Type 0
AreOthers notes i = AllByRecursion IsOtherNote (take i notes) × AllByRecursion IsOtherNote (take (length notes - (i + 1)) (drop (i + 1) notes))

module _ (IsSuch : Note → Type 0) (marks : (note : Note) → IsSuch note → IsOtherNote note → ⊥) where
  others_unmarked : (notes : List Note) → AllByRecursion IsOtherNote notes → AllByRecursion (λ note. IsSuch note → ⊥) notes
  others_unmarked notes others = all_so IsOtherNote (λ note. IsSuch note → ⊥) notes (λ note other is. marks note is other) others

  pub others_of : (notes : List Note) (i : ℕ) (note : Note) → i < length notes → note ≡ get_or notes i note → AllByRecursion (λ other. IsSuch other → ⊥) (take i notes) → IsSuch note
      → HasOneNote IsSuch notes → AreOthers notes i
  others_of notes i note within is unmarked marked one =
      let parts = parts_at notes i note within is in
      let behind_it = take_rest notes (i + 1) in
      let same = same_parts IsSuch (take i notes) one.before (drop (i + 1) notes) one.after note one.note unmarked (others_unmarked one.before one.others.0) marked one.is_such (sym parts ∙ one.parts) in
      (subst (AllByRecursion IsOtherNote) (sym same.0) one.others.0, subst (AllByRecursion IsOtherNote) (sym (behind_it ∙ same.2)) one.others.1)

pub one_of : (IsSuch : Note → Type 0) (notes : List Note) (i : ℕ) (note : Note) → i < length notes → note ≡ get_or notes i note → IsSuch note → AreOthers notes i → HasOneNote IsSuch notes
one_of IsSuch notes i note within is marked others =
    record { before = take i notes; note = note; after = drop (i + 1) notes; parts = parts_at notes i note within is; is_such = marked; others = (others.0, subst (AllByRecursion IsOtherNote) (take_rest notes (i + 1)) others.1) }

pub none_of : (IsSuch : Note → Type 0) (notes : List Note) (i : ℕ) → length notes ≤ i → AllByRecursion (λ other. IsSuch other → ⊥) (take i notes) → HasOneNote IsSuch notes → ⊥
none_of IsSuch notes i over unmarked one =
    none_in_parts IsSuch notes one.before one.after one.note (all_gone (λ other. IsSuch other → ⊥) notes i over unmarked) one.parts one.is_such

-- ---- `@Overwrite`

pub one_overwrite : (notes : List Note) (i : ℕ) (note : Note) → i < length notes → note ≡ get_or notes i note → AllByRecursion (λ other. IsOverwriteNote other → ⊥) (take i notes) → IsOverwriteNote note
    → AreOthers notes i ↔ HasOneNote IsOverwriteNote notes
one_overwrite notes i note within is unmarked marked =
    (λ others. one_of IsOverwriteNote notes i note within is marked others, λ one. others_of IsOverwriteNote not_overwrite notes i note within is unmarked marked one)

-- ---- `@Mixin`, on a class of whatever descriptor

abbrev pub IsOnNone : Note → Type 0
IsOnNone note = (descriptor : List ℕ) → IsMixinNoteOn descriptor note → ⊥

abbrev IsOnSome : Note → Type 0
IsOnSome note = (descriptor : List ℕ) × IsMixinNoteOn descriptor note

on_some : (descriptor : List ℕ) (notes : List Note) → HasOneNote (IsMixinNoteOn descriptor) notes → HasOneNote IsOnSome notes
on_some descriptor notes one =
    record { before = one.before; note = one.note; after = one.after; parts = one.parts; is_such = (descriptor, one.is_such); others = one.others }

on_none : (notes : List Note) → AllByRecursion IsOnNone notes → AllByRecursion (λ note. IsOnSome note → ⊥) notes
on_none notes none = all_so IsOnNone (λ note. IsOnSome note → ⊥) notes (λ note no is. no is.0 is.1) none

pub mixin_others : (notes : List Note) (i : ℕ) (note : Note) (found descriptor : List ℕ) → i < length notes → note ≡ get_or notes i note → AllByRecursion IsOnNone (take i notes) → IsMixinNoteOn found note
    → HasOneNote (IsMixinNoteOn descriptor) notes → AreOthers notes i
mixin_others notes i note found descriptor within is unmarked marked one =
    others_of IsOnSome (λ note is. not_mixin is.0 note is.1) notes i note within is (on_none (take i notes) unmarked) (found, marked) (on_some descriptor notes one)

pub no_mixin : (notes : List Note) (i : ℕ) → length notes ≤ i → AllByRecursion IsOnNone (take i notes) → (descriptor : List ℕ) → HasOneNote (IsMixinNoteOn descriptor) notes → ⊥
no_mixin notes i over unmarked descriptor one =
    none_of IsOnSome notes i over (on_none (take i notes) unmarked) (on_some descriptor notes one)
