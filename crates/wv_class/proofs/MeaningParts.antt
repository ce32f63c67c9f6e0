-- Parts of annotations of which no number breaks what it must meet are sound.
use Rattle.std.proofs.Common.{◌≡◌, ℕ, Bool, true, false, List, [], ◌∷◌, ◌++◌, Option, Some, None, refl, sym, ◌∙◌, append_assoc, inl, inr}
use Rattle.std.specs.Prelude.{IsTrue, codes, bytes_eq}
use Rattle.std.specs.Option.{IsSomeAnd, is_some}
use Rattle.std.specs.List.{AllByRecursion}
use Rattle.std.proofs.lemmas.Slice.Eq.{bytes_eq-Decides}
use Rattle.wv_base.specs.declared.class_file.PoolEntry.{PoolEntry}
use Rattle.wv_base.specs.declared.descriptor.FieldType.{FieldType}
use Rattle.wv_base.specs.Descriptor.{IsFieldDescriptor}
use Rattle.wv_pool.specs.References.{entry_of, text_of}
use Rattle.wv_attr.specs.declared.mark.Mark.{Mark}
use Rattle.wv_attr.specs.declared.mark.Mark.TheVariants as marks
use Rattle.wv_attr.specs.Types.{AreTypes, type_of, class_in}
use Rattle.wv_attr.specs.References.{IsClassDescriptor, IsClassValue, has_tag, FirstHolds, SecondHolds, first_place, IsSound, BreaksAt, FirstBreaks}
use Rattle.wv_attr.proofs.TypeTables.{Known, TextType, agree, field_known, class_known}
use Rattle.wv_code.proofs.Lists.{AllByRecursion-push}

-- ---- what can't fail to hold does

abbrev pub Stable : Type 0 → Type 0
Stable A = ((A → ⊥) → ⊥) → A

not_true : IsTrue false → ⊥
not_true e = cc

pub true_stable : (b : Bool) → Stable (IsTrue b)
true_stable true h = refl
true_stable false h = absurd (h not_true)

pub some_stable : {A : Type 0} (o : Option A) (P : A → Type 0) → ((a : A) → Stable (P a)) → Stable (IsSomeAnd o P)
some_stable (Some a) P s h = s a h
some_stable None P s h = absurd (h (λ x. x))

pub known_stable : (P : Type 0) (b : Bool) → Known b P → Stable P
known_stable P true k h = k.holds refl
known_stable P false k h = absurd (h (λ p. not_true (k.shows p)))

text_decided : (a b : List ℕ) (r : Bool) → ((r ≡ true → a ≡ b) × (a ≡ b → r ≡ true)) → Stable (a ≡ b)
text_decided a b true d h = d.0 refl
text_decided a b false d h = absurd (h (λ e. not_true (d.1 e)))

pub text_stable : (a b : List ℕ) → Stable (a ≡ b)
text_stable a b h = text_decided a b (bytes_eq a b) (bytes_eq-Decides a b) h

value_stable : (o : Option (List ℕ)) (t : Option FieldType) → TextType o t → Stable (IsSomeAnd o IsClassValue)
value_stable (Some text) (Some f) k h = inl (f, k.found.0, k.found.1)
value_stable (Some text) None k h = inr (text_stable text (codes "V") (λ no. h (λ v. elim v [ inl d ↦ none_is d.0 (k.only d.0 (d.1, d.2)) | inr e ↦ no e ])))
  where
    none_is : (f : FieldType) → None ≡ Some f → ⊥
    none_is f e = cc
value_stable None t k h = absurd (h (λ x. x))

-- ---- parts

module _ (pool : List PoolEntry) (types : List (Option FieldType)) (are : AreTypes pool types) where
  first_stable : (m : Mark) → Stable (FirstHolds pool m)
  first_stable (marks.Annotation class count) h = known_stable (IsSomeAnd (text_of pool class) IsClassDescriptor) (is_some (class_in (type_of types class))) (class_known (text_of pool class) (type_of types class) (agree pool types class are)) h
  first_stable (marks.Name name) h = some_stable (text_of pool name) (λ _. Unit {0}) (λ text k. tt) h
  first_stable (marks.Constant tag value) h = some_stable (entry_of pool value) (λ entry. IsTrue (has_tag entry tag)) (λ entry. true_stable (has_tag entry tag)) h
  first_stable (marks.Enum descriptor name) h = known_stable (IsSomeAnd (text_of pool descriptor) IsFieldDescriptor) (is_some (type_of types descriptor)) (field_known (text_of pool descriptor) (type_of types descriptor) (agree pool types descriptor are)) h
  first_stable (marks.Class descriptor) h = value_stable (text_of pool descriptor) (type_of types descriptor) (agree pool types descriptor are) h
  first_stable (marks.List count) h = tt
  first_stable marks.Nested h = tt
  first_stable (marks.Array count) h = tt

  second_stable : (m : Mark) → Stable (SecondHolds pool m)
  second_stable (marks.Annotation class count) h = tt
  second_stable (marks.Name name) h = tt
  second_stable (marks.Constant tag value) h = tt
  second_stable (marks.Enum descriptor name) h = some_stable (text_of pool name) (λ _. Unit {0}) (λ text k. tt) h
  second_stable (marks.Class descriptor) h = tt
  second_stable (marks.List count) h = tt
  second_stable marks.Nested h = tt
  second_stable (marks.Array count) h = tt

  part_sound : (m : Mark) → ((field : ℕ) → BreaksAt pool m field → ⊥) → IsSound pool m
  part_sound m none =
      let first : FirstHolds pool m = first_stable m (λ no. none (first_place m) (inl (refl, no))) in
      (first, second_stable m (λ no. none 3 (inr (refl, first, no))))

  behind_sound : (parts : List Mark) → ((at : ℕ) → FirstBreaks pool parts at → ⊥) → (before rest : List Mark) → parts ≡ before ++ rest → AllByRecursion (IsSound pool) before → AllByRecursion (IsSound pool) rest
  behind_sound parts none before [] e all = tt
  behind_sound parts none before (m ∷ rest) e all =
      let here : IsSound pool m = part_sound m (λ field b. none _ (record { before = before; part = m; after = rest; field = field; splits = e; sound = all; breaks = b; place = refl })) in
      (here, behind_sound parts none (before ++ m ∷ []) rest (e ∙ sym (append_assoc before (m ∷ []) rest)) (AllByRecursion-push (IsSound pool) before m all here))

  pub parts_sound : (parts : List Mark) → ((at : ℕ) → FirstBreaks pool parts at → ⊥) → AllByRecursion (IsSound pool) parts
  parts_sound parts none = behind_sound parts none [] parts refl tt
