-- A pool in which nothing breaks what it must meet is sound.
use Rattle.std.proofs.Common.{◌≡◌, ◌≢◌, ℕ, ◌≤◌, List, [], ◌∷◌, ◌++◌, Option, Some, None, refl, sym, ◌∙◌, append_assoc, inl, inr, ◌⊎◌}
use Rattle.std.specs.Prelude.{IsTrue, IfSome, codes}
use Rattle.std.specs.Option.{IsSomeAnd}
use Rattle.std.specs.List.{AllByRecursion}
use Rattle.wv_base.specs.declared.class_file.PoolEntry.{PoolEntry}
use Rattle.wv_base.specs.declared.class_file.PoolEntry.TheVariants as entries
use Rattle.wv_base.specs.Names.{is_unqualified}
use Rattle.wv_base.specs.Descriptor.{IsFieldDescriptor, IsMethodDescriptor, IsClassConstant}
use Rattle.wv_pool.specs.Entries.{IsLayout}
use Rattle.wv_pool.specs.References.{entry_of, text_of, class_of, pair_of, pair_name, IsText, HasAngle, IsInit, IsSpecial, KindFits, IsMember, FirstHolds, SecondHolds, second_place, IsSound, FirstBreaks, IsPool}
use Rattle.wv_code.proofs.OffsetFrames.{all_append}
use Rattle.wv_class.proofs.MeaningParts.{Stable, true_stable, some_stable, text_stable}
use Rattle.wv_class.proofs.FormedDescriptors.{decided_stable, either_decided, both_stable, three_stable, four_stable, not_stable, then_stable, le_decided, field_decided, class_decided, method_decided}

module _ (pool : List PoolEntry) where
  le_stable : (m n : ℕ) → Stable (m ≤ n)
  le_stable m n = decided_stable (le_decided m n)

  if_stable : (o : Option (List ℕ)) (P : List ℕ → Type 0) → ((x : List ℕ) → Stable (P x)) → Stable (IfSome o P)
  if_stable None P s h = tt
  if_stable (Some x) P s h = s x h

  init_stable : (o : Option (List ℕ)) → Stable (IfSome o IsInit)
  init_stable o = if_stable o IsInit (λ x. text_stable x (codes "<init>"))

  plain_stable : (o : Option (List ℕ)) → Stable (IfSome o (λ n. IsSpecial n → ⊥))
  plain_stable o = if_stable o (λ n. IsSpecial n → ⊥) (λ x. not_stable)

  kind_stable : (kind : ℕ) (o : Option PoolEntry) → Stable (KindFits pool kind o)
  kind_stable kind None h = tt
  kind_stable kind (Some (entries.Utf8 x)) h = tt
  kind_stable kind (Some (entries.Integer v)) h = tt
  kind_stable kind (Some (entries.Float v)) h = tt
  kind_stable kind (Some (entries.Long v)) h = tt
  kind_stable kind (Some (entries.Double v)) h = tt
  kind_stable kind (Some (entries.Class n)) h = tt
  kind_stable kind (Some (entries.String n)) h = tt
  kind_stable kind (Some (entries.Field class pair)) h = le_stable kind 4 h
  kind_stable kind (Some (entries.Method class pair)) h =
      let name = pair_name pool (pair_of pool pair) in
      four_stable (le_stable 5 kind) (le_stable kind 8) (then_stable {A = kind ≡ 8} (init_stable name)) (then_stable {A = kind ≢ 8} (plain_stable name)) h
  kind_stable kind (Some (entries.InterfaceMethod class pair)) h =
      let name = pair_name pool (pair_of pool pair) in
      three_stable (le_stable 6 kind) (not_stable {A = kind ≡ 8}) (plain_stable name) h
  kind_stable kind (Some (entries.NameAndType m n)) h = tt
  kind_stable kind (Some (entries.MethodHandle m n)) h = tt
  kind_stable kind (Some (entries.MethodType n)) h = tt
  kind_stable kind (Some (entries.InvokeDynamic m n)) h = tt
  kind_stable kind (Some entries.Unusable) h = tt

  member_stable : (o : Option PoolEntry) → Stable (IsMember o)
  member_stable None h = absurd (h (λ x. x))
  member_stable (Some (entries.Utf8 x)) h = absurd (h (λ x. x))
  member_stable (Some (entries.Integer v)) h = absurd (h (λ x. x))
  member_stable (Some (entries.Float v)) h = absurd (h (λ x. x))
  member_stable (Some (entries.Long v)) h = absurd (h (λ x. x))
  member_stable (Some (entries.Double v)) h = absurd (h (λ x. x))
  member_stable (Some (entries.Class n)) h = absurd (h (λ x. x))
  member_stable (Some (entries.String n)) h = absurd (h (λ x. x))
  member_stable (Some (entries.Field class pair)) h = tt
  member_stable (Some (entries.Method class pair)) h = tt
  member_stable (Some (entries.InterfaceMethod class pair)) h = tt
  member_stable (Some (entries.NameAndType m n)) h = absurd (h (λ x. x))
  member_stable (Some (entries.MethodHandle m n)) h = absurd (h (λ x. x))
  member_stable (Some (entries.MethodType n)) h = absurd (h (λ x. x))
  member_stable (Some (entries.InvokeDynamic m n)) h = absurd (h (λ x. x))
  member_stable (Some entries.Unusable) h = absurd (h (λ x. x))

  named_stable : (class : ℕ) → Stable (IsSomeAnd (class_of pool class) (λ _. Unit {0}))
  named_stable class = some_stable (class_of pool class) (λ _. Unit {0}) (λ n h. tt)

  first_stable : (e : PoolEntry) → Stable (FirstHolds pool e)
  first_stable (entries.Utf8 x) h = tt
  first_stable (entries.Integer v) h = tt
  first_stable (entries.Float v) h = tt
  first_stable (entries.Long v) h = tt
  first_stable (entries.Double v) h = tt
  first_stable (entries.Class name) h = some_stable (text_of pool name) IsClassConstant (λ x. decided_stable (class_decided x)) h
  first_stable (entries.String text) h = some_stable (text_of pool text) (λ _. Unit {0}) (λ x k. tt) h
  first_stable (entries.Field class pair) h = named_stable class h
  first_stable (entries.Method class pair) h = named_stable class h
  first_stable (entries.InterfaceMethod class pair) h = named_stable class h
  first_stable (entries.NameAndType name descriptor) h = some_stable (text_of pool name) (λ n. IsTrue (is_unqualified n)) (λ n. true_stable (is_unqualified n)) h
  first_stable (entries.MethodHandle kind reference) h = three_stable (le_stable 1 kind) (le_stable kind 9) (kind_stable kind (entry_of pool reference)) h
  first_stable (entries.MethodType descriptor) h = some_stable (text_of pool descriptor) IsMethodDescriptor (λ x. decided_stable (method_decided x)) h
  first_stable (entries.InvokeDynamic bootstrap pair) h = tt
  first_stable entries.Unusable h = tt

  method_pair_stable : (pair : ℕ) → Stable (IsSomeAnd (pair_of pool pair) (λ p. (IsText pool p.1 IsFieldDescriptor → ⊥) × (IsText pool p.0 HasAngle → ⊥)))
  method_pair_stable pair = some_stable (pair_of pool pair) (λ p. (IsText pool p.1 IsFieldDescriptor → ⊥) × (IsText pool p.0 HasAngle → ⊥)) (λ p. both_stable (not_stable {A = IsText pool p.1 IsFieldDescriptor}) (not_stable {A = IsText pool p.0 HasAngle}))

  second_stable : (e : PoolEntry) → Stable (SecondHolds pool e)
  second_stable (entries.Utf8 x) h = tt
  second_stable (entries.Integer v) h = tt
  second_stable (entries.Float v) h = tt
  second_stable (entries.Long v) h = tt
  second_stable (entries.Double v) h = tt
  second_stable (entries.Class name) h = tt
  second_stable (entries.String text) h = tt
  second_stable (entries.Field class pair) h = some_stable (pair_of pool pair) (λ p. IsText pool p.1 IsMethodDescriptor → ⊥) (λ p. not_stable) h
  second_stable (entries.Method class pair) h = method_pair_stable pair h
  second_stable (entries.InterfaceMethod class pair) h = method_pair_stable pair h
  second_stable (entries.NameAndType name descriptor) h =
      some_stable (text_of pool descriptor) (λ d. IsFieldDescriptor d ⊎ IsMethodDescriptor d) (λ d. decided_stable (either_decided (field_decided d) (method_decided d))) h
  second_stable (entries.MethodHandle kind reference) h = member_stable (entry_of pool reference) h
  second_stable (entries.MethodType descriptor) h = tt
  second_stable (entries.InvokeDynamic bootstrap pair) h = method_pair_stable pair h
  second_stable entries.Unusable h = tt

  module _ (none : (at : ℕ) → FirstBreaks pool at → ⊥) where
    entry_sound : (before : List PoolEntry) (entry : PoolEntry) (after : List PoolEntry) → pool ≡ before ++ entry ∷ after → AllByRecursion (IsSound pool) before → IsSound pool entry
    entry_sound before entry after e h =
        let first : FirstHolds pool entry = first_stable entry (λ no. none _ (record { before = before; entry = entry; after = after; field = 1; parts = e; sound = h; breaks = inl (refl, no); place = refl })) in
        (first, second_stable entry (λ no. none _ (record { before = before; entry = entry; after = after; field = second_place entry; parts = e; sound = h; breaks = inr (refl, first, no); place = refl })))

    behind_sound : (before after : List PoolEntry) → pool ≡ before ++ after → AllByRecursion (IsSound pool) before → AllByRecursion (IsSound pool) after
    behind_sound before [] e h = tt
    behind_sound before (entry ∷ after) e h =
        let one = entry_sound before entry after e h in
        (one, behind_sound (before ++ entry ∷ []) after (e ∙ sym (append_assoc before (entry ∷ []) after)) (all_append (IsSound pool) before (entry ∷ []) h (one, tt)))

    pub pool_sound : IsLayout pool → IsPool pool
    pool_sound layout = (layout, behind_sound [] pool refl tt)
