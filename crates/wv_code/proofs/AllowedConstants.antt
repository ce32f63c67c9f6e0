-- What the numbers of a sound pool name, another pool may hold.
use Rattle.std.proofs.Common.{◌≡◌, ℕ, zero, suc, ◌≤◌, Bool, true, false, List, [], ◌∷◌, Option, Some, None, refl, sym, ap, subst, ◌∙◌, ◌⊎◌, inl, inr}
use Rattle.std.specs.Prelude.{slice_get, IsSomeAnd, IfSome, IsTrue}
use Rattle.wv_base.specs.declared.class_file.PoolEntry.{PoolEntry}
use Rattle.wv_base.specs.declared.class_file.PoolEntry.TheVariants as entries
use Rattle.wv_base.specs.declared.constant.Const.{Const}
use Rattle.wv_base.specs.declared.constant.Const.TheVariants as constants
use Rattle.wv_base.specs.declared.constant.MemberReference.{MemberReference}
use Rattle.wv_base.specs.Names.{is_unqualified}
use Rattle.wv_base.specs.Descriptor.{IsFieldDescriptor, IsMethodDescriptor, IsClassConstant}
use Rattle.wv_pool.specs.Reading.{is_wide}
use Rattle.wv_pool.specs.Entries.{IsEntry, AreSlots}
use Rattle.wv_pool.specs.References.{entry_of, text_in, text_of, class_of, pair_in, pair_of, pair_name, IsText, IsFieldPair, IsMethodPair, HasAngle, IsInit, IsSpecial, KindFits, IsSound, IsPool}
use Rattle.wv_pool.specs.Constants.{class_name, both, pair_texts, named_pair, member_of, member, handle, constant_in, constant_of}
use Rattle.wv_pool.specs.Allowed.{IsShort, IsClassText, IsPairText, IsFieldText, IsMethodText, IsFieldReference, IsMethodReference, IsCalled, IsAllowed}
use Rattle.wv_pool.proofs.Behind.{some_is, map_some, then_some}
use Rattle.wv_pool.proofs.SoundPools.{some_and, pair_entry, class_entry, sound_at}

text_entry : (o : Option PoolEntry) (x : List ℕ) → text_in o ≡ Some x → o ≡ Some (entries.Utf8 x)
text_entry (Some (entries.Utf8 y)) x e = ap (λ (q : List ℕ). Some (entries.Utf8 q)) (some_is y x e)
text_entry None x e = absurd cc
text_entry (Some _) x e = absurd cc

-- what is usable has a layout
slot_at : (wide : Bool) (pool : List PoolEntry) (k : ℕ) (x : List ℕ) → AreSlots wide pool → slice_get pool k ≡ Some (entries.Utf8 x) → IsShort x
slot_at wide [] k x h e = absurd cc
slot_at true (entry ∷ pool) zero x h e = let gone : ◌≡◌ {A = PoolEntry} entries.Unusable (entries.Utf8 x) = sym h.0 ∙ some_is entry (entries.Utf8 x) e in absurd cc
slot_at true (entry ∷ pool) (suc k) x h e = slot_at false pool k x h.1 e
slot_at false (entry ∷ pool) zero x h e = (subst IsEntry (some_is entry (entries.Utf8 x) e) h.0).1
slot_at false (entry ∷ pool) (suc k) x h e = slot_at (is_wide entry) pool k x h.1 e

both_are : (o p : Option (List ℕ)) (q : List ℕ × List ℕ) → both o p ≡ Some q → (o ≡ Some q.0) × (p ≡ Some q.1)
both_are None p q e = absurd cc
both_are (Some a) None q e = absurd cc
both_are (Some a) (Some b) q e = let same = some_is (a, b) q e in (ap (λ (x : List ℕ × List ℕ). Some x.0) same, ap (λ (x : List ℕ × List ℕ). Some x.1) same)

member_are : (o : Option (List ℕ)) (p : Option (List ℕ × List ℕ)) (m : MemberReference) → member_of o p ≡ Some m → (o ≡ Some m.owner) × (p ≡ Some (m.name, m.descriptor))
member_are None p m e = absurd cc
member_are (Some a) None m e = absurd cc
member_are (Some a) (Some b) m e =
    let same = some_is (record { owner = a; name = b.0; descriptor = b.1 }) m e in
    (ap (λ (r : MemberReference). Some r.owner) same, ap (λ (r : MemberReference). Some (r.name, r.descriptor)) same)

pair_texts_are : (pool : List PoolEntry) (o : Option (ℕ × ℕ)) (q : List ℕ × List ℕ) → pair_texts pool o ≡ Some q → (p : ℕ × ℕ) × (o ≡ Some p) × (text_of pool p.0 ≡ Some q.0) × (text_of pool p.1 ≡ Some q.1)
pair_texts_are pool None q e = absurd cc
pair_texts_are pool (Some p) q e = let texts = both_are (text_of pool p.0) (text_of pool p.1) q e in (p, refl, texts.0, texts.1)

module _ (pool : List PoolEntry) (sound : IsPool pool) where
  text_short : (n : ℕ) (x : List ℕ) → text_of pool n ≡ Some x → IsShort x
  text_short zero x e = absurd cc
  text_short (suc k) x e = slot_at false pool k x sound.0.1 (text_entry (slice_get pool k) x e)

  -- a text meets what its number promises
  text_meets : (n : ℕ) (P : List ℕ → Type 0) (x : List ℕ) → IsText pool n P → text_of pool n ≡ Some x → P x
  text_meets n P x h e = let t = some_and (text_of pool n) P h in subst P (some_is t.0 x (sym t.1 ∙ e)) t.2

  text_lacks : (n : ℕ) (P : List ℕ → Type 0) (x : List ℕ) → (IsText pool n P → ⊥) → text_of pool n ≡ Some x → P x → ⊥
  text_lacks n P x h e p = h (subst (λ (o : Option (List ℕ)). IsSomeAnd o P) (sym e) p)

  class_allowed : (n : ℕ) (name : List ℕ) → class_name pool n ≡ Some name → IsClassText name
  class_allowed n name e =
      let t = then_some (text_of pool) (class_of pool n) name e in
      let holds = sound_at pool sound.1 n (entries.Class t.0) (class_entry (entry_of pool n) t.0 t.1) in
      (text_short t.0 name t.2, text_meets t.0 IsClassConstant name holds.0 t.2)

  -- the texts of a NameAndType
  pair_allowed : (n : ℕ) (p : ℕ × ℕ) (x y : List ℕ) → pair_of pool n ≡ Some p → text_of pool p.0 ≡ Some x → text_of pool p.1 ≡ Some y → IsPairText x y × (IsFieldDescriptor y ⊎ IsMethodDescriptor y)
  pair_allowed n p x y e f g =
      let holds = sound_at pool sound.1 n (entries.NameAndType p.0 p.1) (pair_entry (entry_of pool n) p e) in
      ((text_short p.0 x f, text_short p.1 y g, text_meets p.0 (λ t. IsTrue (is_unqualified t)) x holds.0 f), text_meets p.1 (λ d. IsFieldDescriptor d ⊎ IsMethodDescriptor d) y holds.1 g)

  field_text : (n : ℕ) (x y : List ℕ) → IsFieldPair pool n → named_pair pool n ≡ Some (x, y) → IsFieldText x y
  field_text n x y h e =
      let t = pair_texts_are pool (pair_of pool n) (x, y) e in
      let allowed = pair_allowed n t.0 x y t.1 t.2 t.3 in
      let s = some_and (pair_of pool n) (λ pair. IsText pool pair.1 IsMethodDescriptor → ⊥) h in
      let same : s.0 ≡ t.0 = some_is s.0 t.0 (sym s.1 ∙ t.1) in
      let lacks : IsText pool t.0.1 IsMethodDescriptor → ⊥ = subst (λ (p : ℕ × ℕ). IsText pool p.1 IsMethodDescriptor → ⊥) same s.2 in
      (allowed.0, elim allowed.1 [ inl field ↦ field | inr method ↦ absurd (text_lacks t.0.1 IsMethodDescriptor y lacks t.3 method) ])

  method_text : (n : ℕ) (x y : List ℕ) → IsMethodPair pool n → named_pair pool n ≡ Some (x, y) → IsMethodText x y
  method_text n x y h e =
      let t = pair_texts_are pool (pair_of pool n) (x, y) e in
      let allowed = pair_allowed n t.0 x y t.1 t.2 t.3 in
      let P : ℕ × ℕ → Type 0 = λ pair. (IsText pool pair.1 IsFieldDescriptor → ⊥) × (IsText pool pair.0 HasAngle → ⊥) in
      let s = some_and (pair_of pool n) P h in
      let lacks : P t.0 = subst P (some_is s.0 t.0 (sym s.1 ∙ t.1)) s.2 in
      (allowed.0, text_lacks t.0.0 HasAngle x lacks.1 t.2, elim allowed.1 [ inl field ↦ absurd (text_lacks t.0.1 IsFieldDescriptor y lacks.0 t.3 field) | inr method ↦ method ])

  field_reference : (a b : ℕ) (m : MemberReference) → IsFieldPair pool b → member pool a b ≡ Some m → IsFieldReference m
  field_reference a b m h e = let parts = member_are (class_name pool a) (named_pair pool b) m e in (class_allowed a m.owner parts.0, field_text b m.name m.descriptor h parts.1)

  method_reference : (a b : ℕ) (m : MemberReference) → IsMethodPair pool b → member pool a b ≡ Some m → IsMethodReference m
  method_reference a b m h e = let parts = member_are (class_name pool a) (named_pair pool b) m e in (class_allowed a m.owner parts.0, method_text b m.name m.descriptor h parts.1)

  -- the name behind a NameAndType
  name_meets : (a b : ℕ) (m : MemberReference) (P : List ℕ → Type 0) → member pool a b ≡ Some m → IfSome (pair_name pool (pair_of pool b)) P → P m.name
  name_meets a b m P e h =
      let parts = member_are (class_name pool a) (named_pair pool b) m e in
      let t = pair_texts_are pool (pair_of pool b) (m.name, m.descriptor) parts.1 in
      let there : pair_name pool (pair_of pool b) ≡ Some m.name = ap (pair_name pool) t.1 ∙ t.2 in
      subst (λ (o : Option (List ℕ)). IfSome o P) there h

  handle_allowed : (kind : ℕ) (o : Option PoolEntry) (c : Const) → ((e : PoolEntry) → o ≡ Some e → IsSound pool e) → 1 ≤ kind → kind ≤ 9 → KindFits pool kind o → handle pool kind o ≡ Some c → IsAllowed c
  handle_allowed kind (Some (entries.Field a b)) c s low high fits e =
      let m = map_some (λ x. constants.MethodHandle kind x false) (member pool a b) c e in
      subst IsAllowed m.2 (inl (field_reference a b m.0 (s (entries.Field a b) refl).1 m.1, low, fits))
  handle_allowed kind (Some (entries.Method a b)) c s low high fits e =
      let m = map_some (λ x. constants.MethodHandle kind x false) (member pool a b) c e in
      let called : IsCalled kind m.0.name = (λ eight. name_meets a b m.0 IsInit m.1 (fits.2 eight), λ other. name_meets a b m.0 (λ n. IsSpecial n → ⊥) m.1 (fits.3 other)) in
      subst IsAllowed m.2 (inr (method_reference a b m.0 (s (entries.Method a b) refl).1 m.1, fits.0, fits.1, called))
  handle_allowed kind (Some (entries.InterfaceMethod a b)) c s low high fits e =
      let m = map_some (λ x. constants.MethodHandle kind x true) (member pool a b) c e in
      subst IsAllowed m.2 (method_reference a b m.0 (s (entries.InterfaceMethod a b) refl).1 m.1, fits.0, high, fits.1, name_meets a b m.0 (λ n. IsSpecial n → ⊥) m.1 fits.2)
  handle_allowed kind None c s low high fits e = absurd cc
  handle_allowed kind (Some _) c s low high fits e = absurd cc

  entry_allowed : (n : ℕ) (e : PoolEntry) (c : Const) → entry_of pool n ≡ Some e → IsSound pool e → constant_in pool e ≡ Some c → IsAllowed c
  entry_allowed n (entries.Utf8 x) c there h e = subst IsAllowed (some_is (constants.Utf8 x) c e) (text_short n x (ap text_in there))
  entry_allowed n (entries.Integer v) c there h e = subst IsAllowed (some_is (constants.Integer v) c e) tt
  entry_allowed n (entries.Float b) c there h e = subst IsAllowed (some_is (constants.Float b) c e) tt
  entry_allowed n (entries.Long v) c there h e = subst IsAllowed (some_is (constants.Long v) c e) tt
  entry_allowed n (entries.Double b) c there h e = subst IsAllowed (some_is (constants.Double b) c e) tt
  entry_allowed n (entries.Class name) c there h e =
      let m = map_some (λ x. constants.Class x) (text_of pool name) c e in
      subst IsAllowed m.2 (text_short name m.0 m.1, text_meets name IsClassConstant m.0 h.0 m.1)
  entry_allowed n (entries.String text) c there h e = let m = map_some (λ x. constants.String x) (text_of pool text) c e in subst IsAllowed m.2 (text_short text m.0 m.1)
  entry_allowed n (entries.Field a b) c there h e = let m = map_some (λ x. constants.Field x) (member pool a b) c e in subst IsAllowed m.2 (field_reference a b m.0 h.1 m.1)
  entry_allowed n (entries.Method a b) c there h e = let m = map_some (λ x. constants.Method x false) (member pool a b) c e in subst IsAllowed m.2 (method_reference a b m.0 h.1 m.1)
  entry_allowed n (entries.InterfaceMethod a b) c there h e = let m = map_some (λ x. constants.Method x true) (member pool a b) c e in subst IsAllowed m.2 (method_reference a b m.0 h.1 m.1)
  entry_allowed n (entries.NameAndType a b) c there h e =
      let m = map_some (λ p. constants.NameAndType p.0 p.1) (both (text_of pool a) (text_of pool b)) c e in
      let texts = both_are (text_of pool a) (text_of pool b) m.0 m.1 in
      subst IsAllowed m.2 (pair_allowed n (a, b) m.0.0 m.0.1 (ap pair_in there) texts.0 texts.1)
  entry_allowed n (entries.MethodHandle kind reference) c there h e = handle_allowed kind (entry_of pool reference) c (sound_at pool sound.1 reference) h.0.0 h.0.1 h.0.2 e
  entry_allowed n (entries.MethodType d) c there h e =
      let m = map_some (λ x. constants.MethodType x) (text_of pool d) c e in
      subst IsAllowed m.2 (text_short d m.0 m.1, text_meets d IsMethodDescriptor m.0 h.0 m.1)
  entry_allowed n (entries.InvokeDynamic b pair) c there h e =
      let m = map_some (λ p. constants.InvokeDynamic b p.0 p.1) (named_pair pool pair) c e in
      subst IsAllowed m.2 (method_text pair m.0.0 m.0.1 h.1 m.1)
  entry_allowed n entries.Unusable c there h e = absurd cc

  pub constant_allowed : (n : ℕ) (c : Const) → constant_of pool n ≡ Some c → IsAllowed c
  constant_allowed n c e =
      let t = then_some (constant_in pool) (entry_of pool n) c e in
      entry_allowed n t.0 c t.1 (sound_at pool sound.1 n t.0 t.1) t.2
