-- A sound pool stays sound when a sound entry is added at its end.
use Rattle.std.proofs.Common.{◌≡◌, ◌≢◌, ℕ, zero, suc, ◌+◌, ◌≤◌, ◌<◌, ◌^◌, Bool, true, false, cond, List, [], ◌∷◌, ◌++◌, length, Option, Some, None, refl, sym, ap, subst, ◌∙◌, ◌⊎◌, arith}
use Rattle.std.specs.Prelude.{slice_get, IsSomeAnd, IfSome, IsTrue}
use Rattle.std.specs.Option.{option_map, option_and_then}
use Rattle.std.specs.List.{AllByRecursion}
use Rattle.wv_base.specs.declared.class_file.PoolEntry.{PoolEntry}
use Rattle.wv_base.specs.declared.class_file.PoolEntry.TheVariants as entries
use Rattle.wv_base.specs.declared.constant.Const.{Const}
use Rattle.wv_base.specs.declared.constant.Const.TheVariants as constants
use Rattle.wv_base.specs.declared.constant.MemberReference.{MemberReference}
use Rattle.wv_base.specs.Names.{is_unqualified}
use Rattle.wv_base.specs.Descriptor.{IsFieldDescriptor, IsMethodDescriptor, IsClassConstant}
use Rattle.wv_pool.specs.Reading.{is_wide}
use Rattle.wv_pool.specs.Entries.{IsEntry, AreSlots}
use Rattle.wv_pool.specs.References.{entry_of, text_of, class_in, class_of, pair_in, pair_of, pair_name, IsClass, IsText, IsFieldPair, IsMethodPair, HasAngle, IsInit, IsSpecial, KindFits, IsMember, IsSound, IsPool}
use Rattle.wv_pool.specs.Constants.{class_name, both, pair_texts, named_pair, member_of, member, handle, constant_in, constant_of}
use Rattle.wv_pool.specs.Adding.{slots_of}
use Rattle.wv_pool.proofs.Behind.{some_is}
use Rattle.wv_pool.proofs.Growing.{entry_grows, text_grows, class_grows, pair_grows, constant_grows}

pub some_and : {A : Type 0} (o : Option A) (P : A → Type 0) → IsSomeAnd o P → (a : A) × (o ≡ Some a) × P a
some_and None P h = absurd h
some_and (Some a) P h = (a, refl, h)

all_at : {X : Type 0} (P : X → Type 0) (xs : List X) (i : ℕ) (x : X) → AllByRecursion P xs → slice_get xs i ≡ Some x → P x
all_at P [] i x h e = absurd cc
all_at P (a ∷ xs) zero x h e = subst P (some_is a x e) h.0
all_at P (a ∷ xs) (suc i) x h e = all_at P xs i x h.1 e

pub pair_entry : (o : Option PoolEntry) (p : ℕ × ℕ) → pair_in o ≡ Some p → o ≡ Some (entries.NameAndType p.0 p.1)
pair_entry None p e = absurd cc
pair_entry (Some (entries.Utf8 x)) p e = absurd cc
pair_entry (Some (entries.Integer v)) p e = absurd cc
pair_entry (Some (entries.Float b)) p e = absurd cc
pair_entry (Some (entries.Long v)) p e = absurd cc
pair_entry (Some (entries.Double b)) p e = absurd cc
pair_entry (Some (entries.Class n)) p e = absurd cc
pair_entry (Some (entries.String n)) p e = absurd cc
pair_entry (Some (entries.Field m n)) p e = absurd cc
pair_entry (Some (entries.Method m n)) p e = absurd cc
pair_entry (Some (entries.InterfaceMethod m n)) p e = absurd cc
pair_entry (Some (entries.NameAndType m n)) p e = ap (λ (q : ℕ × ℕ). Some (entries.NameAndType q.0 q.1)) (some_is (m, n) p e)
pair_entry (Some (entries.MethodHandle m n)) p e = absurd cc
pair_entry (Some (entries.MethodType n)) p e = absurd cc
pair_entry (Some (entries.InvokeDynamic m n)) p e = absurd cc
pair_entry (Some entries.Unusable) p e = absurd cc

pub class_entry : (o : Option PoolEntry) (p : ℕ) → class_in o ≡ Some p → o ≡ Some (entries.Class p)
class_entry None p e = absurd cc
class_entry (Some (entries.Utf8 x)) p e = absurd cc
class_entry (Some (entries.Integer v)) p e = absurd cc
class_entry (Some (entries.Float b)) p e = absurd cc
class_entry (Some (entries.Long v)) p e = absurd cc
class_entry (Some (entries.Double b)) p e = absurd cc
class_entry (Some (entries.Class n)) p e = ap (λ (q : ℕ). Some (entries.Class q)) (some_is n p e)
class_entry (Some (entries.String n)) p e = absurd cc
class_entry (Some (entries.Field m n)) p e = absurd cc
class_entry (Some (entries.Method m n)) p e = absurd cc
class_entry (Some (entries.InterfaceMethod m n)) p e = absurd cc
class_entry (Some (entries.NameAndType m n)) p e = absurd cc
class_entry (Some (entries.MethodHandle m n)) p e = absurd cc
class_entry (Some (entries.MethodType n)) p e = absurd cc
class_entry (Some (entries.InvokeDynamic m n)) p e = absurd cc
class_entry (Some entries.Unusable) p e = absurd cc

module _ (pool : List PoolEntry) (sound : AllByRecursion (IsSound pool) pool) where
  pub sound_at : (n : ℕ) (e : PoolEntry) → entry_of pool n ≡ Some e → IsSound pool e
  sound_at zero e h = absurd cc
  sound_at (suc place) e h = all_at (IsSound pool) pool place e sound h

  -- the texts behind a class and a NameAndType are there
  class_text : (n : ℕ) → IsClass pool n → (x : List ℕ) × (class_name pool n ≡ Some x)
  class_text n h =
      let c = some_and (class_of pool n) (λ _. Unit {0}) h in
      let s = sound_at n (entries.Class c.0) (class_entry (entry_of pool n) c.0 c.1) in
      let t = some_and (text_of pool c.0) IsClassConstant s.0 in
      (t.0, ap (option_and_then (text_of pool)) c.1 ∙ t.1)

  pair_text : (n : ℕ) (p : ℕ × ℕ) → pair_of pool n ≡ Some p → (x : List ℕ) × (y : List ℕ) × (text_of pool p.0 ≡ Some x) × (text_of pool p.1 ≡ Some y)
  pair_text n p e =
      let s = sound_at n (entries.NameAndType p.0 p.1) (pair_entry (entry_of pool n) p e) in
      let t = some_and (text_of pool p.0) (λ x. IsTrue (is_unqualified x)) s.0 in
      let u = some_and (text_of pool p.1) (λ d. IsFieldDescriptor d ⊎ IsMethodDescriptor d) s.1 in
      (t.0, u.0, t.1, u.1)

  pair_both : (n : ℕ) (p : ℕ × ℕ) → pair_of pool n ≡ Some p → (q : List ℕ × List ℕ) × (named_pair pool n ≡ Some q)
  pair_both n p e =
      let t = pair_text n p e in
      ((t.0, t.1), ap (pair_texts pool) e ∙ ap (λ (o : Option (List ℕ)). both o (text_of pool p.1)) t.2 ∙ ap (both (Some t.0)) t.3)

  member_there : (c p : ℕ) (q : ℕ × ℕ) → IsClass pool c → pair_of pool p ≡ Some q → (m : MemberReference) × (member pool c p ≡ Some m)
  member_there c p q is e =
      let x = class_text c is in
      let y = pair_both p q e in
      (record { owner = x.0; name = y.0.0; descriptor = y.0.1 }, ap (λ (o : Option (List ℕ)). member_of o (named_pair pool p)) x.1 ∙ ap (member_of (Some x.0)) y.1)

  method_pair : (p : ℕ) → IsMethodPair pool p → (q : ℕ × ℕ) × (pair_of pool p ≡ Some q)
  method_pair p h = let s = some_and (pair_of pool p) (λ pair. (IsText pool pair.1 IsFieldDescriptor → ⊥) × (IsText pool pair.0 HasAngle → ⊥)) h in (s.0, s.1)

  field_pair : (p : ℕ) → IsFieldPair pool p → (q : ℕ × ℕ) × (pair_of pool p ≡ Some q)
  field_pair p h = let s = some_and (pair_of pool p) (λ pair. IsText pool pair.1 IsMethodDescriptor → ⊥) h in (s.0, s.1)

  text_there : (n : ℕ) (P : List ℕ → Type 0) → IsText pool n P → (x : List ℕ) × (text_of pool n ≡ Some x)
  text_there n P h = let s = some_and (text_of pool n) P h in (s.0, s.1)

  -- a sound entry names a constant, unless it isn't usable
  handle_there : (kind : ℕ) (o : Option PoolEntry) → ((e : PoolEntry) → o ≡ Some e → IsSound pool e) → IsMember o → (c : Const) × (handle pool kind o ≡ Some c)
  handle_there kind None s is = absurd is
  handle_there kind (Some (entries.Utf8 x)) s is = absurd is
  handle_there kind (Some (entries.Integer v)) s is = absurd is
  handle_there kind (Some (entries.Float b)) s is = absurd is
  handle_there kind (Some (entries.Long v)) s is = absurd is
  handle_there kind (Some (entries.Double b)) s is = absurd is
  handle_there kind (Some (entries.Class n)) s is = absurd is
  handle_there kind (Some (entries.String n)) s is = absurd is
  handle_there kind (Some (entries.Field m n)) s is = let h = s (entries.Field m n) refl in let q = field_pair n h.1 in let r = member_there m n q.0 h.0 q.1 in (constants.MethodHandle kind r.0 false, ap (option_map (λ x. constants.MethodHandle kind x false)) r.1)
  handle_there kind (Some (entries.Method m n)) s is = let h = s (entries.Method m n) refl in let q = method_pair n h.1 in let r = member_there m n q.0 h.0 q.1 in (constants.MethodHandle kind r.0 false, ap (option_map (λ x. constants.MethodHandle kind x false)) r.1)
  handle_there kind (Some (entries.InterfaceMethod m n)) s is = let h = s (entries.InterfaceMethod m n) refl in let q = method_pair n h.1 in let r = member_there m n q.0 h.0 q.1 in (constants.MethodHandle kind r.0 true, ap (option_map (λ x. constants.MethodHandle kind x true)) r.1)
  handle_there kind (Some (entries.NameAndType m n)) s is = absurd is
  handle_there kind (Some (entries.MethodHandle m n)) s is = absurd is
  handle_there kind (Some (entries.MethodType n)) s is = absurd is
  handle_there kind (Some (entries.InvokeDynamic m n)) s is = absurd is
  handle_there kind (Some entries.Unusable) s is = absurd is

  pub constant_there : (e : PoolEntry) → IsSound pool e → (e ≡ entries.Unusable → ⊥) → (c : Const) × (constant_in pool e ≡ Some c)
  constant_there (entries.Utf8 x) h u = (constants.Utf8 x, refl)
  constant_there (entries.Integer v) h u = (constants.Integer v, refl)
  constant_there (entries.Float b) h u = (constants.Float b, refl)
  constant_there (entries.Long v) h u = (constants.Long v, refl)
  constant_there (entries.Double b) h u = (constants.Double b, refl)
  constant_there (entries.Class n) h u = let t = text_there n IsClassConstant h.0 in (constants.Class t.0, ap (option_map (λ x. constants.Class x)) t.1)
  constant_there (entries.String n) h u = let t = text_there n (λ _. Unit {0}) h.0 in (constants.String t.0, ap (option_map (λ x. constants.String x)) t.1)
  constant_there (entries.Field m n) h u = let q = field_pair n h.1 in let r = member_there m n q.0 h.0 q.1 in (constants.Field r.0, ap (option_map (λ x. constants.Field x)) r.1)
  constant_there (entries.Method m n) h u = let q = method_pair n h.1 in let r = member_there m n q.0 h.0 q.1 in (constants.Method r.0 false, ap (option_map (λ x. constants.Method x false)) r.1)
  constant_there (entries.InterfaceMethod m n) h u = let q = method_pair n h.1 in let r = member_there m n q.0 h.0 q.1 in (constants.Method r.0 true, ap (option_map (λ x. constants.Method x true)) r.1)
  constant_there (entries.NameAndType m n) h u =
      let t = text_there m (λ x. IsTrue (is_unqualified x)) h.0 in
      let d = text_there n (λ d. IsFieldDescriptor d ⊎ IsMethodDescriptor d) h.1 in
      (constants.NameAndType t.0 d.0, ap (λ (o : Option (List ℕ)). option_map (λ p. constants.NameAndType p.0 p.1) (both o (text_of pool n))) t.1 ∙ ap (λ (o : Option (List ℕ)). option_map (λ p. constants.NameAndType p.0 p.1) (both (Some t.0) o)) d.1)
  constant_there (entries.MethodHandle m n) h u = handle_there m (entry_of pool n) (sound_at n) h.1
  constant_there (entries.MethodType n) h u = let t = text_there n IsMethodDescriptor h.0 in (constants.MethodType t.0, ap (option_map (λ x. constants.MethodType x)) t.1)
  constant_there (entries.InvokeDynamic m n) h u = let q = method_pair n h.1 in let r = pair_both n q.0 q.1 in (constants.InvokeDynamic m r.0.0 r.0.1, ap (option_map (λ p. constants.InvokeDynamic m p.0 p.1)) r.1)
  constant_there entries.Unusable h u = absurd (u refl)

  -- ---- a pool that grows
  module _ (more : List PoolEntry) where
    text_holds : (n : ℕ) (P : List ℕ → Type 0) → IsText pool n P → IsText (pool ++ more) n P
    text_holds n P h = let s = some_and (text_of pool n) P h in subst (λ (o : Option (List ℕ)). IsSomeAnd o P) (sym (text_grows pool more n s.0 s.1)) s.2

    -- of a text that was there already nothing new holds
    text_held : (n : ℕ) (x : List ℕ) (P : List ℕ → Type 0) → text_of pool n ≡ Some x → IsText (pool ++ more) n P → IsText pool n P
    text_held n x P e h = subst (λ (o : Option (List ℕ)). IsSomeAnd o P) (text_grows pool more n x e ∙ sym e) h

    class_holds : (n : ℕ) → IsClass pool n → IsClass (pool ++ more) n
    class_holds n h = let s = some_and (class_of pool n) (λ _. Unit {0}) h in subst (λ (o : Option ℕ). IsSomeAnd o (λ _. Unit {0})) (sym (class_grows pool more n s.0 s.1)) tt

    field_pair_holds : (n : ℕ) → IsFieldPair pool n → IsFieldPair (pool ++ more) n
    field_pair_holds n h =
        let s = some_and (pair_of pool n) (λ pair. IsText pool pair.1 IsMethodDescriptor → ⊥) h in
        let t = pair_text n s.0 s.1 in
        subst (λ (o : Option (ℕ × ℕ)). IsSomeAnd o (λ pair. IsText (pool ++ more) pair.1 IsMethodDescriptor → ⊥)) (sym (pair_grows pool more n s.0 s.1))
        (λ now. s.2 (text_held s.0.1 t.1 IsMethodDescriptor t.3 now))

    method_pair_holds : (n : ℕ) → IsMethodPair pool n → IsMethodPair (pool ++ more) n
    method_pair_holds n h =
        let s = some_and (pair_of pool n) (λ pair. (IsText pool pair.1 IsFieldDescriptor → ⊥) × (IsText pool pair.0 HasAngle → ⊥)) h in
        let t = pair_text n s.0 s.1 in
        subst (λ (o : Option (ℕ × ℕ)). IsSomeAnd o (λ pair. (IsText (pool ++ more) pair.1 IsFieldDescriptor → ⊥) × (IsText (pool ++ more) pair.0 HasAngle → ⊥))) (sym (pair_grows pool more n s.0 s.1))
        (λ now. s.2.0 (text_held s.0.1 t.1 IsFieldDescriptor t.3 now), λ now. s.2.1 (text_held s.0.0 t.0 HasAngle t.2 now))

    name_holds : (n : ℕ) → IsMethodPair pool n → pair_name (pool ++ more) (pair_of (pool ++ more) n) ≡ pair_name pool (pair_of pool n)
    name_holds n h =
        let q = method_pair n h in
        let t = pair_text n q.0 q.1 in
        ap (pair_name (pool ++ more)) (pair_grows pool more n q.0 q.1) ∙ text_grows pool more q.0.0 t.0 t.2 ∙ sym (ap (pair_name pool) q.1 ∙ t.2)

    kind_holds : (kind : ℕ) (o : Option PoolEntry) → ((e : PoolEntry) → o ≡ Some e → IsSound pool e) → KindFits pool kind o → KindFits (pool ++ more) kind o
    kind_holds kind None s h = tt
    kind_holds kind (Some (entries.Utf8 x)) s h = tt
    kind_holds kind (Some (entries.Integer v)) s h = tt
    kind_holds kind (Some (entries.Float b)) s h = tt
    kind_holds kind (Some (entries.Long v)) s h = tt
    kind_holds kind (Some (entries.Double b)) s h = tt
    kind_holds kind (Some (entries.Class n)) s h = tt
    kind_holds kind (Some (entries.String n)) s h = tt
    kind_holds kind (Some (entries.Field m n)) s h = h
    kind_holds kind (Some (entries.Method m n)) s h = subst (λ (name : Option (List ℕ)). (5 ≤ kind) × (kind ≤ 8) × (kind ≡ 8 → IfSome name IsInit) × (kind ≢ 8 → IfSome name (λ x. IsSpecial x → ⊥))) (sym (name_holds n (s (entries.Method m n) refl).1)) h
    kind_holds kind (Some (entries.InterfaceMethod m n)) s h = subst (λ (name : Option (List ℕ)). (6 ≤ kind) × (kind ≢ 8) × IfSome name (λ x. IsSpecial x → ⊥)) (sym (name_holds n (s (entries.InterfaceMethod m n) refl).1)) h
    kind_holds kind (Some (entries.NameAndType m n)) s h = tt
    kind_holds kind (Some (entries.MethodHandle m n)) s h = tt
    kind_holds kind (Some (entries.MethodType n)) s h = tt
    kind_holds kind (Some (entries.InvokeDynamic m n)) s h = tt
    kind_holds kind (Some entries.Unusable) s h = tt

    member_some : (o : Option PoolEntry) → IsMember o → (e : PoolEntry) × (o ≡ Some e)
    member_some None h = absurd h
    member_some (Some e) h = (e, refl)

    entry_same : (n : ℕ) → IsMember (entry_of pool n) → entry_of (pool ++ more) n ≡ entry_of pool n
    entry_same n h = let m = member_some (entry_of pool n) h in entry_grows pool more n m.0 m.1 ∙ sym m.1

    pub sound_grows : (e : PoolEntry) → IsSound pool e → IsSound (pool ++ more) e
    sound_grows (entries.Utf8 x) h = h
    sound_grows (entries.Integer v) h = h
    sound_grows (entries.Float b) h = h
    sound_grows (entries.Long v) h = h
    sound_grows (entries.Double b) h = h
    sound_grows (entries.Class n) h = (text_holds n IsClassConstant h.0, tt)
    sound_grows (entries.String n) h = (text_holds n (λ _. Unit {0}) h.0, tt)
    sound_grows (entries.Field m n) h = (class_holds m h.0, field_pair_holds n h.1)
    sound_grows (entries.Method m n) h = (class_holds m h.0, method_pair_holds n h.1)
    sound_grows (entries.InterfaceMethod m n) h = (class_holds m h.0, method_pair_holds n h.1)
    sound_grows (entries.NameAndType m n) h = (text_holds m (λ x. IsTrue (is_unqualified x)) h.0, text_holds n (λ d. IsFieldDescriptor d ⊎ IsMethodDescriptor d) h.1)
    sound_grows (entries.MethodHandle m n) h =
        let same = entry_same n h.1 in
        ((h.0.0, h.0.1, subst (KindFits (pool ++ more) m) (sym same) (kind_holds m (entry_of pool n) (sound_at n) h.0.2)), subst IsMember (sym same) h.1)
    sound_grows (entries.MethodType n) h = (text_holds n IsMethodDescriptor h.0, tt)
    sound_grows (entries.InvokeDynamic m n) h = (tt, method_pair_holds n h.1)
    sound_grows entries.Unusable h = h

all_append : {X : Type 0} (P : X → Type 0) (xs ys : List X) → AllByRecursion P xs → AllByRecursion P ys → AllByRecursion P (xs ++ ys)
all_append P [] ys h k = k
all_append P (x ∷ xs) ys h k = (h.0, all_append P xs ys h.1 k)

all_map : {X : Type 0} (P Q : X → Type 0) → ((x : X) → P x → Q x) → (xs : List X) → AllByRecursion P xs → AllByRecursion Q xs
all_map P Q f [] h = tt
all_map P Q f (x ∷ xs) h = (f x h.0, all_map P Q f xs h.1)

slots_append : (wide : Bool) (xs ys : List PoolEntry) → AreSlots wide xs → AreSlots false ys → AreSlots wide (xs ++ ys)
slots_append wide [] ys h k = subst (λ (b : Bool). AreSlots b ys) (sym h) k
slots_append true (x ∷ xs) ys h k = (h.0, slots_append false xs ys h.1 k)
slots_append false (x ∷ xs) ys h k = (h.0, slots_append (is_wide x) xs ys h.1 k)

slots_alone : (e : PoolEntry) → IsEntry e → AreSlots false (slots_of e)
slots_alone e h = go (is_wide e) refl
  where
    go : (b : Bool) → is_wide e ≡ b → AreSlots false (cond b (e ∷ entries.Unusable ∷ []) (e ∷ []))
    go true w = (h, subst (λ (b : Bool). AreSlots b (entries.Unusable ∷ [])) (sym w) (refl, refl))
    go false w = (h, w)

slots_sound : (pool : List PoolEntry) (e : PoolEntry) → IsSound pool e → AllByRecursion (IsSound pool) (slots_of e)
slots_sound pool e h = go (is_wide e)
  where
    go : (b : Bool) → AllByRecursion (IsSound pool) (cond b (e ∷ entries.Unusable ∷ []) (e ∷ []))
    go true = (h, ((tt, tt), tt))
    go false = (h, tt)

pub pool_grows : (pool : List PoolEntry) (e : PoolEntry) → IsPool pool → IsEntry e → IsSound pool e → length (pool ++ slots_of e) + 1 < 2 ^ 16 → IsPool (pool ++ slots_of e)
pool_grows pool e is entry sound few = (
  (few, slots_append false pool (slots_of e) is.0.1 (slots_alone e entry)),
  all_append (IsSound (pool ++ slots_of e)) pool (slots_of e)
      (all_map (IsSound pool) (IsSound (pool ++ slots_of e)) (sound_grows pool is.1 (slots_of e)) pool is.1)
      (slots_sound (pool ++ slots_of e) e (sound_grows pool is.1 (slots_of e) e sound)),
)

-- of a number that was there already the constant stays
pub constant_back : (pool more : List PoolEntry) (n : ℕ) (c : Const) → AllByRecursion (IsSound pool) pool → n ≤ length pool → constant_of (pool ++ more) n ≡ Some c → constant_of pool n ≡ Some c
constant_back pool more zero c sound le h = absurd cc
constant_back pool more (suc place) c sound le h = go (slice_get pool place) refl
  where
    within : (xs ys : List PoolEntry) (i : ℕ) → suc i ≤ length xs → slice_get xs i ≡ None → ⊥
    within [] ys i lt e = omega arith
    within (x ∷ xs) ys zero lt e = absurd cc
    within (x ∷ xs) ys (suc i) lt e = within xs ys i (omega arith) e

    usable : (e : PoolEntry) → slice_get pool place ≡ Some e → e ≡ entries.Unusable → ⊥
    usable e is u =
        let later = entry_grows pool more (suc place) e is in
        let never : None ≡ Some c = sym (ap (option_and_then (constant_in (pool ++ more))) (later ∙ ap (λ (x : PoolEntry). Some x) u)) ∙ h in
        absurd cc

    go : (o : Option PoolEntry) → slice_get pool place ≡ o → constant_of pool (suc place) ≡ Some c
    go None e = absurd (within pool more place le e)
    go (Some e) is =
        let there = constant_there pool sound e (sound_at pool sound (suc place) e is) (usable e is) in
        let now : constant_of pool (suc place) ≡ Some there.0 = ap (option_and_then (constant_in pool)) is ∙ there.1 in
        let same : there.0 ≡ c = some_is there.0 c (sym (constant_grows pool more (suc place) there.0 now) ∙ h) in
        now ∙ ap (λ (x : Const). Some x) same
