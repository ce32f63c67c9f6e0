-- The entries of a constant whose parts have numbers.
use Rattle.std.proofs.Common.{◌≡◌, ◌≢◌, ℕ, zero, suc, ◌≤◌, ◌<◌, ◌^◌, Bool, true, false, cond, List, [], ◌∷◌, Option, Some, sym, ap, subst, ◌∙◌, ◌⊎◌, inl, inr, arith, get_or}
use Rattle.std.specs.Prelude.{IsSomeAnd, IfSome, IsTrue, nat_le}
use Rattle.std.specs.Option.{option_map}
use Rattle.std.proofs.lemmas.Bool.Decides.{nat_tests}
use Rattle.wv_base.specs.declared.descriptor.Primitive.TheVariants as primitives
use Rattle.wv_base.specs.declared.descriptor.ElementType.{ElementType}
use Rattle.wv_base.specs.declared.descriptor.ElementType.TheVariants as elements
use Rattle.wv_base.specs.declared.class_file.PoolEntry.{PoolEntry}
use Rattle.wv_base.specs.declared.class_file.PoolEntry.TheVariants as entries
use Rattle.wv_base.specs.declared.constant.Const.{Const}
use Rattle.wv_base.specs.declared.constant.Const.TheVariants as constants
use Rattle.wv_base.specs.declared.constant.MemberReference.{MemberReference}
use Rattle.wv_base.specs.Modified.{IsName}
use Rattle.wv_base.specs.Names.{is_unqualified}
use Rattle.wv_base.specs.Descriptor.{element_descriptor, descriptor_of, IsFieldDescriptor, IsMethodDescriptor, IsClassConstant}
use Rattle.wv_pool.specs.References.{entry_of, text_of, class_of, pair_of, pair_name, IsClass, IsText, IsFieldPair, IsMethodPair, HasAngle, IsInit, IsSpecial, KindFits, IsMember, IsSound}
use Rattle.wv_pool.specs.Constants.{class_name, both, named_pair, member_of, member, constant_in, constant_of}
use Rattle.wv_pool.specs.Allowed.{IsFieldReference, IsMethodReference, IsHandle}
use Rattle.wv_pool.specs.Adding.{handled}
use Rattle.wv_pool.proofs.Behind.{then_some, text_is, class_is, pair_is, field_handle, method_handle, field_entry, method_entry, interface_entry}
use Rattle.wv_pool.proofs.Putting.{texts_some, both_some, member_some}

pub are_units : (name : List ℕ) → ((i : ℕ) → get_or name i 0 < 2 ^ 16) → IsName name
are_units [] h = tt
are_units (u ∷ name) h = (h 0, are_units name (λ i. h (suc i)))

-- ---- no text is a field's descriptor and a method's

first_unit : List ℕ → ℕ
first_unit [] = 0
first_unit (u ∷ units) = u

element_first : (e : ElementType) → first_unit (element_descriptor e) ≡ 40 → ⊥
unfolding first_unit
element_first (elements.Class name) h = omega (arith, h)
element_first (elements.Primitive primitives.Boolean) h = omega (arith, h)
element_first (elements.Primitive primitives.Byte) h = omega (arith, h)
element_first (elements.Primitive primitives.Char) h = omega (arith, h)
element_first (elements.Primitive primitives.Short) h = omega (arith, h)
element_first (elements.Primitive primitives.Int) h = omega (arith, h)
element_first (elements.Primitive primitives.Long) h = omega (arith, h)
element_first (elements.Primitive primitives.Float) h = omega (arith, h)
element_first (elements.Primitive primitives.Double) h = omega (arith, h)

field_first : (dimensions : ℕ) (e : ElementType) → first_unit (descriptor_of (record { dimensions = dimensions; element = e })) ≡ 40 → ⊥
unfolding first_unit
field_first zero e h = element_first e h
field_first (suc n) e h = omega (arith, h)

method_first : (units : List ℕ) → IsMethodDescriptor units → first_unit units ≡ 40
unfolding first_unit
method_first units (method, is, same) = ap first_unit same

one_descriptor : (units : List ℕ) → IsFieldDescriptor units → IsMethodDescriptor units → ⊥
one_descriptor units (field, is, same) m = field_first field.dimensions field.element (ap first_unit (sym same) ∙ method_first units m)

-- ---- texts

module _ (pool : List PoolEntry) where
  pub text_there : (n : ℕ) (x : List ℕ) (P : List ℕ → Type 0) → constant_of pool n ≡ Some (constants.Utf8 x) → P x → IsText pool n P
  text_there n x P e p = subst (λ (o : Option (List ℕ)). IsSomeAnd o P) (sym (text_is pool n x e)) p

  pub class_sound : (n : ℕ) (x : List ℕ) → constant_of pool n ≡ Some (constants.Utf8 x) → IsClassConstant x → IsSound pool (entries.Class n)
  class_sound n x e p = (text_there n x IsClassConstant e p, tt)

  pub class_named : (n : ℕ) (x : List ℕ) → constant_of pool n ≡ Some (constants.Utf8 x) → constant_in pool (entries.Class n) ≡ Some (constants.Class x)
  class_named n x e = ap (option_map (λ t. constants.Class t)) (text_is pool n x e)

  pub string_named : (n : ℕ) (x : List ℕ) → constant_of pool n ≡ Some (constants.Utf8 x) → constant_in pool (entries.String n) ≡ Some (constants.String x)
  string_named n x e = ap (option_map (λ t. constants.String t)) (text_is pool n x e)

  pub type_named : (n : ℕ) (x : List ℕ) → constant_of pool n ≡ Some (constants.Utf8 x) → constant_in pool (entries.MethodType n) ≡ Some (constants.MethodType x)
  type_named n x e = ap (option_map (λ t. constants.MethodType t)) (text_is pool n x e)

  pub pair_sound : (a b : ℕ) (x y : List ℕ) → constant_of pool a ≡ Some (constants.Utf8 x) → constant_of pool b ≡ Some (constants.Utf8 y) → IsTrue (is_unqualified x) → IsFieldDescriptor y ⊎ IsMethodDescriptor y → IsSound pool (entries.NameAndType a b)
  pair_sound a b x y e f p q = (text_there a x (λ n. IsTrue (is_unqualified n)) e p, text_there b y (λ d. IsFieldDescriptor d ⊎ IsMethodDescriptor d) f q)

  pub pair_named : (a b : ℕ) (x y : List ℕ) → constant_of pool a ≡ Some (constants.Utf8 x) → constant_of pool b ≡ Some (constants.Utf8 y) → constant_in pool (entries.NameAndType a b) ≡ Some (constants.NameAndType x y)
  pair_named a b x y e f =
      ap (λ (o : Option (List ℕ)). option_map (λ p. constants.NameAndType p.0 p.1) (both o (text_of pool b))) (text_is pool a x e)
      ∙ ap (λ (o : Option (List ℕ)). option_map (λ p. constants.NameAndType p.0 p.1) (both (Some x) o)) (text_is pool b y f)

  -- ---- members

  class_there : (n : ℕ) (x : List ℕ) → constant_of pool n ≡ Some (constants.Class x) → IsClass pool n
  class_there n x e = let t = then_some (text_of pool) (class_of pool n) x (class_is pool n x e) in subst (λ (o : Option ℕ). IsSomeAnd o (λ _. Unit {0})) (sym t.1) tt

  -- the numbers of a pair's texts
  pair_parts : (n : ℕ) (x y : List ℕ) → named_pair pool n ≡ Some (x, y) → (q : ℕ × ℕ) × (pair_of pool n ≡ Some q) × (text_of pool q.0 ≡ Some x) × (text_of pool q.1 ≡ Some y)
  pair_parts n x y e = let t = texts_some pool (pair_of pool n) (x, y) e in let b = both_some (text_of pool t.0.0) (text_of pool t.0.1) (x, y) t.2 in (t.0, t.1, b.0, b.1)

  text_met : (n : ℕ) (x : List ℕ) (P : List ℕ → Type 0) → text_of pool n ≡ Some x → IsText pool n P → P x
  text_met n x P e h = subst (λ (o : Option (List ℕ)). IsSomeAnd o P) e h

  field_pair : (n : ℕ) (x y : List ℕ) → constant_of pool n ≡ Some (constants.NameAndType x y) → IsFieldDescriptor y → IsFieldPair pool n
  field_pair n x y e d =
      let t = pair_parts n x y (pair_is pool n x y e) in
      subst (λ (o : Option (ℕ × ℕ)). IsSomeAnd o (λ pair. IsText pool pair.1 IsMethodDescriptor → ⊥)) (sym t.1) (λ h. one_descriptor y d (text_met t.0.1 y IsMethodDescriptor t.3 h))

  pub method_pair : (n : ℕ) (x y : List ℕ) → constant_of pool n ≡ Some (constants.NameAndType x y) → (HasAngle x → ⊥) → IsMethodDescriptor y → IsMethodPair pool n
  method_pair n x y e a d =
      let t = pair_parts n x y (pair_is pool n x y e) in
      subst (λ (o : Option (ℕ × ℕ)). IsSomeAnd o (λ pair. (IsText pool pair.1 IsFieldDescriptor → ⊥) × (IsText pool pair.0 HasAngle → ⊥))) (sym t.1)
      (λ h. one_descriptor y (text_met t.0.1 y IsFieldDescriptor t.3 h) d, λ h. a (text_met t.0.0 x HasAngle t.2 h))

  member_named : (a b : ℕ) (m : MemberReference) → constant_of pool a ≡ Some (constants.Class m.owner) → constant_of pool b ≡ Some (constants.NameAndType m.name m.descriptor) → member pool a b ≡ Some m
  member_named a b m e f = ap (λ (o : Option (List ℕ)). member_of o (named_pair pool b)) (class_is pool a m.owner e) ∙ ap (member_of (Some m.owner)) (pair_is pool b m.name m.descriptor f)

  module _ (a b : ℕ) (m : MemberReference) (class : constant_of pool a ≡ Some (constants.Class m.owner)) (pair : constant_of pool b ≡ Some (constants.NameAndType m.name m.descriptor)) where
    pub field_sound : IsFieldDescriptor m.descriptor → IsSound pool (entries.Field a b)
    field_sound d = (class_there a m.owner class, field_pair b m.name m.descriptor pair d)

    pub field_named : constant_in pool (entries.Field a b) ≡ Some (constants.Field m)
    field_named = ap (option_map (λ x. constants.Field x)) (member_named a b m class pair)

    pub method_sound : (HasAngle m.name → ⊥) → IsMethodDescriptor m.descriptor → IsSound pool (entries.Method a b)
    method_sound n d = (class_there a m.owner class, method_pair b m.name m.descriptor pair n d)

    pub method_named : constant_in pool (entries.Method a b) ≡ Some (constants.Method m false)
    method_named = ap (option_map (λ x. constants.Method x false)) (member_named a b m class pair)

    pub interface_named : constant_in pool (entries.InterfaceMethod a b) ≡ Some (constants.Method m true)
    interface_named = ap (option_map (λ x. constants.Method x true)) (member_named a b m class pair)

  pub dynamic_named : (bootstrap n : ℕ) (x y : List ℕ) → constant_of pool n ≡ Some (constants.NameAndType x y) → constant_in pool (entries.InvokeDynamic bootstrap n) ≡ Some (constants.InvokeDynamic bootstrap x y)
  dynamic_named bootstrap n x y e = ap (option_map (λ p. constants.InvokeDynamic bootstrap p.0 p.1)) (pair_is pool n x y e)

  -- ---- handles

  -- the name behind a member's pair
  member_name : (a b : ℕ) (m : MemberReference) → member pool a b ≡ Some m → pair_name pool (pair_of pool b) ≡ Some m.name
  member_name a b m e =
      let p = member_some (class_name pool a) (named_pair pool b) m e in
      let t = pair_parts b m.name m.descriptor p.1 in
      ap (pair_name pool) t.1 ∙ t.2

  module _ (kind n : ℕ) (m : MemberReference) where
    field_handle_sound : constant_of pool n ≡ Some (constants.Field m) → 1 ≤ kind → kind ≤ 4 → IsSound pool (entries.MethodHandle kind n)
    field_handle_sound e low high =
        let t = then_some (constant_in pool) (entry_of pool n) (constants.Field m) e in
        let f = field_entry pool t.0 m t.2 in
        let entry : entry_of pool n ≡ Some (entries.Field f.0 f.1) = t.1 ∙ ap (λ (x : PoolEntry). Some x) f.2 in
        ((low, omega (arith, high), subst (KindFits pool kind) (sym entry) high), subst IsMember (sym entry) tt)

    method_handle_sound : constant_of pool n ≡ Some (constants.Method m false) → 5 ≤ kind → kind ≤ 8 → (kind ≡ 8 → IsInit m.name) → (kind ≢ 8 → IsSpecial m.name → ⊥) → IsSound pool (entries.MethodHandle kind n)
    method_handle_sound e low high init special =
        let t = then_some (constant_in pool) (entry_of pool n) (constants.Method m false) e in
        let f = method_entry pool t.0 m t.2 in
        let entry : entry_of pool n ≡ Some (entries.Method f.0 f.1) = t.1 ∙ ap (λ (x : PoolEntry). Some x) f.2 in
        let fits = subst (λ (name : Option (List ℕ)). (5 ≤ kind) × (kind ≤ 8) × (kind ≡ 8 → IfSome name IsInit) × (kind ≢ 8 → IfSome name (λ x. IsSpecial x → ⊥))) (sym (member_name f.0 f.1 m f.3)) (low, high, init, special) in
        ((omega (arith, low), omega (arith, high), subst (KindFits pool kind) (sym entry) fits), subst IsMember (sym entry) tt)

    interface_handle_sound : constant_of pool n ≡ Some (constants.Method m true) → 6 ≤ kind → kind ≤ 9 → kind ≢ 8 → (IsSpecial m.name → ⊥) → IsSound pool (entries.MethodHandle kind n)
    interface_handle_sound e low high other special =
        let t = then_some (constant_in pool) (entry_of pool n) (constants.Method m true) e in
        let f = interface_entry pool t.0 m t.2 in
        let entry : entry_of pool n ≡ Some (entries.InterfaceMethod f.0 f.1) = t.1 ∙ ap (λ (x : PoolEntry). Some x) f.2 in
        let fits = subst (λ (name : Option (List ℕ)). (6 ≤ kind) × (kind ≢ 8) × IfSome name (λ x. IsSpecial x → ⊥)) (sym (member_name f.0 f.1 m f.3)) (low, other, special) in
        ((omega (arith, low), omega (arith, high), subst (KindFits pool kind) (sym entry) fits), subst IsMember (sym entry) tt)

  low_kind : (kind : ℕ) (m : MemberReference) (i : Bool) → kind ≤ 4 → handled kind m i ≡ constants.Field m
  low_kind kind m i low = let test : nat_le kind 4 ≡ true = grind (arith, nat_tests, low) in ap (λ (b : Bool). cond b (constants.Field m) (constants.Method m i)) test

  high_kind : (kind : ℕ) (m : MemberReference) (i : Bool) → 5 ≤ kind → handled kind m i ≡ constants.Method m i
  high_kind kind m i high = let test : nat_le kind 4 ≡ false = grind (arith, nat_tests, high) in ap (λ (b : Bool). cond b (constants.Field m) (constants.Method m i)) test

  handled_as : (n : ℕ) (c d : Const) → c ≡ d → constant_of pool n ≡ Some c → constant_of pool n ≡ Some d
  handled_as n c d same e = e ∙ ap (λ (x : Const). Some x) same

  pub handle_sound : (kind n : ℕ) (m : MemberReference) (i : Bool) → IsHandle kind m i → constant_of pool n ≡ Some (handled kind m i) → IsSound pool (entries.MethodHandle kind n)
  handle_sound kind n m true h e = interface_handle_sound kind n m (handled_as n (handled kind m true) (constants.Method m true) (high_kind kind m true (omega (arith, h.1))) e) h.1 h.2 h.3 h.4
  handle_sound kind n m false (inl h) e = field_handle_sound kind n m (handled_as n (handled kind m false) (constants.Field m) (low_kind kind m false h.2) e) h.1 h.2
  handle_sound kind n m false (inr h) e = method_handle_sound kind n m (handled_as n (handled kind m false) (constants.Method m false) (high_kind kind m false h.1) e) h.1 h.2 h.3.0 h.3.1

  pub handle_named : (kind n : ℕ) (m : MemberReference) (i : Bool) → IsHandle kind m i → constant_of pool n ≡ Some (handled kind m i) → constant_in pool (entries.MethodHandle kind n) ≡ Some (constants.MethodHandle kind m i)
  handle_named kind n m true h e = method_handle pool kind n m true (handled_as n (handled kind m true) (constants.Method m true) (high_kind kind m true (omega (arith, h.1))) e)
  handle_named kind n m false (inl h) e = field_handle pool kind n m (handled_as n (handled kind m false) (constants.Field m) (low_kind kind m false h.2) e)
  handle_named kind n m false (inr h) e = method_handle pool kind n m false (handled_as n (handled kind m false) (constants.Method m false) (high_kind kind m false h.1) e)

-- what a handle of a kind names
pub handles_field : (kind : ℕ) (m : MemberReference) (i : Bool) → IsHandle kind m i → kind ≤ 4 → IsFieldReference m
handles_field kind m true h low = let k = h.1 in absurd (omega (arith, k, low))
handles_field kind m false (inl h) low = h.0
handles_field kind m false (inr h) low = let k = h.1 in absurd (omega (arith, k, low))

pub handles_method : (kind : ℕ) (m : MemberReference) (i : Bool) → IsHandle kind m i → 5 ≤ kind → IsMethodReference m
handles_method kind m true h high = h.0
handles_method kind m false (inl h) high = let k = h.2 in absurd (omega (arith, k, high))
handles_method kind m false (inr h) high = h.0

pub handled_field : (kind : ℕ) (m : MemberReference) (i : Bool) → kind ≤ 4 → handled kind m i ≡ constants.Field m
handled_field kind m i low = low_kind [] kind m i low

pub handled_method : (kind : ℕ) (m : MemberReference) (i : Bool) → 5 ≤ kind → handled kind m i ≡ constants.Method m i
handled_method kind m i high = high_kind [] kind m i high
