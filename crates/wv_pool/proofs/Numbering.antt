-- An index stays right when one constant more is entered.
use Rattle.std.proofs.Common.{◌≡◌, ℕ, ◌≤◌, Bool, true, false, cond, List, Option, Some, None, refl, sym, ap, subst, ◌∙◌, ◌⊎◌, inl, inr, arith}
use Rattle.std.specs.Prelude.{nat_le, IsSomeAnd}
use Rattle.std.specs.Option.{option_map, option_and_then}
use Rattle.wv_base.specs.declared.class_file.PoolEntry.{PoolEntry}
use Rattle.wv_base.specs.declared.constant.Const.{Const}
use Rattle.wv_base.specs.declared.constant.Const.TheVariants as constants
use Rattle.wv_base.specs.declared.constant.MemberReference.{MemberReference}
use Rattle.wv_pool.specs.declared.key.Key.{Key}
use Rattle.wv_pool.specs.declared.key.Key.TheVariants as keys
use Rattle.wv_pool.specs.References.{entry_of, text_of}
use Rattle.wv_pool.specs.Constants.{both, named_pair, member_of, member, handle, constant_of}
use Rattle.wv_pool.specs.Index.{Inserts}
use Rattle.wv_pool.specs.Numbers.{two, text_number, class_number, pair_number, member_key, method_key, handled_key, find_key, number_for, Mentions, Enters}
use Rattle.wv_pool.proofs.Behind.{some_is, map_some, text_is, class_is, pair_is, field_handle, method_handle}

pub two_some : (make : ℕ → ℕ → Key) (a b : Option ℕ) (k : Key) → two make a b ≡ Some k → (x : ℕ) × (y : ℕ) × (a ≡ Some x) × (b ≡ Some y) × (make x y ≡ k)
two_some make (Some a) (Some b) k e = (a, b, refl, refl, some_is (make a b) k e)
two_some make (Some a) None k e = absurd cc
two_some make None b k e = absurd cc

-- the constant of a key, with the pool's texts in place of numbers
constant_for : List PoolEntry → Key → Option Const
constant_for pool (keys.Utf8 x) = Some (constants.Utf8 x)
constant_for pool (keys.Integer v) = Some (constants.Integer v)
constant_for pool (keys.Float b) = Some (constants.Float b)
constant_for pool (keys.Long v) = Some (constants.Long v)
constant_for pool (keys.Double b) = Some (constants.Double b)
constant_for pool (keys.Class n) = option_map (λ x. constants.Class x) (text_of pool n)
constant_for pool (keys.String n) = option_map (λ x. constants.String x) (text_of pool n)
constant_for pool (keys.Field a b) = option_map (λ m. constants.Field m) (member pool a b)
constant_for pool (keys.Method a b) = option_map (λ m. constants.Method m false) (member pool a b)
constant_for pool (keys.InterfaceMethod a b) = option_map (λ m. constants.Method m true) (member pool a b)
constant_for pool (keys.NameAndType a b) = option_map (λ p. constants.NameAndType p.0 p.1) (both (text_of pool a) (text_of pool b))
constant_for pool (keys.MethodHandle kind n) = handle pool kind (entry_of pool n)
constant_for pool (keys.MethodType n) = option_map (λ x. constants.MethodType x) (text_of pool n)
constant_for pool (keys.InvokeDynamic b n) = option_map (λ p. constants.InvokeDynamic b p.0 p.1) (named_pair pool n)

module _ (pool : List PoolEntry) (number : Key → Option ℕ) (named : (c : Const) (n : ℕ) → number_for number c ≡ Some n → constant_of pool n ≡ Some c) where
  found_text : (x : List ℕ) (n : ℕ) → text_number number x ≡ Some n → text_of pool n ≡ Some x
  found_text x n h = text_is pool n x (named (constants.Utf8 x) n h)

  found_member : (make : ℕ → ℕ → Key) (m : MemberReference) (k : Key) → member_key number make m ≡ Some k → (a : ℕ) × (b : ℕ) × (make a b ≡ k) × (member pool a b ≡ Some m)
  found_member make m k h =
      let t = two_some make (class_number number m.owner) (pair_number number m.name m.descriptor) k h in
      let owner = class_is pool t.0 m.owner (named (constants.Class m.owner) t.0 t.2) in
      let pair = pair_is pool t.1 m.name m.descriptor (named (constants.NameAndType m.name m.descriptor) t.1 t.3) in
      (t.0, t.1, t.4, ap (λ (o : Option (List ℕ)). member_of o (named_pair pool t.1)) owner ∙ ap (member_of (Some m.owner)) pair)

  found_handled : (kind : ℕ) (m : MemberReference) (i : Bool) (n : ℕ) → option_and_then number (handled_key number kind m i) ≡ Some n → handle pool kind (entry_of pool n) ≡ Some (constants.MethodHandle kind m i)
  found_handled kind m true n h = go (nat_le kind 4) h
    where
      go : (b : Bool) → option_and_then number (cond b None (method_key number true m)) ≡ Some n → handle pool kind (entry_of pool n) ≡ Some (constants.MethodHandle kind m true)
      go true e = absurd cc
      go false e = method_handle pool kind n m true (named (constants.Method m true) n e)
  found_handled kind m false n h = go (nat_le kind 4) h
    where
      go : (b : Bool) → option_and_then number (cond b (member_key number (λ a b. keys.Field a b) m) (method_key number false m)) ≡ Some n → handle pool kind (entry_of pool n) ≡ Some (constants.MethodHandle kind m false)
      go true e = field_handle pool kind n m (named (constants.Field m) n e)
      go false e = method_handle pool kind n m false (named (constants.Method m false) n e)

  -- a constant has one key at most, and a key is one constant's
  key_constant : (c : Const) (k : Key) → find_key number c ≡ Some k → constant_for pool k ≡ Some c
  unfolding constant_for
  key_constant (constants.Utf8 x) k h = ap (constant_for pool) (sym (some_is (keys.Utf8 x) k h))
  key_constant (constants.Integer v) k h = ap (constant_for pool) (sym (some_is (keys.Integer v) k h))
  key_constant (constants.Float v) k h = ap (constant_for pool) (sym (some_is (keys.Float v) k h))
  key_constant (constants.Long v) k h = ap (constant_for pool) (sym (some_is (keys.Long v) k h))
  key_constant (constants.Double v) k h = ap (constant_for pool) (sym (some_is (keys.Double v) k h))
  key_constant (constants.Class x) k h = let t = map_some (λ n. keys.Class n) (text_number number x) k h in ap (constant_for pool) (sym t.2) ∙ ap (option_map (λ y. constants.Class y)) (found_text x t.0 t.1)
  key_constant (constants.String x) k h = let t = map_some (λ n. keys.String n) (text_number number x) k h in ap (constant_for pool) (sym t.2) ∙ ap (option_map (λ y. constants.String y)) (found_text x t.0 t.1)
  key_constant (constants.MethodType x) k h = let t = map_some (λ n. keys.MethodType n) (text_number number x) k h in ap (constant_for pool) (sym t.2) ∙ ap (option_map (λ y. constants.MethodType y)) (found_text x t.0 t.1)
  key_constant (constants.Field m) k h = let t = found_member (λ a b. keys.Field a b) m k h in ap (constant_for pool) (sym t.2) ∙ ap (option_map (λ y. constants.Field y)) t.3
  key_constant (constants.Method m true) k h = let t = found_member (λ a b. keys.InterfaceMethod a b) m k h in ap (constant_for pool) (sym t.2) ∙ ap (option_map (λ y. constants.Method y true)) t.3
  key_constant (constants.Method m false) k h = let t = found_member (λ a b. keys.Method a b) m k h in ap (constant_for pool) (sym t.2) ∙ ap (option_map (λ y. constants.Method y false)) t.3
  key_constant (constants.NameAndType x y) k h =
      let t = two_some (λ a b. keys.NameAndType a b) (text_number number x) (text_number number y) k h in
      ap (constant_for pool) (sym t.4) ∙ ap (λ (o : Option (List ℕ)). option_map (λ p. constants.NameAndType p.0 p.1) (both o (text_of pool t.1))) (found_text x t.0 t.2) ∙ ap (λ (o : Option (List ℕ)). option_map (λ p. constants.NameAndType p.0 p.1) (both (Some x) o)) (found_text y t.1 t.3)
  key_constant (constants.MethodHandle kind m i) k h = let t = map_some (λ n. keys.MethodHandle kind n) (option_and_then number (handled_key number kind m i)) k h in ap (constant_for pool) (sym t.2) ∙ found_handled kind m i t.0 t.1
  key_constant (constants.InvokeDynamic b x y) k h =
      let t = map_some (λ n. keys.InvokeDynamic b n) (pair_number number x y) k h in
      ap (constant_for pool) (sym t.2) ∙ ap (option_map (λ p. constants.InvokeDynamic b p.0 p.1)) (pair_is pool t.0 x y (named (constants.NameAndType x y) t.0 t.1))

  pub one_constant : (c d : Const) (k : Key) → find_key number c ≡ Some k → find_key number d ≡ Some k → c ≡ d
  one_constant c d k hc hd = some_is c d (sym (key_constant c k hc) ∙ key_constant d k hd)

  -- the parts of an entered constant were entered
  module _ (entered : ℕ → Type 0) (known : (c : Const) (n : ℕ) → number_for number c ≡ Some n → entered n) where
    known_member : (make : ℕ → ℕ → Key) (m : MemberReference) (k : Key) (j : ℕ) → ((a b : ℕ) → Mentions (make a b) j → (a ≡ j) ⊎ (b ≡ j)) → member_key number make m ≡ Some k → Mentions k j → entered j
    known_member make m k j parts h mention =
        let t = two_some make (class_number number m.owner) (pair_number number m.name m.descriptor) k h in
        elim (parts t.0 t.1 (subst (λ (q : Key). Mentions q j) (sym t.4) mention)) [
          | inl e ↦ subst entered e (known (constants.Class m.owner) t.0 t.2)
          | inr e ↦ subst entered e (known (constants.NameAndType m.name m.descriptor) t.1 t.3)
        ]

    known_handled : (kind : ℕ) (m : MemberReference) (i : Bool) (n : ℕ) → option_and_then number (handled_key number kind m i) ≡ Some n → entered n
    known_handled kind m true n h = go (nat_le kind 4) h
      where
        go : (b : Bool) → option_and_then number (cond b None (method_key number true m)) ≡ Some n → entered n
        go true e = absurd cc
        go false e = known (constants.Method m true) n e
    known_handled kind m false n h = go (nat_le kind 4) h
      where
        go : (b : Bool) → option_and_then number (cond b (member_key number (λ a b. keys.Field a b) m) (method_key number false m)) ≡ Some n → entered n
        go true e = known (constants.Field m) n e
        go false e = known (constants.Method m false) n e

    pub parts_known : (c : Const) (k : Key) (j : ℕ) → find_key number c ≡ Some k → Mentions k j → entered j
    parts_known (constants.Utf8 x) k j h mention = absurd (subst (λ (q : Key). Mentions q j) (sym (some_is (keys.Utf8 x) k h)) mention)
    parts_known (constants.Integer v) k j h mention = absurd (subst (λ (q : Key). Mentions q j) (sym (some_is (keys.Integer v) k h)) mention)
    parts_known (constants.Float v) k j h mention = absurd (subst (λ (q : Key). Mentions q j) (sym (some_is (keys.Float v) k h)) mention)
    parts_known (constants.Long v) k j h mention = absurd (subst (λ (q : Key). Mentions q j) (sym (some_is (keys.Long v) k h)) mention)
    parts_known (constants.Double v) k j h mention = absurd (subst (λ (q : Key). Mentions q j) (sym (some_is (keys.Double v) k h)) mention)
    parts_known (constants.Class x) k j h mention = let t = map_some (λ n. keys.Class n) (text_number number x) k h in subst entered (subst (λ (q : Key). Mentions q j) (sym t.2) mention) (known (constants.Utf8 x) t.0 t.1)
    parts_known (constants.String x) k j h mention = let t = map_some (λ n. keys.String n) (text_number number x) k h in subst entered (subst (λ (q : Key). Mentions q j) (sym t.2) mention) (known (constants.Utf8 x) t.0 t.1)
    parts_known (constants.MethodType x) k j h mention = let t = map_some (λ n. keys.MethodType n) (text_number number x) k h in subst entered (subst (λ (q : Key). Mentions q j) (sym t.2) mention) (known (constants.Utf8 x) t.0 t.1)
    parts_known (constants.Field m) k j h mention = known_member (λ a b. keys.Field a b) m k j (λ a b p. p) h mention
    parts_known (constants.Method m true) k j h mention = known_member (λ a b. keys.InterfaceMethod a b) m k j (λ a b p. p) h mention
    parts_known (constants.Method m false) k j h mention = known_member (λ a b. keys.Method a b) m k j (λ a b p. p) h mention
    parts_known (constants.NameAndType x y) k j h mention =
        let t = two_some (λ a b. keys.NameAndType a b) (text_number number x) (text_number number y) k h in
        elim (subst (λ (q : Key). Mentions q j) (sym t.4) mention) as (λ _. entered j) [
          | inl e ↦ subst entered e (known (constants.Utf8 x) t.0 t.2)
          | inr e ↦ subst entered e (known (constants.Utf8 y) t.1 t.3)
        ]
    parts_known (constants.MethodHandle kind m i) k j h mention = let t = map_some (λ n. keys.MethodHandle kind n) (option_and_then number (handled_key number kind m i)) k h in subst entered (subst (λ (q : Key). Mentions q j) (sym t.2) mention) (known_handled kind m i t.0 t.1)
    parts_known (constants.InvokeDynamic b x y) k j h mention = let t = map_some (λ n. keys.InvokeDynamic b n) (pair_number number x y) k h in subst entered (subst (λ (q : Key). Mentions q j) (sym t.2) mention) (known (constants.NameAndType x y) t.0 t.1)

-- ---- a key more

none_right : (make : ℕ → ℕ → Key) (a : Option ℕ) → two make a None ≡ None
none_right make None = refl
none_right make (Some x) = refl

module _ (pool : List PoolEntry) (entered : ℕ → Type 0) (old new : Key → Option ℕ) (right : Enters pool entered old) (c : Const) (k : Key) (n : ℕ)
    (fresh : entered n → ⊥) (found : find_key old c ≡ Some k) (free : old k ≡ None) (inserts : Inserts old new k n) where
  -- a number that was looked up before and after
  abbrev Later : Option ℕ → Option ℕ → Type 0
  Later before after = (after ≡ before) ⊎ ((before ≡ None) × (after ≡ Some n))

  -- a key that was made before and after
  abbrev Made : Option Key → Option Key → Type 0
  Made before after = (after ≡ before) ⊎ ((before ≡ None) × ((q : Key) × (after ≡ Some q) × Mentions q n))

  map_made : (make : ℕ → Key) (before after : Option ℕ) → Mentions (make n) n → Later before after → Made (option_map make before) (option_map make after)
  map_made make before after m (inl e) = inl (ap (option_map make) e)
  map_made make before after m (inr e) = inr (ap (option_map make) e.0, (make n, ap (option_map make) e.1, m))

  two_made : (make : ℕ → ℕ → Key) (a a' b b' : Option ℕ) → ((x : ℕ) → Mentions (make n x) n) → ((x : ℕ) → Mentions (make x n) n) → Later a a' → Later b b' → Made (two make a b) (two make a' b')
  two_made make a a' b b' l r (inl e) (inl f) = inl (ap (λ (o : Option ℕ). two make o b') e ∙ ap (λ (o : Option ℕ). two make a o) f)
  two_made make a a' b None l r (inr e) f = inl (none_right make a' ∙ sym (ap (λ (o : Option ℕ). two make o b) e.0))
  two_made make a a' b (Some y) l r (inr e) f = inr (ap (λ (o : Option ℕ). two make o b) e.0, (make n y, ap (λ (o : Option ℕ). two make o (Some y)) e.1, l y))
  two_made make None a' b b' l r (inl e) (inr f) = inl (ap (λ (o : Option ℕ). two make o b') e)
  two_made make (Some x) a' b b' l r (inl e) (inr f) = inr (ap (λ (o : Option ℕ). two make (Some x) o) f.0, (make x n, ap (λ (o : Option ℕ). two make o b') e ∙ ap (two make (Some x)) f.1, r x))

  old_named : (d : Const) (m : ℕ) → number_for old d ≡ Some m → constant_of pool m ≡ Some d
  old_named d m h = (right.named d m h).0

  -- what a constant's number is afterwards: what it was, or the new one
  abbrev Settled : Const → Type 0
  Settled d = (number_for new d ≡ number_for old d) ⊎ ((d ≡ c) × (number_for new d ≡ Some n))

  none_before : number_for old c ≡ None
  none_before = ap (option_and_then old) found ∙ free

  settled_at : (d : Const) (q : Key) → find_key old d ≡ Some q → find_key new d ≡ Some q → Settled d
  settled_at d q before after = elim (inserts.others q) [
    | inl e ↦ inr (one_constant pool old old_named d c k (before ∙ ap (λ (r : Key). Some r) e) found, ap (option_and_then new) after ∙ ap new e ∙ inserts.here)
    | inr same ↦ inl (ap (option_and_then new) after ∙ same ∙ ap (option_and_then old) (sym before))
  ]

  settled_none : (d : Const) (q : Key) → find_key old d ≡ None → find_key new d ≡ Some q → Mentions q n → Settled d
  settled_none d q before after mention = elim (inserts.others q) [
    | inl e ↦ absurd (fresh (parts_known pool old old_named entered (λ d m h. (right.named d m h).1) c k n found (subst (λ (r : Key). Mentions r n) e mention)))
    | inr same ↦ go (old q) refl same
  ]
    where
      go : (o : Option ℕ) → old q ≡ o → new q ≡ old q → (number_for new d ≡ number_for old d) ⊎ ((d ≡ c) × (number_for new d ≡ Some n))
      go None e same = inl (ap (option_and_then new) after ∙ same ∙ e ∙ ap (option_and_then old) (sym before))
      go (Some f) e same = absurd (fresh (right.mentioned q f n e mention))

  settled_of : (d : Const) → Made (find_key old d) (find_key new d) → Settled d
  settled_of d (inl e) = go (find_key old d) refl
    where
      go : (o : Option Key) → find_key old d ≡ o → Settled d
      go None before = inl (ap (option_and_then new) (e ∙ before) ∙ ap (option_and_then old) (sym before))
      go (Some q) before = settled_at d q before (e ∙ before)
  settled_of d (inr m) = settled_none d m.1.0 m.0 m.1.1 m.1.2

  later_of : (d : Const) → Settled d → Later (number_for old d) (number_for new d)
  later_of d (inl e) = inl e
  later_of d (inr e) = inr (ap (number_for old) e.0 ∙ none_before, e.1)

  text_settled : (x : List ℕ) → Settled (constants.Utf8 x)
  text_settled x = settled_at (constants.Utf8 x) (keys.Utf8 x) refl refl

  text_later : (x : List ℕ) → Later (text_number old x) (text_number new x)
  text_later x = later_of (constants.Utf8 x) (text_settled x)

  class_later : (x : List ℕ) → Later (class_number old x) (class_number new x)
  class_later x = later_of (constants.Class x) (settled_of (constants.Class x) (map_made (λ n. keys.Class n) (text_number old x) (text_number new x) refl (text_later x)))

  pair_made : (x y : List ℕ) → Made (find_key old (constants.NameAndType x y)) (find_key new (constants.NameAndType x y))
  pair_made x y = two_made (λ a b. keys.NameAndType a b) (text_number old x) (text_number new x) (text_number old y) (text_number new y) (λ _. inl refl) (λ _. inr refl) (text_later x) (text_later y)

  pair_later : (x y : List ℕ) → Later (pair_number old x y) (pair_number new x y)
  pair_later x y = later_of (constants.NameAndType x y) (settled_of (constants.NameAndType x y) (pair_made x y))

  member_made : (make : ℕ → ℕ → Key) (m : MemberReference) → ((x : ℕ) → Mentions (make n x) n) → ((x : ℕ) → Mentions (make x n) n) → Made (member_key old make m) (member_key new make m)
  member_made make m l r = two_made make (class_number old m.owner) (class_number new m.owner) (pair_number old m.name m.descriptor) (pair_number new m.name m.descriptor) l r (class_later m.owner) (pair_later m.name m.descriptor)

  method_made : (m : MemberReference) (i : Bool) → Made (method_key old i m) (method_key new i m)
  method_made m true = member_made (λ a b. keys.InterfaceMethod a b) m (λ _. inl refl) (λ _. inr refl)
  method_made m false = member_made (λ a b. keys.Method a b) m (λ _. inl refl) (λ _. inr refl)

  handled_later : (kind : ℕ) (m : MemberReference) (i : Bool) → Later (option_and_then old (handled_key old kind m i)) (option_and_then new (handled_key new kind m i))
  handled_later kind m true = go (nat_le kind 4)
    where
      go : (b : Bool) → Later (option_and_then old (cond b None (method_key old true m))) (option_and_then new (cond b None (method_key new true m)))
      go true = inl refl
      go false = later_of (constants.Method m true) (settled_of (constants.Method m true) (method_made m true))
  handled_later kind m false = go (nat_le kind 4)
    where
      go : (b : Bool) → Later (option_and_then old (cond b (member_key old (λ a b. keys.Field a b) m) (method_key old false m))) (option_and_then new (cond b (member_key new (λ a b. keys.Field a b) m) (method_key new false m)))
      go true = later_of (constants.Field m) (settled_of (constants.Field m) (member_made (λ a b. keys.Field a b) m (λ _. inl refl) (λ _. inr refl)))
      go false = later_of (constants.Method m false) (settled_of (constants.Method m false) (method_made m false))

  made : (d : Const) → Made (find_key old d) (find_key new d)
  made (constants.Utf8 x) = inl refl
  made (constants.Integer v) = inl refl
  made (constants.Float v) = inl refl
  made (constants.Long v) = inl refl
  made (constants.Double v) = inl refl
  made (constants.Class x) = map_made (λ n. keys.Class n) (text_number old x) (text_number new x) refl (text_later x)
  made (constants.String x) = map_made (λ n. keys.String n) (text_number old x) (text_number new x) refl (text_later x)
  made (constants.MethodType x) = map_made (λ n. keys.MethodType n) (text_number old x) (text_number new x) refl (text_later x)
  made (constants.Field m) = member_made (λ a b. keys.Field a b) m (λ _. inl refl) (λ _. inr refl)
  made (constants.Method m i) = method_made m i
  made (constants.NameAndType x y) = pair_made x y
  made (constants.MethodHandle kind m i) = map_made (λ n. keys.MethodHandle kind n) (option_and_then old (handled_key old kind m i)) (option_and_then new (handled_key new kind m i)) refl (handled_later kind m i)
  made (constants.InvokeDynamic b x y) = map_made (λ n. keys.InvokeDynamic b n) (pair_number old x y) (pair_number new x y) refl (pair_later x y)

  -- a number that was known stays
  pub number_kept : (d : Const) (f : ℕ) → number_for old d ≡ Some f → number_for new d ≡ Some f
  number_kept d f h = go (settled_of d (made d))
    where
      go : Settled d → number_for new d ≡ Some f
      go (inl e) = e ∙ h
      go (inr e) = let never : ◌≡◌ {A = Option ℕ} None (Some f) = sym none_before ∙ ap (number_for old) (sym e.0) ∙ h in absurd cc

  pub number_now : number_for new c ≡ Some n
  number_now = go (made c)
    where
      go : Made (find_key old c) (find_key new c) → number_for new c ≡ Some n
      go (inl e) = ap (option_and_then new) (e ∙ found) ∙ inserts.here
      go (inr m) = let never : ◌≡◌ {A = Option Key} (Some k) None = sym found ∙ m.0 in absurd cc

  pub enters : constant_of pool n ≡ Some c → Enters pool (λ m. entered m ⊎ (m ≡ n)) new
  enters names = record {
    named = λ d m h. go_named d m h (settled_of d (made d));
    least = λ d m is h. go_least d m is h (settled_of d (made d));
    mentioned = λ q f m h mention. go_mentioned q f m h mention (inserts.others q);
  }
    where
      go_named : (d : Const) (m : ℕ) → number_for new d ≡ Some m → Settled d → (constant_of pool m ≡ Some d) × (entered m ⊎ (m ≡ n))
      go_named d m h (inl e) = let r = right.named d m (sym e ∙ h) in (r.0, inl r.1)
      go_named d m h (inr e) = let same : n ≡ m = some_is n m (sym e.1 ∙ h) in (ap (constant_of pool) (sym same) ∙ names ∙ ap (λ (x : Const). Some x) (sym e.0), inr (sym same))

      go_least : (d : Const) (m : ℕ) → entered m ⊎ (m ≡ n) → constant_of pool m ≡ Some d → Settled d → IsSomeAnd (number_for new d) (λ first. first ≤ m)
      go_least d m (inl is) h (inl e) = subst (λ (o : Option ℕ). IsSomeAnd o (λ first. first ≤ m)) (sym e) (right.least d m is h)
      go_least d m (inr is) h s =
          let same : d ≡ c = some_is d c (sym h ∙ ap (constant_of pool) is ∙ names) in
          subst (λ (o : Option ℕ). IsSomeAnd o (λ first. first ≤ m)) (sym (ap (number_for new) same ∙ number_now)) (omega (arith, is))
      go_least d m (inl is) h (inr e) =
          absurd (subst (λ (o : Option ℕ). IsSomeAnd o (λ first. first ≤ m)) none_before (right.least c m is (h ∙ ap (λ (x : Const). Some x) e.0)))

      go_mentioned : (q : Key) (f m : ℕ) → new q ≡ Some f → Mentions q m → (q ≡ k) ⊎ (new q ≡ old q) → entered m ⊎ (m ≡ n)
      go_mentioned q f m h mention (inl e) = inl (parts_known pool old old_named entered (λ d m h. (right.named d m h).1) c k m found (subst (λ (r : Key). Mentions r m) e mention))
      go_mentioned q f m h mention (inr same) = inl (right.mentioned q f m (sym same ∙ h) mention)
