-- Putting a constant that no number names yet.
use Rattle.std.proofs.Common.{◌≡◌, ℕ, zero, suc, ◌+◌, ◌≤◌, ◌<◌, ◌-◌, Bool, true, false, cond, List, [], ◌∷◌, ◌++◌, length, Option, Some, None, refl, sym, ap, subst, ◌∙◌, ◌⊎◌, inl, inr, arith, add-one, lit≤}
use Rattle.std.specs.Prelude.{slice_get, IsSomeAnd, IfSome, IfNone, nat_le, unwrap_or}
use Rattle.std.specs.Option.{option_map, option_and_then}
use Rattle.std.specs.List.{AllByRecursion}
use Rattle.std.proofs.lemmas.List.{length-append}
use Rattle.std.proofs.lemmas.Bool.{cases_lt}
use Rattle.std.proofs.lemmas.Bool.Decides.{nat_tests}
use Rattle.wv_base.specs.declared.class_file.PoolEntry.{PoolEntry}
use Rattle.wv_base.specs.declared.class_file.PoolEntry.TheVariants as entries
use Rattle.wv_base.specs.declared.constant.Const.{Const}
use Rattle.wv_base.specs.declared.constant.Const.TheVariants as constants
use Rattle.wv_base.specs.declared.constant.MemberReference.{MemberReference}
use Rattle.wv_pool.specs.declared.key.Key.{Key}
use Rattle.wv_pool.specs.declared.key.Key.TheVariants as keys
use Rattle.wv_pool.specs.Reading.{is_wide}
use Rattle.wv_pool.specs.Entries.{IsEntry}
use Rattle.wv_pool.specs.References.{entry_of, text_in, text_of, class_of, pair_of, KindFits, IsSound, IsPool}
use Rattle.wv_pool.specs.Constants.{class_name, both, pair_texts, named_pair, member_of, member, handle, constant_in, constant_of}
use Rattle.wv_pool.specs.Index.{Inserts}
use Rattle.wv_pool.specs.Numbers.{two, text_number, class_number, pair_number, member_key, method_key, handled_key, find_key, number_for, IsIn, Enters, IsLeast, Named}
use Rattle.wv_pool.specs.Adding.{slots_of}
use Rattle.wv_pool.specs.Building.{level_in, level_at, key_with}
use Rattle.wv_pool.proofs.Behind.{some_is, map_some, then_some}
use Rattle.wv_pool.proofs.Growing.{constant_grows, constant_in_grows}
use Rattle.wv_pool.proofs.SoundPools.{some_and, pair_entry, class_entry, constant_back, pool_grows}
use Rattle.wv_pool.proofs.Numbering.{enters}

get_within : {X : Type 0} (xs : List X) (i : ℕ) (x : X) → slice_get xs i ≡ Some x → i < length xs
get_within [] i x e = absurd cc
get_within (a ∷ xs) zero x e = omega arith
get_within (a ∷ xs) (suc i) x e = omega (arith, get_within xs i x e)

pub number_in : (pool : List PoolEntry) (n : ℕ) (c : Const) → constant_of pool n ≡ Some c → IsIn pool n
number_in pool zero c e = omega arith
number_in pool (suc place) c e = let t = then_some (constant_in pool) (slice_get pool place) c e in omega (arith, get_within pool place t.0 t.1)

text_entry : (o : Option PoolEntry) (x : List ℕ) → text_in o ≡ Some x → o ≡ Some (entries.Utf8 x)
text_entry None x e = absurd cc
text_entry (Some (entries.Utf8 y)) x e = ap (λ (t : List ℕ). Some (entries.Utf8 t)) (some_is y x e)
text_entry (Some (entries.Integer v)) x e = absurd cc
text_entry (Some (entries.Float b)) x e = absurd cc
text_entry (Some (entries.Long v)) x e = absurd cc
text_entry (Some (entries.Double b)) x e = absurd cc
text_entry (Some (entries.Class n)) x e = absurd cc
text_entry (Some (entries.String n)) x e = absurd cc
text_entry (Some (entries.Field m n)) x e = absurd cc
text_entry (Some (entries.Method m n)) x e = absurd cc
text_entry (Some (entries.InterfaceMethod m n)) x e = absurd cc
text_entry (Some (entries.NameAndType m n)) x e = absurd cc
text_entry (Some (entries.MethodHandle m n)) x e = absurd cc
text_entry (Some (entries.MethodType n)) x e = absurd cc
text_entry (Some (entries.InvokeDynamic m n)) x e = absurd cc
text_entry (Some entries.Unusable) x e = absurd cc

pub both_some : (a b : Option (List ℕ)) (p : List ℕ × List ℕ) → both a b ≡ Some p → (a ≡ Some p.0) × (b ≡ Some p.1)
both_some (Some a) (Some b) p e = let same : (a, b) ≡ p = some_is (a, b) p e in (ap (λ (q : List ℕ × List ℕ). Some q.0) same, ap (λ (q : List ℕ × List ℕ). Some q.1) same)
both_some (Some a) None p e = absurd cc
both_some None b p e = absurd cc

pub texts_some : (pool : List PoolEntry) (o : Option (ℕ × ℕ)) (p : List ℕ × List ℕ) → pair_texts pool o ≡ Some p → (q : ℕ × ℕ) × (o ≡ Some q) × (both (text_of pool q.0) (text_of pool q.1) ≡ Some p)
texts_some pool None p e = absurd cc
texts_some pool (Some q) p e = (q, refl, e)

pub member_some : (a : Option (List ℕ)) (b : Option (List ℕ × List ℕ)) (m : MemberReference) → member_of a b ≡ Some m → (a ≡ Some m.owner) × (b ≡ Some (m.name, m.descriptor))
member_some (Some x) (Some p) m e = let made : MemberReference = record { owner = x; name = p.0; descriptor = p.1 } in let same : made ≡ m = some_is made m e in
    (ap (λ (r : MemberReference). Some r.owner) same, ap (λ (r : MemberReference). Some (r.name, r.descriptor)) same)
member_some (Some x) None m e = absurd cc
member_some None b m e = absurd cc

-- a reader of numbers that gives, of each number below a level, the one that the index has of its constant
module _ (pool : List PoolEntry) (number : Key → Option ℕ) (first : ℕ → ℕ) (level : ℕ)
    (there : (n : ℕ) (c : Const) → level_at (entry_of pool n) < level → constant_of pool n ≡ Some c → number_for number c ≡ Some (first n)) where
  text_there : (n : ℕ) (x : List ℕ) → 0 < level → text_of pool n ≡ Some x → text_number number x ≡ Some (first n)
  text_there n x low e = let is = text_entry (entry_of pool n) x e in there n (constants.Utf8 x) (below (entry_of pool n) 0 is low) (ap (option_and_then (constant_in pool)) is)
    where
      below : (o : Option PoolEntry) (k : ℕ) → o ≡ Some (entries.Utf8 x) → 0 < level → level_at o < level
      below o k is low = rw is low

  class_there : (n : ℕ) (x : List ℕ) → 1 < level → class_name pool n ≡ Some x → class_number number x ≡ Some (first n)
  class_there n x low e =
      let t = then_some (text_of pool) (class_of pool n) x e in
      let is = class_entry (entry_of pool n) t.0 t.1 in
      there n (constants.Class x) (rw is low) (ap (option_and_then (constant_in pool)) is ∙ ap (option_map (λ y. constants.Class y)) t.2)

  pair_there : (n : ℕ) (p : List ℕ × List ℕ) → 1 < level → named_pair pool n ≡ Some p → pair_number number p.0 p.1 ≡ Some (first n)
  pair_there n p low e =
      let t = texts_some pool (pair_of pool n) p e in
      let is = pair_entry (entry_of pool n) t.0 t.1 in
      there n (constants.NameAndType p.0 p.1) (rw is low) (ap (option_and_then (constant_in pool)) is ∙ ap (option_map (λ q. constants.NameAndType q.0 q.1)) t.2)

  member_there : (make : ℕ → ℕ → Key) (c p : ℕ) (m : MemberReference) → 1 < level → member pool c p ≡ Some m → member_key number make m ≡ Some (make (first c) (first p))
  member_there make c p m low e =
      let t = member_some (class_name pool c) (named_pair pool p) m e in
      ap (λ (o : Option ℕ). two make o (pair_number number m.name m.descriptor)) (class_there c m.owner low t.0) ∙ ap (two make (Some (first c))) (pair_there p (m.name, m.descriptor) low t.1)

  -- what a handle names has a number
  handled_there : (kind n : ℕ) (o : Option PoolEntry) (c : Const) → 2 < level → entry_of pool n ≡ o → KindFits pool kind o → handle pool kind o ≡ Some c → find_key number c ≡ Some (keys.MethodHandle kind (first n))
  handled_there kind n None c low is fits e = absurd cc
  handled_there kind r' (Some (entries.Utf8 x)) c low is fits e = absurd cc
  handled_there kind r' (Some (entries.Integer v)) c low is fits e = absurd cc
  handled_there kind r' (Some (entries.Float b)) c low is fits e = absurd cc
  handled_there kind r' (Some (entries.Long v)) c low is fits e = absurd cc
  handled_there kind r' (Some (entries.Double b)) c low is fits e = absurd cc
  handled_there kind r' (Some (entries.Class n)) c low is fits e = absurd cc
  handled_there kind r' (Some (entries.String n)) c low is fits e = absurd cc
  handled_there kind r' (Some (entries.Field m n)) c low is fits e =
      let r = map_some (λ x. constants.MethodHandle kind x false) (member pool m n) c e in
      let f = there r' (constants.Field r.0) (rw is low) (ap (option_and_then (constant_in pool)) is ∙ ap (option_map (λ x. constants.Field x)) r.1) in
      let bound = fits in
      let test : nat_le kind 4 ≡ true = grind (arith, nat_tests, bound) in
      let key : option_and_then number (handled_key number kind r.0 false) ≡ Some (first r') = ap (λ (b : Bool). option_and_then number (cond b (member_key number (λ x y. keys.Field x y) r.0) (method_key number false r.0))) test ∙ f in
      ap (find_key number) (sym r.2) ∙ ap (option_map (λ x. keys.MethodHandle kind x)) key
  handled_there kind r' (Some (entries.Method m n)) c low is fits e =
      let r = map_some (λ x. constants.MethodHandle kind x false) (member pool m n) c e in
      let f = there r' (constants.Method r.0 false) (rw is low) (ap (option_and_then (constant_in pool)) is ∙ ap (option_map (λ x. constants.Method x false)) r.1) in
      let bound = fits.0 in
      let test : nat_le kind 4 ≡ false = grind (arith, nat_tests, bound) in
      let key : option_and_then number (handled_key number kind r.0 false) ≡ Some (first r') = ap (λ (b : Bool). option_and_then number (cond b (member_key number (λ x y. keys.Field x y) r.0) (method_key number false r.0))) test ∙ f in
      ap (find_key number) (sym r.2) ∙ ap (option_map (λ x. keys.MethodHandle kind x)) key
  handled_there kind r' (Some (entries.InterfaceMethod m n)) c low is fits e =
      let r = map_some (λ x. constants.MethodHandle kind x true) (member pool m n) c e in
      let f = there r' (constants.Method r.0 true) (rw is low) (ap (option_and_then (constant_in pool)) is ∙ ap (option_map (λ x. constants.Method x true)) r.1) in
      let bound = fits.0 in
      let test : nat_le kind 4 ≡ false = grind (arith, nat_tests, bound) in
      let key : option_and_then number (handled_key number kind r.0 true) ≡ Some (first r') = ap (λ (b : Bool). option_and_then number (cond b None (method_key number true r.0))) test ∙ f in
      ap (find_key number) (sym r.2) ∙ ap (option_map (λ x. keys.MethodHandle kind x)) key
  handled_there kind r' (Some (entries.NameAndType m n)) c low is fits e = absurd cc
  handled_there kind r' (Some (entries.MethodHandle m n)) c low is fits e = absurd cc
  handled_there kind r' (Some (entries.MethodType n)) c low is fits e = absurd cc
  handled_there kind r' (Some (entries.InvokeDynamic m n)) c low is fits e = absurd cc
  handled_there kind r' (Some entries.Unusable) c low is fits e = absurd cc

  -- the key of a sound entry's constant is the entry's
  pub key_there : (e : PoolEntry) (c : Const) → level_in e ≤ level → IsSound pool e → constant_in pool e ≡ Some c → find_key number c ≡ key_with first e
  key_there (entries.Utf8 x) c low h is = ap (find_key number) (sym (some_is (constants.Utf8 x) c is))
  key_there (entries.Integer v) c low h is = ap (find_key number) (sym (some_is (constants.Integer v) c is))
  key_there (entries.Float b) c low h is = ap (find_key number) (sym (some_is (constants.Float b) c is))
  key_there (entries.Long v) c low h is = ap (find_key number) (sym (some_is (constants.Long v) c is))
  key_there (entries.Double b) c low h is = ap (find_key number) (sym (some_is (constants.Double b) c is))
  key_there (entries.Class n) c low h is = let t = map_some (λ x. constants.Class x) (text_of pool n) c is in ap (find_key number) (sym t.2) ∙ ap (option_map (λ x. keys.Class x)) (text_there n t.0 (omega arith) t.1)
  key_there (entries.String n) c low h is = let t = map_some (λ x. constants.String x) (text_of pool n) c is in ap (find_key number) (sym t.2) ∙ ap (option_map (λ x. keys.String x)) (text_there n t.0 (omega arith) t.1)
  key_there (entries.Field m n) c low h is = let t = map_some (λ x. constants.Field x) (member pool m n) c is in ap (find_key number) (sym t.2) ∙ member_there (λ a b. keys.Field a b) m n t.0 (omega arith) t.1
  key_there (entries.Method m n) c low h is = let t = map_some (λ x. constants.Method x false) (member pool m n) c is in ap (find_key number) (sym t.2) ∙ member_there (λ a b. keys.Method a b) m n t.0 (omega arith) t.1
  key_there (entries.InterfaceMethod m n) c low h is = let t = map_some (λ x. constants.Method x true) (member pool m n) c is in ap (find_key number) (sym t.2) ∙ member_there (λ a b. keys.InterfaceMethod a b) m n t.0 (omega arith) t.1
  key_there (entries.NameAndType m n) c low h is =
      let t = map_some (λ p. constants.NameAndType p.0 p.1) (both (text_of pool m) (text_of pool n)) c is in
      let b = both_some (text_of pool m) (text_of pool n) t.0 t.1 in
      ap (find_key number) (sym t.2) ∙ ap (λ (o : Option ℕ). two (λ a b. keys.NameAndType a b) o (text_number number t.0.1)) (text_there m t.0.0 (omega arith) b.0) ∙ ap (two (λ a b. keys.NameAndType a b) (Some (first m))) (text_there n t.0.1 (omega arith) b.1)
  key_there (entries.MethodHandle m n) c low h is = handled_there m n (entry_of pool n) c (omega arith) refl h.0.2 is
  key_there (entries.MethodType n) c low h is = let t = map_some (λ x. constants.MethodType x) (text_of pool n) c is in ap (find_key number) (sym t.2) ∙ ap (option_map (λ x. keys.MethodType x)) (text_there n t.0 (omega arith) t.1)
  key_there (entries.InvokeDynamic m n) c low h is = let t = map_some (λ p. constants.InvokeDynamic m p.0 p.1) (named_pair pool n) c is in ap (find_key number) (sym t.2) ∙ ap (option_map (λ x. keys.InvokeDynamic m x)) (pair_there n t.0 (omega arith) t.1)
  key_there entries.Unusable c low h is = absurd cc

-- the number that an index has of what a number names
number_of : List PoolEntry → (Key → Option ℕ) → ℕ → ℕ
number_of pool number n = unwrap_or (option_and_then (number_for number) (constant_of pool n)) 0

number_there : (pool : List PoolEntry) (number : Key → Option ℕ) → Enters pool (IsIn pool) number → (n : ℕ) (c : Const) → constant_of pool n ≡ Some c → number_for number c ≡ Some (number_of pool number n)
unfolding number_of
number_there pool number right n c e =
    let s = some_and (number_for number c) (λ first. first ≤ n) (right.least c n (number_in pool n c e) e) in
    s.1 ∙ ap (λ (o : Option ℕ). Some (unwrap_or o 0)) (sym (ap (option_and_then (number_for number)) e ∙ s.1))

pub key_some : (first : ℕ → ℕ) (e : PoolEntry) → (e ≡ entries.Unusable → ⊥) → (k : Key) × (key_with first e ≡ Some k)
key_some first (entries.Utf8 x) u = (keys.Utf8 x, refl)
key_some first (entries.Integer v) u = (keys.Integer v, refl)
key_some first (entries.Float b) u = (keys.Float b, refl)
key_some first (entries.Long v) u = (keys.Long v, refl)
key_some first (entries.Double b) u = (keys.Double b, refl)
key_some first (entries.Class n) u = (keys.Class (first n), refl)
key_some first (entries.String n) u = (keys.String (first n), refl)
key_some first (entries.Field m n) u = (keys.Field (first m) (first n), refl)
key_some first (entries.Method m n) u = (keys.Method (first m) (first n), refl)
key_some first (entries.InterfaceMethod m n) u = (keys.InterfaceMethod (first m) (first n), refl)
key_some first (entries.NameAndType m n) u = (keys.NameAndType (first m) (first n), refl)
key_some first (entries.MethodHandle m n) u = (keys.MethodHandle m (first n), refl)
key_some first (entries.MethodType n) u = (keys.MethodType (first n), refl)
key_some first (entries.InvokeDynamic m n) u = (keys.InvokeDynamic m (first n), refl)
key_some first entries.Unusable u = absurd (u refl)

pub low_level : (e : PoolEntry) → (e ≡ entries.Unusable → ⊥) → level_in e ≤ 3
low_level (entries.Utf8 x) u = lit≤ tt
low_level (entries.Integer v) u = lit≤ tt
low_level (entries.Float b) u = lit≤ tt
low_level (entries.Long v) u = lit≤ tt
low_level (entries.Double b) u = lit≤ tt
low_level (entries.Class n) u = lit≤ tt
low_level (entries.String n) u = lit≤ tt
low_level (entries.Field m n) u = lit≤ tt
low_level (entries.Method m n) u = lit≤ tt
low_level (entries.InterfaceMethod m n) u = lit≤ tt
low_level (entries.NameAndType m n) u = lit≤ tt
low_level (entries.MethodHandle m n) u = lit≤ tt
low_level (entries.MethodType n) u = lit≤ tt
low_level (entries.InvokeDynamic m n) u = lit≤ tt
low_level entries.Unusable u = absurd (u refl)

pub usable : (pool : List PoolEntry) (e : PoolEntry) (c : Const) → constant_in pool e ≡ Some c → e ≡ entries.Unusable → ⊥
usable pool e c is u = let never : None ≡ Some c = sym (ap (constant_in pool) u) ∙ is in absurd cc

-- the parts of a sound entry's constant have numbers
pub key_found : (pool : List PoolEntry) (number : Key → Option ℕ) (e : PoolEntry) (c : Const) → Enters pool (IsIn pool) number → IsSound pool e → constant_in pool e ≡ Some c → (k : Key) × (find_key number c ≡ Some k)
key_found pool number e c right sound is =
    let k = key_some (number_of pool number) e (usable pool e c is) in
    (k.0, key_there pool number (number_of pool number) 4 (λ n d low h. number_there pool number right n d h) e c (omega (arith, low_level e (usable pool e c is))) sound is ∙ k.1)

-- what an index says of a constant
pub found_least : (pool : List PoolEntry) (number : Key → Option ℕ) (c : Const) (n : ℕ) → Enters pool (IsIn pool) number → number_for number c ≡ Some n → IsLeast pool c n
found_least pool number c n right e = record {
  names = (right.named c n e).0;
  least = λ m is. subst (λ (o : Option ℕ). IsSomeAnd o (λ first. first ≤ m)) e (right.least c m (number_in pool m c is) is);
}

pub found_none : (pool : List PoolEntry) (number : Key → Option ℕ) (c : Const) → Enters pool (IsIn pool) number → number_for number c ≡ None → Named pool c → ⊥
found_none pool number c right e (n, is) = subst (λ (o : Option ℕ). IsSomeAnd o (λ first. first ≤ n)) e (right.least c n (number_in pool n c is) is)

pub some_least : (pool : List PoolEntry) (number : Key → Option ℕ) (c : Const) (o : Option ℕ) → Enters pool (IsIn pool) number → o ≡ number_for number c → IfSome o (IsLeast pool c)
some_least pool number c None right e = tt
some_least pool number c (Some n) right e = found_least pool number c n right (sym e)

pub none_named : (pool : List PoolEntry) (number : Key → Option ℕ) (c : Const) (o : Option ℕ) → Enters pool (IsIn pool) number → o ≡ number_for number c → IfNone o (Named pool c → ⊥)
none_named pool number c None right e = found_none pool number c right (sym e)
none_named pool number c (Some n) right e = tt

-- ---- the number behind the last

get_seam : {X : Type 0} (xs ys : List X) → slice_get (xs ++ ys) (length xs) ≡ slice_get ys 0
get_seam [] ys = refl
get_seam (x ∷ xs) ys = get_seam xs ys

get_behind : {X : Type 0} (xs ys : List X) (i : ℕ) → slice_get (xs ++ ys) (length xs + i) ≡ slice_get ys i
get_behind [] ys i = ap (slice_get ys) (omega arith)
get_behind (x ∷ xs) ys i = let k : length (x ∷ xs) + i ≡ suc (length xs + i) = omega arith in ap (slice_get (x ∷ (xs ++ ys))) k ∙ get_behind xs ys i

slots_first : (e : PoolEntry) → slice_get (slots_of e) 0 ≡ Some e
slots_first e = go (is_wide e)
  where
    go : (b : Bool) → slice_get (cond b (e ∷ entries.Unusable ∷ []) (e ∷ [])) 0 ≡ Some e
    go true = refl
    go false = refl

pub own_number : (pool : List PoolEntry) (e : PoolEntry) (c : Const) → constant_in pool e ≡ Some c → constant_of (pool ++ slots_of e) (length pool + 1) ≡ Some c
own_number pool e c is =
    let n : length pool + 1 ≡ suc (length pool) = add-one (length pool) in
    ap (constant_of (pool ++ slots_of e)) n ∙ ap (option_and_then (constant_in (pool ++ slots_of e))) (get_seam pool (slots_of e) ∙ slots_first e) ∙ constant_in_grows pool (slots_of e) e c is

-- the number behind a wide entry names nothing
slots_named : (pool : List PoolEntry) (e : PoolEntry) (i : ℕ) (c : Const) → option_and_then (constant_in pool) (slice_get (slots_of e) i) ≡ Some c → i ≡ 0
slots_named pool e i c is = go (is_wide e) i is
  where
    go : (b : Bool) (i : ℕ) → option_and_then (constant_in pool) (slice_get (cond b (e ∷ entries.Unusable ∷ []) (e ∷ [])) i) ≡ Some c → i ≡ 0
    go b zero is = refl
    go true (suc zero) is = absurd cc
    go true (suc (suc i)) is = absurd cc
    go false (suc i) is = absurd cc

pub new_number : (pool : List PoolEntry) (e : PoolEntry) (m : ℕ) (c : Const) → constant_of (pool ++ slots_of e) m ≡ Some c → (m ≤ length pool) ⊎ (m ≡ length pool + 1)
new_number pool e zero c is = absurd cc
new_number pool e (suc place) c is = elim (cases_lt place (length pool)) [
  | inl old ↦ inl old
  | inr later ↦
      let i = place - length pool in
      let there : slice_get (pool ++ slots_of e) place ≡ slice_get (slots_of e) i = ap (slice_get (pool ++ slots_of e)) (omega arith) ∙ get_behind pool (slots_of e) i in
      let first = slots_named (pool ++ slots_of e) e i c (ap (option_and_then (constant_in (pool ++ slots_of e))) (sym there) ∙ is) in
      inr (omega (arith, first))
]

pub enters_more : (pool : List PoolEntry) (e : PoolEntry) (c : Const) (old new : Key → Option ℕ) (k : Key) → AllByRecursion (IsSound pool) pool → constant_in pool e ≡ Some c → Enters pool (IsIn pool) old → find_key old c ≡ Some k → number_for old c ≡ None
    → Inserts old new k (length pool + 1) → Enters (pool ++ slots_of e) (IsIn (pool ++ slots_of e)) new
enters_more pool e c old new k sound is right found free inserts =
    let grown : Enters (pool ++ slots_of e) (IsIn pool) old = record {
      named = λ d m h. let r = right.named d m h in (constant_grows pool (slots_of e) m d r.0, r.1);
      least = λ d m le h. right.least d m le (constant_back pool (slots_of e) m d sound le h);
      mentioned = right.mentioned;
    } in
    let none : old k ≡ None = sym (ap (option_and_then old) found) ∙ free in
    let more = enters (pool ++ slots_of e) (IsIn pool) old new grown c k (length pool + 1) (λ h. omega arith) found none inserts (own_number pool e c is) in
    let long : length pool + 1 ≤ length (pool ++ slots_of e) = omega (arith, length-append pool (slots_of e), slots_long e) in
    record {
      named = λ d m h. let r = more.named d m h in (r.0, within (length pool) (length (pool ++ slots_of e)) m long r.1);
      least = λ d m le h. more.least d m (new_number pool e m d h) h;
      mentioned = λ q f m h mention. within (length pool) (length (pool ++ slots_of e)) m long (more.mentioned q f m h mention);
    }
  where
    slots_long : (e : PoolEntry) → 1 ≤ length (slots_of e)
    slots_long e = go (is_wide e)
      where
        go : (b : Bool) → 1 ≤ length (cond b (e ∷ entries.Unusable ∷ []) (e ∷ []))
        go true = omega arith
        go false = omega arith

    within : (a b m : ℕ) → a + 1 ≤ b → (m ≤ a) ⊎ (m ≡ a + 1) → m ≤ b
    within a b m h (inl le) = omega arith
    within a b m h (inr e) = omega arith

-- the new number is the least
pub new_least : (pool : List PoolEntry) (e : PoolEntry) (c : Const) → AllByRecursion (IsSound pool) pool → constant_in pool e ≡ Some c → (Named pool c → ⊥) → IsLeast (pool ++ slots_of e) c (length pool + 1)
new_least pool e c sound is unnamed = record {
  names = own_number pool e c is;
  least = λ m h. elim (new_number pool e m c h) [
    | inl le ↦ absurd (unnamed (m, constant_back pool (slots_of e) m c sound le h))
    | inr same ↦ omega arith
  ];
}

-- an index is right as long as it gives the same numbers
pub same_enters : (pool : List PoolEntry) (entered : ℕ → Type 0) (old new : Key → Option ℕ) → ((k : Key) → new k ≡ old k) → Enters pool entered old → Enters pool entered new
same_enters pool entered old new same right = let all : old ≡ new = λ i k. sym (same k) i in subst (Enters pool entered) all right

-- a pool and its index with one constant more
pub record WasPut (pool : List PoolEntry) (c : Const) (number : Key → Option ℕ) (n : ℕ) : Type 0 where
  pub is_pool : IsPool pool
  pub right : Enters pool (IsIn pool) number
  pub least : IsLeast pool c n

pub was_put : (pool after : List PoolEntry) (e : PoolEntry) (c : Const) (old new : Key → Option ℕ) (k : Key) (n : ℕ) → IsPool pool × Enters pool (IsIn pool) old → IsEntry e → IsSound pool e → constant_in pool e ≡ Some c
    → number_for old c ≡ None → find_key old c ≡ Some k → Inserts old new k n → n ≡ length pool + 1 → after ≡ pool ++ slots_of e → length pool + 1 + length (slots_of e) ≤ 65535 → WasPut after c new n
was_put pool after e c old new k n is entry sound named free found inserts n-is after-is few =
    let unnamed : Named pool c → ⊥ = found_none pool old c is.1 free in
    let inserted : Inserts old new k (length pool + 1) = subst (Inserts old new k) n-is inserts in
    let put : WasPut (pool ++ slots_of e) c new (length pool + 1) = record {
      is_pool = pool_grows pool e is.0 entry sound (omega (arith, length-append pool (slots_of e), few));
      right = enters_more pool e c old new k is.0.1 named is.1 found free inserted;
      least = new_least pool e c is.0.1 named unnamed;
    } in
    rw (after-is, n-is) put
