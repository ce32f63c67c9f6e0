-- The members that were there before, by their keys.
use Rattle.std.proofs.Common.{◌≡◌, ◌↔◌, ℕ, zero, suc, ◌+◌, ◌<◌, ◌≤◌, Bool, true, false, cond, List, [], ◌∷◌, ◌++◌, length, Option, Some, None, refl, sym, ap, subst, ◌∙◌, arith, inl, inr, ◌⊎◌}
use Rattle.std.specs.Prelude.{slice_get, IsTrue, IfSome, IfNone, not}
use Rattle.std.specs.Option.{option_and_then}
use Rattle.std.specs.Ordering.{is_eq, nat_cmp, ordering_then, MatchOrdering}
use Rattle.std.specs.Cmp.{ranked, nat_cmp_is}
use Rattle.std.proofs.lemmas.Option.{none-some}
use Rattle.std.specs.declared.cmp.Ordering.{Ordering}
use Rattle.std.specs.declared.cmp.Ordering.TheVariants as orders
use Rattle.std.specs.BTreeSet.{BTreeSet, contains, Updates}
use Rattle.wv_base.specs.declared.class_file.PoolEntry.{PoolEntry}
use Rattle.wv_base.specs.declared.class_file.PoolEntry.TheVariants as entries
use Rattle.wv_base.specs.declared.constant.Const.TheVariants as constants
use Rattle.wv_pool.specs.References.{text_in, entry_of, text_of}
use Rattle.wv_pool.specs.Constants.{constant_in, constant_of}
use Rattle.wv_pool.specs.Numbers.{IsLeast, Named}
use Rattle.wv_class.specs.declared.raw_class.RawMember.{RawMember}
use Rattle.wv_class.specs.Breaks.{IsNamed, IsAgain}
use Rattle.wv_class.specs.Checking.{IsTextNumber, HasKey, key_cmp, HasKeys}

-- ---- the numbers of texts

text_names : (pool : List PoolEntry) (n : ℕ) (text : List ℕ) → text_of pool n ≡ Some text → constant_of pool n ≡ Some (constants.Utf8 text)
text_names pool n text e = at (entry_of pool n) e
  where
    at : (o : Option PoolEntry) → text_in o ≡ Some text → option_and_then (constant_in pool) o ≡ Some (constants.Utf8 text)
    at (Some (entries.Utf8 name)) e = cc
    at None e = absurd cc
    at (Some _) e = absurd cc

pub text_number_is : (pool : List PoolEntry) (number : ℕ) (text : List ℕ) (found : Option ℕ) → text_of pool number ≡ Some text → IfSome found (IsLeast pool (constants.Utf8 text)) → IfNone found (Named pool (constants.Utf8 text) → ⊥) → IsTextNumber pool number found
text_number_is pool number text (Some n) is least none = record { least = (text, is, least); none = tt }
text_number_is pool number text None is least none = absurd (none (number, text_names pool number text is))

pub no_text_number : (pool : List PoolEntry) (number : ℕ) → text_of pool number ≡ None → IsTextNumber pool number None
no_text_number pool number is = record { least = tt; none = λ text e. let never : None ≡ Some text = sym is ∙ e in absurd cc }

-- ---- keys

pub key_found : (pool : List PoolEntry) (m : RawMember) (a b : ℕ) → IsTextNumber pool m.name (Some a) → IsTextNumber pool m.descriptor (Some b) → HasKey pool m (a, b)
key_found pool m a b h k = record {
  name = h.least.0;
  descriptor = k.least.0;
  named = record { name_is = h.least.1; descriptor_is = k.least.1 };
  name_least = h.least.2;
  descriptor_least = k.least.2;
}

one_least : (pool : List PoolEntry) (text : List ℕ) (a b : ℕ) → IsLeast pool (constants.Utf8 text) a → IsLeast pool (constants.Utf8 text) b → a ≡ b
one_least pool text a b h k = let le : a ≤ b = h.least b k.names in let ge : b ≤ a = k.least a h.names in omega arith

some_text : (a b : List ℕ) → Some a ≡ Some b → a ≡ b
some_text a b e = cc

-- members with the same texts have the same key
key_of_same : (pool : List PoolEntry) (m other : RawMember) (name descriptor : List ℕ) (key : ℕ × ℕ) → IsNamed pool m name descriptor → IsNamed pool other name descriptor → HasKey pool m key → HasKey pool other key
key_of_same pool m other name descriptor key named same h =
    let name_is : name ≡ h.name = some_text name h.name (sym named.name_is ∙ h.named.name_is) in
    let descriptor_is : descriptor ≡ h.descriptor = some_text descriptor h.descriptor (sym named.descriptor_is ∙ h.named.descriptor_is) in
    record {
      name = h.name;
      descriptor = h.descriptor;
      named = record { name_is = same.name_is ∙ ap (λ (t : List ℕ). Some t) name_is; descriptor_is = same.descriptor_is ∙ ap (λ (t : List ℕ). Some t) descriptor_is };
      name_least = h.name_least;
      descriptor_least = h.descriptor_least;
    }

one_key : (pool : List PoolEntry) (m : RawMember) (a b : ℕ × ℕ) → HasKey pool m a → HasKey pool m b → a ≡ b
one_key pool m (a, b) (c, d) h k =
    let name : k.name ≡ h.name = some_text k.name h.name (sym k.named.name_is ∙ h.named.name_is) in
    let descriptor : k.descriptor ≡ h.descriptor = some_text k.descriptor h.descriptor (sym k.named.descriptor_is ∙ h.named.descriptor_is) in
    let first : a ≡ c = one_least pool h.name a c h.name_least (subst (λ (t : List ℕ). IsLeast pool (constants.Utf8 t) c) name k.name_least) in
    let second : b ≡ d = one_least pool h.descriptor b d h.descriptor_least (subst (λ (t : List ℕ). IsLeast pool (constants.Utf8 t) d) descriptor k.descriptor_least) in
    cc

one_text : (pool : List PoolEntry) (n : ℕ) (a b : List ℕ) → IsLeast pool (constants.Utf8 a) n → IsLeast pool (constants.Utf8 b) n → a ≡ b
one_text pool n a b h k = let same : Some (constants.Utf8 a) ≡ Some (constants.Utf8 b) = sym h.names ∙ k.names in cc

-- ---- the order of keys

equal_is : (x y : ℕ) → is_eq (nat_cmp x y) ≡ true → x ≡ y
equal_is x y e = on (nat_cmp x y) (ranked x y (nat_cmp x y) refl) e
  where
    on : (r : Ordering) → MatchOrdering r (x < y) (x ≡ y) (y < x) → is_eq r ≡ true → x ≡ y
    on orders.Less h e = absurd cc
    on orders.Equal h e = h
    on orders.Greater h e = absurd cc

same_is : (x : ℕ) → nat_cmp x x ≡ orders.Equal
same_is x = sym (nat_cmp_is x x orders.Equal refl)

key_equal : (a b : ℕ × ℕ) → is_eq (key_cmp a b) ≡ true → a ≡ b
key_equal (a, b) (c, d) e =
    let parts = on (nat_cmp a c) (nat_cmp b d) e in
    let first : a ≡ c = equal_is a c parts.0 in
    let second : b ≡ d = equal_is b d parts.1 in
    cc
  where
    on : (p q : Ordering) → is_eq (ordering_then p q) ≡ true → (is_eq p ≡ true) × (is_eq q ≡ true)
    on orders.Less q e = absurd cc
    on orders.Equal q e = (refl, e)
    on orders.Greater q e = absurd cc

key_same : (a : ℕ × ℕ) → is_eq (key_cmp a a) ≡ true
key_same (a, b) = rw (same_is a, same_is b) refl

-- ---- a member that was there before

not_there : IsTrue false → ⊥
not_there e = absurd cc

flip : (a b : Bool) (A : Type 0) → a ≡ not b → IsTrue b ↔ A → IsTrue (not a) ↔ A
flip a true A e h = (λ t. h.0 refl, λ x. ap not e)
flip a false A e h = (λ t. let never : false ≡ true = sym (ap not e) ∙ t in absurd cc, λ x. absurd (not_there (h.1 x)))

module _ (pool : List PoolEntry) (before : List RawMember) (m : RawMember) where
  again_of : (key : ℕ × ℕ) → HasKey pool m key → (k : ℕ) (other : RawMember) → slice_get before k ≡ Some other → HasKey pool other key → IsAgain pool before m
  again_of key h k other is g =
      let name : h.name ≡ g.name = one_text pool key.0 h.name g.name h.name_least g.name_least in
      let descriptor : h.descriptor ≡ g.descriptor = one_text pool key.1 h.descriptor g.descriptor h.descriptor_least g.descriptor_least in
      record {
        place = k;
        first = other;
        first_is = is;
        name = g.name;
        descriptor = g.descriptor;
        same = (g.named, record { name_is = h.named.name_is ∙ ap (λ (t : List ℕ). Some t) name; descriptor_is = h.named.descriptor_is ∙ ap (λ (t : List ℕ). Some t) descriptor });
      }

  pub again_is : (seen : BTreeSet (ℕ × ℕ)) (key : ℕ × ℕ) (fresh : Bool) → HasKeys pool seen before → HasKey pool m key → fresh ≡ not (contains key_cmp seen key) → IsTrue (not fresh) ↔ IsAgain pool before m
  again_is seen key fresh has h e =
      flip fresh (contains key_cmp seen key) (IsAgain pool before m) e
      ((λ t. let old = (has key).0 t in again_of key h old.0 old.1 old.2 old.3), (λ again. (has key).1 (again.place, again.first, again.first_is, key_of_same pool m again.first again.name again.descriptor key again.same.1 again.same.0 h)))

  pub never_again : ((name descriptor : List ℕ) → IsNamed pool m name descriptor → ⊥) → IsTrue false ↔ IsAgain pool before m
  never_again none = ((λ t. absurd (not_there t)), (λ again. absurd (none again.name again.descriptor again.same.1)))

-- one member more
pushed_old : (xs : List RawMember) (x : RawMember) (k : ℕ) (y : RawMember) → slice_get xs k ≡ Some y → slice_get (xs ++ x ∷ []) k ≡ Some y
pushed_old [] x k y e = absurd (none-some y e)
pushed_old (z ∷ xs) x zero y e = e
pushed_old (z ∷ xs) x (suc k) y e = pushed_old xs x k y e

pushed_new : (xs : List RawMember) (x : RawMember) → slice_get (xs ++ x ∷ []) (length xs) ≡ Some x
pushed_new [] x = refl
pushed_new (z ∷ xs) x = pushed_new xs x

pushed_cases : (xs : List RawMember) (x : RawMember) (k : ℕ) (y : RawMember) → slice_get (xs ++ x ∷ []) k ≡ Some y → (slice_get xs k ≡ Some y) ⊎ (x ≡ y)
pushed_cases [] x zero y e = inr cc
pushed_cases [] x (suc k) y e = absurd (none-some y e)
pushed_cases (z ∷ xs) x zero y e = inl e
pushed_cases (z ∷ xs) x (suc k) y e = pushed_cases xs x k y e

module _ (pool : List PoolEntry) (before : List RawMember) (m : RawMember) where
  pub keys_pushed : (old new : BTreeSet (ℕ × ℕ)) (key : ℕ × ℕ) → HasKeys pool old before → HasKey pool m key → Updates key_cmp old new key true → HasKeys pool new (before ++ m ∷ [])
  keys_pushed old new key has h updates = λ q. ((λ t. to q (is_eq (key_cmp key q)) refl (sym (updates.0 q) ∙ t)), (λ there. updates.0 q ∙ from q there))
    where
      to : (q : ℕ × ℕ) (b : Bool) → is_eq (key_cmp key q) ≡ b → cond b true (contains key_cmp old q) ≡ true → (k : ℕ) × (x : RawMember) × (slice_get (before ++ m ∷ []) k ≡ Some x) × HasKey pool x q
      to q true e t = (length before, m, pushed_new before m, subst (HasKey pool m) (key_equal key q e) h)
      to q false e t = let there = (has q).0 t in (there.0, there.1, pushed_old before m there.0 there.1 there.2, there.3)

      or_true : (a b : Bool) → b ≡ true → cond a true b ≡ true
      or_true true b e = refl
      or_true false b e = e

      from : (q : ℕ × ℕ) → (k : ℕ) × (x : RawMember) × (slice_get (before ++ m ∷ []) k ≡ Some x) × HasKey pool x q → cond (is_eq (key_cmp key q)) true (contains key_cmp old q) ≡ true
      from q (k, x, is, g) = elim (pushed_cases before m k x is) [
        | inl there ↦ or_true (is_eq (key_cmp key q)) (contains key_cmp old q) ((has q).1 (k, x, there, g))
        | inr one ↦
            let key_is : key ≡ q = one_key pool m key q h (subst (λ (z : RawMember). HasKey pool z q) (sym one) g) in
            ap (λ (b : Bool). cond b true (contains key_cmp old q)) (subst (λ (z : ℕ × ℕ). is_eq (key_cmp key z) ≡ true) key_is (key_same key))
      ]

  pub keys_stay : (seen : BTreeSet (ℕ × ℕ)) → HasKeys pool seen before → ((name descriptor : List ℕ) → IsNamed pool m name descriptor → ⊥) → HasKeys pool seen (before ++ m ∷ [])
  keys_stay seen has none = λ q. ((λ t. let there = (has q).0 t in (there.0, there.1, pushed_old before m there.0 there.1 there.2, there.3)), (λ there. from q there))
    where
      from : (q : ℕ × ℕ) → (k : ℕ) × (x : RawMember) × (slice_get (before ++ m ∷ []) k ≡ Some x) × HasKey pool x q → IsTrue (contains key_cmp seen q)
      from q (k, x, is, g) = elim (pushed_cases before m k x is) [
        | inl there ↦ (has q).1 (k, x, there, g)
        | inr one ↦ let h = subst (λ (z : RawMember). HasKey pool z q) (sym one) g in absurd (none h.name h.descriptor h.named)
      ]
