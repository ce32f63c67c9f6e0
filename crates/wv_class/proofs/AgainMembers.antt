-- A field or a method that was written, as it is read again.
use Rattle.std.proofs.Common.{◌≡◌, ℕ, ◌-◌, ◌^◌, ◌<◌, List, [], ◌∷◌, ◌++◌, length, Option, Some, None, refl, sym, ap, subst, ◌∙◌, arith}
use Rattle.std.specs.List.{AllByRecursion, AllZip}
use Rattle.wv_base.specs.declared.class_file.PoolEntry.{PoolEntry}
use Rattle.wv_base.specs.declared.class_file.Body.{Body}
use Rattle.wv_base.specs.declared.class_file.Member.{Member}
use Rattle.wv_pool.specs.Entries.{number_bytes}
use Rattle.wv_class.specs.declared.raw_class.Place.{Place}
use Rattle.wv_class.specs.declared.raw_class.RawAttribute.{RawAttribute}
use Rattle.wv_class.specs.declared.raw_class.RawMember.{RawMember}
use Rattle.wv_class.specs.Appending.{WritesEach, WritesMember, WritesMembers}
use Rattle.wv_class.specs.Breaks.{AttributesBreak}
use Rattle.wv_class.specs.Layout.{SpellsAll, SpellsAttributes, SpellsMember, SpellsMembers, none, next}
use Rattle.wv_class.specs.Limits.{member_attributes, one_if}
use Rattle.wv_class.specs.Meaning.{IsMemberOf, AreMembersOf}
use Rattle.wv_class.specs.Same.{IsSameBodyIn, IsSameMember}
use Rattle.wv_class.specs.Written.{AreSpelled, AreAttributes, IsHeadOf, IsAgainMember, count_codes}

-- ---- one

-- the table of attributes, behind their count
pub attributes_spelled : (pool : List PoolEntry) (place : Place) (all : List RawAttribute) (count : ℕ) (items : List ℕ) → count < 2 ^ 16 → length all ≡ count → AreSpelled pool place all items
    → (near : ℕ) → SpellsAttributes pool place near all (number_bytes count ++ items)
attributes_spelled pool place all count items few is spelled near = record {
  few = subst (λ (n : ℕ). n < 2 ^ 16) (sym is) few;
  items = items;
  all = spelled (near - 2);
  spelled = ap (λ (n : ℕ). number_bytes n ++ items) (sym is);
}

module _ (pool : List PoolEntry) (place : Place) (class : ℕ) (m : Member) (bytes : List ℕ) (w : WritesMember pool m bytes)
    (a : AreAttributes pool place class m (w.value ++ (w.code ++ (w.exceptions ++ w.others)))) where
  abbrev behind : List ℕ
  behind = w.value ++ (w.code ++ (w.exceptions ++ w.others))

  abbrev raw : RawMember
  raw = record { flags = m.flags.0; name = w.name_is.0; descriptor = w.descriptor_is.0; attributes = a.all }

  abbrev other : Member
  other = record m { body = a.body }

  head : IsHeadOf pool m raw
  head = record { flags = refl; name = w.name_is.2; descriptor = w.descriptor_is.2 }

  spelled : (near : ℕ) → SpellsMember pool place near raw bytes
  spelled near = record {
    flags = w.flags;
    name = w.name_is.1;
    descriptor = w.descriptor_is.1;
    table = number_bytes (member_attributes m) ++ behind;
    attributes = attributes_spelled pool place a.all (member_attributes m) behind w.few a.count a.spelled (near - 6);
    spelled = w.spelled
        ∙ ap (λ (z : List ℕ). number_bytes m.flags.0 ++ (z ++ (w.descriptor ++ (number_bytes (member_attributes m) ++ behind)))) w.name_is.3
        ∙ ap (λ (z : List ℕ). number_bytes m.flags.0 ++ (number_bytes w.name_is.0 ++ (z ++ (number_bytes (member_attributes m) ++ behind)))) w.descriptor_is.3;
  }

  means : IsMemberOf pool class raw other
  means = record {
    flags = refl;
    name = w.name_is.2;
    descriptor = w.descriptor_is.2;
    body = a.body_is raw head;
    value = a.value;
    throws = a.throws;
    notes = a.notes;
    kept = a.kept;
  }

  pub member_again : IsAgainMember pool place class m bytes
  member_again = record {
    raw = raw;
    head = head;
    spelled = spelled;
    sound = λ at b. a.sound raw at head b;
    codes = a.codes;
    other = other;
    same = record { body = a.same; others = refl };
    means = means;
  }

-- ---- all

-- a field or a method, as the numbers have it
pub record IsReadAs (pool : List PoolEntry) (class : ℕ) (IsFormed : Member → Type 0) (raw : RawMember) (m : Member) : Type 0 where
  pub head : IsHeadOf pool m raw
  pub sound : (at : ℕ) → AttributesBreak pool class raw raw.attributes 8 at → ⊥
  pub codes : count_codes raw.attributes ≡ one_if m.body
  pub formed : IsFormed m

-- members with bytes that spell them
pub record AreAgain (pool : List PoolEntry) (place : Place) (class : ℕ) (IsFormed : Member → Type 0) (members : List Member) (items : List ℕ) : Type 0 where
  pub raws : List RawMember
  pub others : List Member
  pub count : length raws ≡ length members
  pub spelled : (near : ℕ) → SpellsAll (SpellsMember pool place) near raws items
  pub read : AllZip (IsReadAs pool class IsFormed) raws members
  pub same : AllZip (IsSameMember pool) members others
  pub means : AreMembersOf pool class raws others

module _ (pool : List PoolEntry) (place : Place) (class : ℕ) (IsFormed : Member → Type 0) where
  one_more : (m : Member) (members : List Member) (front back items : List ℕ) → IsFormed m → IsAgainMember pool place class m front → AreAgain pool place class IsFormed members back → items ≡ front ++ back
      → AreAgain pool place class IsFormed (m ∷ members) items
  one_more m members front back items formed one rest parts = record {
    raws = one.raw ∷ rest.raws;
    others = one.other ∷ rest.others;
    count = omega (arith, rest.count);
    spelled = λ near. subst (SpellsAll (SpellsMember pool place) near (one.raw ∷ rest.raws)) (sym parts) (next (one.spelled near) (rest.spelled (near - length front)));
    read = (record { head = one.head; sound = one.sound; codes = one.codes; formed = formed }, rest.read);
    same = (one.same, rest.same);
    means = (one.means, rest.means);
  }

  pub members_again : ((m : Member) (bytes : List ℕ) → IsFormed m → WritesMember pool m bytes → IsAgainMember pool place class m bytes)
      → (members : List Member) (items : List ℕ) → AllByRecursion IsFormed members → WritesEach (WritesMember pool) members items → AreAgain pool place class IsFormed members items
  members_again again [] items formed is = record {
    raws = [];
    others = [];
    count = refl;
    spelled = λ near. subst (SpellsAll (SpellsMember pool place) near []) (sym is) none;
    read = tt;
    same = tt;
    means = tt;
  }
  members_again again (m ∷ members) items formed (front, back, one, rest, parts) =
      one_more m members front back items formed.0 (again m front formed.0 one) (members_again again members back formed.1 rest) parts

  -- with their count
  pub table_again : (members : List Member) (bytes : List ℕ) (w : WritesMembers pool members bytes) (a : AreAgain pool place class IsFormed members w.items) → (near : ℕ) → SpellsMembers pool place near a.raws bytes
  table_again members bytes w a near = record {
    few = subst (λ (n : ℕ). n < 2 ^ 16) (sym a.count) w.few;
    items = w.items;
    all = a.spelled (near - 2);
    spelled = w.spelled ∙ ap (λ (n : ℕ). number_bytes n ++ w.items) (sym a.count);
  }

-- a field, which has no body, is the same
field_same : (pool : List PoolEntry) (m other : Member) → m.body ≡ None → IsSameMember pool m other → other ≡ m
field_same pool m other is same = same.others ∙ ap (λ (b : Option Body). record m { body = b }) (body m.body other.body is same.body)
  where
    body : (b o : Option Body) → b ≡ None → IsSameBodyIn pool b o → o ≡ b
    body None None e h = refl
    body None (Some o) e h = absurd h
    body (Some b) o e h = absurd cc

pub fields_same : (pool : List PoolEntry) (members others : List Member) → AllByRecursion (λ (m : Member). m.body ≡ None) members → AllZip (IsSameMember pool) members others → others ≡ members
fields_same pool [] [] bodiless same = refl
fields_same pool [] (o ∷ others) bodiless same = absurd same
fields_same pool (m ∷ members) [] bodiless same = absurd same
fields_same pool (m ∷ members) (o ∷ others) bodiless same =
    let one : o ≡ m = field_same pool m o bodiless.0 same.0 in
    let rest : others ≡ members = fields_same pool members others bodiless.1 same.1 in
    ap (λ (z : Member). z ∷ others) one ∙ ap (λ (z : List Member). m ∷ z) rest
