-- A class in which a method of the mixin overwrites one can be written, since both classes were read.
use Rattle.std.proofs.Common.{◌≡◌, ℕ, zero, suc, ◌<◌, ◌≤◌, Bool, true, false, cond, List, [], ◌∷◌, map, length, set, Option, Some, None, option_map, refl, sym, ap, subst, ◌∙◌, inl, arith, lit<}
use Rattle.std.specs.Prelude.{slice_get, nat_le, IsSomeAnd, ◌^◌}
use Rattle.std.specs.List.{AllByRecursion}
use Rattle.std.proofs.lemmas.List.{length-map}
use Rattle.wv_base.specs.declared.class_file.Body.{Body}
use Rattle.wv_base.specs.declared.class_file.ClassFile.{ClassFile}
use Rattle.wv_base.specs.declared.class_file.ClassVersion.{ClassVersion}
use Rattle.wv_base.specs.declared.class_file.Member.{Member}
use Rattle.wv_base.specs.declared.class_file.PoolEntry.{PoolEntry}
use Rattle.wv_base.specs.declared.constant.Const.TheVariants as constants
use Rattle.wv_base.specs.declared.constant.MemberReference.{MemberReference}
use Rattle.wv_base.specs.declared.insn.Insn.{Insn}
use Rattle.wv_base.specs.Opcodes.{putfield}
use Rattle.wv_base.proofs.FieldTypes.{some_is}
use Rattle.wv_class.specs.Flags.{is_bodiless}
use Rattle.wv_class.specs.Formed.{AreDistinct, HasFormedBody, IsFormedMethod, IsFormedClassName, IsFormedClass}
use Rattle.wv_class.specs.Sizes.{HasNoFrames, HasNoRanges}
use Rattle.wv_class.proofs.FormedReads.{read_formed}
use Rattle.wv_code.specs.Constants.{member_constant}
use Rattle.wv_code.specs.Formed.{IsFormed}
use Rattle.wv_code.specs.FormedBody.{IsFormedBody}
use Rattle.wv_model.specs.MemberTable.{meaning_of, read_in_target, body_in_target, overwritten}
use Rattle.wv_model.specs.PlainCode.{Role, Game, Mixin}
use Rattle.wv_pool.specs.Allowed.{IsClassText, IsAllowed}
use Rattle.wv_merge.specs.Overwriting.{IsChanged}
use Rattle.wv_merge.specs.Plain.{IsPlainBody, IsPlainMethod}
use Rattle.wv_merge.specs.ThinClass.{IsNoArray, IsReadThin, IsThinMethod, most_bytes}
use Rattle.wv_merge.proofs.ReadMethods.{all_weaker, all_set, all_at, all_contained, IsSimple, plain, push, reference, all_simple, some_body, class_no_array, owner_so}

-- ---- Code of the mixin as it is read in the target

class_text : (name : List ℕ) → IsFormedClassName name → IsClassText name
class_text name h = (h.1, inl h.0)

module _ (mixin target : List ℕ) (text : IsClassText target) where
  member_read : (op : ℕ) (m : MemberReference) (interface : Bool) → IsAllowed (member_constant op m interface) → IsAllowed (member_constant op (record m { owner = meaning_of mixin target m.owner }) interface)
  member_read op m interface h = go (nat_le op putfield) h
    where
      go : (field : Bool) → IsAllowed (cond field (constants.Field m) (constants.Method m interface))
          → IsAllowed (cond field (constants.Field (record m { owner = meaning_of mixin target m.owner })) (constants.Method (record m { owner = meaning_of mixin target m.owner }) interface))
      go true h = (owner_so IsClassText mixin target m.owner text h.0, h.1)
      go false h = (owner_so IsClassText mixin target m.owner text h.0, h.1)

  insn_formed : {insn : Insn} (count : ℕ) → IsSimple insn → IsFormed count insn → IsFormed count (read_in_target mixin target insn)
  insn_formed count (plain is) h = h
  insn_formed count (push is fits) h = h
  insn_formed count (reference {op = op} {owner = owner} {name = name} {descriptor = descriptor} {interface = interface} member is) h =
      ((member_read op (record { owner = owner; name = name; descriptor = descriptor }) interface h.0.0, tt), h.1)

  insns_formed : (count : ℕ) (code : List Insn) → AllByRecursion (IsSimple) code → AllByRecursion (IsFormed count) code → AllByRecursion (IsFormed count) (map (read_in_target mixin target) code)
  insns_formed count [] is h = tt
  insns_formed count (insn ∷ code) is h = (insn_formed count is.0 h.0, insns_formed count code is.1 h.1)

  body_formed : (old new : List PoolEntry) (body : Body) → AllByRecursion (IsSimple) body.insns → IsFormedBody old body → IsFormedBody new (body_in_target mixin target body)
  body_formed old new body is h =
      let same : length (map (read_in_target mixin target) body.insns) ≡ length body.insns = length-map body.insns (read_in_target mixin target) in
      record {
        insns = subst (λ (count : ℕ). AllByRecursion (IsFormed count) (map (read_in_target mixin target) body.insns)) (sym same) (insns_formed (length body.insns) body.insns is h.insns);
        some = omega (arith, h.some, same);
        few = omega (arith, h.few, same);
        ranges = (lit< tt, tt);
        frames = (lit< tt, tt);
        kept = (lit< tt, tt);
      }

-- ---- Methods

-- a method with a body isn't bodiless
has_body : (pool : List PoolEntry) (bodiless : Bool) (body : Option Body) (P : Body → Type 0) → IsSomeAnd body P → HasFormedBody pool bodiless body → bodiless ≡ false
has_body pool bodiless None P h k = absurd h
has_body pool bodiless (Some body) P h k = k.0

formed_body : (pool : List PoolEntry) (bodiless : Bool) (body : Option Body) (b : Body) → body ≡ Some b → HasFormedBody pool bodiless body → IsFormedBody pool b
formed_body pool bodiless body b is h = (subst (HasFormedBody pool bodiless) is h).1

method_formed : (mixin target : List ℕ) (pool other : List PoolEntry) (old origin : Member) → IsClassText target → IsPlainMethod Game old → IsFormedMethod pool old → IsPlainMethod Mixin origin → IsFormedMethod other origin
    → IsFormedMethod pool (overwritten mixin target old origin)
method_formed mixin target pool other old origin text was formed is mixed =
    let b = some_body origin.body (IsPlainBody origin.descriptor) is.code in
    let code = body_formed mixin target text other pool b.0 (all_simple b.0.insns b.2.plain) (formed_body other (is_bodiless origin.flags.0) origin.body b.0 b.1 mixed.body) in
    record {
      name = formed.name;
      descriptor = formed.descriptor;
      narrow = formed.narrow;
      initializer = formed.initializer;
      body = subst (λ (o : Option Body). HasFormedBody pool (is_bodiless old.flags.0) (option_map (body_in_target mixin target) o)) (sym b.1)
          (has_body pool (is_bodiless old.flags.0) old.body (IsPlainBody old.descriptor) was.code formed.body, code);
      no_value = refl;
      throws = tt;
      notes = tt;
      kept = tt;
    }

-- what stands at a place of the table had the same name and descriptor before
pub record HadName (methods : List Member) (k : ℕ) (method : Member) : Type 0 where
  pub old : Member
  pub at : slice_get methods k ≡ Some old
  pub name : old.name ≡ method.name
  pub descriptor : old.descriptor ≡ method.descriptor

had_name : (methods : List Member) (place : ℕ) (old new : Member) → old.name ≡ new.name → old.descriptor ≡ new.descriptor → slice_get methods place ≡ Some old → (k : ℕ) (method : Member) → slice_get (set methods place new) k ≡ Some method → HadName methods k method
had_name [] place old new n d at k method found = record { old = method; at = found; name = refl; descriptor = refl }
had_name (first ∷ methods) zero old new n d at zero method found =
    let made = some_is new method found in
    record { old = old; at = at; name = n ∙ ap (λ (m : Member). m.name) made; descriptor = d ∙ ap (λ (m : Member). m.descriptor) made }
had_name (first ∷ methods) zero old new n d at (suc k) method found = record { old = method; at = found; name = refl; descriptor = refl }
had_name (first ∷ methods) (suc place) old new n d at zero method found = record { old = method; at = found; name = refl; descriptor = refl }
had_name (first ∷ methods) (suc place) old new n d at (suc k) method found =
    let had = had_name methods place old new n d at k method found in
    record { old = had.old; at = had.at; name = had.name; descriptor = had.descriptor }

distinct_set : (methods : List Member) (place : ℕ) (old new : Member) → old.name ≡ new.name → old.descriptor ≡ new.descriptor → slice_get methods place ≡ Some old → AreDistinct methods → AreDistinct (set methods place new)
distinct_set methods place old new n d at distinct j k one other less first second name descriptor =
    let had = had_name methods place old new n d at j one first in
    let has = had_name methods place old new n d at k other second in
    distinct j k had.old has.old less had.at has.at (had.name ∙ name ∙ sym has.name) (had.descriptor ∙ descriptor ∙ sym has.descriptor)

-- ---- The class

short : (n : ℕ) → n ≤ most_bytes → n < 2 ^ 16
unfolding most_bytes
short n few = omega (arith, few)

-- code that is plain has neither frames nor ranges
pub no_frames : (role : Role) (m : Member) → IsThinMethod role m → HasNoFrames m.body
no_frames role m thin = by m.body thin.plain.code
  where
    by : (body : Option Body) → IsSomeAnd body (IsPlainBody m.descriptor) → HasNoFrames body
    by None never = absurd never
    by (Some body) is = is.no_frames

no_ranges : (role : Role) (m : Member) → IsThinMethod role m → HasNoRanges m.body
no_ranges role m thin = by m.body thin.plain.code
  where
    by : (body : Option Body) → IsSomeAnd body (IsPlainBody m.descriptor) → HasNoRanges body
    by None never = absurd never
    by (Some body) is = is.no_ranges

pub thin_formed : (role : Role) (class : ClassFile) → IsReadThin role class → IsFormedClass class
thin_formed role class is =
    read_formed is.0 class is.1.0 (short (length is.0) is.1.1.0)
    (all_weaker (IsThinMethod role) (λ (m : Member). HasNoFrames m.body) class.methods (no_frames role) is.1.1.1.methods)
    (all_weaker (IsThinMethod role) (λ (m : Member). HasNoRanges m.body) class.methods (no_ranges role) is.1.1.1.methods)

-- the methods of a thin class are plain
pub plain_methods : (role : Role) (class : ClassFile) → IsReadThin role class → AllByRecursion (IsPlainMethod role) class.methods
plain_methods role class is = all_weaker (IsThinMethod role) (IsPlainMethod role) class.methods (λ m h. h.plain) is.1.1.1.methods

set_formed : (game : ClassFile) (version : ClassVersion) (methods : List Member) → IsFormedClass game → AllByRecursion (IsFormedMethod game.pool) methods → AreDistinct methods → IsFormedClass (record game { version = version; methods = methods })
set_formed game version methods h each distinct = record {
  pool = h.pool;
  name = h.name;
  superclass = h.superclass;
  interfaces = h.interfaces;
  fields = h.fields;
  distinct_fields = h.distinct_fields;
  methods = each;
  distinct_methods = distinct;
  notes = h.notes;
  kept = h.kept;
}

module _ (target mixin woven : ClassFile) (is : IsChanged target mixin woven) where
  -- the name of the target is no array's
  pub target_no_array : IsNoArray target.name
  target_no_array = class_no_array target.name (thin_formed Game target is.is_target).name.0

  -- the method of the mixin is plain
  pub origin_plain : IsPlainMethod Mixin is.change.origin
  origin_plain = all_contained (IsPlainMethod Mixin) mixin.methods is.change.origin (plain_methods Mixin mixin is.is_mixin) is.change.of_mixin

  -- the target with the version, in which the old method is overwritten
  pub made_is : woven ≡ record target { version = is.overwriting.version; methods = set target.methods is.overwriting.place (overwritten mixin.name target.name is.change.replaced.old is.change.origin) }
  made_is =
      is.made ∙ ap (λ (m : Member). record target { version = is.overwriting.version; methods = set target.methods is.overwriting.place m }) is.change.method

  pub woven_formed : IsFormedClass woven
  woven_formed =
      let was = thin_formed Game target is.is_target in
      let other = thin_formed Mixin mixin is.is_mixin in
      let place = is.overwriting.place in
      let old = is.change.replaced.old in
      let at = is.change.replaced.at in
      let origin = is.change.origin in
      let formed = all_at (IsFormedMethod target.pool) target.methods place old at was.methods in
      let plain_old = all_at (IsPlainMethod Game) target.methods place old at (plain_methods Game target is.is_target) in
      let formed_origin = all_contained (IsFormedMethod mixin.pool) mixin.methods origin other.methods is.change.of_mixin in
      let new = overwritten mixin.name target.name old origin in
      let method = method_formed mixin.name target.name target.pool mixin.pool old origin (class_text target.name was.name) plain_old formed origin_plain formed_origin in
      subst IsFormedClass (sym made_is)
      (set_formed target is.overwriting.version (set target.methods place new) was
      (all_set (IsFormedMethod target.pool) target.methods place new was.methods method)
      (distinct_set target.methods place old new refl refl at was.distinct_methods))
