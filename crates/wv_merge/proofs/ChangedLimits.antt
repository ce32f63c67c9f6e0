-- A class in which a method of the mixin overwrites one passes no limit: each of the two was read from at most 4,096 bytes.
use Rattle.std.proofs.Common.{◌≡◌, ℕ, zero, suc, ◌+◌, ◌*◌, ◌<◌, ◌≤◌, Bool, true, false, cond, List, [], ◌∷◌, ◌++◌, map, codes, length, set, Option, Some, option_map, refl, sym, ap, subst, inl, inr, arith}
use Rattle.std.specs.Prelude.{slice_index, nat_le, ◌==◌}
use Rattle.std.proofs.lemmas.Bool.Decides.{nat_tests}
use Rattle.std.specs.List.{AllByRecursion, flat_map, sum_by}
use Rattle.std.proofs.lemmas.List.{length-append, length-map, length-set}
use Rattle.std.proofs.lemmas.List.Sums.{sum_by-cons, sum_by-append}
use Rattle.wv_base.specs.declared.class_file.Body.{Body}
use Rattle.wv_base.specs.declared.class_file.ClassFile.{ClassFile}
use Rattle.wv_base.specs.declared.class_file.ClassVersion.{ClassVersion}
use Rattle.wv_base.specs.declared.class_file.Member.{Member}
use Rattle.wv_base.specs.declared.class_file.PoolEntry.{PoolEntry}
use Rattle.wv_base.specs.declared.constant.Const.{Const}
use Rattle.wv_base.specs.declared.constant.Const.TheVariants as constants
use Rattle.wv_base.specs.declared.constant.MemberReference.{MemberReference}
use Rattle.wv_base.specs.declared.fault.LimitFault.{LimitFault}
use Rattle.wv_base.specs.declared.fault.LimitFault.TheVariants as faults
use Rattle.wv_base.specs.declared.insn.Insn.{Insn}
use Rattle.wv_base.specs.Opcodes.{putfield, bipush, invokeinterface}
use Rattle.wv_class.specs.Limits.{member_attributes, class_attributes, one_if, HasLong, SomeHasLong, HasLongList, IsTooLong, BreaksLimit, FirstOf, IsCause}
use Rattle.wv_class.specs.Needs.{parts_of, code_constants, member_needs, members_need, head_constants, annotations_need, class_needs}
use Rattle.wv_code.specs.Constants.{member_constant, constants_in, all_constants}
use Rattle.wv_code.specs.Laying.{Takes, Stand, Reaches, IsLarge, LeavesFar}
use Rattle.wv_pool.specs.Adding.{needs, numbers_of, Lacks, none, named, again, lacked, AreTooMany}
use Rattle.wv_class.specs.Sizes.{HasNoFrames, HasFewInsns, IsSmallMethod, IsSmall}
use Rattle.wv_class.proofs.SmallReads.{read_small}
use Rattle.wv_model.specs.MemberTable.{meaning_of, read_in_target, body_in_target, overwritten}
use Rattle.wv_model.specs.PlainCode.{Role, Game, Mixin, IsReferenceCalling}
use Rattle.wv_merge.specs.Overwriting.{IsChanged}
use Rattle.wv_merge.specs.Plain.{IsPlainBody}
use Rattle.wv_merge.specs.ThinClass.{IsReadThin, IsThinMethod, IsOwnName, IsNoArray, most_bytes}
use Rattle.wv_merge.proofs.ReadMethods.{all_weaker, all_set, all_at, all_contained, IsSimple, plain, push, reference, all_simple, some_body, insns_read}
use Rattle.wv_merge.proofs.ChangedForm.{no_frames, origin_plain, target_no_array, made_is}

-- ---- Lists

pub all_parts : {X : Type 0} (P : X → Type 0) (xs ys : List X) → AllByRecursion P (xs ++ ys) → AllByRecursion P xs × AllByRecursion P ys
all_parts P [] ys h = (tt, h)
all_parts P (x ∷ xs) ys h = let r = all_parts P xs ys h.1 in ((h.0, r.0), r.1)

-- ---- How many numbers constants take

lacks_few : (pool : List PoolEntry) (cs : List Const) (n : ℕ) → Lacks pool cs n → n ≤ sum_by numbers_of cs
lacks_few pool [] n none = omega arith
lacks_few pool (c ∷ cs) n (named h r) = omega (arith, lacks_few pool cs n r, sum_by-cons numbers_of c cs)
lacks_few pool (c ∷ cs) n (again h r) = omega (arith, lacks_few pool cs n r, sum_by-cons numbers_of c cs)
lacks_few pool (c ∷ cs) n (lacked {n = m} u v r) = omega (arith, lacks_few pool cs m r, sum_by-cons numbers_of c cs)

many_numbers : (pool : List PoolEntry) (cs : List Const) → AreTooMany pool cs → 65535 < length pool + 1 + sum_by numbers_of cs
many_numbers pool cs t =
    omega (arith, t.passes, lacks_few pool t.last t.more t.lacks, ap (sum_by numbers_of) t.parts, sum_by-append numbers_of t.before t.last)

-- the same with the constants behind them
count_next : (c : Const) (cs : List Const) → sum_by numbers_of (parts_of (c ∷ cs)) ≡ sum_by numbers_of (parts_of cs) + sum_by numbers_of (needs c)
count_next c cs = sum_by-append numbers_of (parts_of cs) (needs c)

count_then : (xs ys : List Const) → sum_by numbers_of (parts_of (xs ++ ys)) ≡ sum_by numbers_of (parts_of xs) + sum_by numbers_of (parts_of ys)
count_then [] ys = omega arith
count_then (c ∷ xs) ys = omega (arith, count_next c (xs ++ ys), count_next c xs, count_then xs ys)

member_count : (op : ℕ) (m : MemberReference) (interface : Bool) → sum_by numbers_of (needs (member_constant op m interface)) ≡ 6
member_count op m interface = go (nat_le op putfield)
  where
    go : (field : Bool) → sum_by numbers_of (needs (cond field (constants.Field m) (constants.Method m interface))) ≡ 6
    go true = refl
    go false = refl

module _ (mixin target : List ℕ) where
  read_count : {insn : Insn} → IsSimple insn → sum_by numbers_of (parts_of (constants_in (read_in_target mixin target insn))) ≤ 6
  read_count (plain is) = omega arith
  read_count (push is fits) = omega arith
  read_count (reference {op = op} {owner = owner} {name = name} {descriptor = descriptor} {interface = interface} member is) =
      let m : MemberReference = record { owner = meaning_of mixin target owner; name = name; descriptor = descriptor } in
      omega (arith, member_count op m interface, count_next (member_constant op m interface) [])

  code_count : (code : List Insn) → AllByRecursion (IsSimple) code → sum_by numbers_of (parts_of (flat_map constants_in (map (read_in_target mixin target) code))) ≤ 6 * length code
  code_count [] h = omega arith
  code_count (insn ∷ code) h =
      omega (arith, count_then (constants_in (read_in_target mixin target insn)) (flat_map constants_in (map (read_in_target mixin target) code)), read_count h.0, code_count code h.1)

  -- a method with the mixin's code names itself, its descriptor and Code
  overwritten_count : (old : Member) (origin : Member) (b : Body) → origin.body ≡ Some b → AllByRecursion (IsSimple) b.insns → sum_by numbers_of (member_needs (overwritten mixin target old origin)) ≤ 3 + 6 * length b.insns
  overwritten_count old origin b is simple =
      subst (λ (o : Option Body). sum_by numbers_of (parts_of (constants.Utf8 old.name ∷ constants.Utf8 old.descriptor ∷ (code_constants (option_map (body_in_target mixin target) o) ++ []))) ≤ 3 + 6 * length b.insns) (sym is)
      (omega (
        arith,
        count_next (constants.Utf8 old.name) (constants.Utf8 old.descriptor ∷ (code_constants (Some (body_in_target mixin target b)) ++ [])),
        count_next (constants.Utf8 old.descriptor) (code_constants (Some (body_in_target mixin target b)) ++ []),
        count_then (code_constants (Some (body_in_target mixin target b))) [],
        count_next (constants.Utf8 (codes "Code")) (all_constants (map (read_in_target mixin target) b.insns) ++ []),
        count_then (all_constants (map (read_in_target mixin target) b.insns)) [],
        code_count b.insns simple,
      ))

members_set : (methods : List Member) (place : ℕ) (method : Member) → sum_by numbers_of (members_need (set methods place method)) ≤ sum_by numbers_of (members_need methods) + sum_by numbers_of (member_needs method)
members_set [] place method = omega arith
members_set (old ∷ methods) zero method =
    omega (arith, sum_by-append numbers_of (members_need methods) (member_needs old), sum_by-append numbers_of (members_need methods) (member_needs method))
members_set (old ∷ methods) (suc place) method =
    omega (arith, sum_by-append numbers_of (members_need methods) (member_needs old), sum_by-append numbers_of (members_need (set methods place method)) (member_needs old), members_set methods place method)

class_count : (notes methods others : List Const) → sum_by numbers_of (notes ++ (methods ++ others)) ≡ sum_by numbers_of notes + sum_by numbers_of methods + sum_by numbers_of others
class_count notes methods others = omega (arith, sum_by-append numbers_of notes (methods ++ others), sum_by-append numbers_of methods others)

class_set : (class : ClassFile) (version : ClassVersion) (place : ℕ) (method : Member)
    → sum_by numbers_of (class_needs (record class { version = version; methods = set class.methods place method })) ≤ sum_by numbers_of (class_needs class) + sum_by numbers_of (member_needs method)
class_set class version place method =
    let others = members_need class.fields ++ parts_of (head_constants class) in
    omega (
      arith,
      class_count (annotations_need class.notes) (members_need class.methods) others,
      class_count (annotations_need class.notes) (members_need (set class.methods place method)) others,
      members_set class.methods place method,
    )

-- ---- How much there is in methods

-- a method without lists that are too long, and with little code, all of it plain
pub record IsLittle (n : ℕ) (m : Member) : Type 0 where
  pub body : Body
  pub has_body : m.body ≡ Some body
  pub simple : AllByRecursion (IsSimple) body.insns
  pub few : length body.insns ≤ n
  pub no_throws : m.throws ≡ []
  pub attributes : member_attributes m ≤ n

thin_little : (role : Role) (n : ℕ) (m : Member) → IsThinMethod role m → IsSmallMethod n m → IsLittle n m
thin_little role n m thin small =
    let b = some_body m.body (IsPlainBody m.descriptor) thin.plain.code in
    record {
      body = b.0;
      has_body = b.1;
      simple = all_simple b.0.insns b.2.plain;
      few = subst (HasFewInsns n) b.1 small.insns;
      no_throws = thin.no_throws;
      attributes = small.attributes;
    }

all_little : (role : Role) (n : ℕ) (methods : List Member) → AllByRecursion (IsThinMethod role) methods → AllByRecursion (IsSmallMethod n) methods → AllByRecursion (IsLittle n) methods
all_little role n [] thin small = tt
all_little role n (m ∷ methods) thin small = (thin_little role n m thin.0 small.0, all_little role n methods thin.1 small.1)

-- ---- Lists that are too long

little_short : (n : ℕ) (m : Member) → n ≤ 65535 → IsLittle n m → HasLong m → ⊥
little_short n m few is (inl long) = omega (arith, few, long, ap length is.no_throws)
little_short n m few is (inr long) = omega (arith, few, long, is.attributes)

some_short : (n : ℕ) (methods : List Member) → n ≤ 65535 → AllByRecursion (IsLittle n) methods → SomeHasLong methods → ⊥
some_short n methods few all (k, m, at, long) = little_short n m few (all_at (IsLittle n) methods k m at all) long

lists_short : (n : ℕ) (c : ClassFile) → n ≤ 65535 → c.interfaces ≡ [] → c.fields ≡ [] → length c.methods ≤ n → class_attributes c ≤ n → AllByRecursion (IsLittle n) c.methods → HasLongList c → ⊥
lists_short n c few interfaces fields methods attributes all (inl long) = omega (arith, long, ap length interfaces)
lists_short n c few interfaces fields methods attributes all (inr (inl long)) = omega (arith, long, ap length fields)
lists_short n c few interfaces fields methods attributes all (inr (inr (inl long))) = omega (arith, long, methods, few)
lists_short n c few interfaces fields methods attributes all (inr (inr (inr (inl long)))) = omega (arith, long, attributes, few)
lists_short n c few interfaces fields methods attributes all (inr (inr (inr (inr (inl some))))) = none_long (subst SomeHasLong fields some)
  where
    none_long : SomeHasLong [] → ⊥
    none_long (k, m, at, long) = cc
lists_short n c few interfaces fields methods attributes all (inr (inr (inr (inr (inr some))))) = some_short n c.methods few all some

-- ---- Code

insn_takes : {insn : Insn} (pool : List PoolEntry) (at bytes : ℕ) → IsSimple insn → Takes pool at insn bytes → bytes ≤ 3
insn_takes pool at bytes (plain is) (long, widens, takes) = omega (arith, takes)
insn_takes pool at bytes (push {op = op} is fits) (long, widens, takes) = go (op == bipush) takes
  where
    go : (small : Bool) → bytes ≡ cond small 2 3 → bytes ≤ 3
    go true e = omega (arith, e)
    go false e = omega (arith, e)
insn_takes pool at bytes (reference {op = op} member is) (long, widens, takes) = go op (is_member is) takes
  where
    is_member : {IsCalled : List ℕ → Type 0} {m : MemberReference} → IsReferenceCalling IsCalled op m → op ≤ 184
    is_member (inl h) = omega (arith, h.0)
    is_member (inr (inl h)) = omega (arith, h.0)
    is_member (inr (inr h)) = omega (arith, h.0)

    go : (code : ℕ) → code ≤ 184 → bytes ≡ cond (code == invokeinterface) 5 3 → bytes ≤ 3
    go code small e = grind (arith, nat_tests)

stand_short : (pool : List PoolEntry) (at : ℕ) (code : List Insn) (offsets : List ℕ) (end : ℕ) → AllByRecursion (IsSimple) code → Stand pool at code offsets end → end ≤ at + 3 * length code
stand_short pool at [] [] end is h = omega (arith, h)
stand_short pool at [] (o ∷ offsets) end is h = absurd h
stand_short pool at (insn ∷ code) [] end is h = absurd h
stand_short pool at (insn ∷ code) (o ∷ offsets) end is (from, (bytes, takes, stands)) =
    omega (arith, insn_takes pool at bytes is.0 takes, stand_short pool (at + bytes) code offsets end is.1 stands)

not_large : (n : ℕ) (pool : List PoolEntry) (code : List Insn) → AllByRecursion (IsSimple) code → length code ≤ n → 3 * n ≤ 65535 → IsLarge pool code → ⊥
not_large n pool code is few small h =
    let front = (all_parts (IsSimple) h.front h.back (subst (AllByRecursion (IsSimple)) h.parts is)).0 in
    omega (arith, few, small, h.passes, stand_short pool 0 h.front h.offsets h.end front h.stand, ap length h.parts, length-append h.front h.back)

reaches : {insn : Insn} (offsets : List ℕ) (at : ℕ) → IsSimple insn → Reaches offsets at insn
reaches offsets at (plain is) = tt
reaches offsets at (push is fits) = tt
reaches offsets at (reference member is) = tt

not_far : (pool : List PoolEntry) (code : List Insn) → AllByRecursion (IsSimple) code → LeavesFar pool code → ⊥
not_far pool code is h = h.far.far (reaches h.offsets (slice_index h.offsets h.far.index) (all_at (IsSimple) code h.far.index h.far.jump h.far.found is))

code_fits : (n : ℕ) (pool : List PoolEntry) (m : Member) (fault : LimitFault) → 3 * n ≤ 65535 → IsLittle n m → BreaksLimit pool m.body fault → ⊥
code_fits n pool m fault small is h = go fault (subst (λ (o : Option Body). BreaksLimit pool o fault) is.has_body h)
  where
    go : (fault : LimitFault) → BreaksLimit pool (Some is.body) fault → ⊥
    go faults.CodeLarge k = not_large n pool is.body.insns is.simple is.few small k
    go faults.BranchFar k = not_far pool is.body.insns is.simple k
    go faults.PoolLarge k = absurd k
    go faults.Memory k = absurd k

none_first : (n : ℕ) (pool : List PoolEntry) (methods : List Member) (fault : LimitFault) → 3 * n ≤ 65535 → AllByRecursion (IsLittle n) methods → FirstOf pool methods fault → ⊥
none_first n pool methods fault small all h =
    let behind = (all_parts (IsLittle n) h.before (h.method ∷ h.after) (subst (AllByRecursion (IsLittle n)) h.parts all)).1 in
    code_fits n pool h.method fault small behind.0 h.breaks

-- a class in which nothing is long passes no limit
within : (n : ℕ) (c : ClassFile) (fault : LimitFault) → 3 * n ≤ 65535 → AllByRecursion (IsLittle n) c.methods → (IsTooLong c → ⊥) → IsCause c fault → fault ≡ faults.Memory
within n c faults.PoolLarge small all short h = absurd (short h)
within n c faults.CodeLarge small all short h = absurd (none_first n h.pool c.methods faults.CodeLarge small all h.first)
within n c faults.BranchFar small all short h = absurd (none_first n h.pool c.methods faults.BranchFar small all h.first)
within n c faults.Memory small all short h = refl

-- ---- The class

most : most_bytes ≡ 4096
unfolding most_bytes
most = refl

-- what is known of a thin class by its bytes
thin_small : (role : Role) (class : ClassFile) → (is : IsReadThin role class) → IsSmall (length is.0) class
thin_small role class is =
    read_small is.0 class is.1.0 (all_weaker (IsThinMethod role) (λ (m : Member). HasNoFrames m.body) class.methods (no_frames role) is.1.1.1.methods)

methods_little : (role : Role) (class : ClassFile) → IsReadThin role class → AllByRecursion (IsLittle 4096) class.methods
methods_little role class is =
    all_weaker (IsLittle (length is.0)) (IsLittle 4096) class.methods (λ m h. record {
      body = h.body;
      has_body = h.has_body;
      simple = h.simple;
      few = omega (arith, h.few, is.1.1.0, most);
      no_throws = h.no_throws;
      attributes = omega (arith, h.attributes, is.1.1.0, most);
    })
    (all_little role (length is.0) class.methods is.1.1.1.methods (thin_small role class is).each)

-- a method of the mixin, in the place of one that it overwrites
overwritten_little : (mixin target : List ℕ) (old origin : Member) (b : Body) → IsOwnName mixin → IsNoArray target → origin.body ≡ Some b → AllByRecursion IsSimple b.insns → length b.insns ≤ 4096 → IsLittle 4096 (overwritten mixin target old origin)
overwritten_little mixin target old origin b own no_array is simple few = record {
  body = body_in_target mixin target b;
  has_body = ap (option_map (body_in_target mixin target)) is;
  simple = insns_read mixin target own no_array b.insns simple;
  few = omega (arith, few, length-map b.insns (read_in_target mixin target));
  no_throws = refl;
  attributes = subst (λ (o : Option Body). 0 + one_if (option_map (body_in_target mixin target) o) + 0 + 0 + 0 ≤ 4096) (sym is) (omega arith);
}

module _ (target mixin woven : ClassFile) (is : IsChanged target mixin woven) where
  few_insns : (b : Body) → is.change.origin.body ≡ Some b → length b.insns ≤ 4096
  few_insns b has =
      let read = is.is_mixin in
      let small = all_contained (IsSmallMethod (length read.0)) mixin.methods is.change.origin (thin_small Mixin mixin read).each is.change.of_mixin in
      let few : length b.insns ≤ length read.0 = subst (HasFewInsns (length read.0)) has small.insns in
      omega (arith, few, read.1.1.0, most)

  -- the target with another version and with a method of the mixin
  made_within : (version : ClassVersion) (fault : LimitFault)
      → IsCause (record target { version = version; methods = set target.methods is.overwriting.place (overwritten mixin.name target.name is.change.replaced.old is.change.origin) }) fault → fault ≡ faults.Memory
  made_within version fault =
      let read = is.is_target in
      let place = is.overwriting.place in
      let old = is.change.replaced.old in
      let origin = is.change.origin in
      let b = some_body origin.body (IsPlainBody origin.descriptor) (origin_plain target mixin woven is).code in
      let simple : AllByRecursion IsSimple b.0.insns = all_simple b.0.insns b.2.plain in
      let few : length b.0.insns ≤ 4096 = few_insns b.0 b.1 in
      let small = thin_small Game target read in
      let bound : length read.0 ≤ 4096 = omega (arith, read.1.1.0, most) in
      let new = overwritten mixin.name target.name old origin in
      let little = overwritten_little mixin.name target.name old origin b.0 is.is_mixin.1.1.1.of_role.1 (target_no_array target mixin woven is) b.1 simple few in
      let all = all_set (IsLittle 4096) target.methods place new (methods_little Game target read) little in
      let made = record target { version = version; methods = set target.methods place new } in
      let methods : length made.methods ≤ 4096 = omega (arith, small.methods, bound, length-set target.methods place new) in
      let attributes : class_attributes made ≤ 4096 = omega (arith, small.attributes, bound) in
      let numbers : sum_by numbers_of (class_needs made) ≤ 40963 =
      omega (arith, class_set target version place new, overwritten_count mixin.name target.name old origin b.0 b.1 simple, few, small.constants, bound) in
      within 4096 made fault (omega arith) all (λ long. elim long [
        | inl list ↦ lists_short 4096 made (omega arith) read.1.1.1.no_interfaces read.1.1.1.no_fields methods attributes all list
        | inr many ↦ omega (arith, many_numbers target.pool (class_needs made) many, numbers, small.pool, bound)
      ])

  pub woven_within : (fault : LimitFault) → IsCause woven fault → fault ≡ faults.Memory
  woven_within fault = subst (λ (c : ClassFile). IsCause c fault → fault ≡ faults.Memory) (sym (made_is target mixin woven is)) (made_within _ fault)
