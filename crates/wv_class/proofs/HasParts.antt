-- Constants that a pool has with those behind them: it stays as it is where they are put into it.
use Rattle.std.proofs.Common.{◌≡◌, ◌+◌, ◌^◌, ◌<◌, Bool, true, false, List, [], ◌∷◌, length, if◌then◌else◌, refl, subst, inl, inr}
use Rattle.std.specs.Prelude.{◌==◌}
use Rattle.std.specs.List.{AllByRecursion}
use Rattle.wv_base.specs.declared.class_file.PoolEntry.{PoolEntry}
use Rattle.wv_base.specs.declared.constant.Const.{Const}
use Rattle.wv_base.specs.declared.constant.Const.TheVariants as constants
use Rattle.wv_base.specs.declared.insn.Insn.{Insn}
use Rattle.wv_base.specs.declared.insn.Insn.TheVariants as insn
use Rattle.wv_base.specs.Opcodes.{ldc}
use Rattle.wv_pool.specs.Adding.{needs, AreTooMany}
use Rattle.wv_pool.specs.Numbers.{Named}
use Rattle.wv_code.specs.Constants.{constants_in, all_constants}
use Rattle.wv_code.specs.Entering.{short_constant, short_constants, Puts, Enters, none, next, MeetsFull}
use Rattle.wv_code.proofs.Written.{all_front, all_back}
use Rattle.wv_code.proofs.OffsetFrames.{all_append, grown_same, not_many}
use Rattle.wv_class.specs.Needs.{parts_of}

-- the pool has the constant, and those behind it
abbrev pub HasParts : List PoolEntry → Const → Type 0
HasParts pool c = AllByRecursion (Named pool) (needs c)

pub part_named : (pool : List PoolEntry) (c : Const) → HasParts pool c → Named pool c
part_named pool (constants.Utf8 x) h = h.0
part_named pool (constants.Integer x) h = h.0
part_named pool (constants.Float x) h = h.0
part_named pool (constants.Long x) h = h.0
part_named pool (constants.Double x) h = h.0
part_named pool (constants.Class x) h = h.0
part_named pool (constants.String x) h = h.0
part_named pool (constants.Field m) h = h.0
part_named pool (constants.Method m i) h = h.0
part_named pool (constants.NameAndType x y) h = h.0
part_named pool (constants.MethodHandle k m i) h = h.0
part_named pool (constants.MethodType x) h = h.0
part_named pool (constants.InvokeDynamic b x y) h = h.0

-- ---- parts of many

pub each_has_parts : (pool : List PoolEntry) (cs : List Const) → AllByRecursion (Named pool) (parts_of cs) → AllByRecursion (HasParts pool) cs
each_has_parts pool [] h = tt
each_has_parts pool (c ∷ cs) h = (all_back (Named pool) (parts_of cs) (needs c) h, each_has_parts pool cs (all_front (Named pool) (parts_of cs) (needs c) h))

pub each_named : (pool : List PoolEntry) (cs : List Const) → AllByRecursion (HasParts pool) cs → AllByRecursion (Named pool) cs
each_named pool [] h = tt
each_named pool (c ∷ cs) h = (part_named pool c h.0, each_named pool cs h.1)

pub parts_together : (pool : List PoolEntry) (cs : List Const) → AllByRecursion (HasParts pool) cs → AllByRecursion (Named pool) (parts_of cs)
parts_together pool [] h = tt
parts_together pool (c ∷ cs) h = all_append (Named pool) (parts_of cs) (needs c) (parts_together pool cs h.1) h.0

pub parts_named : (pool : List PoolEntry) (cs : List Const) → AllByRecursion (Named pool) (parts_of cs) → AllByRecursion (Named pool) cs
parts_named pool cs h = each_named pool cs (each_has_parts pool cs h)

-- ---- nothing is lacking

puts_same : (pool : List PoolEntry) (c : Const) (new : List PoolEntry) → HasParts pool c → Puts pool c new → new ≡ pool
puts_same pool c new has (inl there) = there.1
puts_same pool c new has (inr grown) = grown_same pool new (needs c) grown has

pub enters_same : (pool : List PoolEntry) (cs : List Const) (new : List PoolEntry) → AllByRecursion (HasParts pool) cs → Enters pool cs new → new ≡ pool
enters_same pool cs new all none = refl
enters_same pool cs new all (next {cs = ds} {c = c} {middle = middle} e p) =
    let so_far = enters_same pool ds middle (all_front (HasParts pool) ds (c ∷ []) all) e in
    puts_same pool c new (all_back (HasParts pool) ds (c ∷ []) all).0 (subst (λ (t : List PoolEntry). Puts t c new) so_far p)

pub never_full : (pool : List PoolEntry) (cs : List Const) → length pool + 1 < 2 ^ 16 → AllByRecursion (HasParts pool) cs → MeetsFull pool cs → ⊥
never_full pool cs few all m =
    let split = subst (AllByRecursion (HasParts pool)) m.parts all in
    let same = enters_same pool m.before m.pool (all_front (HasParts pool) m.before (m.constant ∷ m.after) split) m.entered in
    not_many pool (needs m.constant) few (subst (λ (t : List PoolEntry). AreTooMany t (needs m.constant)) same m.full) (all_back (HasParts pool) m.before (m.constant ∷ m.after) split).0

-- ---- the constants of ldc are among those of the code

short_one : (P : Const → Type 0) (i : Insn) → AllByRecursion P (constants_in i) → AllByRecursion P (short_constant i)
short_one P (insn.Load op value) h = by_test (op == ldc)
  where
    by_test : (short : Bool) → AllByRecursion P (if short then value ∷ [] else [])
    by_test true = h
    by_test false = tt
short_one P _ h = tt

pub short_among : (P : Const → Type 0) (insns : List Insn) → AllByRecursion P (all_constants insns) → AllByRecursion P (short_constants insns)
short_among P [] h = tt
short_among P (i ∷ insns) h =
    all_append P (short_constant i) (short_constants insns) (short_one P i (all_front P (constants_in i) (all_constants insns) h)) (short_among P insns (all_back P (constants_in i) (all_constants insns) h))
