-- Frames with offsets in place of indices.
use Rattle.std.proofs.Common.{◌≡◌, ℕ, zero, suc, ◌+◌, ◌^◌, ◌<◌, ◌≤◌, Bool, true, false, List, [], ◌∷◌, ◌++◌, length, get_or, take, Option, Some, refl, sym, ap, subst, ◌∙◌, arith}
use Rattle.std.specs.Prelude.{codes, slice_get, ◌==◌, ◌&&◌, not, if◌then◌else◌}
use Rattle.std.specs.List.{flat_map, list_any, AllByRecursion}
use Rattle.std.specs.Option.{option_and_then}
use Rattle.std.proofs.lemmas.List.{append-nil, take_more}
use Rattle.std.proofs.lemmas.Option.{slice_get_within}
use Rattle.wv_base.specs.declared.class_file.PoolEntry.{PoolEntry}
use Rattle.wv_base.specs.declared.class_file.Attribute.{Attribute}
use Rattle.wv_base.specs.declared.class_file.PoolEntry.TheVariants as entries
use Rattle.wv_base.specs.declared.constant.Const.{Const}
use Rattle.wv_base.specs.declared.constant.Const.TheVariants as constants
use Rattle.wv_base.specs.declared.frame.VType.{VType}
use Rattle.wv_base.specs.declared.frame.VType.TheVariants as vtypes
use Rattle.wv_base.specs.declared.frame.Frame.{Frame}
use Rattle.wv_base.specs.declared.frame.FrameAt.{FrameAt}
use Rattle.wv_base.specs.declared.insn.Insn.{Insn}
use Rattle.wv_base.specs.declared.insn.Insn.TheVariants as insn
use Rattle.wv_base.specs.Opcodes.{bipush, ldc, invokeinterface, goto_w}
use Rattle.wv_pool.specs.References.{entry_of, text_in, text_of, class_of}
use Rattle.wv_pool.specs.Constants.{constant_in, constant_of}
use Rattle.wv_pool.specs.Numbers.{Named}
use Rattle.wv_pool.specs.Adding.{Lacks, none, named, again, lacked, AreTooMany, Grows}
use Rattle.wv_pool.proofs.Behind.{some_is, then_some, text_is, class_is}
use Rattle.wv_frames.specs.Whole.{is_this}
use Rattle.wv_frames.specs.Writing.{IsWritableType, AreWritable, IsWritableFrame, AreFrom, IsWritable, type_needs, types_need, frame_needs, frames_need}
use Rattle.wv_code.specs.Size.{size}
use Rattle.wv_code.specs.Laying.{Stand}
use Rattle.wv_code.specs.Content.{NamesFrames}
use Rattle.wv_code.specs.Body.{IsTypeOf, AreTypesOf, IsFrameOf, AreFramesOf}
use Rattle.wv_code.specs.FormedBody.{IsFormedType, AreFormedTypes, IsFormedFrame, AreFormedFrom, AreFormedFrames}
use Rattle.wv_code.specs.BodyConstants.{type_constants, frame_constants}
use Rattle.wv_code.specs.WritingBody.{IsWithin, AreWithin, WritesFrames, WritesTables}
use Rattle.wv_code.proofs.Lists.{AllByRecursion-map}
use Rattle.wv_code.proofs.Stands.{end_behind}
use Rattle.wv_code.proofs.Written.{all_front, all_back}

-- ---- lists

pub all_get : {X : Type 0} (P : X → Type 0) (xs : List X) (k : ℕ) (x : X) → AllByRecursion P xs → slice_get xs k ≡ Some x → P x
all_get P [] k x h e = absurd cc
all_get P (y ∷ xs) zero x h e = subst P (some_is y x e) h.0
all_get P (y ∷ xs) (suc k) x h e = all_get P xs k x h.1 e

pub all_append : {X : Type 0} (P : X → Type 0) (xs ys : List X) → AllByRecursion P xs → AllByRecursion P ys → AllByRecursion P (xs ++ ys)
all_append P [] ys h k = k
all_append P (x ∷ xs) ys h k = (h.0, all_append P xs ys h.1 k)

empty_is : {X : Type 0} (xs : List X) → length xs ≡ 0 → xs ≡ []
empty_is [] e = refl
empty_is (x ∷ xs) e = absurd (omega arith)

-- ---- offsets ascend

either : (b : Bool) (m n : ℕ) → 1 ≤ m → 1 ≤ n → 1 ≤ (if b then m else n)
either true m n p q = p
either false m n p q = q

size_some : (long : Bool) (at : ℕ) (i : Insn) → 1 ≤ size long at i
size_some long at (insn.Plain op) = omega arith
size_some long at (insn.Push op value) = either (op == bipush) 2 3 (omega arith) (omega arith)
size_some long at (insn.Load op value) = either (op == ldc && not long) 2 3 (omega arith) (omega arith)
size_some long at (insn.Local op slot wide) = either wide 4 2 (omega arith) (omega arith)
size_some long at (insn.Inc slot by wide) = either wide 6 3 (omega arith) (omega arith)
size_some long at (insn.Branch op to) = either (op == goto_w) 5 3 (omega arith) (omega arith)
size_some long at (insn.Table low other targets) = omega arith
size_some long at (insn.Lookup other cases) = omega arith
size_some long at (insn.Reference op owner name descriptor interface) = either (op == invokeinterface) 5 3 (omega arith) (omega arith)
size_some long at (insn.Site bootstrap name descriptor) = omega arith
size_some long at (insn.Class op class) = omega arith
size_some long at (insn.NewArray kind) = omega arith
size_some long at (insn.MultiArray class dimensions) = omega arith

-- each offset is at the start or behind it
behind : (pool : List PoolEntry) (at : ℕ) (insns : List Insn) (offsets : List ℕ) (end k b : ℕ) → Stand pool at insns offsets end → slice_get offsets k ≡ Some b → at ≤ b
behind pool at [] [] end k b h e = absurd cc
behind pool at [] (o ∷ offsets) end k b h e = absurd h
behind pool at (i ∷ insns) [] end k b h e = absurd h
behind pool at (i ∷ insns) (o ∷ offsets) end zero b h e = omega (arith, h.0, some_is o b e)
behind pool at (i ∷ insns) (o ∷ offsets) end (suc k) b h e = omega (arith, behind pool (at + h.1.0) insns offsets end k b h.1.2 e)

pub ascends : (pool : List PoolEntry) (at : ℕ) (insns : List Insn) (offsets : List ℕ) (end : ℕ) → Stand pool at insns offsets end → (i k a b : ℕ) → i < k → slice_get offsets i ≡ Some a → slice_get offsets k ≡ Some b → a < b
ascends pool at [] [] end h i k a b lt e f = absurd cc
ascends pool at [] (o ∷ offsets) end h i k a b lt e f = absurd h
ascends pool at (j ∷ insns) [] end h i k a b lt e f = absurd h
ascends pool at (j ∷ insns) (o ∷ offsets) end h i zero a b lt e f = absurd (omega arith)
ascends pool at (j ∷ insns) (o ∷ offsets) end h zero (suc k) a b lt e f =
    omega (arith, h.0, some_is o a e, h.1.1.2, size_some h.1.1.0 at j, behind pool (at + h.1.0) insns offsets end k b h.1.2 f)
ascends pool at (j ∷ insns) (o ∷ offsets) end h (suc i) (suc k) a b lt e f = ascends pool (at + h.1.0) insns offsets end h.1.2 i k a b (omega arith) e f

pub before_end : (pool : List PoolEntry) (at : ℕ) (insns : List Insn) (offsets : List ℕ) (end k a : ℕ) → Stand pool at insns offsets end → slice_get offsets k ≡ Some a → a < end
before_end pool at [] [] end k a h e = absurd cc
before_end pool at [] (o ∷ offsets) end k a h e = absurd h
before_end pool at (j ∷ insns) [] end k a h e = absurd h
before_end pool at (j ∷ insns) (o ∷ offsets) end zero a h e = omega (arith, h.0, some_is o a e, h.1.1.2, size_some h.1.1.0 at j, end_behind pool (at + h.1.0) insns offsets end h.1.2)
before_end pool at (j ∷ insns) (o ∷ offsets) end (suc k) a h e = before_end pool (at + h.1.0) insns offsets end k a h.1.2 e

-- ---- one type and one frame more

type_push : (offsets : List ℕ) (raws kinds : List VType) (raw t : VType) → AreTypesOf offsets raws kinds → IsTypeOf offsets raw t → AreTypesOf offsets (raws ++ raw ∷ []) (kinds ++ t ∷ [])
type_push offsets [] [] raw t h k = (k, tt)
type_push offsets [] (y ∷ kinds) raw t h k = absurd h
type_push offsets (x ∷ raws) [] raw t h k = absurd h
type_push offsets (x ∷ raws) (y ∷ kinds) raw t h k = (h.0, type_push offsets raws kinds raw t h.1 k)

pub types_on : (offsets : List ℕ) (raws kinds : List VType) (k : ℕ) (raw d : VType) → k < length kinds → AreTypesOf offsets raws (take k kinds) → IsTypeOf offsets raw (get_or kinds k d) → AreTypesOf offsets (raws ++ raw ∷ []) (take (k + 1) kinds)
types_on offsets raws kinds k raw d lt h one = subst (λ (front : List VType). AreTypesOf offsets (raws ++ raw ∷ []) front) (sym (take_more kinds k d lt)) (type_push offsets raws (take k kinds) raw (get_or kinds k d) h one)

frame_push : (offsets : List ℕ) (raws frames : List FrameAt) (raw f : FrameAt) → AreFramesOf offsets raws frames → IsFrameOf offsets raw f → AreFramesOf offsets (raws ++ raw ∷ []) (frames ++ f ∷ [])
frame_push offsets [] [] raw f h k = (k, tt)
frame_push offsets [] (y ∷ frames) raw f h k = absurd h
frame_push offsets (x ∷ raws) [] raw f h k = absurd h
frame_push offsets (x ∷ raws) (y ∷ frames) raw f h k = (h.0, frame_push offsets raws frames raw f h.1 k)

pub frames_on : (offsets : List ℕ) (raws frames : List FrameAt) (k : ℕ) (raw d : FrameAt) → k < length frames → AreFramesOf offsets raws (take k frames) → IsFrameOf offsets raw (get_or frames k d) → AreFramesOf offsets (raws ++ raw ∷ []) (take (k + 1) frames)
frames_on offsets raws frames k raw d lt h one = subst (λ (front : List FrameAt). AreFramesOf offsets (raws ++ raw ∷ []) front) (sym (take_more frames k d lt)) (frame_push offsets raws (take k frames) raw (get_or frames k d) h one)

-- a type but an uninitialized one is itself
pub same_type : (offsets : List ℕ) (raw t : VType) → ((index : ℕ) → t ≡ vtypes.Uninitialized index → ⊥) → raw ≡ t → IsTypeOf offsets raw t
same_type offsets (vtypes.Uninitialized at) t other e = absurd (other at (sym e))
same_type offsets raw t other e = e

-- ---- what is formed is within the code

within_type : (insns : List Insn) (t : VType) → IsFormedType insns t → IsWithin (length insns) t
within_type insns (vtypes.Uninitialized index) h = slice_get_within insns index _ h.1
within_type insns _ h = tt

pub all_within : (insns : List Insn) (next : ℕ) (frames : List FrameAt) → AreFormedFrom insns next frames → AllByRecursion (AreWithin (length insns)) frames
all_within insns next [] h = tt
all_within insns next (one ∷ others) h = (
  (h.1, AllByRecursion-map (IsFormedType insns) (IsWithin (length insns)) one.frame.locals (within_type insns) h.2.0.1, AllByRecursion-map (IsFormedType insns) (IsWithin (length insns)) one.frame.stack (within_type insns) h.2.1.1),
  all_within insns (one.at + 1) others h.3,
)

-- ---- what is formed can be written

type_this : (offsets : List ℕ) (raw t : VType) → IsTypeOf offsets raw t → is_this raw ≡ is_this t
type_this offsets (vtypes.Uninitialized at) (vtypes.Uninitialized index) h = refl
type_this offsets (vtypes.Uninitialized at) _ h = absurd h
type_this offsets raw t h = ap is_this h

this_same : (offsets : List ℕ) (raws kinds : List VType) → AreTypesOf offsets raws kinds → list_any is_this raws ≡ list_any is_this kinds
this_same offsets [] [] h = refl
this_same offsets [] (t ∷ kinds) h = absurd h
this_same offsets (raw ∷ raws) [] h = absurd h
this_same offsets (raw ∷ raws) (t ∷ kinds) h = cc (type_this offsets raw t h.0, this_same offsets raws kinds h.1)

as_many_types : (offsets : List ℕ) (raws kinds : List VType) → AreTypesOf offsets raws kinds → length raws ≡ length kinds
as_many_types offsets [] [] h = refl
as_many_types offsets [] (t ∷ kinds) h = absurd h
as_many_types offsets (raw ∷ raws) [] h = absurd h
as_many_types offsets (raw ∷ raws) (t ∷ kinds) h = ap suc (as_many_types offsets raws kinds h.1)

as_many_frames : (offsets : List ℕ) (raws frames : List FrameAt) → AreFramesOf offsets raws frames → length raws ≡ length frames
as_many_frames offsets [] [] h = refl
as_many_frames offsets [] (f ∷ frames) h = absurd h
as_many_frames offsets (raw ∷ raws) [] h = absurd h
as_many_frames offsets (raw ∷ raws) (f ∷ frames) h = ap suc (as_many_frames offsets raws frames h.1)

writable_type : (insns : List Insn) (offsets : List ℕ) (raw t : VType) → AllByRecursion (λ o. o ≤ 65535) offsets → IsTypeOf offsets raw t → IsFormedType insns t → IsWritableType raw
writable_type insns offsets (vtypes.Uninitialized at) (vtypes.Uninitialized index) few h formed = let small : at ≤ 65535 = all_get (λ o. o ≤ 65535) offsets index at few h in omega arith
writable_type insns offsets (vtypes.Uninitialized at) _ few h formed = absurd h
writable_type insns offsets (vtypes.Class name) t few h formed = subst (λ (z : VType). IsFormedType insns z) (sym h) formed
writable_type insns offsets _ t few h formed = tt

writable_types : (insns : List Insn) (offsets : List ℕ) (raws kinds : List VType) → AllByRecursion (λ o. o ≤ 65535) offsets → AreTypesOf offsets raws kinds → AllByRecursion (IsFormedType insns) kinds → AllByRecursion IsWritableType raws
writable_types insns offsets [] [] few h formed = tt
writable_types insns offsets [] (t ∷ kinds) few h formed = absurd h
writable_types insns offsets (raw ∷ raws) [] few h formed = absurd h
writable_types insns offsets (raw ∷ raws) (t ∷ kinds) few h formed = (writable_type insns offsets raw t few h.0 formed.0, writable_types insns offsets raws kinds few h.1 formed.1)

are_writable : (insns : List Insn) (offsets : List ℕ) (raws kinds : List VType) → AllByRecursion (λ o. o ≤ 65535) offsets → AreTypesOf offsets raws kinds → AreFormedTypes insns kinds → AreWritable raws
are_writable insns offsets raws kinds few h formed = (omega (arith, as_many_types offsets raws kinds h, formed.0), writable_types insns offsets raws kinds few h formed.1)

writable_frame : (insns : List Insn) (offsets : List ℕ) (raw f : FrameAt) → AllByRecursion (λ o. o ≤ 65535) offsets → IsFrameOf offsets raw f → IsFormedFrame insns f.frame → IsWritableFrame raw.frame
writable_frame insns offsets raw f few h formed = (
  are_writable insns offsets raw.frame.locals f.frame.locals few h.1 formed.0,
  are_writable insns offsets raw.frame.stack f.frame.stack few h.2 formed.1,
  h.3 ∙ formed.2 ∙ sym (this_same offsets raw.frame.locals f.frame.locals h.1),
)

-- the offsets of frames from an index on
are_from : (insns : List Insn) (offsets : List ℕ) (raws frames : List FrameAt) (next from : ℕ) → AllByRecursion (λ o. o ≤ 65535) offsets → ((i k a b : ℕ) → i < k → slice_get offsets i ≡ Some a → slice_get offsets k ≡ Some b → a < b)
    → ((k a : ℕ) → next ≤ k → slice_get offsets k ≡ Some a → from ≤ a) → AreFramesOf offsets raws frames → AreFormedFrom insns next frames → AreFrom from raws
are_from insns offsets [] [] next from few rise low h formed = tt
are_from insns offsets [] (f ∷ frames) next from few rise low h formed = absurd h
are_from insns offsets (raw ∷ raws) [] next from few rise low h formed = absurd h
are_from insns offsets (raw ∷ raws) (f ∷ frames) next from few rise low h formed = (
  low f.at raw.at formed.0 h.0.0,
  (let small : raw.at ≤ 65535 = all_get (λ o. o ≤ 65535) offsets f.at raw.at few h.0.0 in omega arith),
  writable_frame insns offsets raw f few h.0 formed.2,
  are_from insns offsets raws frames (f.at + 1) (raw.at + 1) few rise (λ k a le e. let lt : raw.at < a = rise f.at k raw.at a (omega arith) h.0.0 e in omega arith) h.1 formed.3,
)

pub are_writable_frames : (pool : List PoolEntry) (insns : List Insn) (offsets : List ℕ) (end : ℕ) (raws frames : List FrameAt) → Stand pool 0 insns offsets end → AllByRecursion (λ o. o ≤ 65535) offsets → AreFramesOf offsets raws frames → AreFormedFrames insns frames
    → IsWritable raws
are_writable_frames pool insns offsets end raws frames stand few h formed =
    (omega (arith, as_many_frames offsets raws frames h, formed.0), are_from insns offsets raws frames 0 0 few (ascends pool 0 insns offsets end stand) (λ k a le e. omega arith) h formed.1)

-- ---- what frames need has numbers

text_entry : (pool : List PoolEntry) (n : ℕ) (x : List ℕ) → text_of pool n ≡ Some x → constant_of pool n ≡ Some (constants.Utf8 x)
text_entry pool n x h = go (entry_of pool n) refl h
  where
    go : (o : Option PoolEntry) → entry_of pool n ≡ o → text_in o ≡ Some x → constant_of pool n ≡ Some (constants.Utf8 x)
    go (Some (entries.Utf8 y)) e h = ap (option_and_then (constant_in pool)) e ∙ ap (λ (z : List ℕ). Some (constants.Utf8 z)) (some_is y x h)
    go _ e h = absurd cc

-- where a class has a number, its name has one
name_named : (pool : List PoolEntry) (name : List ℕ) → Named pool (constants.Class name) → Named pool (constants.Utf8 name)
name_named pool name (n, h) = let t = then_some (text_of pool) (class_of pool n) name (class_is pool n name h) in (t.0, text_entry pool t.0 name t.2)

named_type : (pool : List PoolEntry) (offsets : List ℕ) (raw t : VType) → IsTypeOf offsets raw t → AllByRecursion (Named pool) (type_constants t) → AllByRecursion (Named pool) (type_needs raw)
named_type pool offsets (vtypes.Uninitialized at) t h all = tt
named_type pool offsets (vtypes.Class name) t h all =
    let class = subst (λ (z : VType). AllByRecursion (Named pool) (type_constants z)) (sym h) all in (class.0, (name_named pool name class.0, tt))
named_type pool offsets _ t h all = tt

named_types : (pool : List PoolEntry) (offsets : List ℕ) (raws kinds : List VType) → AreTypesOf offsets raws kinds → AllByRecursion (Named pool) (flat_map type_constants kinds) → AllByRecursion (Named pool) (types_need raws)
named_types pool offsets [] [] h all = tt
named_types pool offsets [] (t ∷ kinds) h all = absurd h
named_types pool offsets (raw ∷ raws) [] h all = absurd h
named_types pool offsets (raw ∷ raws) (t ∷ kinds) h all =
    all_append (Named pool) (types_need raws) (type_needs raw) (named_types pool offsets raws kinds h.1 (all_back (Named pool) (type_constants t) (flat_map type_constants kinds) all))
    (named_type pool offsets raw t h.0 (all_front (Named pool) (type_constants t) (flat_map type_constants kinds) all))

named_frame : (pool : List PoolEntry) (offsets : List ℕ) (raw f : FrameAt) → IsFrameOf offsets raw f → AllByRecursion (Named pool) (frame_constants f) → AllByRecursion (Named pool) (frame_needs raw.frame)
named_frame pool offsets raw f h all =
    all_append (Named pool) (types_need raw.frame.stack) (types_need raw.frame.locals)
    (named_types pool offsets raw.frame.stack f.frame.stack h.2 (all_back (Named pool) (flat_map type_constants f.frame.locals) (flat_map type_constants f.frame.stack) all))
    (named_types pool offsets raw.frame.locals f.frame.locals h.1 (all_front (Named pool) (flat_map type_constants f.frame.locals) (flat_map type_constants f.frame.stack) all))

pub named_frames : (pool : List PoolEntry) (offsets : List ℕ) (raws frames : List FrameAt) → AreFramesOf offsets raws frames → AllByRecursion (Named pool) (flat_map frame_constants frames) → AllByRecursion (Named pool) (frames_need raws)
named_frames pool offsets [] [] h all = tt
named_frames pool offsets [] (f ∷ frames) h all = absurd h
named_frames pool offsets (raw ∷ raws) [] h all = absurd h
named_frames pool offsets (raw ∷ raws) (f ∷ frames) h all =
    all_append (Named pool) (frames_need raws) (frame_needs raw.frame) (named_frames pool offsets raws frames h.1 (all_back (Named pool) (frame_constants f) (flat_map frame_constants frames) all))
    (named_frame pool offsets raw f h.0 (all_front (Named pool) (frame_constants f) (flat_map frame_constants frames) all))

-- ---- a pool that lacks nothing stays as it is

nothing_lacked : (pool : List PoolEntry) (cs : List Const) (n : ℕ) → AllByRecursion (Named pool) cs → Lacks pool cs n → n ≡ 0
nothing_lacked pool [] n all none = refl
nothing_lacked pool (c ∷ cs) n all (named h l) = nothing_lacked pool cs n all.1 l
nothing_lacked pool (c ∷ cs) n all (again h l) = nothing_lacked pool cs n all.1 l
nothing_lacked pool (c ∷ cs) n all (lacked unnamed alone l) = absurd (unnamed all.0)

pub grown_same : (old new : List PoolEntry) (cs : List Const) → Grows old cs new → AllByRecursion (Named old) cs → new ≡ old
grown_same old new cs g all = g.longer ∙ ap (λ (more : List PoolEntry). old ++ more) (empty_is g.more (nothing_lacked old cs (length g.more) all g.lacks)) ∙ append-nil old

pub not_many : (pool : List PoolEntry) (cs : List Const) → length pool + 1 < 2 ^ 16 → AreTooMany pool cs → AllByRecursion (Named pool) cs → ⊥
not_many pool cs few t all =
    let more : t.more ≡ 0 = nothing_lacked pool t.last t.more (all_back (Named pool) t.before t.last (subst (AllByRecursion (Named pool)) t.parts all)) t.lacks in
    let passes : 65535 < length pool + 1 + t.more = t.passes in
    omega arith

-- ---- the attribute of frames

pub one_table : (old new : List PoolEntry) (offsets : List ℕ) (frames : List FrameAt) (first : Frame) (a : Attribute) → new ≡ old → 1 ≤ length frames → a.name < 2 ^ 16 → constant_of old a.name ≡ Some (constants.Utf8 (codes "StackMapTable")) → length a.content < 2 ^ 32
    → WritesFrames new offsets frames first a.content → WritesTables new offsets frames first (a ∷ [])
one_table old new offsets [] first a same some small text room written = absurd (omega arith)
one_table old new offsets (one ∷ others) first a same some small text room written =
    (small, subst (λ (p : List PoolEntry). NamesFrames p a.name) (sym same) (text_is old a.name (codes "StackMapTable") text), room, written)
