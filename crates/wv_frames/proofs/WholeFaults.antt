-- Where whole frames aren't found.
use Rattle.std.proofs.Common.{◌≡◌, ℕ, ◌+◌, ◌<◌, false, List, [], ◌∷◌, ◌++◌, length, take, drop, get_or, Option, Some, None, Result, Ok, Err, refl, sym, ap, subst, ◌∙◌, inl, inr, arith}
use Rattle.std.specs.Prelude.{IsSome, is_some, IfOk, IfErr, nat_le}
use Rattle.std.specs.Option.{option_map, option_and_then}
use Rattle.std.specs.List.{flat_map}
use Rattle.std.proofs.lemmas.Bool.{lt-leb}
use Rattle.wv_base.specs.declared.fault.ClassFault.{ClassFault}
use Rattle.wv_base.specs.declared.fault.ClassFault.TheVariants as faults
use Rattle.wv_base.specs.declared.class_file.PoolEntry.{PoolEntry}
use Rattle.wv_base.specs.declared.frame.VType.{VType}
use Rattle.wv_base.specs.declared.frame.Frame.{Frame}
use Rattle.wv_base.specs.declared.frame.FrameAt.{FrameAt}
use Rattle.wv_pool.proofs.Behind.{some_is, map_some, then_some}
use Rattle.wv_pool.proofs.Entire.{split_at}
use Rattle.wv_frames.specs.declared.raw.RawType.{RawType}
use Rattle.wv_frames.specs.declared.raw.RawType.TheVariants as types
use Rattle.wv_frames.specs.declared.raw.RawFrame.{RawFrame}
use Rattle.wv_frames.specs.declared.raw.RawFrame.TheVariants as frames
use Rattle.wv_frames.specs.Spelling.{type_bytes, frame_bytes}
use Rattle.wv_frames.specs.Whole.{type_of, types_of, frame_of, frame_after, delta_of, frames_from, locals_behind}
use Rattle.wv_frames.specs.References.{TypesBreak, BreaksAt, FirstBreaks}
use Rattle.wv_frames.specs.Answers.{GivesFrames, TypeBreaks, TypesBreakFrom, FrameBreaks, ReferencesBreak}

some_there : {A : Type 0} (o : Option A) (x : A) → o ≡ Some x → IsSome o
some_there o x e = ap is_some e

-- the fault of a type is that of the types
pub types_break : (pool : List PoolEntry) (all : List RawType) (base at i : ℕ) (found : List VType) (e : ClassFault) → i < length all → types_of pool (take i all) ≡ Some found → at ≡ base + length (flat_map type_bytes (take i all))
    → TypeBreaks pool (get_or all i types.Top) (at + 1) e → TypesBreakFrom pool all base e
types_break pool all base at i found faults.Memory lt is place h = tt
types_break pool all base at i found (faults.Layout p) lt is place h = h
types_break pool all base at i found (faults.Reference p) lt is place h = record {
  before = take i all;
  broken = get_or all i types.Top;
  after = drop (i + 1) all;
  parts = split_at all i types.Top lt;
  named = some_there (types_of pool (take i all)) found is;
  unnamed = h.0;
  place = omega (arith, h.1, place);
}

-- the fault of a frame is that of the frames
pub frames_break : (pool : List PoolEntry) (first : Frame) (all : List RawFrame) (place i : ℕ) (found : List FrameAt) (locals : List VType) (one : RawFrame) (e : ClassFault) → all ≡ take i all ++ one ∷ drop (i + 1) all → frames_from pool 0 first.locals (take i all) ≡ Some found → place ≡ 2 + length (flat_map frame_bytes (take i all))
    → locals ≡ locals_behind first.locals found → FrameBreaks pool locals one place e → ReferencesBreak pool first all e
frames_break pool first all place i found locals one faults.Memory parts is at behind h = tt
frames_break pool first all place i found locals one (faults.Layout p) parts is at behind h = h
frames_break pool first all place i found locals one (faults.Reference p) parts is at behind h = record {
  before = take i all;
  broken = one;
  after = drop (i + 1) all;
  parts = parts;
  frames = found;
  whole = is;
  breaks = subst (λ (base : ℕ). BreaksAt pool (locals_behind first.locals found) one base p) at (subst (λ (ls : List VType). BreaksAt pool ls one place p) behind h);
}

-- ---- what breaks isn't found

types_none : (pool : List PoolEntry) (before : List RawType) (broken : RawType) (after : List RawType) → type_of pool broken ≡ None → types_of pool (before ++ broken ∷ after) ≡ None
types_none pool [] broken after h = ap (option_and_then (λ type. option_map (λ rest. type ∷ rest) (types_of pool after))) h
types_none pool (x ∷ before) broken after h = behind_none (type_of pool x) (types_none pool before broken after h)
  where
    behind_none : (o : Option VType) → types_of pool (before ++ broken ∷ after) ≡ None → option_and_then (λ type. option_map (λ rest. type ∷ rest) (types_of pool (before ++ broken ∷ after))) o ≡ None
    behind_none None none = refl
    behind_none (Some type) none = ap (option_map (λ rest. type ∷ rest)) none

break_none : (pool : List PoolEntry) (all : List RawType) (base at : ℕ) → TypesBreak pool all base at → types_of pool all ≡ None
break_none pool all base at b = ap (types_of pool) b.parts ∙ types_none pool b.before b.broken b.after b.unnamed

one_none : (pool : List PoolEntry) (one : RawType) → types_of pool (one ∷ []) ≡ None → type_of pool one ≡ None
one_none pool one e = go (type_of pool one) e
  where
    go : (o : Option VType) → option_and_then (λ type. option_map (λ rest. type ∷ rest) (Some [])) o ≡ None → o ≡ None
    go None h = refl
    go (Some type) h = absurd cc

none_then : {A B : Type 0} (f : A → Option B) (o : Option A) → ((x : A) → f x ≡ None) → option_and_then f o ≡ None
none_then f None h = refl
none_then f (Some x) h = h x

frame_none : (pool : List PoolEntry) (locals : List VType) (raw : RawFrame) (base at : ℕ) → BreaksAt pool locals raw base at → frame_after pool locals raw ≡ None
frame_none pool locals (frames.Same delta) base at b = absurd b
frame_none pool locals (frames.SameWithOne delta stack) base at b = ap (option_map (λ top. frame_of locals (top ∷ []))) (one_none pool stack (break_none pool (stack ∷ []) (base + 1) at b))
frame_none pool locals (frames.SameWithOneExtended delta stack) base at b = ap (option_map (λ top. frame_of locals (top ∷ []))) (one_none pool stack (break_none pool (stack ∷ []) (base + 3) at b))
frame_none pool locals (frames.Chop count delta) base at b = let few : nat_le count (length locals) ≡ false = lt-leb count (length locals) b.1 in rw few refl
frame_none pool locals (frames.SameExtended delta) base at b = absurd b
frame_none pool locals (frames.Append delta more) base at b = ap (option_map (λ last. frame_of (locals ++ last) [])) (break_none pool more (base + 3) at b)
frame_none pool locals (frames.Full delta all stack) base at (inl b) = ap (option_and_then (λ first. option_map (λ items. frame_of first items) (types_of pool stack))) (break_none pool all (base + 5) at b)
frame_none pool locals (frames.Full delta all stack) base at (inr b) = none_then (λ first. option_map (λ items. frame_of first items) (types_of pool stack)) (types_of pool all) (λ first. ap (option_map (λ items. frame_of first items)) (break_none pool stack (base + 7 + length (flat_map type_bytes all)) at b.1))

frames_none : (pool : List PoolEntry) (next : ℕ) (locals : List VType) (before : List RawFrame) (broken : RawFrame) (after : List RawFrame) (found : List FrameAt) → frames_from pool next locals before ≡ Some found → frame_after pool (locals_behind locals found) broken ≡ None → frames_from pool next locals (before ++ broken ∷ after) ≡ None
frames_none pool next locals [] broken after found is h =
    let none : [] ≡ found = some_is [] found is in
    let here : frame_after pool locals broken ≡ None = ap (λ (fs : List FrameAt). frame_after pool (locals_behind locals fs) broken) none ∙ h in
    ap (option_and_then (λ (frame : Frame). option_map (λ (rest : List FrameAt). record { at = next + delta_of broken; frame = frame } ∷ rest) (frames_from pool (next + delta_of broken + 1) frame.locals after))) here
frames_none pool next locals (x ∷ before) broken after found is h =
    let t = then_some (λ (frame : Frame). option_map (λ (rest : List FrameAt). record { at = next + delta_of x; frame = frame } ∷ rest) (frames_from pool (next + delta_of x + 1) frame.locals before)) (frame_after pool locals x) found is in
    let u = map_some (λ (rest : List FrameAt). record { at = next + delta_of x; frame = t.0 } ∷ rest) (frames_from pool (next + delta_of x + 1) t.0.locals before) found t.2 in
    let here : frame_after pool (locals_behind t.0.locals u.0) broken ≡ None = ap (λ (fs : List FrameAt). frame_after pool (locals_behind locals fs) broken) u.2 ∙ h in
    ap (option_and_then (λ (frame : Frame). option_map (λ (rest : List FrameAt). record { at = next + delta_of x; frame = frame } ∷ rest) (frames_from pool (next + delta_of x + 1) frame.locals (before ++ broken ∷ after)))) t.1
    ∙ ap (option_map (λ (rest : List FrameAt). record { at = next + delta_of x; frame = t.0 } ∷ rest)) (frames_none pool (next + delta_of x + 1) t.0.locals before broken after u.0 u.1 here)

broken_none : (pool : List PoolEntry) (first : Frame) (all : List RawFrame) (at : ℕ) → FirstBreaks pool first all at → frames_from pool 0 first.locals all ≡ None
broken_none pool first all at b = ap (frames_from pool 0 first.locals) b.parts ∙ frames_none pool 0 first.locals b.before b.broken b.after b.frames b.whole (frame_none pool (locals_behind first.locals b.frames) b.broken _ at b.breaks)

-- an answer is the only one
pub gives_only : (pool : List PoolEntry) (first : Frame) (raw : List RawFrame) (all : List FrameAt) (r : Result (List FrameAt) ClassFault) → IfOk r (λ found. frames_from pool 0 first.locals raw ≡ Some found) → IfErr r (ReferencesBreak pool first raw) → frames_from pool 0 first.locals raw ≡ Some all → GivesFrames r all
gives_only pool first raw all (Ok found) ok err is = some_is found all (sym ok ∙ is)
gives_only pool first raw all (Err faults.Memory) ok err is = tt
gives_only pool first raw all (Err (faults.Layout at)) ok err is = err
gives_only pool first raw all (Err (faults.Reference at)) ok err is = let never : Path (Option (List FrameAt)) None (Some all) = sym (broken_none pool first raw at err) ∙ is in absurd cc
