-- No item of a written StackMapTable breaks what it must meet.
use Rattle.std.proofs.Common.{◌≡◌, ℕ, zero, suc, ◌+◌, List, [], ◌∷◌, ◌++◌, take, Some, Err, refl, sym, ap, subst, ◌∙◌}
use Rattle.std.specs.Prelude.{slice_get}
use Rattle.std.specs.List.{AllByRecursion}
use Rattle.std.specs.Option.{option_map}
use Rattle.wv_base.specs.declared.class_file.PoolEntry.{PoolEntry}
use Rattle.wv_base.specs.declared.fault.ClassFault.TheVariants as faults
use Rattle.wv_base.specs.declared.frame.VType.{VType}
use Rattle.wv_base.specs.declared.frame.VType.TheVariants as vtypes
use Rattle.wv_base.specs.declared.frame.Frame.{Frame}
use Rattle.wv_base.specs.declared.frame.FrameAt.{FrameAt}
use Rattle.wv_base.specs.declared.insn.Insn.{Insn}
use Rattle.wv_pool.proofs.Behind.{some_is, map_some, then_some}
use Rattle.wv_frames.specs.declared.raw.RawType.{RawType}
use Rattle.wv_frames.specs.declared.raw.RawType.TheVariants as types
use Rattle.wv_frames.specs.declared.raw.RawFrame.{RawFrame}
use Rattle.wv_frames.specs.declared.raw.RawFrame.TheVariants as frames
use Rattle.wv_frames.specs.Whole.{type_of, types_of, frame_of, frame_after, delta_of, frames_from}
use Rattle.wv_frames.proofs.WholeFaults.{gives_only}
use Rattle.wv_code.specs.declared.splitting.RawCode.{RawCode}
use Rattle.wv_code.specs.Body.{IsAt, IsTypeOf, AreTypesOf, IsFrameOf, AreFramesOf}
use Rattle.wv_code.specs.Breaks.{IsNew, HasType, with_one, extended, append, in_locals, on_stack, next_offset, FramesBreak, named, stands, made}
use Rattle.wv_code.specs.FormedBody.{Makes, IsFormedType, AreFormedFrom}
use Rattle.wv_code.proofs.OffsetFrames.{all_get}
use Rattle.wv_code.proofs.Written.{all_back}

-- ---- the types of a frame

types_get : (pool : List PoolEntry) (raw : List RawType) (found : List VType) (k : ℕ) (t : RawType) (kind : VType) → types_of pool raw ≡ Some found → slice_get raw k ≡ Some t → type_of pool t ≡ Some kind → slice_get found k ≡ Some kind
types_get pool [] found k t kind h e is = absurd cc
types_get pool (x ∷ raw) found zero t kind h e is =
    let a = then_some (λ type. option_map (λ rest. type ∷ rest) (types_of pool raw)) (type_of pool x) found h in
    let b = map_some (λ rest. a.0 ∷ rest) (types_of pool raw) found a.2 in
    let same : a.0 ≡ kind = some_is a.0 kind (sym a.1 ∙ ap (type_of pool) (some_is x t e) ∙ is) in
    subst (λ (z : List VType). slice_get z zero ≡ Some kind) b.2 (ap (λ (z : VType). Some z) same)
types_get pool (x ∷ raw) found (suc k) t kind h e is =
    let a = then_some (λ type. option_map (λ rest. type ∷ rest) (types_of pool raw)) (type_of pool x) found h in
    let b = map_some (λ rest. a.0 ∷ rest) (types_of pool raw) found a.2 in
    subst (λ (z : List VType). slice_get z (suc k) ≡ Some kind) b.2 (types_get pool raw b.0 k t kind b.1 e is)

-- what holds of the types of a frame holds of one that its spelling has
has_type : (P : VType → Type 0) (pool : List PoolEntry) (locals : List VType) (f : RawFrame) (frame : Frame) (t : RawType) (kind : VType) (place : ℕ) → frame_after pool locals f ≡ Some frame → type_of pool t ≡ Some kind → HasType f t place
    → AllByRecursion P frame.locals → AllByRecursion P frame.stack → P kind
has_type P pool locals (frames.Same delta) frame t kind place h is has all one = elim has [ ]
has_type P pool locals (frames.Chop count delta) frame t kind place h is has all one = elim has [ ]
has_type P pool locals (frames.SameExtended delta) frame t kind place h is has all one = elim has [ ]
has_type P pool locals (frames.SameWithOne delta top) frame t kind place h is with_one all one =
    let same : frame_of locals (kind ∷ []) ≡ frame = some_is (frame_of locals (kind ∷ [])) frame (sym (ap (option_map (λ top. frame_of locals (top ∷ []))) is) ∙ h) in
    (subst (λ (z : Frame). AllByRecursion P z.stack) (sym same) one).0
has_type P pool locals (frames.SameWithOneExtended delta top) frame t kind place h is extended all one =
    let same : frame_of locals (kind ∷ []) ≡ frame = some_is (frame_of locals (kind ∷ [])) frame (sym (ap (option_map (λ top. frame_of locals (top ∷ []))) is) ∙ h) in
    (subst (λ (z : Frame). AllByRecursion P z.stack) (sym same) one).0
has_type P pool locals (frames.Append delta more) frame t kind place h is (append k u e) all one =
    let a = map_some (λ last. frame_of (locals ++ last) []) (types_of pool more) frame h in
    let both : AllByRecursion P (locals ++ a.0) = subst (λ (z : Frame). AllByRecursion P z.locals) (sym a.2) all in
    all_get P a.0 k kind (all_back P locals a.0 both) (types_get pool more a.0 k t kind a.1 e is)
has_type P pool locals (frames.Full delta first stack) frame t kind place h is (in_locals k u e) all one =
    let a = then_some (λ (front : List VType). option_map (λ (items : List VType). frame_of front items) (types_of pool stack)) (types_of pool first) frame h in
    let b = map_some (λ (items : List VType). frame_of a.0 items) (types_of pool stack) frame a.2 in
    all_get P a.0 k kind (subst (λ (z : Frame). AllByRecursion P z.locals) (sym b.2) all) (types_get pool first a.0 k t kind a.1 e is)
has_type P pool locals (frames.Full delta first stack) frame t kind place h is (on_stack k u e) all one =
    let a = then_some (λ (front : List VType). option_map (λ (items : List VType). frame_of front items) (types_of pool stack)) (types_of pool first) frame h in
    let b = map_some (λ (items : List VType). frame_of a.0 items) (types_of pool stack) frame a.2 in
    all_get P b.0 k kind (subst (λ (z : Frame). AllByRecursion P z.stack) (sym b.2) one) (types_get pool stack b.0 k t kind b.1 e is)

-- ---- a frame by its index

pub record FrameFound (pool : List PoolEntry) (next : ℕ) (raws : List RawFrame) (spelled : List FrameAt) (k : ℕ) (f : RawFrame) : Type 0 where
  pub one : FrameAt
  pub before : List VType
  pub there : slice_get spelled k ≡ Some one
  pub at : one.at ≡ next_offset next (take k raws) + delta_of f
  pub whole : frame_after pool before f ≡ Some one.frame

frame_get : (pool : List PoolEntry) (next : ℕ) (locals : List VType) (raws : List RawFrame) (spelled : List FrameAt) (k : ℕ) (f : RawFrame) → frames_from pool next locals raws ≡ Some spelled → slice_get raws k ≡ Some f → FrameFound pool next raws spelled k f
frame_get pool next locals [] spelled k f h e = absurd cc
frame_get pool next locals (x ∷ raws) spelled zero f h e =
    let t = then_some (λ (frame : Frame). option_map (λ (rest : List FrameAt). record { at = next + delta_of x; frame = frame } ∷ rest) (frames_from pool (next + delta_of x + 1) frame.locals raws)) (frame_after pool locals x) spelled h in
    let u = map_some (λ (rest : List FrameAt). record { at = next + delta_of x; frame = t.0 } ∷ rest) (frames_from pool (next + delta_of x + 1) t.0.locals raws) spelled t.2 in
    let same : x ≡ f = some_is x f e in
    record {
      one = record { at = next + delta_of x; frame = t.0 };
      before = locals;
      there = ap (λ (z : List FrameAt). slice_get z zero) (sym u.2);
      at = ap (λ (z : RawFrame). next + delta_of z) same;
      whole = subst (λ (z : RawFrame). frame_after pool locals z ≡ Some t.0) same t.1;
    }
frame_get pool next locals (x ∷ raws) spelled (suc k) f h e =
    let t = then_some (λ (frame : Frame). option_map (λ (rest : List FrameAt). record { at = next + delta_of x; frame = frame } ∷ rest) (frames_from pool (next + delta_of x + 1) frame.locals raws)) (frame_after pool locals x) spelled h in
    let u = map_some (λ (rest : List FrameAt). record { at = next + delta_of x; frame = t.0 } ∷ rest) (frames_from pool (next + delta_of x + 1) t.0.locals raws) spelled t.2 in
    let found = frame_get pool (next + delta_of x + 1) t.0.locals raws u.0 k f u.1 e in
    record {
      one = found.one;
      before = found.before;
      there = ap (λ (z : List FrameAt). slice_get z (suc k)) (sym u.2) ∙ found.there;
      at = found.at;
      whole = found.whole;
    }

frame_of_get : (offsets : List ℕ) (raws all : List FrameAt) (k : ℕ) (raw : FrameAt) → AreFramesOf offsets raws all → slice_get raws k ≡ Some raw → (f : FrameAt) × (slice_get all k ≡ Some f) × IsFrameOf offsets raw f
frame_of_get offsets [] all k raw h e = absurd cc
frame_of_get offsets (x ∷ raws) [] k raw h e = absurd h
frame_of_get offsets (x ∷ raws) (f ∷ all) zero raw h e = (f, refl, subst (λ (z : FrameAt). IsFrameOf offsets z f) (some_is x raw e) h.0)
frame_of_get offsets (x ∷ raws) (f ∷ all) (suc k) raw h e = frame_of_get offsets raws all k raw h.1 e

-- ---- objects that a `new` made

abbrev pub IsMade : RawCode → VType → Type 0
IsMade code (vtypes.Uninitialized at) = IsNew code at
IsMade code _ = Unit {0}

made_type : (code : RawCode) (insns : List Insn) (raw t : VType) → ((index at : ℕ) → Makes insns index → IsAt code.offsets index at → IsNew code at) → IsTypeOf code.offsets raw t → IsFormedType insns t → IsMade code raw
made_type code insns (vtypes.Uninitialized at) (vtypes.Uninitialized index) news h formed = news index at formed h
made_type code insns (vtypes.Uninitialized at) _ news h formed = absurd h
made_type code insns _ t news h formed = tt

made_types : (code : RawCode) (insns : List Insn) (raws kinds : List VType) → ((index at : ℕ) → Makes insns index → IsAt code.offsets index at → IsNew code at) → AreTypesOf code.offsets raws kinds → AllByRecursion (IsFormedType insns) kinds → AllByRecursion (IsMade code) raws
made_types code insns [] [] news h formed = tt
made_types code insns [] (t ∷ kinds) news h formed = absurd h
made_types code insns (raw ∷ raws) [] news h formed = absurd h
made_types code insns (raw ∷ raws) (t ∷ kinds) news h formed = (made_type code insns raw t news h.0 formed.0, made_types code insns raws kinds news h.1 formed.1)

abbrev pub AreMade : RawCode → FrameAt → Type 0
AreMade code one = AllByRecursion (IsMade code) one.frame.locals × AllByRecursion (IsMade code) one.frame.stack

made_frames : (code : RawCode) (insns : List Insn) (next : ℕ) (raws all : List FrameAt) → ((index at : ℕ) → Makes insns index → IsAt code.offsets index at → IsNew code at) → AreFramesOf code.offsets raws all → AreFormedFrom insns next all → AllByRecursion (AreMade code) raws
made_frames code insns next [] [] news h formed = tt
made_frames code insns next [] (f ∷ all) news h formed = absurd h
made_frames code insns next (raw ∷ raws) [] news h formed = absurd h
made_frames code insns next (raw ∷ raws) (f ∷ all) news h formed = (
  (made_types code insns raw.frame.locals f.frame.locals news h.0.1 formed.2.0.1, made_types code insns raw.frame.stack f.frame.stack news h.0.2 formed.2.1.1),
  made_frames code insns (f.at + 1) raws all news h.1 formed.3,
)

-- ---- a table

pub frames_sound : (pool : List PoolEntry) (first : Frame) (code : RawCode) (insns : List Insn) (raws : List RawFrame) (spelled all : List FrameAt) (place : ℕ) → ((index at : ℕ) → Makes insns index → IsAt code.offsets index at → IsNew code at)
    → frames_from pool 0 first.locals raws ≡ Some spelled → AreFramesOf code.offsets spelled all → AreFormedFrom insns 0 all → FramesBreak pool first code raws place → ⊥
frames_sound pool first code insns raws spelled all place news whole of formed (named {at = at} b) = gives_only pool first raws spelled (Err (faults.Reference at)) tt b whole
frames_sound pool first code insns raws spelled all place news whole of formed (stands k f e never) =
    let found = frame_get pool 0 first.locals raws spelled k f whole e in
    let placed = frame_of_get code.offsets spelled all k found.one of found.there in
    never (placed.0.at, subst (λ (z : ℕ). IsAt code.offsets placed.0.at z) found.at placed.2.0)
frames_sound pool first code insns raws spelled all place news whole of formed (made k f at within e has never) =
    let found = frame_get pool 0 first.locals raws spelled k f whole e in
    let objects = all_get (AreMade code) spelled k found.one (made_frames code insns 0 spelled all news of formed) found.there in
    never (has_type (IsMade code) pool found.before f found.one.frame (types.Uninitialized at) (vtypes.Uninitialized at) within found.whole refl has objects.0 objects.1)
