-- The places in whole frames are those of instructions, where no item of a table breaks what it must meet.
use Rattle.std.proofs.Common.{◌≡◌, ℕ, zero, suc, ◌+◌, ◌-◌, Bool, true, false, cond, List, [], ◌∷◌, ◌++◌, length, take, Some, None, refl, ap, subst}
use Rattle.std.specs.Prelude.{slice_get, nat_le}
use Rattle.std.specs.Option.{option_map}
use Rattle.std.specs.List.{AllByRecursion}
use Rattle.wv_base.specs.declared.class_file.PoolEntry.{PoolEntry}
use Rattle.wv_base.specs.declared.frame.VType.{VType}
use Rattle.wv_base.specs.declared.frame.VType.TheVariants as vtypes
use Rattle.wv_base.specs.declared.frame.Frame.{Frame}
use Rattle.wv_base.specs.declared.frame.FrameAt.{FrameAt}
use Rattle.wv_pool.specs.Constants.{class_name}
use Rattle.wv_pool.proofs.Behind.{some_is, map_some, then_some}
use Rattle.wv_frames.specs.declared.raw.RawType.{RawType}
use Rattle.wv_frames.specs.declared.raw.RawType.TheVariants as types
use Rattle.wv_frames.specs.declared.raw.RawFrame.{RawFrame}
use Rattle.wv_frames.specs.declared.raw.RawFrame.TheVariants as frames
use Rattle.wv_frames.specs.Whole.{type_of, types_of, frame_of, frame_after, delta_of, frames_from}
use Rattle.wv_code.specs.declared.splitting.RawCode.{RawCode}
use Rattle.wv_code.specs.Body.{IsPlaced, IsStart}
use Rattle.wv_code.specs.Breaks.{Starts, HasType, with_one, extended, append, in_locals, on_stack, next_offset, FramesBreak, stands, made}
use Rattle.wv_code.specs.Placed.{IsTypePlaced, IsFramePlaced}
use Rattle.wv_code.proofs.Indices.{starts}

-- ---- types

type_placed : (pool : List PoolEntry) (offsets : List ℕ) (raw : RawType) (t : VType) → type_of pool raw ≡ Some t → ((at : ℕ) → raw ≡ types.Uninitialized at → Starts offsets at) → IsTypePlaced offsets t
type_placed pool offsets (types.Object n) t e h = let m = map_some (λ name. vtypes.Class name) (class_name pool n) t e in subst (IsTypePlaced offsets) m.2 tt
type_placed pool offsets (types.Uninitialized at) t e h = subst (IsTypePlaced offsets) (some_is (vtypes.Uninitialized at) t e) (h at refl)
type_placed pool offsets types.Top t e h = subst (IsTypePlaced offsets) (some_is vtypes.Top t e) tt
type_placed pool offsets types.Int t e h = subst (IsTypePlaced offsets) (some_is vtypes.Int t e) tt
type_placed pool offsets types.Float t e h = subst (IsTypePlaced offsets) (some_is vtypes.Float t e) tt
type_placed pool offsets types.Double t e h = subst (IsTypePlaced offsets) (some_is vtypes.Double t e) tt
type_placed pool offsets types.Long t e h = subst (IsTypePlaced offsets) (some_is vtypes.Long t e) tt
type_placed pool offsets types.Null t e h = subst (IsTypePlaced offsets) (some_is vtypes.Null t e) tt
type_placed pool offsets types.UninitializedThis t e h = subst (IsTypePlaced offsets) (some_is vtypes.UninitializedThis t e) tt

types_placed : (pool : List PoolEntry) (offsets : List ℕ) (raws : List RawType) (ts : List VType) → types_of pool raws ≡ Some ts → ((k at : ℕ) → slice_get raws k ≡ Some (types.Uninitialized at) → Starts offsets at) → AllByRecursion (IsTypePlaced offsets) ts
types_placed pool offsets [] ts e h = subst (AllByRecursion (IsTypePlaced offsets)) (some_is [] ts e) tt
types_placed pool offsets (raw ∷ raws) ts e h =
    let t = then_some (λ type. option_map (λ rest. type ∷ rest) (types_of pool raws)) (type_of pool raw) ts e in
    let r = map_some (λ rest. t.0 ∷ rest) (types_of pool raws) ts t.2 in
    let first : IsTypePlaced offsets t.0 = type_placed pool offsets raw t.0 t.1 (λ at is. h 0 at (ap (λ (x : RawType). Some x) is)) in
    let others : AllByRecursion (IsTypePlaced offsets) r.0 = types_placed pool offsets raws r.0 r.1 (λ k at is. h (suc k) at is) in
    subst (AllByRecursion (IsTypePlaced offsets)) r.2 (first, others)

all_take : (P : VType → Type 0) (ts : List VType) (n : ℕ) → AllByRecursion P ts → AllByRecursion P (take n ts)
all_take P ts zero h = tt
all_take P [] (suc n) h = tt
all_take P (t ∷ ts) (suc n) h = (h.0, all_take P ts n h.1)

all_append : (P : VType → Type 0) (ts us : List VType) → AllByRecursion P ts → AllByRecursion P us → AllByRecursion P (ts ++ us)
all_append P [] us h k = k
all_append P (t ∷ ts) us h k = (h.0, all_append P ts us h.1 k)

-- ---- frames

abbrev AreTypesPlaced : List ℕ → Frame → Type 0
AreTypesPlaced offsets f = AllByRecursion (IsTypePlaced offsets) f.locals × AllByRecursion (IsTypePlaced offsets) f.stack

-- each offset in the types of the frame as it is spelled starts an instruction
abbrev Makes : List ℕ → RawFrame → Type 0
Makes offsets raw = (at place : ℕ) → HasType raw (types.Uninitialized at) place → Starts offsets at

with_stack : (pool : List PoolEntry) (offsets : List ℕ) (locals : List VType) (stack : RawType) (f : Frame) → AllByRecursion (IsTypePlaced offsets) locals → option_map (λ top. frame_of locals (top ∷ [])) (type_of pool stack) ≡ Some f
    → ((at : ℕ) → stack ≡ types.Uninitialized at → Starts offsets at) → AreTypesPlaced offsets f
with_stack pool offsets locals stack f h e makes =
    let m = map_some (λ top. frame_of locals (top ∷ [])) (type_of pool stack) f e in
    subst (AreTypesPlaced offsets) m.2 (h, (type_placed pool offsets stack m.0 m.1 makes, tt))

chopped : (offsets : List ℕ) (locals : List VType) (n : ℕ) (b : Bool) (f : Frame) → AllByRecursion (IsTypePlaced offsets) locals → cond b (Some (frame_of (take n locals) [])) None ≡ Some f → AreTypesPlaced offsets f
chopped offsets locals n true f h e = subst (AreTypesPlaced offsets) (some_is (frame_of (take n locals) []) f e) (all_take (IsTypePlaced offsets) locals n h, tt)
chopped offsets locals n false f h e = absurd cc

frame_placed : (pool : List PoolEntry) (offsets : List ℕ) (locals : List VType) (raw : RawFrame) (f : Frame) → AllByRecursion (IsTypePlaced offsets) locals → Makes offsets raw → frame_after pool locals raw ≡ Some f → AreTypesPlaced offsets f
frame_placed pool offsets locals (frames.Same delta) f h makes e = subst (AreTypesPlaced offsets) (some_is (frame_of locals []) f e) (h, tt)
frame_placed pool offsets locals (frames.SameExtended delta) f h makes e = subst (AreTypesPlaced offsets) (some_is (frame_of locals []) f e) (h, tt)
frame_placed pool offsets locals (frames.SameWithOne delta stack) f h makes e =
    with_stack pool offsets locals stack f h e (λ at is. makes at 1 (subst (λ (t : RawType). HasType (frames.SameWithOne delta stack) t 1) is with_one))
frame_placed pool offsets locals (frames.SameWithOneExtended delta stack) f h makes e =
    with_stack pool offsets locals stack f h e (λ at is. makes at 3 (subst (λ (t : RawType). HasType (frames.SameWithOneExtended delta stack) t 3) is extended))
frame_placed pool offsets locals (frames.Chop count delta) f h makes e = chopped offsets locals (length locals - count) (nat_le count (length locals)) f h e
frame_placed pool offsets locals (frames.Append delta more) f h makes e =
    let m = map_some (λ last. frame_of (locals ++ last) []) (types_of pool more) f e in
    let last = types_placed pool offsets more m.0 m.1 (λ k at is. makes at _ (append k (types.Uninitialized at) is)) in
    subst (AreTypesPlaced offsets) m.2 (all_append (IsTypePlaced offsets) locals m.0 h last, tt)
frame_placed pool offsets locals (frames.Full delta all stack) f h makes e =
    let t = then_some (λ first. option_map (λ items. frame_of first items) (types_of pool stack)) (types_of pool all) f e in
    let m = map_some (λ items. frame_of t.0 items) (types_of pool stack) f t.2 in
    let firsts = types_placed pool offsets all t.0 t.1 (λ k at is. makes at _ (in_locals k (types.Uninitialized at) is)) in
    let items = types_placed pool offsets stack m.0 m.1 (λ k at is. makes at _ (on_stack k (types.Uninitialized at) is)) in
    subst (AreTypesPlaced offsets) m.2 (firsts, items)

-- from an offset on, behind a frame with these locals
placed_from : (pool : List PoolEntry) (offsets : List ℕ) (next : ℕ) (locals : List VType) (raws : List RawFrame) (spelled : List FrameAt) → AllByRecursion (IsTypePlaced offsets) locals
    → ((k : ℕ) (f : RawFrame) → slice_get raws k ≡ Some f → Starts offsets (next_offset next (take k raws) + delta_of f)) → ((k : ℕ) (f : RawFrame) → slice_get raws k ≡ Some f → Makes offsets f)
    → frames_from pool next locals raws ≡ Some spelled → AllByRecursion (IsFramePlaced offsets) spelled
placed_from pool offsets next locals [] spelled h standing makes e = subst (AllByRecursion (IsFramePlaced offsets)) (some_is [] spelled e) tt
placed_from pool offsets next locals (raw ∷ raws) spelled h standing makes e =
    let t = then_some (λ frame. option_map (λ rest. record { at = next + delta_of raw; frame = frame } ∷ rest) (frames_from pool (next + delta_of raw + 1) frame.locals raws)) (frame_after pool locals raw) spelled e in
    let r = map_some (λ rest. record { at = next + delta_of raw; frame = t.0 } ∷ rest) (frames_from pool (next + delta_of raw + 1) t.0.locals raws) spelled t.2 in
    let here = frame_placed pool offsets locals raw t.0 h (makes 0 raw refl) t.1 in
    let others = placed_from pool offsets (next + delta_of raw + 1) t.0.locals raws r.0 here.0 (λ k f is. standing (suc k) f is) (λ k f is. makes (suc k) f is) r.1 in
    subst (AllByRecursion (IsFramePlaced offsets)) r.2 ((standing 0 raw refl, here.0, here.1), others)

start_placed : (offsets : List ℕ) (locals : List VType) → AllByRecursion IsPlaced locals → AllByRecursion (IsTypePlaced offsets) locals
start_placed offsets [] h = tt
start_placed offsets (vtypes.Uninitialized at ∷ locals) h = absurd h.0
start_placed offsets (t ∷ locals) h = (tt, start_placed offsets locals h.1)

pub frames_placed : (pool : List PoolEntry) (first : Frame) (code : RawCode) (raws : List RawFrame) (spelled : List FrameAt) → IsStart first → ((place : ℕ) → FramesBreak pool first code raws place → ⊥) → frames_from pool 0 first.locals raws ≡ Some spelled
    → AllByRecursion (IsFramePlaced code.offsets) spelled
frames_placed pool first code raws spelled start sound e =
    placed_from pool code.offsets 0 first.locals raws spelled (start_placed code.offsets first.locals start)
    (λ k f is. starts code.offsets (next_offset 0 (take k raws) + delta_of f) (λ none. sound _ (stands k f is none)))
    (λ k f is at place has. starts code.offsets at (λ none. sound _ (made k f at place is has (λ new. none (new.0, new.2))))) e
