-- Whole frames, one after the other, and as a pool grows.
use Rattle.std.proofs.Common.{◌≡◌, ℕ, zero, suc, ◌+◌, ◌-◌, ◌^◌, ◌<◌, ◌≤◌, List, [], ◌∷◌, ◌++◌, length, drop, get_or, Some, refl, sym, ap, subst, ◌∙◌, arith}
use Rattle.std.specs.Prelude.{slice_get}
use Rattle.std.specs.Option.{option_map, option_and_then}
use Rattle.wv_base.specs.declared.class_file.PoolEntry.{PoolEntry}
use Rattle.wv_base.specs.declared.frame.VType.{VType}
use Rattle.wv_base.specs.declared.frame.Frame.{Frame}
use Rattle.wv_base.specs.declared.frame.FrameAt.{FrameAt}
use Rattle.wv_pool.proofs.Behind.{some_is, map_some, then_some}
use Rattle.wv_frames.specs.declared.raw.RawType.{RawType}
use Rattle.wv_frames.specs.declared.raw.RawFrame.{RawFrame}
use Rattle.wv_frames.specs.Whole.{type_of, types_of, frame_after, delta_of, frames_from, locals_behind}
use Rattle.wv_frames.specs.Writing.{AreFrom}

-- ---- the last frame

last_is : (locals : List VType) (all : List FrameAt) (one : FrameAt) (n : ℕ) → suc n ≡ length all → Some one ≡ slice_get all n → locals_behind locals all ≡ one.frame.locals
last_is locals [] one n e h = absurd (omega arith)
last_is locals (x ∷ []) one zero e h = let same : one ≡ x = some_is one x h in ap (λ (f : FrameAt). f.frame.locals) (sym same)
last_is locals (x ∷ []) one (suc n) e h = absurd (omega arith)
last_is locals (x ∷ y ∷ all) one zero e h = absurd (omega arith)
last_is locals (x ∷ y ∷ all) one (suc n) e h = last_is x.frame.locals (y ∷ all) one n (omega arith) h

pub last_locals : (locals : List VType) (all : List FrameAt) (one : FrameAt) → Some one ≡ slice_get all (length all - 1) → locals_behind locals all ≡ one.frame.locals
last_locals locals [] one h = absurd cc
last_locals locals (x ∷ all) one h = last_is locals (x ∷ all) one (length (x ∷ all) - 1) (omega arith) h

-- the offset behind the last frame's
abbrev pub next_behind : ℕ → List FrameAt → ℕ
next_behind next [] = next
next_behind next (one ∷ others) = next_behind (one.at + 1) others

-- ---- one more

pub types_more : (pool : List PoolEntry) (raw : List RawType) (found : List VType) (one : RawType) (kind : VType) → types_of pool raw ≡ Some found → type_of pool one ≡ Some kind → types_of pool (raw ++ one ∷ []) ≡ Some (found ++ kind ∷ [])
types_more pool [] found one kind e h =
    let none : [] ≡ found = some_is [] found e in
    ap (option_and_then (λ t. Some (t ∷ []))) h ∙ ap (λ (ts : List VType). Some (ts ++ kind ∷ [])) none
types_more pool (x ∷ raw) found one kind e h =
    let t = then_some (λ type. option_map (λ rest. type ∷ rest) (types_of pool raw)) (type_of pool x) found e in
    let u = map_some (λ rest. t.0 ∷ rest) (types_of pool raw) found t.2 in
    ap (option_and_then (λ type. option_map (λ rest. type ∷ rest) (types_of pool (raw ++ one ∷ [])))) t.1 ∙ ap (option_map (λ rest. t.0 ∷ rest)) (types_more pool raw u.0 one kind u.1 h) ∙ ap (λ (ts : List VType). Some (ts ++ kind ∷ [])) u.2

abbrev pub placed : ℕ → Frame → FrameAt
placed at frame = record { at = at; frame = frame }

pub frames_more : (pool : List PoolEntry) (next : ℕ) (locals : List VType) (raw : List RawFrame) (found : List FrameAt) (one : RawFrame) (frame : Frame) → frames_from pool next locals raw ≡ Some found → frame_after pool (locals_behind locals found) one ≡ Some frame
    → frames_from pool next locals (raw ++ one ∷ []) ≡ Some (found ++ placed (next_behind next found + delta_of one) frame ∷ [])
frames_more pool next locals [] found one frame e h =
    let none : [] ≡ found = some_is [] found e in
    let here : frame_after pool locals one ≡ Some frame = ap (λ (fs : List FrameAt). frame_after pool (locals_behind locals fs) one) none ∙ h in
    ap (option_and_then (λ f. Some (placed (next + delta_of one) f ∷ []))) here ∙ ap (λ (fs : List FrameAt). Some (fs ++ placed (next_behind next fs + delta_of one) frame ∷ [])) none
frames_more pool next locals (x ∷ raw) found one frame e h =
    let t = then_some (λ f. option_map (λ rest. placed (next + delta_of x) f ∷ rest) (frames_from pool (next + delta_of x + 1) f.locals raw)) (frame_after pool locals x) found e in
    let u = map_some (λ rest. placed (next + delta_of x) t.0 ∷ rest) (frames_from pool (next + delta_of x + 1) t.0.locals raw) found t.2 in
    let here : frame_after pool (locals_behind t.0.locals u.0) one ≡ Some frame = ap (λ (fs : List FrameAt). frame_after pool (locals_behind locals fs) one) u.2 ∙ h in
    let more = frames_more pool (next + delta_of x + 1) t.0.locals raw u.0 one frame u.1 here in
    ap (option_and_then (λ f. option_map (λ rest. placed (next + delta_of x) f ∷ rest) (frames_from pool (next + delta_of x + 1) f.locals (raw ++ one ∷ [])))) t.1
    ∙ ap (option_map (λ rest. placed (next + delta_of x) t.0 ∷ rest)) more
    ∙ ap (λ (fs : List FrameAt). Some (fs ++ placed (next_behind next fs + delta_of one) frame ∷ [])) u.2

pub next_more : (next : ℕ) (all : List FrameAt) (one : FrameAt) → next_behind next (all ++ one ∷ []) ≡ one.at + 1
next_more next [] one = refl
next_more next (x ∷ all) one = next_more (x.at + 1) all one

pub locals_more : (locals : List VType) (all : List FrameAt) (one : FrameAt) → locals_behind locals (all ++ one ∷ []) ≡ one.frame.locals
locals_more locals [] one = refl
locals_more locals (x ∷ all) one = locals_more x.frame.locals all one

-- what is known of the offsets from an index on
pub from_more : (all : List FrameAt) (i : ℕ) (one : FrameAt) (next : ℕ) → i < length all → get_or all i one ≡ one → AreFrom next (drop i all) → (next ≤ one.at) × (one.at < 2 ^ 16) × AreFrom (one.at + 1) (drop (i + 1) all)
from_more [] i one next lt e h = absurd (omega arith)
from_more (x ∷ all) zero one next lt e h = subst (λ (y : FrameAt). (next ≤ y.at) × (y.at < 2 ^ 16) × AreFrom (y.at + 1) all) e (h.0, h.1, h.3)
from_more (x ∷ all) (suc i) one next lt e h =
    let r = from_more all i one next (omega arith) e h in
    let place : suc i + 1 ≡ suc (i + 1) = omega arith in
    (r.0, r.1, subst (λ (k : ℕ). AreFrom (one.at + 1) (drop k (x ∷ all))) (sym place) r.2)
