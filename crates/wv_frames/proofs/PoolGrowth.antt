-- What a pool becomes by several additions, one after the other.
use Rattle.std.proofs.Common.{◌≡◌, ℕ, ◌+◌, Bool, List, [], ◌∷◌, ◌++◌, length, Option, Some, refl, sym, ap, subst, ◌∙◌, ◌⊎◌, inl, inr, arith, append_assoc}
use Rattle.std.specs.List.{AllByRecursion, list_any}
use Rattle.std.specs.Option.{option_map, option_and_then}
use Rattle.std.proofs.lemmas.List.{append-nil, length-append}
use Rattle.wv_base.specs.declared.class_file.PoolEntry.{PoolEntry}
use Rattle.wv_base.specs.declared.class_file.PoolEntry.TheVariants as entries
use Rattle.wv_base.specs.declared.constant.Const.{Const}
use Rattle.wv_base.specs.declared.constant.Const.TheVariants as constants
use Rattle.wv_base.specs.declared.frame.VType.{VType}
use Rattle.wv_base.specs.declared.frame.VType.TheVariants as vtypes
use Rattle.wv_base.specs.declared.frame.Frame.{Frame}
use Rattle.wv_base.specs.declared.frame.FrameAt.{FrameAt}
use Rattle.wv_pool.specs.References.{entry_of, text_in, text_of, class_of}
use Rattle.wv_pool.specs.Constants.{class_name, constant_in, constant_of}
use Rattle.wv_pool.specs.Numbers.{Named}
use Rattle.wv_pool.specs.Adding.{IsAmong, Lacks, none, named, again, lacked, AreTooMany, Keeps, Grows, class_needs}
use Rattle.wv_pool.proofs.Behind.{some_is, map_some, then_some, class_is}
use Rattle.wv_pool.proofs.Growing.{constant_grows, text_grows, class_grows}
use Rattle.wv_pool.proofs.Lacking.{grows_start}
use Rattle.wv_frames.specs.declared.raw.RawType.{RawType}
use Rattle.wv_frames.specs.declared.raw.RawType.TheVariants as types
use Rattle.wv_frames.specs.declared.raw.RawFrame.{RawFrame}
use Rattle.wv_frames.specs.declared.raw.RawFrame.TheVariants as frames
use Rattle.wv_frames.specs.Whole.{type_of, types_of, is_this, frame_of, frame_after, delta_of, frames_from}
use Rattle.wv_frames.specs.Writing.{type_needs, types_need, frame_needs, frames_need}

-- ---- additions

among_all : (pool : List PoolEntry) (cs : List Const) (c : Const) → AllByRecursion (Named pool) cs → IsAmong cs c → Named pool c
among_all pool [] c all h = absurd h
among_all pool (d ∷ cs) c all (inl e) = subst (Named pool) e all.0
among_all pool (d ∷ cs) c all (inr h) = among_all pool cs c all.1 h

among_left : (xs ys : List Const) (c : Const) → IsAmong xs c → IsAmong (xs ++ ys) c
among_left [] ys c h = absurd h
among_left (x ∷ xs) ys c (inl e) = inl e
among_left (x ∷ xs) ys c (inr h) = inr (among_left xs ys c h)

among_right : (xs ys : List Const) (c : Const) → IsAmong ys c → IsAmong (xs ++ ys) c
among_right [] ys c h = h
among_right (x ∷ xs) ys c h = inr (among_right xs ys c h)

among_either : (xs ys : List Const) (c : Const) → IsAmong (xs ++ ys) c → IsAmong xs c ⊎ IsAmong ys c
among_either [] ys c h = inr h
among_either (x ∷ xs) ys c (inl e) = inl (inl e)
among_either (x ∷ xs) ys c (inr h) = elim (among_either xs ys c h) [ inl a ↦ inl (inr a) | inr b ↦ inr b ]

all_append : (P : Const → Type 0) (xs ys : List Const) → AllByRecursion P xs → AllByRecursion P ys → AllByRecursion P (xs ++ ys)
all_append P [] ys a b = b
all_append P (x ∷ xs) ys a b = (a.0, all_append P xs ys a.1 b)

still_named : (old new more : List PoolEntry) (c : Const) → new ≡ old ++ more → Named old c → Named new c
still_named old new more c longer (n, h) = (n, subst (λ (p : List PoolEntry). constant_of p n ≡ Some c) (sym longer) (constant_grows old more n c h))

all_still : (old new more : List PoolEntry) (cs : List Const) → new ≡ old ++ more → AllByRecursion (Named old) cs → AllByRecursion (Named new) cs
all_still old new more [] longer all = tt
all_still old new more (c ∷ cs) longer all = (still_named old new more c longer all.0, all_still old new more cs longer all.1)

-- what the second pool lacks, the first lacks besides what it was given
lacks_then : (a b : List PoolEntry) (xs ys : List Const) (n : ℕ) (g : Grows a xs b) → Lacks b ys n → Lacks a (ys ++ xs) (n + length g.more)
lacks_then a b xs [] n g none = subst (Lacks a xs) (omega arith) g.lacks
lacks_then a b xs (c ∷ cs) n g (named h l) = elim (g.only c h) [
  | inl old ↦ named old (lacks_then a b xs cs n g l)
  | inr among ↦ again (among_right cs xs c among) (lacks_then a b xs cs n g l)
]
lacks_then a b xs (c ∷ cs) n g (again h l) = again (among_left cs xs c h) (lacks_then a b xs cs n g l)
lacks_then a b xs (c ∷ cs) n g (lacked {n = m} unnamed alone l) =
    subst (Lacks a (c ∷ (cs ++ xs))) (omega arith)
    (lacked (λ h. unnamed (still_named a b g.more c g.longer h)) (λ h. not_among h) (lacks_then a b xs cs m g l))
  where
    not_among : IsAmong (cs ++ xs) c → ⊥
    not_among h = elim (among_either cs xs c h) [ inl first ↦ alone first | inr second ↦ unnamed (among_all b xs c g.all second) ]

pub grows_then : (a b d : List PoolEntry) (xs ys : List Const) → Grows a xs b → Grows b ys d → Grows a (ys ++ xs) d
grows_then a b d xs ys g h = record {
  more = g.more ++ h.more;
  longer = h.longer ∙ ap (λ (p : List PoolEntry). p ++ h.more) g.longer ∙ append_assoc a g.more h.more;
  lacks = subst (Lacks a (ys ++ xs)) (omega (arith, length-append g.more h.more)) (lacks_then a b xs ys (length h.more) g h.lacks);
  all = all_append (Named d) ys xs h.all (all_still b d h.more xs h.longer g.all);
  only = λ c there. only c there;
}
  where
    only : (c : Const) → Named d c → Named a c ⊎ IsAmong (ys ++ xs) c
    only c there = elim (h.only c there) [
      | inl before ↦ elim (g.only c before) [ inl old ↦ inl old | inr among ↦ inr (among_right ys xs c among) ]
      | inr among ↦ inr (among_left ys xs c among)
    ]

pub too_many_then : (a b : List PoolEntry) (xs ys : List Const) → Grows a xs b → AreTooMany b ys → AreTooMany a (ys ++ xs)
too_many_then a b xs ys g t = record {
  before = t.before;
  last = t.last ++ xs;
  more = t.more + length g.more;
  parts = ap (λ (cs : List Const). cs ++ xs) t.parts ∙ append_assoc t.before t.last xs;
  lacks = lacks_then a b xs t.last t.more g t.lacks;
  passes = omega (arith, t.passes, ap length g.longer, length-append a g.more);
}

pub too_many_more : (a : List PoolEntry) (xs cs : List Const) → AreTooMany a cs → AreTooMany a (xs ++ cs)
too_many_more a xs cs t = record { before = xs ++ t.before; last = t.last; more = t.more; parts = ap (λ (ds : List Const). xs ++ ds) t.parts ∙ sym (append_assoc xs t.before t.last); lacks = t.lacks; passes = t.passes }

pub grows_nothing : (pool : List PoolEntry) (kind : VType) → type_needs kind ≡ [] → Grows pool (type_needs kind) pool
grows_nothing pool kind e = subst (λ (cs : List Const). Grows pool cs pool) (sym e) (grows_start pool)

-- ---- a class

text_entry : (pool : List PoolEntry) (n : ℕ) (x : List ℕ) → text_of pool n ≡ Some x → constant_of pool n ≡ Some (constants.Utf8 x)
text_entry pool n x h = go (entry_of pool n) refl h
  where
    go : (o : Option PoolEntry) → entry_of pool n ≡ o → text_in o ≡ Some x → constant_of pool n ≡ Some (constants.Utf8 x)
    go (Some (entries.Utf8 y)) e h = ap (option_and_then (constant_in pool)) e ∙ ap (λ (z : List ℕ). Some (constants.Utf8 z)) (some_is y x h)
    go _ e h = absurd cc

-- where a class has a number, its name has one
name_named : (pool : List PoolEntry) (name : List ℕ) → Named pool (constants.Class name) → Named pool (constants.Utf8 name)
name_named pool name (n, h) = let t = then_some (text_of pool) (class_of pool n) name (class_is pool n name h) in (t.0, text_entry pool t.0 name t.2)

pub class_added : (old new : List PoolEntry) (name : List ℕ) → (Named old (constants.Class name) → new ≡ old) → Named old (constants.Class name) ⊎ Grows old (class_needs name) new → Grows old (class_needs name) new
class_added old new name same (inl there) = subst (λ (p : List PoolEntry). Grows old (class_needs name) p) (sym (same there)) (record {
  more = [];
  longer = sym (append-nil old);
  lacks = named there (named (name_named old name there) none);
  all = (there, (name_named old name there, tt));
  only = λ c h. inl h;
})
class_added old new name same (inr g) = g

-- ---- what was found stays as a pool grows

name_grows : (pool more : List PoolEntry) (n : ℕ) (x : List ℕ) → class_name pool n ≡ Some x → class_name (pool ++ more) n ≡ Some x
name_grows pool more n x e =
    let t = then_some (text_of pool) (class_of pool n) x e in
    ap (option_and_then (text_of (pool ++ more))) (class_grows pool more n t.0 t.1) ∙ text_grows pool more t.0 x t.2

type_grows : (pool more : List PoolEntry) (raw : RawType) (kind : VType) → type_of pool raw ≡ Some kind → type_of (pool ++ more) raw ≡ Some kind
type_grows pool more types.Top kind h = h
type_grows pool more types.Int kind h = h
type_grows pool more types.Float kind h = h
type_grows pool more types.Double kind h = h
type_grows pool more types.Long kind h = h
type_grows pool more types.Null kind h = h
type_grows pool more types.UninitializedThis kind h = h
type_grows pool more (types.Object n) kind h = let t = map_some (λ name. vtypes.Class name) (class_name pool n) kind h in ap (option_map (λ name. vtypes.Class name)) (name_grows pool more n t.0 t.1) ∙ ap (λ (k : VType). Some k) t.2
type_grows pool more (types.Uninitialized at) kind h = h

pub types_grow : (pool more : List PoolEntry) (raw : List RawType) (kinds : List VType) → types_of pool raw ≡ Some kinds → types_of (pool ++ more) raw ≡ Some kinds
types_grow pool more [] kinds h = h
types_grow pool more (x ∷ raw) kinds h =
    let t = then_some (λ type. option_map (λ rest. type ∷ rest) (types_of pool raw)) (type_of pool x) kinds h in
    let u = map_some (λ rest. t.0 ∷ rest) (types_of pool raw) kinds t.2 in
    ap (option_and_then (λ type. option_map (λ rest. type ∷ rest) (types_of (pool ++ more) raw))) (type_grows pool more x t.0 t.1) ∙ ap (option_map (λ rest. t.0 ∷ rest)) (types_grow pool more raw u.0 u.1) ∙ ap (λ (ks : List VType). Some ks) u.2

frame_grows : (pool more : List PoolEntry) (locals : List VType) (raw : RawFrame) (frame : Frame) → frame_after pool locals raw ≡ Some frame → frame_after (pool ++ more) locals raw ≡ Some frame
frame_grows pool more locals (frames.Same delta) frame h = h
frame_grows pool more locals (frames.SameWithOne delta stack) frame h = let t = map_some (λ top. frame_of locals (top ∷ [])) (type_of pool stack) frame h in ap (option_map (λ top. frame_of locals (top ∷ []))) (type_grows pool more stack t.0 t.1) ∙ ap (λ (f : Frame). Some f) t.2
frame_grows pool more locals (frames.SameWithOneExtended delta stack) frame h = let t = map_some (λ top. frame_of locals (top ∷ [])) (type_of pool stack) frame h in ap (option_map (λ top. frame_of locals (top ∷ []))) (type_grows pool more stack t.0 t.1) ∙ ap (λ (f : Frame). Some f) t.2
frame_grows pool more locals (frames.Chop count delta) frame h = h
frame_grows pool more locals (frames.SameExtended delta) frame h = h
frame_grows pool more locals (frames.Append delta last) frame h = let t = map_some (λ ts. frame_of (locals ++ ts) []) (types_of pool last) frame h in ap (option_map (λ ts. frame_of (locals ++ ts) [])) (types_grow pool more last t.0 t.1) ∙ ap (λ (f : Frame). Some f) t.2
frame_grows pool more locals (frames.Full delta all stack) frame h =
    let t = then_some (λ first. option_map (λ items. frame_of first items) (types_of pool stack)) (types_of pool all) frame h in
    let u = map_some (λ items. frame_of t.0 items) (types_of pool stack) frame t.2 in
    ap (option_and_then (λ first. option_map (λ items. frame_of first items) (types_of (pool ++ more) stack))) (types_grow pool more all t.0 t.1) ∙ ap (option_map (λ items. frame_of t.0 items)) (types_grow pool more stack u.0 u.1) ∙ ap (λ (f : Frame). Some f) u.2

pub frames_grow : (pool more : List PoolEntry) (next : ℕ) (locals : List VType) (raw : List RawFrame) (found : List FrameAt) → frames_from pool next locals raw ≡ Some found → frames_from (pool ++ more) next locals raw ≡ Some found
frames_grow pool more next locals [] found h = h
frames_grow pool more next locals (x ∷ raw) found h =
    let t = then_some (λ (frame : Frame). option_map (λ (rest : List FrameAt). record { at = next + delta_of x; frame = frame } ∷ rest) (frames_from pool (next + delta_of x + 1) frame.locals raw)) (frame_after pool locals x) found h in
    let u = map_some (λ (rest : List FrameAt). record { at = next + delta_of x; frame = t.0 } ∷ rest) (frames_from pool (next + delta_of x + 1) t.0.locals raw) found t.2 in
    ap (option_and_then (λ (frame : Frame). option_map (λ (rest : List FrameAt). record { at = next + delta_of x; frame = frame } ∷ rest) (frames_from (pool ++ more) (next + delta_of x + 1) frame.locals raw))) (frame_grows pool more locals x t.0 t.1)
    ∙ ap (option_map (λ (rest : List FrameAt). record { at = next + delta_of x; frame = t.0 } ∷ rest)) (frames_grow pool more (next + delta_of x + 1) t.0.locals raw u.0 u.1)
    ∙ ap (λ (fs : List FrameAt). Some fs) u.2

pub types_kept : (old new : List PoolEntry) (raw : List RawType) (kinds : List VType) → Keeps old new → types_of old raw ≡ Some kinds → types_of new raw ≡ Some kinds
types_kept old new raw kinds (more, longer) h = subst (λ (p : List PoolEntry). types_of p raw ≡ Some kinds) (sym longer) (types_grow old more raw kinds h)

pub frames_kept : (old new : List PoolEntry) (next : ℕ) (locals : List VType) (raw : List RawFrame) (found : List FrameAt) → Keeps old new → frames_from old next locals raw ≡ Some found → frames_from new next locals raw ≡ Some found
frames_kept old new next locals raw found (more, longer) h = subst (λ (p : List PoolEntry). frames_from p next locals raw ≡ Some found) (sym longer) (frames_grow old more next locals raw found h)

-- ---- the constants that are needed

pub types_need-append : (xs ys : List VType) → types_need (xs ++ ys) ≡ types_need ys ++ types_need xs
types_need-append [] ys = sym (append-nil (types_need ys))
types_need-append (x ∷ xs) ys = ap (λ (cs : List Const). cs ++ type_needs x) (types_need-append xs ys) ∙ append_assoc (types_need ys) (types_need xs) (type_needs x)

pub types_need-more : (xs : List VType) (x : VType) → types_need (xs ++ x ∷ []) ≡ type_needs x ++ types_need xs
types_need-more xs x = types_need-append xs (x ∷ [])

pub types_need-split : (all before after : List VType) (x : VType) → all ≡ before ++ x ∷ after → types_need all ≡ types_need after ++ (type_needs x ++ types_need before)
types_need-split all before after x e = ap types_need e ∙ types_need-append before (x ∷ after) ∙ append_assoc (types_need after) (type_needs x) (types_need before)

pub frames_need-append : (xs ys : List FrameAt) → frames_need (xs ++ ys) ≡ frames_need ys ++ frames_need xs
frames_need-append [] ys = sym (append-nil (frames_need ys))
frames_need-append (x ∷ xs) ys = ap (λ (cs : List Const). cs ++ frame_needs x.frame) (frames_need-append xs ys) ∙ append_assoc (frames_need ys) (frames_need xs) (frame_needs x.frame)

pub frames_need-more : (xs : List FrameAt) (x : FrameAt) → frames_need (xs ++ x ∷ []) ≡ frame_needs x.frame ++ frames_need xs
frames_need-more xs x = frames_need-append xs (x ∷ [])

pub frames_need-split : (all before after : List FrameAt) (x : FrameAt) → all ≡ before ++ x ∷ after → frames_need all ≡ frames_need after ++ (frame_needs x.frame ++ frames_need before)
frames_need-split all before after x e = ap frames_need e ∙ frames_need-append before (x ∷ after) ∙ append_assoc (frames_need after) (frame_needs x.frame) (frames_need before)

-- ---- a full frame

pub full_found : (pool : List PoolEntry) (delta : ℕ) (locals stack : List RawType) (frame : Frame) (before : List VType) → types_of pool locals ≡ Some frame.locals → types_of pool stack ≡ Some frame.stack → frame.this_uninitialized ≡ list_any is_this frame.locals
    → frame_after pool before (frames.Full delta locals stack) ≡ Some frame
full_found pool delta locals stack frame before e h flag =
    ap (option_and_then (λ first. option_map (λ items. frame_of first items) (types_of pool stack))) e ∙ ap (option_map (λ items. frame_of frame.locals items)) h
    ∙ ap (λ (b : Bool). Some (record { locals = frame.locals; stack = frame.stack; this_uninitialized = b })) (sym flag)
