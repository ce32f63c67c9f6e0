-- The StackMapTable among the attributes, of which there is one at most.
use Rattle.std.proofs.Common.{◌≡◌, ℕ, zero, suc, ◌+◌, ◌<◌, List, [], ◌∷◌, ◌++◌, take, Some, refl, sym, ap, subst, ◌∙◌, ◌⊎◌, inl, inr, arith}
use Rattle.std.specs.Prelude.{slice_get}
use Rattle.std.specs.List.{AllByRecursion}
use Rattle.std.proofs.lemmas.List.{append-nil}
use Rattle.wv_base.specs.declared.class_file.PoolEntry.{PoolEntry}
use Rattle.wv_base.specs.declared.frame.Frame.{Frame}
use Rattle.wv_pool.proofs.Behind.{some_is}
use Rattle.wv_frames.specs.declared.raw.RawFrame.{RawFrame}
use Rattle.wv_frames.specs.Spelling.{IsLayout}
use Rattle.wv_code.specs.declared.raw_body.RawAttribute.{RawAttribute}
use Rattle.wv_code.specs.declared.raw_body.RawAttribute.TheVariants as attributes
use Rattle.wv_code.specs.declared.raw_body.RawBody.{RawBody}
use Rattle.wv_code.specs.declared.splitting.RawCode.{RawCode}
use Rattle.wv_code.specs.Body.{frames_in}
use Rattle.wv_code.specs.Breaks.{FramesBreak, named, stands, made, IsSound, twice, frame, attribute_place}
use Rattle.wv_code.specs.Content.{IsAttribute}

-- no second table
abbrev pub Once : List RawAttribute → Type 0
Once all = (j k name other : ℕ) (fs gs : List RawFrame) → j < k → slice_get all j ≡ Some (attributes.Frames name fs) → slice_get all k ≡ Some (attributes.Frames other gs) → ⊥

none_in : (all : List RawAttribute) → ((k name : ℕ) (fs : List RawFrame) → slice_get all k ≡ Some (attributes.Frames name fs) → ⊥) → frames_in all ≡ []
none_in [] h = refl
none_in (attributes.Frames name fs ∷ all) h = absurd (h 0 name fs refl)
none_in (attributes.Kept a ∷ all) h = none_in all (λ k name fs e. h (suc k) name fs e)

later : (a : RawAttribute) (all : List RawAttribute) → Once (a ∷ all) → Once all
later a all once j k name other fs gs lt e f = once (suc j) (suc k) name other fs gs (omega arith) e f

alone : (name : ℕ) (fs : List RawFrame) (all : List RawAttribute) → Once (attributes.Frames name fs ∷ all) → frames_in (attributes.Frames name fs ∷ all) ≡ fs
alone name fs all once = ap (λ (t : List RawFrame). fs ++ t) (none_in all (λ k other gs e. once 0 (suc k) name other fs gs (omega arith) refl e)) ∙ append-nil fs

-- the frames of the first table are all
pub only_table : (all : List RawAttribute) (k name : ℕ) (fs : List RawFrame) → Once all → frames_in (take k all) ≡ [] → slice_get all k ≡ Some (attributes.Frames name fs) → frames_in all ≡ fs
only_table [] k name fs once none e = absurd cc
only_table (a ∷ all) zero name fs once none e =
    let is : a ≡ attributes.Frames name fs = some_is a (attributes.Frames name fs) e in
    let front : frames_in (a ∷ all) ≡ frames_in (attributes.Frames name fs ∷ all) = ap (λ (x : RawAttribute). frames_in (x ∷ all)) is in
    front ∙ alone name fs all (subst (λ (x : RawAttribute). Once (x ∷ all)) is once)
only_table (attributes.Frames other gs ∷ all) (suc k) name fs once none e = absurd (once 0 (suc k) other name gs fs (omega arith) refl e)
only_table (attributes.Kept a ∷ all) (suc k) name fs once none e = only_table all k name fs (later (attributes.Kept a) all once) none e

-- no frames, or those of the table
tables : (all : List RawAttribute) → Once all → (frames_in all ≡ []) ⊎ ((k : ℕ) × (name : ℕ) × (slice_get all k ≡ Some (attributes.Frames name (frames_in all))))
tables [] once = inl refl
tables (attributes.Frames name fs ∷ all) once = inr (0, name, ap (λ (t : List RawFrame). Some (attributes.Frames name t)) (sym (alone name fs all once)))
tables (attributes.Kept a ∷ all) once = elim (tables all (later (attributes.Kept a) all once)) [
  | inl none ↦ inl none
  | inr there ↦ inr (suc there.0, there.1, there.2)
]

pub once : (pool : List PoolEntry) (first : Frame) (raw : RawBody) → IsSound pool first raw → Once raw.attributes
once pool first raw sound j k name other fs gs lt e f = sound (attribute_place raw k) (twice j k name other fs gs lt e f)

all_at : {X : Type 0} (P : X → Type 0) (xs : List X) (i : ℕ) (x : X) → AllByRecursion P xs → slice_get xs i ≡ Some x → P x
all_at P [] i x h e = absurd cc
all_at P (a ∷ xs) zero x h e = subst P (some_is a x e) h.0
all_at P (a ∷ xs) (suc i) x h e = all_at P xs i x h.1 e

-- the frames have the layout of a table
pub frames_layout : (pool : List PoolEntry) (all : List RawAttribute) → Once all → AllByRecursion (IsAttribute pool) all → IsLayout (frames_in all)
frames_layout pool all once laid = elim (tables all once) [
  | inl none ↦ rw none (omega arith, tt)
  | inr there ↦ (all_at (IsAttribute pool) all there.0 (attributes.Frames there.1 (frames_in all)) laid there.2).2
]

no_parts : (before after : List RawFrame) (x : RawFrame) → [] ≡ before ++ x ∷ after → ⊥
no_parts [] after x e = cc
no_parts (y ∷ before) after x e = cc

nothing_breaks : (pool : List PoolEntry) (first : Frame) (code : RawCode) (all : List RawFrame) (place : ℕ) → all ≡ [] → FramesBreak pool first code all place → ⊥
nothing_breaks pool first code all place none (named breaks) = no_parts breaks.before breaks.after breaks.broken (sym none ∙ breaks.parts)
nothing_breaks pool first code all place none (stands k f e rest) = let gone : slice_get [] k ≡ Some f = rw none at e in cc
nothing_breaks pool first code all place none (made k f at within e rest more) = let gone : slice_get [] k ≡ Some f = rw none at e in cc

-- no frame breaks what it must meet
pub frames_sound : (pool : List PoolEntry) (first : Frame) (raw : RawBody) → IsSound pool first raw → (place : ℕ) → FramesBreak pool first raw.code (frames_in raw.attributes) place → ⊥
frames_sound pool first raw sound place breaks = elim (tables raw.attributes (once pool first raw sound)) [
  | inl none ↦ nothing_breaks pool first raw.code (frames_in raw.attributes) place none breaks
  | inr there ↦ sound (attribute_place raw there.0 + 6 + place) (frame there.0 there.1 place (frames_in raw.attributes) there.2 breaks)
]
