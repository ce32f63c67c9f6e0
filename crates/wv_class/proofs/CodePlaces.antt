-- The place of the first item of a method's code that breaks what it must meet.
use Rattle.std.proofs.Common.{◌≡◌, ℕ, zero, suc, ◌+◌, ◌*◌, ◌^◌, ◌<◌, ◌≤◌, List, [], ◌∷◌, length, get_or, take, Option, Some, None, refl, subst, inl, inr, arith}
use Rattle.std.specs.Prelude.{slice_get, Result, Ok, Err, IfOk}
use Rattle.std.specs.List.{flat_map, AllByRecursion}
use Rattle.std.proofs.lemmas.Bool.{cases_lt}
use Rattle.std.proofs.lemmas.List.Folds.{length-flat_map-take}
use Rattle.std.proofs.lemmas.Option.{none-some, slice_get_within, get_or_from_slice_get}
use Rattle.wv_base.specs.declared.class_file.PoolEntry.{PoolEntry}
use Rattle.wv_base.specs.declared.frame.Frame.{Frame}
use Rattle.wv_base.specs.declared.memory.Memory.{Memory}
use Rattle.wv_insn.specs.declared.raw.Raw.{Raw}
use Rattle.wv_insn.specs.declared.raw.Raw.TheVariants as raws
use Rattle.wv_insn.specs.Spelling.{padding, IsTyped, IsInstruction}
use Rattle.wv_pool.proofs.Entire.{flat_map-front}
use Rattle.wv_frames.specs.declared.raw.RawType.{RawType}
use Rattle.wv_frames.specs.declared.raw.RawFrame.{RawFrame}
use Rattle.wv_frames.specs.declared.raw.RawFrame.TheVariants as frames
use Rattle.wv_frames.specs.Spelling.{type_bytes, list_bytes, frame_bytes, table_bytes}
use Rattle.std.proofs.lemmas.List.{length-append, take_all}
use Rattle.wv_code.specs.declared.splitting.RawCode.{RawCode}
use Rattle.wv_code.specs.declared.raw_body.RawRange.{RawRange}
use Rattle.wv_code.specs.declared.raw_body.RawAttribute.{RawAttribute}
use Rattle.wv_code.specs.declared.raw_body.RawAttribute.TheVariants as attributes
use Rattle.wv_code.specs.declared.raw_body.RawBody.{RawBody}
use Rattle.wv_code.specs.Content.{range_bytes, attribute_bytes, IsAttribute, IsContent}
use Rattle.wv_code.specs.Breaks.{InsnBreaks, RangeBreaks, HasType, delta_place, FramesBreak, attribute_place, Breaks, FirstBreak, IsSound}
use Rattle.wv_code.specs.Breaks as breaks
use Rattle.wv_code.specs.Least.{IsLeastOf, Behind}
use Rattle.wv_code.proofs.LeastPlaces.{none_of, same}
use Rattle.wv_code.proofs.InsnPlaces.{distances_few}
use Rattle.wv_code.proofs.TablePlaces.{named_small}
use Rattle.wv_code.proofs.ContentPlaces.{content_starts}
use Rattle.wv_class.specs.declared.raw_class.RawMember.{RawMember}
use Rattle.wv_class.specs.Breaks.{StartsWith}
use Rattle.wv_class.specs.Checking.{StartedBreak}
use Rattle.wv_class.proofs.Lengths.{ranges_len, code_spelled}
use Rattle.wv_class.proofs.StartFrames.{one_start}

-- ---- no place is far behind the start

all_at : {X : Type 0} (P : X → Type 0) (xs : List X) (k : ℕ) (x : X) → AllByRecursion P xs → slice_get xs k ≡ Some x → P x
all_at P [] k x h e = absurd (none-some x e)
all_at P (y ∷ xs) zero x h e = let one : y ≡ x = cc in subst P one h.0
all_at P (y ∷ xs) (suc k) x h e = all_at P xs k x h.1 e

-- an item and those before it take no more than all
up_to : {X : Type 0} (f : X → List ℕ) (xs : List X) (k : ℕ) (x : X) → slice_get xs k ≡ Some x → length (flat_map f (take k xs)) + length (f x) ≤ length (flat_map f xs)
up_to f xs k x e =
    let within : k < length xs = slice_get_within xs k x e in
    let one : get_or xs k x ≡ x = get_or_from_slice_get xs k x x e in
    let sizes = length-flat_map-take f xs k x within in
    rw one at sizes

insn_near : (pool : List PoolEntry) (offsets : List ℕ) (at : ℕ) (r : Raw) (place : ℕ) → IsTyped r → IsInstruction r → InsnBreaks pool offsets at r place → place < 2 ^ 35
insn_near pool offsets at r place typed is (breaks.load h) = omega arith
insn_near pool offsets at r place typed is (breaks.branch h) = omega arith
insn_near pool offsets at r place typed is (breaks.table_other h) = omega arith
insn_near pool offsets at r place typed is (breaks.table_low h) = omega arith
insn_near pool offsets at r place typed is (breaks.table_target {low} {high} {other} {distances} k distance there h) =
    let within : k < length distances = slice_get_within distances k distance there in omega (arith, is, distances_few low high typed.0 typed.1)
insn_near pool offsets at r place typed is (breaks.lookup_other h) = omega arith
insn_near pool offsets at r place typed is (breaks.lookup_key {other} {cases} k before case there next le) =
    let within : k + 1 < length cases = slice_get_within cases (k + 1) case next in omega (arith, is)
insn_near pool offsets at r place typed is (breaks.lookup_target {other} {cases} k case there h) =
    let within : k < length cases = slice_get_within cases k case there in omega (arith, is)
insn_near pool offsets at r place typed is (breaks.reference h) = omega arith
insn_near pool offsets at r place typed is (breaks.interface h) = omega arith
insn_near pool offsets at r place typed is (breaks.count h k) = omega arith
insn_near pool offsets at r place typed is (breaks.zero h) = omega arith
insn_near pool offsets at r place typed is (breaks.site h) = omega arith
insn_near pool offsets at r place typed is (breaks.class h) = omega arith
insn_near pool offsets at r place typed is (breaks.array h) = omega arith
insn_near pool offsets at r place typed is (breaks.multi h) = omega arith
insn_near pool offsets at r place typed is (breaks.dimensions h k) = omega arith

range_near : (pool : List PoolEntry) (offsets : List ℕ) (len : ℕ) (r : RawRange) (place : ℕ) → RangeBreaks pool offsets len r place → place ≤ 6
range_near pool offsets len r place (breaks.start h) = omega arith
range_near pool offsets len r place (breaks.end h) = omega arith
range_near pool offsets len r place (breaks.handler h) = omega arith
range_near pool offsets len r place (breaks.catch h) = omega arith

type_near : (f : RawFrame) (t : RawType) (place : ℕ) → HasType f t place → place ≤ length (frame_bytes f)
type_near f t place breaks.with_one = omega arith
type_near f t place breaks.extended = omega arith
type_near f t place (breaks.append {delta} {locals} k u there) = omega (arith, flat_map-front type_bytes locals k)
type_near f t place (breaks.in_locals {delta} {locals} {stack} k u there) = omega (arith, flat_map-front type_bytes locals k, length-append (list_bytes locals) (list_bytes stack))
type_near f t place (breaks.on_stack {delta} {locals} {stack} k u there) = omega (arith, flat_map-front type_bytes stack k, length-append (list_bytes locals) (list_bytes stack))

delta_near : (f : RawFrame) → delta_place f ≤ 1
delta_near (frames.Same delta) = omega arith
delta_near (frames.SameWithOne delta stack) = omega arith
delta_near (frames.SameWithOneExtended delta stack) = omega arith
delta_near (frames.Chop count delta) = omega arith
delta_near (frames.SameExtended delta) = omega arith
delta_near (frames.Append delta locals) = omega arith
delta_near (frames.Full delta locals stack) = omega arith

frames_near : (pool : List PoolEntry) (first : Frame) (code : RawCode) (all : List RawFrame) (place : ℕ) → length (table_bytes all) < 2 ^ 32 → FramesBreak pool first code all place → place < 2 ^ 33
frames_near pool first code all place small (breaks.named h) = omega (arith, named_small pool first all place small h)
frames_near pool first code all place small (breaks.stands k f is h) = omega (arith, small, flat_map-front frame_bytes all k, delta_near f)
frames_near pool first code all place small (breaks.made k f at inner is has h) = omega (arith, small, up_to frame_bytes all k f is, type_near f _ inner has)

table_small : (pool : List PoolEntry) (raw : RawBody) (bytes : List ℕ) (k name : ℕ) (fs : List RawFrame) → IsContent pool raw bytes → slice_get raw.attributes k ≡ Some (attributes.Frames name fs) → length (table_bytes fs) < 2 ^ 32
table_small pool raw bytes k name fs c is = (all_at (IsAttribute pool) raw.attributes k (attributes.Frames name fs) c.attributes is).3

attribute_near : (pool : List PoolEntry) (raw : RawBody) (bytes : List ℕ) (k : ℕ) → IsContent pool raw bytes → attribute_place raw k ≤ length bytes
attribute_near pool raw bytes k c =
    let all : take (length raw.attributes) raw.attributes ≡ raw.attributes = take_all (length raw.attributes) raw.attributes (omega arith) in
    let whole = code_spelled pool raw bytes c in
    omega (arith, flat_map-front attribute_bytes raw.attributes k, (rw all at whole))

code_near : (pool : List PoolEntry) (first : Frame) (raw : RawBody) (bytes : List ℕ) (at : ℕ) → IsContent pool raw bytes → length bytes < 2 ^ 32 → Breaks pool first raw at → at < 2 ^ 36
code_near pool first raw bytes at c small (breaks.len h) = omega arith
code_near pool first raw bytes at c small (breaks.insn k r offset place is there h) =
    let starts = content_starts pool raw bytes c in
    let below : offset < raw.len = all_at (λ o. o < raw.len) raw.code.offsets k offset starts.within there in
    omega (arith, c.small, insn_near pool raw.code.offsets offset r place (all_at IsTyped raw.code.raws k r starts.typed is) (all_at IsInstruction raw.code.raws k r starts.instructions is) h)
code_near pool first raw bytes at c small (breaks.range k r place is h) =
    omega (arith, c.small, c.few_ranges, flat_map-front range_bytes raw.ranges k, ranges_len raw.ranges, range_near pool raw.code.offsets raw.len r place h)
code_near pool first raw bytes at c small (breaks.twice j k name other fs gs lt is_j is_k) = omega (arith, small, attribute_near pool raw bytes k c)
code_near pool first raw bytes at c small (breaks.frame k name place fs is h) =
    omega (arith, small, attribute_near pool raw bytes k c, frames_near pool first raw.code fs place (table_small pool raw bytes k name fs c is) h)

pub first_near : (pool : List PoolEntry) (first : Frame) (raw : RawBody) (bytes : List ℕ) (at : ℕ) → IsContent pool raw bytes → length bytes < 2 ^ 32 → FirstBreak pool first raw at → at < 2 ^ 36
first_near pool first raw bytes at c small h = code_near pool first raw bytes at c small h.breaks

-- ---- the least of them

pub body_sound : (pool : List PoolEntry) (frame : Frame) (raw : RawBody) (base : ℕ) → IsSound pool frame raw → IsLeastOf (Behind base (FirstBreak pool frame raw)) None
body_sound pool frame raw base sound = none_of (λ n k. sound k.0 k.1.breaks)

pub body_found : (pool : List PoolEntry) (frame : Frame) (raw : RawBody) (base at : ℕ) → FirstBreak pool frame raw at → IsLeastOf (Behind base (FirstBreak pool frame raw)) (Some (base + at))
body_found pool frame raw base at first = record {
  holds = (at, first, refl);
  least = λ n k. let le : at ≤ k.0 = low k.0 k.1 in omega (arith, k.2);
}
  where
    low : (place : ℕ) → FirstBreak pool frame raw place → at ≤ place
    low place b = elim (cases_lt place at) [
      | inl lt ↦ absurd (first.none place lt b.breaks)
      | inr le ↦ le
    ]

module _ (pool : List PoolEntry) (class : ℕ) (m : RawMember) (raw : RawBody) (base : ℕ) where
  pub unstarted : ((frame : Frame) → StartsWith pool class m frame → ⊥) → IsLeastOf (Behind base (StartedBreak pool class m raw)) None
  unstarted never = none_of (λ n k. never k.1.0 k.1.1)

  started : (frame : Frame) {o : Option ℕ} → StartsWith pool class m frame → IsLeastOf (Behind base (FirstBreak pool frame raw)) o → IsLeastOf (Behind base (StartedBreak pool class m raw)) o
  started frame starts h = same to from h
    where
      to : (n : ℕ) → Behind base (FirstBreak pool frame raw) n → Behind base (StartedBreak pool class m raw) n
      to n k = (k.0, (frame, starts, k.1), k.2)

      from : (n : ℕ) → Behind base (StartedBreak pool class m raw) n → Behind base (FirstBreak pool frame raw) n
      from n k = (k.0, subst (λ (f : Frame). FirstBreak pool f raw k.0) (one_start pool class m k.1.0 frame k.1.1 starts) k.1.2, k.2)

  pub started_result : (frame : Frame) (r : Result (Option ℕ) Memory) → StartsWith pool class m frame → IfOk r (IsLeastOf (Behind base (FirstBreak pool frame raw))) → IfOk r (IsLeastOf (Behind base (StartedBreak pool class m raw)))
  started_result frame (Ok o) starts h = started frame starts h
  started_result frame (Err e) starts h = tt
