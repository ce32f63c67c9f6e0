-- Reading frames that fill the bytes exactly, from left to right (JVM Specification 4.7.4). So many bytes as the first number says are
-- missing at the end, and are to be filled too. A fault is the number of bytes that are left from it on, none where they end before the
-- item does. That this is the reading of the frames' spelling and of no other bytes, the clauses of `read_layout` say.
use Rattle.std.specs.Prelude.{◌≡◌, ℕ, zero, suc, ◌+◌, ◌-◌, ◌*◌, ◌%◌, Bool, true, false, ◌==◌, ◌&&◌, nat_lt, nat_le, if◌then◌else◌, List, [], ◌∷◌, length, Option, Some, None, Result, Ok, Err}
use Rattle.wv_room.specs.declared.frames.Frames.{Frames}
use Rattle.wv_room.specs.declared.frame_count.FrameKind.{FrameKind}
use Rattle.wv_room.specs.declared.frame_count.FrameKind.TheVariants as kinds
use Rattle.wv_room.specs.Frames.{most_more}
use Rattle.wv_room.specs.Counts.{frames_with}
use Rattle.wv_pool.specs.Reading.{◌>>=◌, fixed, number}
use Rattle.wv_frames.specs.declared.raw.RawType.{RawType}
use Rattle.wv_frames.specs.declared.raw.RawType.TheVariants as types
use Rattle.wv_frames.specs.declared.raw.RawFrame.{RawFrame}
use Rattle.wv_frames.specs.declared.raw.RawFrame.TheVariants as frames
use Rattle.wv_frames.specs.declared.tag.TypeTag.{TypeTag}
use Rattle.wv_frames.specs.declared.tag.TypeTag.TheVariants as type_tags
use Rattle.wv_frames.specs.declared.tag.FrameTag.{FrameTag}
use Rattle.wv_frames.specs.declared.tag.FrameTag.TheVariants as frame_tags
use Rattle.wv_frames.specs.declared.stop.Stop.{Stop}
use Rattle.wv_frames.specs.declared.stop.Stop.TheVariants as stops

-- What a function returned, seen by view, is what reading gives, unless memory ran out.
abbrev pub Fails : {Y : Type 0} → Stop → Result Y ℕ → Type 0
Fails stops.Memory read = Unit {0}
Fails (stops.Left left) read = read ≡ Err left

abbrev pub Gives : {X Y : Type 0} → (X → Y) → Result X Stop → Result Y ℕ → Type 0
Gives view (Ok x) read = read ≡ Ok (view x)
Gives view (Err e) read = Fails e read

-- whether what is to come can fill so many bytes exactly
unfoldable pub fits_in : Frames → ℕ → Bool
fits_in to_come room =
    let least = to_come.bytes + to_come.types + 2 * to_come.lists + to_come.frames in
    let most = most_more to_come.types to_come.lists to_come.frames in
    let more = room - least in
    nat_le least room && (nat_le more most && (if to_come.lists + to_come.frames == 0 then more % 2 == 0 else (if more + 1 == most then false else true)))

-- frames and nothing else
abbrev pub only_frames : ℕ → Frames
only_frames left = record { bytes = 0; types = 0; lists = 0; frames = left }

-- a tag with a meaning behind which what is to come fits
abbrev pub tag_found : {A : Type 0} → ℕ → (A → Frames) → List ℕ → Option A → Result (A × List ℕ) ℕ
tag_found missing to_come rest None = Err (suc (length rest))
tag_found missing to_come rest (Some tag) = if fits_in (to_come tag) (length rest + missing) then Ok (tag, rest) else Err (suc (length rest))

unfoldable pub tag_at : {A : Type 0} → ℕ → (ℕ → Option A) → (A → Frames) → List ℕ → Result (A × List ℕ) ℕ
tag_at missing meaning to_come [] = Err 0
tag_at missing meaning to_come (byte ∷ rest) = tag_found missing to_come rest (meaning byte)

-- some number below passes the test
unfoldable pub some_below : ℕ → (ℕ → Bool) → Bool
some_below zero test = false
some_below (suc n) test = if test n then true else some_below n test

-- whether so many items fit, besides what else is to come
abbrev pub count_fits : FrameKind → Frames → ℕ → ℕ → Bool
count_fits kind besides room n = fits_in (frames_with kind n besides) room

-- whether the byte begins a count of items that fit
abbrev pub begins_count : FrameKind → Frames → ℕ → ℕ → Bool
begins_count kind besides room high = some_below 256 (λ k. count_fits kind besides room (high * 256 + k))

-- where a count fails of which the second byte is missing
abbrev pub half_count : ℕ → FrameKind → Frames → ℕ → Result (ℕ × List ℕ) ℕ
half_count zero kind besides high = Err 1
half_count (suc missing) kind besides high = if begins_count kind besides missing high then Err 0 else Err 1

-- a count of items that fit, whose first byte begins such a one
unfoldable pub count_at : ℕ → FrameKind → Frames → List ℕ → Result (ℕ × List ℕ) ℕ
count_at missing kind besides [] = Err 0
count_at missing kind besides (high ∷ []) = half_count missing kind besides high
count_at missing kind besides (high ∷ low ∷ rest) =
    if begins_count kind besides (length rest + missing) high
    then (if count_fits kind besides (length rest + missing) (high * 256 + low) then Ok (high * 256 + low, rest) else Err (suc (length rest)))
    else Err (suc (suc (length rest)))

-- the tag of a type
unfoldable pub type_tag : ℕ → Option TypeTag
type_tag tag =
    if tag == 0 then Some (type_tags.Plain types.Top)
    else if tag == 1 then Some (type_tags.Plain types.Int)
    else if tag == 2 then Some (type_tags.Plain types.Float)
    else if tag == 3 then Some (type_tags.Plain types.Double)
    else if tag == 4 then Some (type_tags.Plain types.Long)
    else if tag == 5 then Some (type_tags.Plain types.Null)
    else if tag == 6 then Some (type_tags.Plain types.UninitializedThis)
    else if tag == 7 then Some type_tags.Object
    else if tag == 8 then Some type_tags.Uninitialized
    else None

-- what is to come behind a type's tag, and behind the type
abbrev pub behind_type_tag : Frames → TypeTag → Frames
behind_type_tag behind (type_tags.Plain raw) = behind
behind_type_tag behind type_tags.Object = record behind { bytes = 2 }
behind_type_tag behind type_tags.Uninitialized = record behind { bytes = 2 }

abbrev pub type_behind : TypeTag → List ℕ → Result (RawType × List ℕ) ℕ
type_behind (type_tags.Plain raw) bytes = Ok (raw, bytes)
type_behind type_tags.Object bytes = do
  class ← fixed 2 number bytes
  Ok (types.Object class.0, class.1)
type_behind type_tags.Uninitialized bytes = do
  at ← fixed 2 number bytes
  Ok (types.Uninitialized at.0, at.1)

-- a type, behind which so much is to come
unfoldable pub type_at : ℕ → Frames → List ℕ → Result (RawType × List ℕ) ℕ
type_at missing behind bytes = do
  tag ← tag_at missing type_tag (behind_type_tag behind) bytes
  type_behind tag.0 tag.1

-- so many items, each read by how many more are to come
unfoldable pub items_in : {A : Type 0} → (ℕ → List ℕ → Result (A × List ℕ) ℕ) → ℕ → List ℕ → Result (List A × List ℕ) ℕ
items_in one zero bytes = Ok ([], bytes)
items_in one (suc n) bytes = do
  item ← one n bytes
  others ← items_in one n item.1
  Ok (item.0 ∷ others.0, others.1)

-- so many types, behind which this is to come
abbrev pub one_type : ℕ → Frames → ℕ → List ℕ → Result (RawType × List ℕ) ℕ
one_type missing behind left bytes = type_at missing (record behind { types = left }) bytes

abbrev pub types_in : ℕ → ℕ → Frames → List ℕ → Result (List RawType × List ℕ) ℕ
types_in missing count behind bytes = items_in (one_type missing behind) count bytes

-- a list of types with its count
unfoldable pub list_at : ℕ → Frames → List ℕ → Result (List RawType × List ℕ) ℕ
list_at missing behind bytes = do
  count ← count_at missing kinds.Type behind bytes
  types_in missing count.0 behind count.1

-- the tag of a frame
unfoldable pub frame_tag : ℕ → Option FrameTag
frame_tag tag =
    if nat_lt tag 64 then Some (frame_tags.Same tag)
    else if nat_lt tag 128 then Some (frame_tags.SameWithOne (tag - 64))
    else if nat_lt tag 247 then None
    else if tag == 247 then Some frame_tags.SameWithOneExtended
    else if nat_lt tag 251 then Some (frame_tags.Chop (251 - tag))
    else if tag == 251 then Some frame_tags.SameExtended
    else if nat_lt tag 255 then Some (frame_tags.Append (tag - 251))
    else if tag == 255 then Some frame_tags.Full
    else None

-- what is to come behind a frame's tag, with so many more frames
abbrev pub behind_frame_tag : ℕ → FrameTag → Frames
behind_frame_tag left (frame_tags.Same delta) = only_frames left
behind_frame_tag left (frame_tags.SameWithOne delta) = record { bytes = 0; types = 1; lists = 0; frames = left }
behind_frame_tag left frame_tags.SameWithOneExtended = record { bytes = 2; types = 1; lists = 0; frames = left }
behind_frame_tag left (frame_tags.Chop count) = record { bytes = 2; types = 0; lists = 0; frames = left }
behind_frame_tag left frame_tags.SameExtended = record { bytes = 2; types = 0; lists = 0; frames = left }
behind_frame_tag left (frame_tags.Append count) = record { bytes = 2; types = count; lists = 0; frames = left }
behind_frame_tag left frame_tags.Full = record { bytes = 2; types = 0; lists = 2; frames = left }

-- what stands behind a frame's tag
unfoldable pub full_behind : ℕ → ℕ → List ℕ → Result (RawFrame × List ℕ) ℕ
full_behind missing left bytes = do
  delta ← fixed 2 number bytes
  locals ← list_at missing (record { bytes = 0; types = 0; lists = 1; frames = left }) delta.1
  stack ← list_at missing (only_frames left) locals.1
  Ok (frames.Full delta.0 locals.0 stack.0, stack.1)

abbrev pub frame_behind : ℕ → ℕ → FrameTag → List ℕ → Result (RawFrame × List ℕ) ℕ
frame_behind missing left (frame_tags.Same delta) bytes = Ok (frames.Same delta, bytes)
frame_behind missing left (frame_tags.SameWithOne delta) bytes = do
  stack ← type_at missing (only_frames left) bytes
  Ok (frames.SameWithOne delta stack.0, stack.1)
frame_behind missing left frame_tags.SameWithOneExtended bytes = do
  delta ← fixed 2 number bytes
  stack ← type_at missing (only_frames left) delta.1
  Ok (frames.SameWithOneExtended delta.0 stack.0, stack.1)
frame_behind missing left (frame_tags.Chop count) bytes = do
  delta ← fixed 2 number bytes
  Ok (frames.Chop count delta.0, delta.1)
frame_behind missing left frame_tags.SameExtended bytes = do
  delta ← fixed 2 number bytes
  Ok (frames.SameExtended delta.0, delta.1)
frame_behind missing left (frame_tags.Append count) bytes = do
  delta ← fixed 2 number bytes
  locals ← types_in missing count (only_frames left) delta.1
  Ok (frames.Append delta.0 locals.0, locals.1)
frame_behind missing left frame_tags.Full bytes = full_behind missing left bytes

-- a frame, behind which there are so many more
unfoldable pub frame_at : ℕ → ℕ → List ℕ → Result (RawFrame × List ℕ) ℕ
frame_at missing left bytes = do
  tag ← tag_at missing frame_tag (behind_frame_tag left) bytes
  frame_behind missing left tag.0 tag.1

-- so many frames
abbrev pub frames_in : ℕ → ℕ → List ℕ → Result (List RawFrame × List ℕ) ℕ
frames_in missing count bytes = items_in (frame_at missing) count bytes

-- the count and the frames
unfoldable pub table_at : ℕ → List ℕ → Result (List RawFrame × List ℕ) ℕ
table_at missing bytes = do
  count ← count_at missing kinds.Frame (only_frames 0) bytes
  frames_in missing count.0 count.1
