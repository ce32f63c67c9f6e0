-- Reading the content of a Code attribute, whose bytes fill it exactly, from left to right (JVM Specification 4.7.3). Of the
-- content so many bytes behind the given ones are missing. A fault is the number of bytes that are left from it on, 0 where
-- the bytes end. That this is the reading of the content's spelling and of no other bytes, the clauses of `read_layout` say.
use Rattle.std.specs.Prelude.{ℕ, zero, suc, ◌+◌, ◌-◌, ◌*◌, Bool, false, ◌==◌, ◌&&◌, ◌||◌, nat_lt, nat_le, if◌then◌else◌, List, [], ◌∷◌, length, take, drop, bytes_eq, Option, Some, None, Result, Ok, Err, codes}
use Rattle.wv_base.specs.declared.class_file.PoolEntry.{PoolEntry}
use Rattle.wv_insn.specs.declared.raw.Raw.{Raw}
use Rattle.wv_pool.specs.Reading.{◌>>=◌, fixed, number}
use Rattle.wv_pool.specs.References.{text_of}
use Rattle.wv_frames.specs.declared.raw.RawFrame.{RawFrame}
use Rattle.wv_frames.specs.Reading.{table_at}
use Rattle.wv_code.specs.declared.raw_body.RawRange.{RawRange}
use Rattle.wv_code.specs.declared.raw_body.RawAttribute.{RawAttribute}
use Rattle.wv_code.specs.declared.raw_body.RawAttribute.TheVariants as attributes
use Rattle.wv_code.specs.declared.raw_body.RawBody.{RawBody}
use Rattle.wv_code.specs.Fitting.{insn_at}
use Rattle.wv_code.specs.Number.{number_at}

-- Instructions one behind the other up to where the tail begins, each read from its offset on, with their offsets.
unfoldable pub insns_from : (ℕ → ℕ → ℕ → List ℕ → Result (Raw × List ℕ) ℕ) → (steps at tail missing : ℕ) → List ℕ → Result ((List Raw × List ℕ) × List ℕ) ℕ
insns_from one zero at tail missing bytes = Ok (([], []), bytes)
insns_from one (suc steps) at tail missing bytes =
    if length bytes + missing == tail then Ok (([], []), bytes) else (do
      insn ← one at tail missing bytes
      others ← insns_from one steps (at + (length bytes - length insn.1)) tail missing insn.1
      Ok ((insn.0 ∷ others.0.0, at ∷ others.0.1), others.1))

-- the code, of so many bytes
abbrev pub code_at : ℕ → ℕ → List ℕ → Result ((List Raw × List ℕ) × List ℕ) ℕ
code_at len missing bytes = insns_from insn_at (suc (length bytes)) 0 (length bytes + missing - len) missing bytes

-- so many items, each read by how many more are to come
unfoldable pub times : {A : Type 0} → (ℕ → ℕ → List ℕ → Result (A × List ℕ) ℕ) → ℕ → ℕ → List ℕ → Result (List A × List ℕ) ℕ
times one zero missing bytes = Ok ([], bytes)
times one (suc n) missing bytes = do
  item ← one n missing bytes
  others ← times one n missing item.1
  Ok (item.0 ∷ others.0, others.1)

unfoldable pub range_at : List ℕ → Result (RawRange × List ℕ) ℕ
range_at bytes = do
  start ← fixed 2 number bytes
  end ← fixed 2 number start.1
  handler ← fixed 2 number end.1
  catch ← fixed 2 number handler.1
  Ok (record { start = start.0; end = end.0; handler = handler.0; catch = catch.0 }, catch.1)

-- the longest attribute: its six bytes and the longest content (4.7)
abbrev pub longest : ℕ
longest = 4294967301

-- so many attributes can fill so many bytes exactly
unfoldable pub attributes_fit : ℕ → ℕ → Bool
attributes_fit room n = nat_le (6 * n) room && nat_le room (longest * n)

-- a table of attributes can fill so many bytes: its count, and no attribute or some
unfoldable pub attributes_fill : ℕ → Bool
attributes_fill n = n == 2 || (nat_le 8 n && nat_le n (2 + longest * 65535))

-- the tables behind the code can: no range and no attribute, or some
unfoldable pub tables_fill : ℕ → Bool
tables_fill n = n == 4 || (nat_le 10 n && nat_le n (4 + 8 * 65535 + longest * 65535))

-- code of so many bytes fits the room behind its length
unfoldable pub code_fits : ℕ → ℕ → Bool
code_fits room n = nat_le n room && tables_fill (room - n)

-- so many ranges of eight bytes fit the room behind their count
unfoldable pub ranges_fit : ℕ → ℕ → Bool
ranges_fit room n = nat_le (8 * n) room && attributes_fill (room - 8 * n)

-- the units of the name StackMapTable (4.7.4)
abbrev pub is_frames : Option (List ℕ) → Bool
is_frames None = false
is_frames (Some text) = bytes_eq text (codes "StackMapTable")

-- whether the number names StackMapTable
unfoldable pub names_frames : List PoolEntry → ℕ → Bool
names_frames pool name = is_frames (text_of pool name)

-- the least content of an attribute with the name: a StackMapTable has a count
abbrev pub least_content : List PoolEntry → ℕ → ℕ
least_content pool name = if names_frames pool name then 2 else 0

-- a content of at least so many bytes has this length, where so many attributes are behind it
unfoldable pub length_fits : ℕ → ℕ → ℕ → ℕ → Bool
length_fits least left room n = nat_le least n && (nat_le n room && attributes_fit (room - n) left)

-- an attribute with the name, and so many more, fit the room behind the name
unfoldable pub name_fits : List PoolEntry → ℕ → ℕ → ℕ → Bool
name_fits pool left room name = nat_le (4 + least_content pool name + 6 * left) room && nat_le (room + 2) (longest * (left + 1))

-- an attribute that is kept, behind its length
abbrev pub kept_at : ℕ → ℕ → List ℕ → Result (RawAttribute × List ℕ) ℕ
kept_at name len bytes = if nat_lt (length bytes) len then Err 0 else Ok (attributes.Kept (record { name = name; content = take len bytes }), drop len bytes)

-- the frames of a StackMapTable, behind its length; how many bytes are left behind a fault in them is counted in all bytes
abbrev pub frames_found : ℕ → List ℕ → ℕ → Result (List RawFrame × List ℕ) ℕ → Result (RawAttribute × List ℕ) ℕ
frames_found name rest behind (Ok found) = Ok (attributes.Frames name found.0, rest)
frames_found name rest behind (Err left) = Err (left + behind)

unfoldable pub frames_at : ℕ → ℕ → List ℕ → Result (RawAttribute × List ℕ) ℕ
frames_at name len bytes = frames_found name (drop len bytes) (length bytes - len) (table_at (len - length bytes) (take len bytes))

-- an attribute, behind which so many are to come
unfoldable pub attribute_at : List PoolEntry → ℕ → ℕ → List ℕ → Result (RawAttribute × List ℕ) ℕ
attribute_at pool left missing bytes = do
  name ← number_at 2 (name_fits pool left) missing bytes
  len ← number_at 4 (length_fits (least_content pool name.0) left) missing name.1
  if names_frames pool name.0 then frames_at name.0 len.0 len.1 else kept_at name.0 len.0 len.1

-- the content: its sizes, the code and the two tables
unfoldable pub tables_at : List PoolEntry → ℕ → List ℕ → Result ((List RawRange × List RawAttribute) × List ℕ) ℕ
tables_at pool missing bytes = do
  count ← number_at 2 ranges_fit missing bytes
  ranges ← times (λ left missing. range_at) count.0 missing count.1
  number ← number_at 2 attributes_fit missing ranges.1
  all ← times (attribute_at pool) number.0 missing number.1
  Ok ((ranges.0, all.0), all.1)

unfoldable pub content_at : List PoolEntry → ℕ → List ℕ → Result (RawBody × List ℕ) ℕ
content_at pool missing bytes = do
  stack ← fixed 2 number bytes
  locals ← fixed 2 number stack.1
  len ← number_at 4 code_fits missing locals.1
  code ← code_at len.0 missing len.1
  tables ← tables_at pool missing code.1
  Ok (record { max_stack = stack.0; max_locals = locals.0; len = len.0; code = record { raws = code.0.0; offsets = code.0.1 }; ranges = tables.0.0; attributes = tables.0.1 }, tables.1)
