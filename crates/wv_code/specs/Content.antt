-- The bytes of a Code attribute's content (JVM Specification 4.7.3), whatever its numbers name, and where bytes first
-- break that layout.
use Rattle.std.specs.Prelude.{◌≡◌, ℕ, ◌+◌, ◌^◌, ◌<◌, ◌≤◌, List, ◌++◌, length, take, Some, Result, Ok, Err, codes}
use Rattle.std.specs.List.{flat_map, AllByRecursion}
use Rattle.std.specs.Int.{w32, to_be_bytes}
use Rattle.wv_base.specs.declared.class_file.PoolEntry.{PoolEntry}
use Rattle.wv_base.specs.declared.class_file.Attribute.{Attribute}
use Rattle.wv_base.specs.declared.fault.ClassFault.{ClassFault}
use Rattle.wv_base.specs.declared.fault.ClassFault.TheVariants as faults
use Rattle.wv_pool.specs.Entries.{number_bytes}
use Rattle.wv_pool.specs.References.{text_of}
use Rattle.wv_frames.specs.Spelling.{table_bytes, IsLayout}
use Rattle.wv_code.specs.declared.raw_body.RawRange.{RawRange}
use Rattle.wv_code.specs.declared.raw_body.RawAttribute.{RawAttribute}
use Rattle.wv_code.specs.declared.raw_body.RawAttribute.TheVariants as attributes
use Rattle.wv_code.specs.declared.raw_body.RawBody.{RawBody}
use Rattle.wv_code.specs.Code.{Follow}

-- a length, in four bytes
abbrev pub length_bytes : ℕ → List ℕ
length_bytes n = to_be_bytes w32 n

abbrev pub range_bytes : RawRange → List ℕ
range_bytes r = number_bytes r.start ++ (number_bytes r.end ++ (number_bytes r.handler ++ number_bytes r.catch))

-- an attribute with its name's number and its content (4.7)
abbrev pub named_bytes : ℕ → List ℕ → List ℕ
named_bytes name content = number_bytes name ++ (length_bytes (length content) ++ content)

abbrev pub attribute_bytes : RawAttribute → List ℕ
attribute_bytes (attributes.Frames name frames) = named_bytes name (table_bytes frames)
attribute_bytes (attributes.Kept a) = named_bytes a.name a.content

-- the number is that of the name StackMapTable (4.7.4)
abbrev pub NamesFrames : List PoolEntry → ℕ → Type 0
NamesFrames pool name = text_of pool name ≡ Some (codes "StackMapTable")

abbrev pub IsRange : RawRange → Type 0
IsRange r = (r.start < 2 ^ 16) × (r.end < 2 ^ 16) × (r.handler < 2 ^ 16) × (r.catch < 2 ^ 16)

abbrev pub IsKept : List PoolEntry → Attribute → Type 0
IsKept pool a = (a.name < 2 ^ 16) × (NamesFrames pool a.name → ⊥) × (length a.content < 2 ^ 32) × AllByRecursion (λ b. b < 256) a.content

-- a StackMapTable has frames, and an attribute of any other name any bytes
abbrev pub IsAttribute : List PoolEntry → RawAttribute → Type 0
IsAttribute pool (attributes.Frames name frames) = (name < 2 ^ 16) × NamesFrames pool name × IsLayout frames × (length (table_bytes frames) < 2 ^ 32)
IsAttribute pool (attributes.Kept a) = IsKept pool a

-- the sizes, the code, the exception table and the attributes
abbrev pub content_bytes : RawBody → List ℕ → List ℕ
content_bytes raw code = number_bytes raw.max_stack ++ (number_bytes raw.max_locals ++ (length_bytes raw.len ++ (code ++
    (number_bytes (length raw.ranges) ++ (flat_map range_bytes raw.ranges ++ (number_bytes (length raw.attributes) ++ flat_map attribute_bytes raw.attributes))))))

-- the bytes are such a content, whose code is these instructions
pub record IsContent (pool : List PoolEntry) (raw : RawBody) (bytes : List ℕ) : Type 0 where
  pub code : List ℕ
  pub follow : Follow code 0 raw.code.raws raw.code.offsets raw.len
  pub whole : length code ≡ raw.len
  pub small : raw.len < 2 ^ 32
  pub stack : raw.max_stack < 2 ^ 16
  pub locals : raw.max_locals < 2 ^ 16
  pub few_ranges : length raw.ranges < 2 ^ 16
  pub ranges : AllByRecursion IsRange raw.ranges
  pub few_attributes : length raw.attributes < 2 ^ 16
  pub attributes : AllByRecursion (IsAttribute pool) raw.attributes
  pub spelled : bytes ≡ content_bytes raw code

-- some content of so many bytes begins with these
pub record Begins (pool : List PoolEntry) (size : ℕ) (front : List ℕ) : Type 0 where
  pub raw : RawBody
  pub more : List ℕ
  pub content : IsContent pool raw (front ++ more)
  pub sized : length (front ++ more) ≡ size

-- The bytes, behind which so many are missing, are no content, and this is where it shows: some content of that size
-- begins with those before the place, if there are any, and none with one byte more, or the bytes end there.
pub record IsLayoutFault (pool : List PoolEntry) (missing : ℕ) (bytes : List ℕ) (at : ℕ) : Type 0 where
  pub within : at ≤ length bytes
  pub begun : 0 < at → Begins pool (length bytes + missing) (take at bytes)
  pub none : at < length bytes → Begins pool (length bytes + missing) (take (at + 1) bytes) → ⊥
  pub no_content : missing ≡ 0 → (raw : RawBody) → IsContent pool raw bytes → ⊥

-- the answer is this content, unless memory ran out
abbrev pub GivesRaw : Result RawBody ClassFault → RawBody → Type 0
GivesRaw (Ok found) raw = found ≡ raw
GivesRaw (Err e) raw = e ≡ faults.Memory

-- the cause of a fault
abbrev pub LayoutBreaks : List PoolEntry → ℕ → List ℕ → ClassFault → Type 0
LayoutBreaks pool missing bytes (faults.Layout at) = IsLayoutFault pool missing bytes at
LayoutBreaks pool missing bytes (faults.Reference at) = ⊥
LayoutBreaks pool missing bytes faults.Memory = Unit {0}
