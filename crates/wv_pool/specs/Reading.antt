-- Reading entries from left to right (JVM Specification 4.4). A fault is the number of bytes that are left from it on.
-- That this is the reading of the entries' spelling and of no other bytes, the laws of `read_layout` say.
use Rattle.std.specs.Prelude.{◌≡◌, ℕ, zero, suc, ◌+◌, ◌-◌, Bool, true, false, ◌==◌, ◌||◌, ◌&&◌, nat_lt, nat_le, if◌then◌else◌, List, [], ◌∷◌, length, take, drop, slice_index, Result, Ok, Err}
use Rattle.std.specs.Int.{w16, w32, w64, from_be_bytes, cast_signed}
use Rattle.wv_base.specs.declared.class_file.PoolEntry.{PoolEntry}
use Rattle.wv_base.specs.declared.class_file.PoolEntry.TheVariants as entries
use Rattle.wv_base.specs.ModifiedReading.{name_in}
use Rattle.wv_pool.specs.declared.stop.Stop.{Stop}
use Rattle.wv_pool.specs.declared.stop.Stop.TheVariants as stops

infixl 10 ◌>>=◌
abbrev pub ◌>>=◌ : {A B : Type 0} → Result A ℕ → (A → Result B ℕ) → Result B ℕ
(Ok x) >>= f = f x
(Err left) >>= f = Err left

-- What a function returned, seen by view, is what reading gives, unless memory ran out.
abbrev pub Fails : {Y : Type 0} → Stop → Result Y ℕ → Type 0
Fails stops.Memory read = Unit {0}
Fails (stops.Left left) read = read ≡ Err left

abbrev pub Gives : {X Y : Type 0} → (X → Y) → Result X Stop → Result Y ℕ → Type 0
Gives view (Ok x) read = read ≡ Ok (view x)
Gives view (Err e) read = Fails e read

-- so many bytes, and the bytes after them
abbrev pub fixed : {A : Type 0} → ℕ → (List ℕ → A) → List ℕ → Result (A × List ℕ) ℕ
fixed n make bytes = if nat_lt (length bytes) n then Err 0 else Ok (make (take n bytes), drop n bytes)

abbrev pub number : List ℕ → ℕ
number body = from_be_bytes w16 body

abbrev pub first : List ℕ → ℕ
first body = number (take 2 body)

abbrev pub second : List ℕ → ℕ
second body = number (drop 2 body)

-- the entry of a tag other than that of a text, and the bytes after it
unfoldable pub plain_behind : ℕ → List ℕ → Result (PoolEntry × List ℕ) ℕ
plain_behind tag bytes =
    if tag == 3 then fixed 4 (λ b. entries.Integer (cast_signed w32 (from_be_bytes w32 b))) bytes
    else if tag == 4 then fixed 4 (λ b. entries.Float (from_be_bytes w32 b)) bytes
    else if tag == 5 then fixed 8 (λ b. entries.Long (cast_signed w64 (from_be_bytes w64 b))) bytes
    else if tag == 6 then fixed 8 (λ b. entries.Double (from_be_bytes w64 b)) bytes
    else if tag == 7 then fixed 2 (λ b. entries.Class (number b)) bytes
    else if tag == 8 then fixed 2 (λ b. entries.String (number b)) bytes
    else if tag == 9 then fixed 4 (λ b. entries.Field (first b) (second b)) bytes
    else if tag == 10 then fixed 4 (λ b. entries.Method (first b) (second b)) bytes
    else if tag == 11 then fixed 4 (λ b. entries.InterfaceMethod (first b) (second b)) bytes
    else if tag == 12 then fixed 4 (λ b. entries.NameAndType (first b) (second b)) bytes
    else if tag == 15 then fixed 3 (λ b. entries.MethodHandle (slice_index b 0) (number (drop 1 b))) bytes
    else if tag == 16 then fixed 2 (λ b. entries.MethodType (number b)) bytes
    else if tag == 18 then fixed 4 (λ b. entries.InvokeDynamic (first b) (second b)) bytes
    else Err (length bytes + 1)

-- The place of a fault in a text of so many bytes, of which some are there: where a unit begins that has more bytes
-- than are left of the text, its first byte; else the first byte that goes on with no unit's bytes.
abbrev pub text_place : List ℕ → ℕ → ℕ → ℕ
text_place text len at =
    let last = slice_index text (at - 1) in
    let previous = slice_index text (at - 2) in
    if nat_lt 0 at && nat_le 0xC0 last then (if nat_lt len (at + (if nat_le 0xE0 last then 2 else 1)) then at - 1 else at)
    else if nat_lt 1 at && nat_le 0xE0 previous then (if nat_lt len (at + 1) then at - 2 else at)
    else at

abbrev pub text_found : ℕ → List ℕ → Result (List ℕ) ℕ → Result (PoolEntry × List ℕ) ℕ
text_found len bytes (Ok name) = if nat_lt (length bytes) len then Err 0 else Ok (entries.Utf8 name, drop len bytes)
text_found len bytes (Err at) = Err (length bytes - text_place (take len bytes) len at)

-- a text behind its tag: its length, and that many bytes of modified UTF-8
unfoldable pub text_behind : List ℕ → Result (PoolEntry × List ℕ) ℕ
text_behind bytes = do
  len ← fixed 2 number bytes
  text_found len.0 len.1 (name_in (take len.0 len.1))

-- a long or a double takes two numbers
abbrev pub is_wide : PoolEntry → Bool
is_wide (entries.Long value) = true
is_wide (entries.Double bits) = true
is_wide _ = false

-- an entry, which is the last one or not; a long or a double isn't the last, since its second number must be one of the pool's
unfoldable pub entry_at : Bool → List ℕ → Result (PoolEntry × List ℕ) ℕ
entry_at last [] = Err 0
entry_at last (tag ∷ bytes) =
    if tag == 1 then text_behind bytes
    else if last && (tag == 5 || tag == 6) then Err (length bytes + 1)
    else plain_behind tag bytes

-- the entry with the next number, which has no bytes behind a wide one
abbrev pub slot_at : Bool → Bool → List ℕ → Result (PoolEntry × List ℕ) ℕ
slot_at true last bytes = Ok (entries.Unusable, bytes)
slot_at false last bytes = entry_at last bytes

-- the entries with the next numbers, so many
unfoldable pub slots_in : Bool → ℕ → List ℕ → Result (List PoolEntry × List ℕ) ℕ
slots_in wide zero bytes = Ok ([], bytes)
slots_in wide (suc n) bytes = do
  entry ← slot_at wide (n == 0) bytes
  others ← slots_in (is_wide entry.0) n entry.1
  Ok (entry.0 ∷ others.0, others.1)

-- the pool at the front: the count, which is one more than the number of the last entry, and the entries
unfoldable pub pool_at : List ℕ → Result (List PoolEntry × List ℕ) ℕ
pool_at bytes = do
  count ← fixed 2 number bytes
  if count.0 == 0 then Err (length count.1 + 1) else slots_in false (count.0 - 1) count.1
