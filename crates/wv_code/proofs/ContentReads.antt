-- The content of a Code attribute: how it is read, and what fits.
use Rattle.std.proofs.Common.{◌≡◌, ℕ, suc, ◌^◌, ◌<◌, ◌≤◌, Bool, true, false, cond, List, ◌++◌, length, Option, Some, None, Result, Ok, codes, refl, sym, ap, subst, ◌∙◌, inl, inr, arith}
use Rattle.std.proofs.lemmas.Bool.{cases_Bool}
use Rattle.std.proofs.lemmas.Slice.Eq.{bytes_eq-Decides}
use Rattle.wv_base.specs.declared.class_file.PoolEntry.{PoolEntry}
use Rattle.wv_pool.specs.Reading.{◌>>=◌, fixed, number}
use Rattle.wv_pool.specs.Entries.{number_bytes}
use Rattle.wv_pool.specs.References.{text_of}
use Rattle.wv_frames.specs.Spelling.{table_bytes}
use Rattle.wv_frames.proofs.Readers.{Reads, resized, renamed, Then, then, Seen, seen, alike}
use Rattle.wv_frames.proofs.Tags.{Short, Room2, short}
use Rattle.wv_frames.proofs.TableReads.{least_table}
use Rattle.wv_code.specs.declared.raw_body.RawRange.{RawRange}
use Rattle.wv_code.specs.declared.raw_body.RawAttribute.{RawAttribute}
use Rattle.wv_code.specs.declared.raw_body.RawAttribute.TheVariants as attributes
use Rattle.wv_code.specs.declared.raw_body.RawBody.{RawBody}
use Rattle.wv_code.specs.Content.{length_bytes, named_bytes, range_bytes, attribute_bytes, NamesFrames, IsRange, IsAttribute}
use Rattle.wv_code.specs.Number.{number_at}
use Rattle.wv_code.specs.Reading.{is_frames, names_frames, least_content, length_fits, name_fits, attributes_fit, ranges_fit, code_fits, kept_at, frames_at, attribute_at, code_at, range_at, times, tables_at, content_at}
use Rattle.wv_code.proofs.Numbers.{NumberRoom, Passes}
use Rattle.wv_code.proofs.Rooms.{Fit, fit_is, is_fit, long_is, is_long, named_is, is_named, some_length, length_room, least_few, some_name, name_fit, Table, table_counts, counts_table, ranged_is, is_ranged, Tables, tables_ranged, ranged_tables, coded_is, is_coded}
use Rattle.wv_code.proofs.Insns.{Code}
use Rattle.wv_code.proofs.ContentParts.{Long as LengthText, shorts, longs, Span, CodeText, code_read, Items, Item, items_read, RangesRoom, ranges_read}
use Rattle.wv_code.proofs.AttributeReads.{KeptText, kept_read, FramesText, frames_table}

-- what a reader keeps where a fact holds
pub given : {A : Type 0} {read : ℕ → List ℕ → Result (A × List ℕ) ℕ} {S : A → List ℕ → Type 0} {P : ℕ → Type 0} {Q : A → ℕ → Type 0} (F : Type 0) → (F → Reads read S P Q) → Reads read (λ value text. F × S value text) (λ n. F × P n) Q
given {A} {read} {S} {P} {Q} F r = record {
  takes = λ missing bytes x fits p e. let t = (r p.0).takes missing bytes x fits p.1 e in record { text = t.text; parts = t.parts; spelled = (p.0, t.spelled); rest = t.rest };
  again = λ missing value text rest s q. (r s.0).again missing value text rest s.1 q;
  stops = λ missing bytes left fits p e. elim ((r p.0).stops missing bytes left fits p.1 e) [
    | inl d ↦ inl (record {
      front = d.front;
      byte = d.byte;
      rest = d.rest;
      parts = d.parts;
      place = d.place;
      begun = record { value = d.begun.value; more = d.begun.more; extra = d.begun.extra; spelled = (p.0, d.begun.spelled); rest = d.begun.rest; sum = d.begun.sum };
      stays = d.stays;
    })
    | inr d ↦ inr (record { place = d.place; some = d.some; begun = record { value = d.begun.value; more = d.begun.more; extra = d.begun.extra; spelled = (p.0, d.begun.spelled); rest = d.begun.rest; sum = d.begun.sum } })
  ];
  there = λ n p. let f = (r p.0).there n p.1 in record { value = f.value; text = f.text; more = f.more; spelled = (p.0, f.spelled); rest = f.rest; sum = f.sum };
  back = λ value text m s q. (s.0, (r s.0).back value text m s.1 q);
}

-- ---- the name StackMapTable

units_are : (o : Option (List ℕ)) → is_frames o ≡ true → o ≡ Some (codes "StackMapTable")
units_are None e = absurd cc
units_are (Some text) e = ap Some ((bytes_eq-Decides text (codes "StackMapTable")).0 e)

are_units : (o : Option (List ℕ)) → o ≡ Some (codes "StackMapTable") → is_frames o ≡ true
are_units o e = rw e refl

pub names_is : (pool : List PoolEntry) (name : ℕ) → names_frames pool name ≡ true → NamesFrames pool name
unfolding names_frames
names_is pool name e = units_are (text_of pool name) e

pub is_names : (pool : List PoolEntry) (name : ℕ) → NamesFrames pool name → names_frames pool name ≡ true
unfolding names_frames
is_names pool name e = are_units (text_of pool name) e

pub names_not : (pool : List PoolEntry) (name : ℕ) → names_frames pool name ≡ false → NamesFrames pool name → ⊥
names_not pool name e n = absurd (let t = is_names pool name n in cc)

pub not_names : (pool : List PoolEntry) (name : ℕ) → (NamesFrames pool name → ⊥) → names_frames pool name ≡ false
not_names pool name n = elim (cases_Bool (names_frames pool name)) [
  | inl is ↦ absurd (n (names_is pool name is))
  | inr is ↦ is
]

-- ---- one attribute

abbrev least_of : Bool → ℕ
least_of b = cond b 2 0

abbrev PartText : Bool → ℕ → ℕ → RawAttribute → List ℕ → Type 0
PartText true name len = FramesText name len
PartText false name len = KeptText name len

abbrev content_of : Bool → ℕ → ℕ → ℕ → List ℕ → Result (RawAttribute × List ℕ) ℕ
content_of b name len missing bytes = cond b (frames_at name len bytes) (kept_at name len bytes)

abbrev LengthFact : Bool → ℕ → Type 0
LengthFact b len = (len < 2 ^ 32) × (least_of b ≤ len)

content_read : (b : Bool) (name len : ℕ) (Q : ℕ → Type 0) → LengthFact b len → Reads (content_of b name len) (PartText b name len) (Span len Q) (λ _. Q)
content_read true name len Q f = frames_table name len Q f.1 f.0
content_read false name len Q f = kept_read name len Q

abbrev SizedText : Bool → ℕ → RawAttribute → List ℕ → Type 0
SizedText b name = Then LengthText (λ len a text. LengthFact b len × PartText b name len a text)

abbrev sized_at : Bool → ℕ → ℕ → ℕ → List ℕ → Result (RawAttribute × List ℕ) ℕ
sized_at b left name missing bytes = number_at 4 (length_fits (least_of b) left) missing bytes >>= λ len. content_of b name len.0 missing len.1

sized_read : (b : Bool) (left name : ℕ) → Reads (sized_at b left name) (SizedText b name) (NumberRoom 4 (length_fits (least_of b) left)) (λ _ m. Fit m left)
sized_read b left name =
    then (λ len missing bytes. content_of b name len missing bytes) (longs (length_fits (least_of b) left)) (λ len.
    resized (λ n. LengthFact b len × Span len (λ m. Fit m left) n) (Passes 4 (length_fits (least_of b) left) len)
    (λ n p. let l = long_is (least_of b) left n len p.1 in ((omega (arith, p.0), l.low), record { more = l.more; sum = l.sum; rest = l.fits }))
    (λ n p. (omega (arith, p.0.0), is_long (least_of b) left n len (record { low = p.0.1; more = p.1.more; sum = p.1.sum; fits = p.1.rest })))
    (given (LengthFact b len) (content_read b name len (λ m. Fit m left))))

abbrev AttributeText : List PoolEntry → RawAttribute → List ℕ → Type 0
AttributeText pool = Then Short (λ name a text. (name < 2 ^ 16) × SizedText (names_frames pool name) name a text)

abbrev attribute_steps : List PoolEntry → ℕ → ℕ → List ℕ → Result (RawAttribute × List ℕ) ℕ
attribute_steps pool left missing bytes = number_at 2 (name_fits pool left) missing bytes >>= λ name. sized_at (names_frames pool name.0) left name.0 missing name.1

attribute_alike : (pool : List PoolEntry) (left missing : ℕ) (bytes : List ℕ) → attribute_at pool left missing bytes ≡ attribute_steps pool left missing bytes
unfolding attribute_at
attribute_alike pool left missing bytes = refl

attribute_text_read : (pool : List PoolEntry) (left : ℕ) → Reads (attribute_steps pool left) (AttributeText pool) (NumberRoom 2 (name_fits pool left)) (λ _ m. Fit m left)
attribute_text_read pool left =
    then (λ name missing bytes. sized_at (names_frames pool name) left name missing bytes) (shorts (name_fits pool left)) (λ name.
    resized (λ n. (name < 2 ^ 16) × NumberRoom 4 (length_fits (least_content pool name) left) n) (Passes 2 (name_fits pool left) name)
    (λ n p. (omega (arith, p.0), some_length (least_content pool name) left n (least_few pool name) (named_is pool left n name p.1)))
    (λ n p. (omega (arith, p.0), is_named pool left n name (length_room (least_content pool name) left n p.1)))
    (given (name < 2 ^ 16) (λ lt. sized_read (names_frames pool name) left name)))

content_to : (pool : List PoolEntry) (name len : ℕ) (b : Bool) → names_frames pool name ≡ b → name < 2 ^ 16 → (a : RawAttribute) (text : List ℕ) → LengthFact b len → PartText b name len a text
    → IsAttribute pool a × (number_bytes name ++ (length_bytes len ++ text) ≡ attribute_bytes a)
content_to pool name len true e lt a text f s =
    subst (λ (x : RawAttribute). IsAttribute pool x × (number_bytes name ++ (length_bytes len ++ text) ≡ attribute_bytes x)) (sym s.1) (
      (lt, names_is pool name e, s.3, omega (arith, ap length s.4, s.2, f.0)),
      ap (λ (k : ℕ). number_bytes name ++ (length_bytes k ++ text)) (sym s.2 ∙ ap length s.4) ∙ ap (λ (z : List ℕ). number_bytes name ++ (length_bytes (length (table_bytes s.0)) ++ z)) s.4,
    )
content_to pool name len false e lt a text f s =
    subst (λ (x : RawAttribute). IsAttribute pool x × (number_bytes name ++ (length_bytes len ++ text) ≡ attribute_bytes x)) (sym s.0)
    ((lt, names_not pool name e, omega (arith, s.1, f.0), s.2), ap (λ (k : ℕ). number_bytes name ++ (length_bytes k ++ text)) (sym s.1))

attribute_to : (pool : List PoolEntry) (a : RawAttribute) (text : List ℕ) → AttributeText pool a text → Item (IsAttribute pool) attribute_bytes a text
attribute_to pool a text s =
    let t = s.second_is.1 in
    let c = content_to pool s.first t.first (names_frames pool s.first) refl s.second_is.0 a t.back t.second_is.0 t.second_is.1 in
    (c.0, rw (s.parts, t.parts, s.first_is.1, t.first_is.1) c.1)

sized_from : (pool : List PoolEntry) (name : ℕ) (b : Bool) → names_frames pool name ≡ b → (a : RawAttribute) (content : List ℕ) → length content < 2 ^ 32 → least_of b ≤ length content → PartText b name (length content) a content → name < 2 ^ 16 → AttributeText pool a (named_bytes name content)
sized_from pool name b e a content small least c lt = record {
  first = name;
  front = number_bytes name;
  back = length_bytes (length content) ++ content;
  parts = refl;
  first_is = (lt, refl);
  second_is = (
    lt,
    subst (λ (z : Bool). SizedText z name a (length_bytes (length content) ++ content)) (sym e) (record {
      first = length content;
      front = length_bytes (length content);
      back = content;
      parts = refl;
      first_is = (small, refl);
      second_is = ((small, least), c);
    }),
  );
}

attribute_from : (pool : List PoolEntry) (a : RawAttribute) (text : List ℕ) → Item (IsAttribute pool) attribute_bytes a text → AttributeText pool a text
attribute_from pool (attributes.Frames name fs) text s =
    subst (AttributeText pool (attributes.Frames name fs)) (sym s.1)
    (sized_from pool name true (is_names pool name s.0.1) (attributes.Frames name fs) (table_bytes fs) s.0.3 (least_table fs s.0.2) (fs, refl, refl, s.0.2, refl) s.0.0)
attribute_from pool (attributes.Kept a) text s =
    subst (AttributeText pool (attributes.Kept a)) (sym s.1)
    (sized_from pool a.name false (not_names pool a.name s.0.1) (attributes.Kept a) a.content s.0.2 (omega arith) (refl, refl, s.0.3) s.0.0)

pub attribute_read : (pool : List PoolEntry) (left : ℕ) → Reads (attribute_at pool left) (Item (IsAttribute pool) attribute_bytes) (λ n. Fit n (suc left)) (λ _ m. Fit m left)
attribute_read pool left =
    alike (attribute_steps pool left) (attribute_at pool left) (attribute_alike pool left)
    (renamed (AttributeText pool) (Item (IsAttribute pool) attribute_bytes) (attribute_to pool) (attribute_from pool)
    (resized (NumberRoom 2 (name_fits pool left)) (λ n. Fit n (suc left)) (some_name pool left) (name_fit pool left) (attribute_text_read pool left)))

pub attributes_read : (pool : List PoolEntry) (k : ℕ) → Reads (times (attribute_at pool) k) (Items (IsAttribute pool) attribute_bytes k) (λ n. Fit n k) (λ _ m. Fit m 0)
attributes_read pool k = items_read (IsAttribute pool) attribute_bytes (attribute_at pool) (λ j n. Fit n j) (attribute_read pool) k

-- ---- both tables

abbrev pub TablesText : List PoolEntry → List RawRange × List RawAttribute → List ℕ → Type 0
TablesText pool = Then Short (λ count both text. (count < 2 ^ 16) × Then (Items IsRange range_bytes count) (λ ranges. Then Short (λ number both text. (number < 2 ^ 16) × Seen (λ (all : List RawAttribute). (ranges, all)) (Items (IsAttribute pool) attribute_bytes number) both text)) both text)

abbrev number_behind : List PoolEntry → List RawRange → ℕ → ℕ → List ℕ → Result ((List RawRange × List RawAttribute) × List ℕ) ℕ
number_behind pool ranges number missing bytes = times (attribute_at pool) number missing bytes >>= λ all. Ok ((ranges, all.0), all.1)

abbrev ranges_behind : List PoolEntry → List RawRange → ℕ → List ℕ → Result ((List RawRange × List RawAttribute) × List ℕ) ℕ
ranges_behind pool ranges missing bytes = number_at 2 attributes_fit missing bytes >>= λ number. number_behind pool ranges number.0 missing number.1

abbrev count_behind : List PoolEntry → ℕ → ℕ → List ℕ → Result ((List RawRange × List RawAttribute) × List ℕ) ℕ
count_behind pool count missing bytes = times (λ left missing. range_at) count missing bytes >>= λ ranges. ranges_behind pool ranges.0 missing ranges.1

abbrev tables_steps : List PoolEntry → ℕ → List ℕ → Result ((List RawRange × List RawAttribute) × List ℕ) ℕ
tables_steps pool missing bytes = number_at 2 ranges_fit missing bytes >>= λ count. count_behind pool count.0 missing count.1

tables_alike : (pool : List PoolEntry) (missing : ℕ) (bytes : List ℕ) → tables_at pool missing bytes ≡ tables_steps pool missing bytes
unfolding tables_at
tables_alike pool missing bytes = refl

behind_ranges_read : (pool : List PoolEntry) (ranges : List RawRange) → Reads (ranges_behind pool ranges) (Then Short (λ number both text. (number < 2 ^ 16) × Seen (λ (all : List RawAttribute). (ranges, all)) (Items (IsAttribute pool) attribute_bytes number) both text)) (RangesRoom Table 0) (λ _ m. Fit m 0)
behind_ranges_read pool ranges =
    resized (NumberRoom 2 attributes_fit) (RangesRoom Table 0) (λ n p. table_counts n (subst Table (omega (arith, p.sum)) p.rest)) (λ n p. record { more = n; sum = omega arith; rest = counts_table n p })
    (then (λ number missing bytes. number_behind pool ranges number missing bytes) (shorts attributes_fit) (λ number.
    resized (λ n. (number < 2 ^ 16) × Fit n number) (Passes 2 attributes_fit number) (λ n p. (omega (arith, p.0), fit_is n number p.1)) (λ n p. (omega (arith, p.0), is_fit n number p.1))
    (given (number < 2 ^ 16) (λ lt. seen (λ m. Fit m 0) (λ (all : List RawAttribute). (ranges, all)) (attributes_read pool number)))))

behind_count_read : (pool : List PoolEntry) (count : ℕ) → Reads (count_behind pool count) (Then (Items IsRange range_bytes count) (λ ranges. Then Short (λ number both text. (number < 2 ^ 16) × Seen (λ (all : List RawAttribute). (ranges, all)) (Items (IsAttribute pool) attribute_bytes number) both text))) (RangesRoom Table count) (λ _ m. Fit m 0)
behind_count_read pool count = then (λ ranges missing bytes. ranges_behind pool ranges missing bytes) (ranges_read Table count) (λ ranges. behind_ranges_read pool ranges)

pub tables_read : (pool : List PoolEntry) → Reads (tables_at pool) (TablesText pool) Tables (λ _ m. Fit m 0)
tables_read pool =
    alike (tables_steps pool) (tables_at pool) (tables_alike pool)
    (resized (NumberRoom 2 ranges_fit) Tables tables_ranged ranged_tables
    (then (λ count missing bytes. count_behind pool count missing bytes) (shorts ranges_fit) (λ count.
    resized (λ n. (count < 2 ^ 16) × RangesRoom Table count n) (Passes 2 ranges_fit count)
    (λ n p. let r = ranged_is n count p.1 in (omega (arith, p.0), record { more = r.more; sum = r.sum; rest = r.table }))
    (λ n p. (omega (arith, p.0), is_ranged n count (record { more = p.1.more; sum = p.1.sum; table = p.1.rest })))
    (given (count < 2 ^ 16) (λ lt. behind_count_read pool count)))))

-- ---- the content

abbrev Both : Type 0
Both = List RawRange × List RawAttribute

abbrev body_of : ℕ → ℕ → ℕ → Code → Both → RawBody
body_of stack locals len code tables = record { max_stack = stack; max_locals = locals; len = len; code = record { raws = code.0; offsets = code.1 }; ranges = tables.0; attributes = tables.1 }

abbrev pub ContentText : List PoolEntry → RawBody → List ℕ → Type 0
ContentText pool = Then Short (λ stack. Then Short (λ locals. Then LengthText (λ len raw text. (len < 2 ^ 32) × Then (CodeText len) (λ code. Seen (body_of stack locals len code) (TablesText pool)) raw text)))

abbrev code_behind : List PoolEntry → ℕ → ℕ → ℕ → ℕ → List ℕ → Result (RawBody × List ℕ) ℕ
code_behind pool stack locals len missing bytes = code_at len missing bytes >>= λ code. tables_at pool missing code.1 >>= λ tables. Ok (body_of stack locals len code.0 tables.0, tables.1)

abbrev locals_behind : List PoolEntry → ℕ → ℕ → ℕ → List ℕ → Result (RawBody × List ℕ) ℕ
locals_behind pool stack locals missing bytes = number_at 4 code_fits missing bytes >>= λ len. code_behind pool stack locals len.0 missing len.1

abbrev stack_behind : List PoolEntry → ℕ → ℕ → List ℕ → Result (RawBody × List ℕ) ℕ
stack_behind pool stack missing bytes = fixed 2 number bytes >>= λ locals. locals_behind pool stack locals.0 missing locals.1

abbrev content_steps : List PoolEntry → ℕ → List ℕ → Result (RawBody × List ℕ) ℕ
content_steps pool missing bytes = fixed 2 number bytes >>= λ stack. stack_behind pool stack.0 missing stack.1

content_alike : (pool : List PoolEntry) (missing : ℕ) (bytes : List ℕ) → content_at pool missing bytes ≡ content_steps pool missing bytes
unfolding content_at
content_alike pool missing bytes = refl

code_behind_read : (pool : List PoolEntry) (stack locals len : ℕ) → Reads (code_behind pool stack locals len) (Then (CodeText len) (λ code. Seen (body_of stack locals len code) (TablesText pool))) (Span len Tables) (λ _ m. Fit m 0)
code_behind_read pool stack locals len =
    then (λ code missing bytes. tables_at pool missing bytes >>= λ tables. Ok (body_of stack locals len code tables.0, tables.1)) (code_read len Tables) (λ code. seen (λ m. Fit m 0) (body_of stack locals len code) (tables_read pool))

locals_behind_read : (pool : List PoolEntry) (stack locals : ℕ) → Reads (locals_behind pool stack locals) (Then LengthText (λ len raw text. (len < 2 ^ 32) × Then (CodeText len) (λ code. Seen (body_of stack locals len code) (TablesText pool)) raw text)) (NumberRoom 4 code_fits) (λ _ m. Fit m 0)
locals_behind_read pool stack locals =
    then (λ len missing bytes. code_behind pool stack locals len missing bytes) (longs code_fits) (λ len.
    resized (λ n. (len < 2 ^ 32) × Span len Tables n) (Passes 4 code_fits len)
    (λ n p. let c = coded_is n len p.1 in (omega (arith, p.0), record { more = c.more; sum = c.sum; rest = c.tables }))
    (λ n p. (omega (arith, p.0), is_coded n len (record { more = p.1.more; sum = p.1.sum; tables = p.1.rest })))
    (given (len < 2 ^ 32) (λ lt. code_behind_read pool stack locals len)))

abbrev pub ContentRoom : ℕ → Type 0
ContentRoom = Room2 (Room2 (NumberRoom 4 code_fits))

pub content_text_read : (pool : List PoolEntry) → Reads (content_at pool) (ContentText pool) ContentRoom (λ _ m. Fit m 0)
content_text_read pool =
    alike (content_steps pool) (content_at pool) (content_alike pool)
    (then (λ stack missing bytes. stack_behind pool stack missing bytes) (short (Room2 (NumberRoom 4 code_fits))) (λ stack.
    then (λ locals missing bytes. locals_behind pool stack locals missing bytes) (short (NumberRoom 4 code_fits)) (λ locals. locals_behind_read pool stack locals)))
