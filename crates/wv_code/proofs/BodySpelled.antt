-- The bytes of a written body are a content in which each item meets what it must, and mean the body.
use Rattle.std.proofs.Common.{◌≡◌, ℕ, ◌+◌, ◌^◌, ◌<◌, ◌≤◌, List, ◌++◌, length, get_or, refl, sym, ap, subst, ◌∙◌, append_assoc, arith}
use Rattle.std.specs.List.{flat_map, AllByRecursion}
use Rattle.std.proofs.lemmas.List.{length-append}
use Rattle.std.proofs.lemmas.List.Concat.{flat_map-append}
use Rattle.std.proofs.lemmas.Option.{slice_get-get_or, slice_get_within}
use Rattle.wv_base.specs.declared.class_file.PoolEntry.{PoolEntry}
use Rattle.wv_base.specs.declared.class_file.Attribute.{Attribute}
use Rattle.wv_base.specs.declared.class_file.Body.{Body}
use Rattle.wv_base.specs.declared.frame.Frame.{Frame}
use Rattle.wv_base.specs.declared.insn.Insn.{Insn}
use Rattle.wv_insn.specs.declared.raw.Raw.{Raw}
use Rattle.wv_pool.specs.Adding.{Keeps}
use Rattle.wv_pool.specs.Entries.{number_bytes}
use Rattle.wv_code.specs.declared.raw_body.RawRange.{RawRange}
use Rattle.wv_code.specs.declared.raw_body.RawAttribute.{RawAttribute}
use Rattle.wv_code.specs.declared.raw_body.RawBody.{RawBody}
use Rattle.wv_code.specs.Laying.{Stand}
use Rattle.wv_code.specs.Code.{Follow}
use Rattle.wv_code.specs.Writing.{WritesCode}
use Rattle.wv_code.specs.Content.{length_bytes, range_bytes, attribute_bytes, IsRange, IsAttribute, content_bytes, IsContent}
use Rattle.wv_code.specs.Breaks.{Breaks, len as len_breaks, insn as insn_breaks, range as range_breaks, twice, frame as frame_breaks}
use Rattle.wv_code.specs.Body.{AreRangesOf, IsBodyOf}
use Rattle.wv_code.specs.FormedBody.{IsFormedBody}
use Rattle.wv_code.specs.WritingBody.{HasBytes, written_bytes, written_body, WritesTables, WritesBody}
use Rattle.wv_code.proofs.Stands.{as_many}
use Rattle.wv_code.proofs.OffsetFrames.{all_append, before_end}
use Rattle.wv_code.proofs.RawRanges.{ranges_sound, as_many_ranges}
use Rattle.wv_code.proofs.SoundInsns.{shaped_others, insns_sound, new_raw}
use Rattle.wv_code.proofs.SoundFrames.{frames_sound}
use Rattle.wv_code.proofs.BodyWritten.{kepts, kept_attributes, kept_length, kept_bytes, kept_frames, kept_all, kept_get, Tables, tables_of}

-- what is known of a body that was written
pub record Parts (older pool : List PoolEntry) (first : Frame) (body : Body) (len : ℕ) (offsets code : List ℕ) (ranges : List RawRange) (tables : List Attribute) : Type 0 where
  pub formed : IsFormedBody older body
  pub kept : Keeps older pool
  pub few : length pool + 1 < 2 ^ 16
  pub stand : Stand pool 0 body.insns offsets len
  pub small : len ≤ 65535
  pub written : WritesCode pool body.insns offsets code
  pub whole : length code ≡ len
  pub ranges_of : AreRangesOf pool offsets len ranges body.ranges
  pub fit : AllByRecursion IsRange ranges
  pub table : WritesTables pool offsets body.frames first tables
  pub bytes : AllByRecursion HasBytes body.kept
  pub stack : body.max_stack < 2 ^ 16
  pub locals : body.max_locals < 2 ^ 16

-- the content
abbrev pub raw_body : Body → ℕ → List Raw → List ℕ → List RawRange → List RawAttribute → RawBody
raw_body body len rs offsets ranges all = record { max_stack = body.max_stack; max_locals = body.max_locals; len = len; code = record { raws = rs; offsets = offsets }; ranges = ranges; attributes = all }

-- ---- its bytes

regroup : (a b c d e f g h : List ℕ) → (a ++ (b ++ (c ++ d))) ++ ((e ++ f) ++ (g ++ h)) ≡ a ++ (b ++ (c ++ (d ++ (e ++ (f ++ (g ++ h))))))
regroup a b c d e f g h = simp append_assoc

attributes_many : (kept tables : List Attribute) (raw : List RawAttribute) → length raw ≡ length tables → length (kept ++ tables) ≡ length (kepts kept ++ raw)
attributes_many kept tables raw many = omega (arith, length-append kept tables, length-append (kepts kept) raw, kept_length kept)

attributes_bytes : (kept tables : List Attribute) (raw : List RawAttribute) → flat_map attribute_bytes raw ≡ flat_map written_bytes tables → flat_map written_bytes (kept ++ tables) ≡ flat_map attribute_bytes (kepts kept ++ raw)
attributes_bytes kept tables raw same =
    let left = flat_map-append written_bytes kept tables in
    let right = flat_map-append attribute_bytes (kepts kept) raw in
    left ∙ ap (λ (t : List ℕ). t ++ flat_map written_bytes tables) (sym (kept_bytes kept)) ∙ ap (λ (t : List ℕ). flat_map attribute_bytes (kepts kept) ++ t) (sym same) ∙ sym right

spelled_is : (body : Body) (len : ℕ) (code : List ℕ) (rs : List Raw) (offsets : List ℕ) (ranges : List RawRange) (tables : List Attribute) (raw : List RawAttribute) → length code ≡ len → length raw ≡ length tables → flat_map attribute_bytes raw ≡ flat_map written_bytes tables
    → written_body body code ranges (body.kept ++ tables) ≡ content_bytes (raw_body body len rs offsets ranges (kepts body.kept ++ raw)) code
spelled_is body len code rs offsets ranges tables raw whole many same =
    regroup (number_bytes body.max_stack) (number_bytes body.max_locals) (length_bytes (length code)) code (number_bytes (length ranges)) (flat_map range_bytes ranges) (number_bytes (length (body.kept ++ tables))) (flat_map written_bytes (body.kept ++ tables))
    ∙ ap (λ (n : ℕ). number_bytes body.max_stack ++ (number_bytes body.max_locals ++ (length_bytes n ++ (code ++ (number_bytes (length ranges) ++ (flat_map range_bytes ranges ++ (number_bytes (length (body.kept ++ tables)) ++ flat_map written_bytes (body.kept ++ tables)))))))) whole
    ∙ ap (λ (n : ℕ). number_bytes body.max_stack ++ (number_bytes body.max_locals ++ (length_bytes len ++ (code ++ (number_bytes (length ranges) ++ (flat_map range_bytes ranges ++ (number_bytes n ++ flat_map written_bytes (body.kept ++ tables)))))))) (attributes_many body.kept tables raw many)
    ∙ ap (λ (t : List ℕ). number_bytes body.max_stack ++ (number_bytes body.max_locals ++ (length_bytes len ++ (code ++ (number_bytes (length ranges) ++ (flat_map range_bytes ranges ++ (number_bytes (length (kepts body.kept ++ raw)) ++ t))))))) (attributes_bytes body.kept tables raw same)

content_of : (older pool : List PoolEntry) (first : Frame) (body : Body) (len : ℕ) (offsets code : List ℕ) (ranges : List RawRange) (tables : List Attribute) (bytes : List ℕ) → (p : Parts older pool first body len offsets code ranges tables) → (t : Tables pool offsets body.frames first tables)
    → length tables ≡ length t.raw → length body.kept + length tables < 2 ^ 16 → bytes ≡ written_body body code ranges (body.kept ++ tables) → IsContent pool (raw_body body len p.written.spelled.raws offsets ranges (kepts body.kept ++ t.raw)) bytes
content_of older pool first body len offsets code ranges tables bytes p t many few put = record {
  code = code;
  follow = subst (λ (n : ℕ). Follow code 0 p.written.spelled.raws offsets n) p.whole p.written.spelled.follow;
  whole = p.whole;
  small = (let small : len ≤ 65535 = p.small in omega arith);
  stack = p.stack;
  locals = p.locals;
  few_ranges = omega (arith, as_many_ranges pool offsets len ranges body.ranges p.ranges_of, p.formed.ranges.0);
  ranges = p.fit;
  few_attributes = omega (arith, length-append (kepts body.kept) t.raw, kept_length body.kept);
  attributes = all_append (IsAttribute pool) (kepts body.kept) t.raw (kept_attributes older pool body.kept p.kept p.few p.formed.kept.1 p.bytes) t.all;
  spelled = put ∙ spelled_is body len code p.written.spelled.raws offsets ranges tables t.raw p.whole t.many t.bytes;
}

-- ---- each item meets what it must

len_some : (pool : List PoolEntry) (insns : List Insn) (offsets : List ℕ) (len : ℕ) → Stand pool 0 insns offsets len → 1 ≤ length insns → 1 ≤ len
len_some pool insns offsets len stand some =
    let many : length offsets ≡ length insns = as_many pool 0 insns offsets len stand in
    let lt : get_or offsets 0 0 < len = before_end pool 0 insns offsets len 0 (get_or offsets 0 0) stand (slice_get-get_or offsets 0 0 (omega arith)) in
    omega arith

body_sound : (older pool : List PoolEntry) (first : Frame) (body : Body) (len : ℕ) (offsets code : List ℕ) (ranges : List RawRange) (tables : List Attribute) → (p : Parts older pool first body len offsets code ranges tables) → (t : Tables pool offsets body.frames first tables)
    → (at : ℕ) → Breaks pool first (raw_body body len p.written.spelled.raws offsets ranges (kepts body.kept ++ t.raw)) at → ⊥
body_sound older pool first body len offsets code ranges tables p t at (len_breaks never) = never (len_some pool body.insns offsets len p.stand p.formed.some, p.small)
body_sound older pool first body len offsets code ranges tables p t at (insn_breaks k r start place e f b) =
    insns_sound pool code p.written.spelled.raws offsets p.written.others (length body.insns) (length code) k r start place p.written.spelled.follow p.written.spelled.mean
    (shaped_others pool (length body.insns) body.insns p.written.others p.written.widened_are p.formed.insns) e f b
body_sound older pool first body len offsets code ranges tables p t at (range_breaks k r place e b) = ranges_sound pool body.insns offsets len (length body.insns) ranges body.ranges k r place p.stand p.ranges_of p.formed.ranges.1 e b
body_sound older pool first body len offsets code ranges tables p t at (twice j k name other fs gs lt e f) =
    let x = kept_get body.kept t.raw j name fs e in
    let y = kept_get body.kept t.raw k other gs f in
    let last : y.0 < length t.raw = slice_get_within t.raw y.0 _ y.2 in
    omega (arith, x.1, y.1, t.one)
body_sound older pool first body len offsets code ranges tables p t at (frame_breaks k name place fs e b) =
    let x = kept_get body.kept t.raw k name fs e in
    frames_sound pool first (record { raws = p.written.spelled.raws; offsets = offsets }) body.insns fs t.spelled body.frames place
    (λ index start made there. let found = new_raw pool body.insns p.written.others p.written.spelled.raws offsets index made.0 p.written.widened_are p.written.spelled.mean made.1 in (index, found.0, there, found.1))
    (t.found x.0 name fs x.2) t.frames_of p.formed.frames.1 b

-- ---- the body

means_body : (older pool : List PoolEntry) (first : Frame) (body : Body) (len : ℕ) (offsets code : List ℕ) (ranges : List RawRange) (tables : List Attribute) → (p : Parts older pool first body len offsets code ranges tables) → (t : Tables pool offsets body.frames first tables)
    → IsBodyOf pool first (raw_body body len p.written.spelled.raws offsets ranges (kepts body.kept ++ t.raw)) (record body { insns = p.written.others })
means_body older pool first body len offsets code ranges tables p t = record {
  stack = refl;
  locals = refl;
  insns = p.written.spelled.mean;
  ranges = p.ranges_of;
  spelled = t.spelled;
  whole = rw (kept_frames body.kept t.raw) t.whole;
  frames = t.frames_of;
  kept = kept_all older pool body.kept t.raw p.kept p.formed.kept.1 t.nothing;
}

pub writes_body : (older pool : List PoolEntry) (first : Frame) (body : Body) (len : ℕ) (offsets code : List ℕ) (ranges : List RawRange) (tables : List Attribute) (bytes : List ℕ) → Parts older pool first body len offsets code ranges tables
    → length body.kept + length tables < 2 ^ 16 → bytes ≡ written_body body code ranges (body.kept ++ tables) → WritesBody pool first body bytes
writes_body older pool first body len offsets code ranges tables bytes p few put =
    let t = tables_of pool offsets body.frames first tables p.table in
    record {
      others = p.written.others;
      widened_are = p.written.widened_are;
      spelled = record {
        raw = raw_body body len p.written.spelled.raws offsets ranges (kepts body.kept ++ t.raw);
        content = content_of older pool first body len offsets code ranges tables bytes p t (sym t.many) few put;
        sound = body_sound older pool first body len offsets code ranges tables p t;
        means = means_body older pool first body len offsets code ranges tables p t;
      };
    }
