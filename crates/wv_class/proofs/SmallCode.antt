-- The code of few bytes has few instructions, and names few constants.
use Rattle.std.proofs.Common.{◌≡◌, ℕ, ◌+◌, ◌*◌, ◌≤◌, true, false, List, [], ◌∷◌, length, take, drop, Option, Some, None, ap, arith}
use Rattle.std.specs.Prelude.{codes}
use Rattle.std.specs.List.{flat_map}
use Rattle.std.proofs.lemmas.List.{length-take-le, length-drop}
use Rattle.wv_base.specs.declared.class_file.PoolEntry.{PoolEntry}
use Rattle.wv_base.specs.declared.class_file.ExceptionRange.{ExceptionRange}
use Rattle.wv_base.specs.declared.class_file.Body.{Body}
use Rattle.wv_base.specs.declared.constant.Const.TheVariants as constants
use Rattle.wv_base.specs.declared.form.Form.{Form}
use Rattle.wv_base.specs.declared.form.Form.TheVariants as form
use Rattle.wv_base.specs.declared.frame.Frame.{Frame}
use Rattle.wv_base.specs.declared.frame.FrameAt.{FrameAt}
use Rattle.wv_base.specs.declared.insn.Insn.{Insn}
use Rattle.wv_base.specs.declared.insn.Insn.TheVariants as insn
use Rattle.wv_base.specs.Instructions.{form_of}
use Rattle.wv_insn.specs.declared.raw.Raw.{Raw}
use Rattle.wv_insn.specs.declared.raw.Raw.TheVariants as raw
use Rattle.wv_insn.specs.Spelling.{unsigned, width_of, spelling}
use Rattle.wv_code.specs.declared.raw_body.RawRange.{RawRange}
use Rattle.wv_code.specs.declared.raw_body.RawBody.{RawBody}
use Rattle.wv_code.specs.Constants.{member_constant, constants_in, all_constants}
use Rattle.wv_code.specs.BodyConstants.{caught_class, range_constants, table_constants, other_constants, body_constants}
use Rattle.wv_code.specs.Meaning.{Means}
use Rattle.wv_code.specs.Code.{Follow, AllMean}
use Rattle.wv_code.specs.Content.{IsContent}
use Rattle.wv_code.specs.Body.{AreRangesOf, IsBodyOf}
use Rattle.wv_class.specs.Needs.{parts_of, code_constants}
use Rattle.wv_class.proofs.Lengths.{ranges_len, code_spelled}
use Rattle.wv_class.proofs.SmallCounts.{count-append, needs_few, parts_count, parts-append}

-- ---- Instructions

-- a number takes a byte
wide_enough : (o : Option Form) (n : ℕ) → 1 ≤ length (unsigned (width_of o) n)
wide_enough None n = omega arith
wide_enough (Some form.Byte) n = omega arith
wide_enough (Some form.Constant) n = omega arith
wide_enough (Some form.WideBranch) n = omega arith
wide_enough (Some _) n = omega arith

-- an instruction names one constant at most
insn_few : (i : Insn) → parts_count (constants_in i) ≤ 7
insn_few (insn.Load op value) = needs_few value
insn_few (insn.Reference op owner name descriptor interface) = needs_few (member_constant op (record { owner = owner; name = name; descriptor = descriptor }) interface)
insn_few (insn.Site bootstrap name descriptor) = omega arith
insn_few (insn.Class op class) = omega arith
insn_few (insn.MultiArray class dimensions) = omega arith
insn_few _ = omega arith

-- an instruction takes a byte, and two where it names a constant
insn_room : (pool : List PoolEntry) (offsets : List ℕ) (at : ℕ) (r : Raw) (i : Insn) (pad : List ℕ) → Means pool offsets at r i
    → (1 ≤ length (spelling pad r)) × (parts_count (constants_in i) ≤ 4 * length (spelling pad r))
insn_room pool offsets at (raw.Plain op) (insn.Plain o) pad m = (omega arith, omega arith)
insn_room pool offsets at (raw.Push op value) (insn.Push o v) pad m = (omega arith, omega arith)
insn_room pool offsets at (raw.Load op number) (insn.Load o value) pad m = (omega arith, omega (arith, insn_few (insn.Load o value), wide_enough (form_of op) number))
insn_room pool offsets at (raw.Local op slot true) (insn.Local o s w) pad m = (omega arith, omega arith)
insn_room pool offsets at (raw.Local op slot false) (insn.Local o s w) pad m = (omega arith, omega arith)
insn_room pool offsets at (raw.Inc slot by true) (insn.Inc s b w) pad m = (omega arith, omega arith)
insn_room pool offsets at (raw.Inc slot by false) (insn.Inc s b w) pad m = (omega arith, omega arith)
insn_room pool offsets at (raw.Branch op d) (insn.Branch o to) pad m = (omega arith, omega arith)
insn_room pool offsets at (raw.Table low high other ds) (insn.Table l to targets) pad m = (omega arith, omega arith)
insn_room pool offsets at (raw.Lookup other raws) (insn.Lookup to cases) pad m = (omega arith, omega arith)
insn_room pool offsets at (raw.Reference op number) (insn.Reference o owner name descriptor interface) pad m = (omega arith, omega (arith, insn_few (insn.Reference o owner name descriptor interface)))
insn_room pool offsets at (raw.Interface number words last) (insn.Reference o owner name descriptor interface) pad m = (omega arith, omega (arith, insn_few (insn.Reference o owner name descriptor interface)))
insn_room pool offsets at (raw.Dynamic number) (insn.Site bootstrap name descriptor) pad m = (omega arith, omega (arith, insn_few (insn.Site bootstrap name descriptor)))
insn_room pool offsets at (raw.Class op number) (insn.Class o class) pad m = (omega arith, omega (arith, insn_few (insn.Class o class)))
insn_room pool offsets at (raw.NewArray kind) (insn.NewArray k) pad m = (omega arith, omega arith)
insn_room pool offsets at (raw.MultiArray number dimensions) (insn.MultiArray class d) pad m = (omega arith, omega (arith, insn_few (insn.MultiArray class d)))
insn_room pool offsets at _ _ pad m = absurd m

insns_room : (pool : List PoolEntry) (code all : List ℕ) (at end : ℕ) (raws : List Raw) (ats : List ℕ) (insns : List Insn) → Follow code at raws ats end → AllMean pool all raws ats insns
    → (at + length insns ≤ end) × (parts_count (all_constants insns) + 4 * at ≤ 4 * end)
insns_room pool code all at end [] [] [] h m = (omega (arith, h), omega (arith, h))
insns_room pool code all at end [] [] (i ∷ insns) h m = absurd m
insns_room pool code all at end [] (o ∷ ats) insns h m = absurd h
insns_room pool code all at end (r ∷ raws) [] insns h m = absurd h
insns_room pool code all at end (r ∷ raws) (o ∷ ats) [] h m = absurd m
insns_room pool code all at end (r ∷ raws) (o ∷ ats) (i ∷ insns) h m =
    let len : ℕ = h.1.0 in
    let there : length (take len (drop at code)) ≡ len = length-take-le len (drop at code) (omega (arith, length-drop at code, h.1.1.within)) in
    let long : length (spelling h.1.1.spelled.pad r) ≡ len = omega (arith, ap length h.1.1.spelled.spelled, there) in
    let room = insn_room pool all o r i h.1.1.spelled.pad m.0 in
    let rest = insns_room pool code all (at + len) end raws ats insns h.1.2 m.1 in
    (omega (arith, room.0, long, rest.0), omega (arith, parts-append (constants_in i) (all_constants insns), room.1, long, rest.1))

-- ---- Exception tables

caught_few : (catch : Option (List ℕ)) → parts_count (caught_class catch) ≤ 7
caught_few None = omega arith
caught_few (Some name) = omega arith

ranges_room : (pool : List PoolEntry) (offsets : List ℕ) (len : ℕ) (raws : List RawRange) (rs : List ExceptionRange) → AreRangesOf pool offsets len raws rs → parts_count (flat_map range_constants rs) ≤ 32 * length raws
ranges_room pool offsets len [] [] h = omega arith
ranges_room pool offsets len [] (r ∷ rs) h = absurd h
ranges_room pool offsets len (raw ∷ raws) [] h = absurd h
ranges_room pool offsets len (raw ∷ raws) (r ∷ rs) h = omega (arith, parts-append (range_constants r) (flat_map range_constants rs), caught_few r.catch, ranges_room pool offsets len raws rs h.1)

-- ---- Bodies

pub body_room : (pool : List PoolEntry) (first : Frame) (raw : RawBody) (bytes : List ℕ) (body : Body) → IsContent pool raw bytes → IsBodyOf pool first raw body → body.frames ≡ []
    → (length body.insns ≤ length bytes) × (parts_count (code_constants (Some body)) ≤ 4 * length bytes)
body_room pool first raw bytes body content is none =
    let insns = insns_room pool content.code raw.code.offsets 0 raw.len raw.code.raws raw.code.offsets body.insns content.follow is.insns in
    let ranges = ranges_room pool raw.code.offsets raw.len raw.ranges body.ranges is.ranges in
    let frameless : parts_count (table_constants body.frames) ≡ 0 = ap (λ (frames : List FrameAt). parts_count (table_constants frames)) none in
    let long = code_spelled pool raw bytes content in
    let name = count-append (parts_of (body_constants body)) (constants.Utf8 (codes "Code") ∷ []) in
    let code = parts-append (all_constants body.insns) (other_constants body) in
    let others = parts-append (flat_map range_constants body.ranges) (table_constants body.frames) in
    (omega (arith, insns.0, long), omega (arith, name, code, others, frameless, insns.1, ranges, long, ranges_len raw.ranges))
