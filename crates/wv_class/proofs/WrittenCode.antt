-- The code, the value and the declared exceptions of a member, as they are read again.
use Rattle.std.proofs.Common.{◌≡◌, ℕ, zero, suc, ◌+◌, ◌^◌, ◌<◌, ◌≤◌, List, [], ◌∷◌, ◌++◌, length, Option, Some, None, codes, refl, sym, ap, subst, ◌∙◌, arith}
use Rattle.std.specs.Prelude.{slice_get}
use Rattle.std.specs.List.{AllByRecursion, flat_map}
use Rattle.std.proofs.lemmas.List.{append-nil}
use Rattle.wv_base.specs.declared.class_file.PoolEntry.{PoolEntry}
use Rattle.wv_base.specs.declared.class_file.Attribute.{Attribute}
use Rattle.wv_base.specs.declared.class_file.Body.{Body}
use Rattle.wv_base.specs.declared.class_file.Member.{Member}
use Rattle.wv_base.specs.declared.constant.Const.{Const}
use Rattle.wv_base.specs.declared.frame.Frame.{Frame}
use Rattle.wv_base.specs.declared.note.Note.{Note}
use Rattle.wv_base.specs.Descriptor.{IsMethodDescriptor}
use Rattle.wv_pool.specs.Entries.{number_bytes}
use Rattle.wv_pool.specs.References.{text_of}
use Rattle.wv_pool.specs.Constants.{class_name}
use Rattle.wv_code.specs.declared.raw_body.RawBody.{RawBody}
use Rattle.wv_code.specs.Breaks.{NamesClass, Breaks, FirstBreak}
use Rattle.wv_code.specs.Content.{IsContent}
use Rattle.wv_code.specs.WritingBody.{WritesBody}
use Rattle.wv_code.proofs.ContentAnswers.{content_again, one_content}
use Rattle.wv_class.specs.declared.raw_class.Place.{Place}
use Rattle.wv_class.specs.declared.raw_class.Place.TheVariants as places
use Rattle.wv_class.specs.declared.raw_class.Kind.TheVariants as kinds
use Rattle.wv_class.specs.declared.raw_class.Content.TheVariants as contents
use Rattle.wv_class.specs.declared.raw_class.RawMember.{RawMember}
use Rattle.wv_class.specs.Appending.{WritesEach, WritesNamed, WritesClassName, WritesClasses, WritesConstant, WritesValue, WritesCode, WritesExceptions}
use Rattle.wv_class.specs.Breaks.{InNumbers, FitsField, StartsWith}
use Rattle.wv_class.specs.Flags.{is_static}
use Rattle.wv_class.specs.Formed.{IsFormedValue}
use Rattle.wv_class.specs.Kinds.{text_kind, kind_at}
use Rattle.wv_class.specs.Layout.{AreNumbers, numbers_bytes}
use Rattle.wv_class.specs.Limits.{one_if, one_if_any, member_attributes}
use Rattle.wv_class.specs.Meaning.{AreClasses, IsBodyIn, IsValueIn}
use Rattle.wv_class.specs.Same.{IsSameBodyIn}
use Rattle.wv_class.specs.StartFrame.{start_frame}
use Rattle.wv_class.specs.Written.{IsHeadOf, AreAttributes}
use Rattle.wv_class.proofs.WrittenParts.{AreParts, codes_counted, one_before, parts_sound}

-- ---- Numbers of classes

-- the numbers of these classes, one behind the other
pub record ClassNumbers (pool : List PoolEntry) (names : List (List ℕ)) (bytes : List ℕ) : Type 0 where
  pub numbers : List ℕ
  pub small : AllByRecursion (λ n. n < 2 ^ 16) numbers
  pub classes : AreClasses pool numbers names
  pub many : length numbers ≡ length names
  pub spelled : bytes ≡ flat_map number_bytes numbers

pub class_numbers : (pool : List PoolEntry) (names : List (List ℕ)) (bytes : List ℕ) → WritesEach (WritesClassName pool) names bytes → ClassNumbers pool names bytes
class_numbers pool [] bytes w = record { numbers = []; small = tt; classes = tt; many = refl; spelled = w }
class_numbers pool (name ∷ names) bytes (front, back, (n, small, is, front_is), later, parts) =
    let others = class_numbers pool names back later in
    record {
      numbers = n ∷ others.numbers;
      small = (small, others.small);
      classes = (is, others.classes);
      many = ap suc others.many;
      spelled = parts ∙ ap (λ (t : List ℕ). t ++ back) front_is ∙ ap (λ (t : List ℕ). number_bytes n ++ t) others.spelled;
    }

-- with their count
pub numbers_spelled : (pool : List PoolEntry) (names : List (List ℕ)) (bytes : List ℕ) → WritesClasses pool names bytes → (numbers : List ℕ) × AreNumbers numbers × AreClasses pool numbers names × (bytes ≡ numbers_bytes numbers)
numbers_spelled pool names bytes w =
    let each = class_numbers pool names w.numbers w.each in (
      each.numbers,
      (subst (λ (n : ℕ). n < 2 ^ 16) (sym each.many) w.few, each.small),
      each.classes,
      w.spelled ∙ ap (λ (t : List ℕ). number_bytes (length names) ++ t) each.spelled ∙ ap (λ (n : ℕ). number_bytes n ++ flat_map number_bytes each.numbers) (sym each.many),
    )

names_class : (pool : List PoolEntry) (numbers : List ℕ) (names : List (List ℕ)) (k n : ℕ) → AreClasses pool numbers names → slice_get numbers k ≡ Some n → NamesClass pool n
names_class pool [] names k n h is = absurd cc
names_class pool (x ∷ numbers) [] k n h is = absurd h
names_class pool (x ∷ numbers) (name ∷ names) zero n h is = let same : x ≡ n = cc in subst (NamesClass pool) same (name, h.0)
names_class pool (x ∷ numbers) (name ∷ names) (suc k) n h is = names_class pool numbers names k n h.1 is

never_numbers : (pool : List PoolEntry) (numbers : List ℕ) (names : List (List ℕ)) (base at : ℕ) → AreClasses pool numbers names → InNumbers base numbers (NamesClass pool) at → ⊥
never_numbers pool numbers names base at h (k, n, is, (m, (e, never), f)) = never (names_class pool numbers names k n h is)

-- ---- Names at their places

value_kind : (pool : List PoolEntry) (number : ℕ) → text_of pool number ≡ Some (codes "ConstantValue") → kind_at pool places.Field number ≡ kinds.ConstantValue
unfolding kind_at
value_kind pool number named = ap (text_kind places.Field) named

code_kind : (pool : List PoolEntry) (number : ℕ) → text_of pool number ≡ Some (codes "Code") → kind_at pool places.Method number ≡ kinds.Code
unfolding kind_at
code_kind pool number named = ap (text_kind places.Method) named

exceptions_kind : (pool : List PoolEntry) (number : ℕ) → text_of pool number ≡ Some (codes "Exceptions") → kind_at pool places.Method number ≡ kinds.Exceptions
unfolding kind_at
exceptions_kind pool number named = ap (text_kind places.Method) named

-- ---- One content, one body

one_raw : (pool : List PoolEntry) (bytes : List ℕ) (a b : RawBody) → IsContent pool a bytes → IsContent pool b bytes → a ≡ b
one_raw pool bytes a b h k = one_content pool 0 bytes (a, []) b (content_again pool a bytes h) refl k

-- the code of the member, with ldc_w in place of some ldc
pub record HasCode (pool : List PoolEntry) (class : ℕ) (m : Member) (body : Option Body) (raws : List RawBody) : Type 0 where
  pub other : Option Body
  pub many : length raws ≡ one_if body
  pub same : IsSameBodyIn pool body other
  pub means : (raw : RawMember) → IsHeadOf pool m raw → IsBodyIn pool class raw raws other

-- ---- Before the others

module _ (pool : List PoolEntry) (class : ℕ) (m : Member) where
  abbrev pub Of : Place → List RawBody → List ℕ → List ℕ → List Note → List Attribute → ℕ → List ℕ → Type 0
  Of place codes values exceptions notes kept count bytes = AreParts pool place class (IsHeadOf pool m) (record { codes = codes; values = values; exceptions = exceptions; notes = notes; kept = kept }) count bytes

  -- the exceptions that a method declares
  exceptions_named : (names : List (List ℕ)) (notes : List Note) (kept : List Attribute) (count : ℕ) (front bytes : List ℕ) → WritesNamed pool (codes "Exceptions") (WritesClasses pool names) front → Of places.Method [] [] [] notes kept count bytes
      → (exceptions : List ℕ) × AreClasses pool exceptions names × Of places.Method [] [] exceptions notes kept (suc count) (front ++ bytes)
  exceptions_named names notes kept count front bytes w others =
      let read = numbers_spelled pool names w.content w.written in (
        read.0,
        read.2,
        subst (λ (t : List ℕ). Of places.Method [] [] t notes kept (suc count) (front ++ bytes)) (append-nil read.0)
            (one_before pool places.Method class (IsHeadOf pool m) (record { name = w.number; content = contents.Exceptions read.0 }) front [] (record { codes = []; values = []; exceptions = []; notes = notes; kept = kept }) count bytes
            (λ near. record {
              content = w.content;
              short = w.short;
              name = w.small;
              known = exceptions_kind pool w.number w.named;
              content_is = (read.1, read.3);
              spelled = w.spelled;
            })
            (λ raw at head. never_numbers pool read.0 names 2 at read.2)
            refl
            others),
      )

  pub exceptions_before : (names : List (List ℕ)) (notes : List Note) (kept : List Attribute) (count : ℕ) (front bytes : List ℕ) → WritesExceptions pool names front → Of places.Method [] [] [] notes kept count bytes
      → (exceptions : List ℕ) × AreClasses pool exceptions names × Of places.Method [] [] exceptions notes kept (count + one_if_any names) (front ++ bytes)
  exceptions_before [] notes kept count front bytes w others =
      ([], tt, subst (λ (n : ℕ). Of places.Method [] [] [] notes kept n (front ++ bytes)) (omega arith) (subst (λ (t : List ℕ). Of places.Method [] [] [] notes kept count (t ++ bytes)) (sym w) others))
  exceptions_before (name ∷ names) notes kept count front bytes w others =
      let read = exceptions_named (name ∷ names) notes kept count front bytes w others in
      (read.0, read.1, subst (λ (n : ℕ). Of places.Method [] [] read.0 notes kept n (front ++ bytes)) (omega arith) read.2)

  -- the code of a method
  module _ (owner : List ℕ) (body : Body) (front : List ℕ) (owner_is : class_name pool class ≡ Some owner) (described : IsMethodDescriptor m.descriptor)
      (w : WritesNamed pool (codes "Code") (λ content. (first : Frame) → WritesBody pool first body content) front) where
    start : Frame
    start = start_frame (is_static m.flags.0) owner m.name described.0

    raw_code : RawBody
    raw_code = (w.written start).spelled.raw

    starts : (raw : RawMember) → IsHeadOf pool m raw → StartsWith pool class raw start
    unfolding start
    starts raw head = record {
      owner = owner;
      owner_is = owner_is;
      name = m.name;
      name_is = head.name;
      descriptor = m.descriptor;
      descriptor_is = head.descriptor;
      type = described.0;
      type_is = (described.1, described.2);
      frame_is = ap (λ (flags : ℕ). start_frame (is_static flags) owner m.name described.0) (sym head.flags);
    }

    never_code : (at : ℕ) (frame : Frame) → FirstBreak pool frame raw_code at → ⊥
    unfolding raw_code
    never_code at frame f =
        let again = w.written frame in
        let one = one_raw pool w.content (w.written start).spelled.raw again.spelled.raw (w.written start).spelled.content again.spelled.content in
        again.spelled.sound at (subst (λ (t : RawBody). Breaks pool frame t at) one f.breaks)

    code_spelled : IsContent pool raw_code w.content
    unfolding raw_code
    code_spelled = (w.written start).spelled.content

    code_means : HasCode pool class m (Some body) (raw_code ∷ [])
    unfolding raw_code
    code_means = record {
      other = Some (record body { insns = (w.written start).others });
      many = refl;
      same = record { widened = (w.written start).widened_are; others = refl };
      means = λ raw head. (start, starts raw head, (w.written start).spelled.means);
    }

    code_named : (values exceptions : List ℕ) (notes : List Note) (kept : List Attribute) (count : ℕ) (bytes : List ℕ) → Of places.Method [] values exceptions notes kept count bytes → Of places.Method (raw_code ∷ []) values exceptions notes kept (suc count) (front ++ bytes)
    code_named values exceptions notes kept count bytes others =
        one_before pool places.Method class (IsHeadOf pool m) (record { name = w.number; content = contents.Code raw_code }) front [] (record { codes = []; values = values; exceptions = exceptions; notes = notes; kept = kept }) count bytes
        (λ near. record {
          content = w.content;
          short = w.short;
          name = w.small;
          known = code_kind pool w.number w.named;
          content_is = code_spelled;
          spelled = w.spelled;
        })
        (λ raw at head h. never_code at h.0 h.2)
        refl
        others

  pub code_before : (owner : List ℕ) (body : Option Body) (values exceptions : List ℕ) (notes : List Note) (kept : List Attribute) (count : ℕ) (front bytes : List ℕ) → class_name pool class ≡ Some owner → IsMethodDescriptor m.descriptor
      → WritesCode pool body front → Of places.Method [] values exceptions notes kept count bytes
      → (raws : List RawBody) × HasCode pool class m body raws × Of places.Method raws values exceptions notes kept (count + one_if body) (front ++ bytes)
  code_before owner None values exceptions notes kept count front bytes owner_is described w others = (
    [],
    record { other = None; many = refl; same = tt; means = λ raw head. tt },
    subst (λ (n : ℕ). Of places.Method [] values exceptions notes kept n (front ++ bytes)) (omega arith) (subst (λ (t : List ℕ). Of places.Method [] values exceptions notes kept count (t ++ bytes)) (sym w) others),
  )
  code_before owner (Some body) values exceptions notes kept count front bytes owner_is described w others = (
    raw_code owner body front owner_is described w ∷ [],
    code_means owner body front owner_is described w,
    subst (λ (n : ℕ). Of places.Method (raw_code owner body front owner_is described w ∷ []) values exceptions notes kept n (front ++ bytes)) (omega arith)
        (code_named owner body front owner_is described w values exceptions notes kept count bytes others),
  )

  -- the value of a field
  value_named : (value : Const) (raws : List RawBody) (exceptions : List ℕ) (notes : List Note) (kept : List Attribute) (count : ℕ) (front bytes : List ℕ) → FitsField m.descriptor value
      → (w : WritesNamed pool (codes "ConstantValue") (WritesConstant pool value) front) → Of places.Field raws [] exceptions notes kept count bytes → Of places.Field raws (w.written.0 ∷ []) exceptions notes kept (suc count) (front ++ bytes)
  value_named value raws exceptions notes kept count front bytes fits w others =
      one_before pool places.Field class (IsHeadOf pool m) (record { name = w.number; content = contents.ConstantValue w.written.0 }) front [] (record { codes = raws; values = []; exceptions = exceptions; notes = notes; kept = kept }) count bytes
      (λ near. record {
        content = w.content;
        short = w.short;
        name = w.small;
        known = value_kind pool w.number w.named;
        content_is = (w.written.1, w.written.3);
        spelled = w.spelled;
      })
      (λ raw at head h. h.1 (record { descriptor = m.descriptor; descriptor_is = head.descriptor; value = value; value_is = w.written.2; fits = fits }))
      refl
      others

  pub value_before : (value : Option Const) (raws : List RawBody) (exceptions : List ℕ) (notes : List Note) (kept : List Attribute) (count : ℕ) (front bytes : List ℕ) → IsFormedValue m.descriptor value → WritesValue pool value front
      → Of places.Field raws [] exceptions notes kept count bytes
      → (values : List ℕ) × IsValueIn pool values value × (length values ≤ 1) × Of places.Field raws values exceptions notes kept (count + one_if value) (front ++ bytes)
  value_before None raws exceptions notes kept count front bytes formed w others = (
    [],
    tt,
    omega arith,
    subst (λ (n : ℕ). Of places.Field raws [] exceptions notes kept n (front ++ bytes)) (omega arith) (subst (λ (t : List ℕ). Of places.Field raws [] exceptions notes kept count (t ++ bytes)) (sym w) others),
  )
  value_before (Some value) raws exceptions notes kept count front bytes formed w others = (
    w.written.0 ∷ [],
    w.written.2,
    omega arith,
    subst (λ (n : ℕ). Of places.Field raws (w.written.0 ∷ []) exceptions notes kept n (front ++ bytes)) (omega arith) (value_named value raws exceptions notes kept count front bytes formed.0 w others),
  )

  -- ---- All of them

  pub all_again : (place : Place) (raws : List RawBody) (values exceptions : List ℕ) (count : ℕ) (bytes : List ℕ) → HasCode pool class m m.body raws → IsValueIn pool values m.value → length values ≤ 1 → AreClasses pool exceptions m.throws
      → count ≡ member_attributes m → Of place raws values exceptions m.notes m.kept count bytes → AreAttributes pool place class m bytes
  all_again place raws values exceptions count bytes code value one throws counted parts = record {
    all = parts.all;
    count = parts.counted ∙ counted;
    spelled = parts.spelled;
    sound = λ raw at head. parts_sound pool place class (IsHeadOf pool m) (record { codes = raws; values = values; exceptions = exceptions; notes = m.notes; kept = m.kept }) count bytes parts one raw at head;
    body = code.other;
    same = code.same;
    body_is = λ raw head. subst (λ (t : List RawBody). IsBodyIn pool class raw t code.other) (sym parts.codes) (code.means raw head);
    codes = codes_counted parts.all ∙ ap length parts.codes ∙ code.many;
    value = subst (λ (t : List ℕ). IsValueIn pool t m.value) (sym parts.values) value;
    throws = subst (λ (t : List ℕ). AreClasses pool t m.throws) (sym parts.exceptions) throws;
    notes = parts.notes;
    kept = parts.kept;
  }
