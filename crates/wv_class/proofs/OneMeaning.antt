-- What a class file spells means one class.
use Rattle.std.proofs.Common.{◌≡◌, ℕ, List, [], ◌∷◌, ◌++◌, Option, Some, None, refl, sym, ap, subst, ◌∙◌}
use Rattle.std.specs.List.{AllZip, AllByRecursion}
use Rattle.wv_base.specs.declared.access.AccessFlags.{AccessFlags}
use Rattle.wv_base.specs.declared.class_file.PoolEntry.{PoolEntry}
use Rattle.wv_base.specs.declared.class_file.Body.{Body}
use Rattle.wv_base.specs.declared.class_file.Member.{Member}
use Rattle.wv_base.specs.declared.class_file.ClassFile.{ClassFile}
use Rattle.wv_base.specs.declared.constant.Const.{Const}
use Rattle.wv_base.specs.declared.frame.Frame.{Frame}
use Rattle.wv_base.specs.declared.note.Note.{Note}
use Rattle.wv_pool.specs.References.{text_of}
use Rattle.wv_pool.specs.Constants.{class_name}
use Rattle.wv_code.specs.declared.raw_body.RawBody.{RawBody}
use Rattle.wv_code.specs.Content.{IsContent}
use Rattle.wv_code.specs.Body.{IsBodyOf}
use Rattle.wv_code.proofs.OneBody.{one_value, one_body}
use Rattle.wv_code.proofs.OffsetFrames.{all_append}
use Rattle.wv_code.proofs.Starts.{follow_below, follow_ascends}
use Rattle.wv_attr.proofs.Uniqueness.{listed_one, note_list_one}
use Rattle.wv_class.specs.declared.raw_class.Content.{Content}
use Rattle.wv_class.specs.declared.raw_class.Content.TheVariants as contents
use Rattle.wv_class.specs.declared.raw_class.RawAttribute.{RawAttribute}
use Rattle.wv_class.specs.declared.raw_class.RawMember.{RawMember}
use Rattle.wv_class.specs.declared.raw_class.RawClass.{RawClass}
use Rattle.wv_class.specs.Layout.{IsClass}
use Rattle.wv_class.specs.Breaks.{StartsWith}
use Rattle.wv_class.specs.Checking.{IsSpelledContent, IsSpelledAttribute, IsSpelledMember}
use Rattle.wv_class.specs.Meaning.{content_codes, codes_in, values_in, exceptions_in, IsNotesOf, AreNotesOf, IsBodyIn, IsValueIn, AreClasses, IsMemberOf, AreMembersOf, IsClassOf, Spells}
use Rattle.wv_class.specs.Meaning as meaning
use Rattle.wv_class.proofs.ClassFiles.{one_layout}
use Rattle.wv_class.proofs.Lengths.{attribute_content, member_attributes}
use Rattle.wv_class.proofs.RestPlaces.{rest_fields, rest_methods}
use Rattle.wv_class.proofs.StartFrames.{one_start}

-- ---- lists

zip_one : {A B : Type 0} (P : A → Type 0) (R : A → B → Type 0) → ((x : A) → P x → (y z : B) → R x y → R x z → y ≡ z) → (xs : List A) (ys zs : List B) → AllByRecursion P xs → AllZip R xs ys → AllZip R xs zs → ys ≡ zs
zip_one P R one [] [] [] p h k = refl
zip_one P R one [] [] (z ∷ zs) p h k = absurd k
zip_one P R one [] (y ∷ ys) zs p h k = absurd h
zip_one P R one (x ∷ xs) [] zs p h k = absurd h
zip_one P R one (x ∷ xs) (y ∷ ys) [] p h k = absurd k
zip_one P R one (x ∷ xs) (y ∷ ys) (z ∷ zs) p h k =
    let first : y ≡ z = one x p.0 y z h.0 k.0 in
    let rest : ys ≡ zs = zip_one P R one xs ys zs p.1 h.1 k.1 in
    cc

all_plain : (xs : List ℕ) → AllByRecursion (λ _. Unit {0}) xs
all_plain [] = tt
all_plain (x ∷ xs) = (tt, all_plain xs)

module _ (pool : List PoolEntry) where
  classes_one : (numbers : List ℕ) (names others : List (List ℕ)) → AreClasses pool numbers names → AreClasses pool numbers others → names ≡ others
  classes_one numbers names others h k =
      zip_one (λ _. Unit {0}) (λ number name. class_name pool number ≡ Some name) (λ number _ name other e f. one_value (class_name pool number) name other e f) numbers names others (all_plain numbers) h k

  -- ---- annotations

  content_notes_one : (c : Content) (notes others : List Note) → IsNotesOf pool c notes → IsNotesOf pool c others → notes ≡ others
  content_notes_one (contents.Code raw) notes others h k = h ∙ sym k
  content_notes_one (contents.ConstantValue number) notes others h k = h ∙ sym k
  content_notes_one (contents.Exceptions numbers) notes others h k = h ∙ sym k
  content_notes_one (contents.Annotations visible parts) notes others h k = note_list_one pool visible parts notes others h k
  content_notes_one (contents.ParameterAnnotations visible parts) notes others h k = listed_one pool visible {place = 0} {notes = notes} {others = others} {ms = parts} h k
  content_notes_one (contents.Other bytes) notes others h k = h ∙ sym k

  record OfFirst (a : RawAttribute) (all : List RawAttribute) (notes : List Note) : Type 0 where
    pub list : List Note
    pub others : List Note
    pub one : IsNotesOf pool a.content list
    pub rest : AreNotesOf pool all others
    pub is : list ++ others ≡ notes

  first_is : {a : RawAttribute} {all : List RawAttribute} {notes : List Note} → AreNotesOf pool (a ∷ all) notes → OfFirst a all notes
  first_is (meaning.next notes others h rest) = record { list = notes; others = others; one = h; rest = rest; is = refl }

  none_is : {notes : List Note} → AreNotesOf pool [] notes → [] ≡ notes
  none_is meaning.none = refl

  notes_one : (all : List RawAttribute) (notes others : List Note) → AreNotesOf pool all notes → AreNotesOf pool all others → notes ≡ others
  notes_one [] notes others h k = sym (none_is h) ∙ none_is k
  notes_one (a ∷ all) notes others h k =
      let i = first_is h in
      let j = first_is k in
      sym i.is ∙ ap (λ (t : List Note). t ++ i.others) (content_notes_one a.content i.list j.list i.one j.one) ∙ ap (λ (t : List Note). j.list ++ t) (notes_one all i.others j.others i.rest j.rest) ∙ j.is

  -- ---- code

  abbrev HasContent : RawBody → Type 0
  HasContent raw = (bytes : List ℕ) × IsContent pool raw bytes

  content_spelled : (c : Content) → IsSpelledContent pool c → AllByRecursion HasContent (content_codes c)
  content_spelled (contents.Code raw) s = ((s.1, s.3), tt)
  content_spelled (contents.ConstantValue number) s = tt
  content_spelled (contents.Exceptions numbers) s = tt
  content_spelled (contents.Annotations visible parts) s = tt
  content_spelled (contents.ParameterAnnotations visible parts) s = tt
  content_spelled (contents.Other bytes) s = tt

  codes_spelled : (all : List RawAttribute) → AllByRecursion (IsSpelledAttribute pool) all → AllByRecursion HasContent (codes_in all)
  codes_spelled [] s = tt
  codes_spelled (a ∷ all) s = all_append HasContent (content_codes a.content) (codes_in all) (content_spelled a.content (attribute_content pool a s.0)) (codes_spelled all s.1)

  module _ (class : ℕ) where
    code_one : (m : RawMember) (raw : RawBody) (a b : Body) (first second : Frame) → HasContent raw → StartsWith pool class m first → StartsWith pool class m second → IsBodyOf pool first raw a → IsBodyOf pool second raw b → a ≡ b
    code_one m raw a b first second (bytes, content) h k is also =
        let same : second ≡ first = one_start pool class m second first k h in
        one_body pool first raw a b (follow_ascends content.code 0 raw.code.raws raw.code.offsets raw.len content.follow) (follow_below content.code 0 raw.code.raws raw.code.offsets raw.len content.follow) is
        (subst (λ (f : Frame). IsBodyOf pool f raw b) same also)

    body_one : (m : RawMember) (raws : List RawBody) (a b : Option Body) → AllByRecursion HasContent raws → IsBodyIn pool class m raws a → IsBodyIn pool class m raws b → a ≡ b
    body_one m [] None None s h k = refl
    body_one m [] None (Some b) s h k = absurd k
    body_one m [] (Some a) b s h k = absurd h
    body_one m (raw ∷ []) None b s h k = absurd h
    body_one m (raw ∷ []) (Some a) None s h k = absurd k
    body_one m (raw ∷ []) (Some a) (Some b) s h k = ap (λ (z : Body). Some z) (code_one m raw a b h.0 k.0 s.0 h.1 k.1 h.2 k.2)
    body_one m (raw ∷ other ∷ raws) None b s h k = absurd h
    body_one m (raw ∷ other ∷ raws) (Some a) b s h k = absurd h

    constant_one : (numbers : List ℕ) (a b : Option Const) → IsValueIn pool numbers a → IsValueIn pool numbers b → a ≡ b
    constant_one [] None None h k = refl
    constant_one [] None (Some b) h k = absurd k
    constant_one [] (Some a) b h k = absurd h
    constant_one (number ∷ []) None b h k = absurd h
    constant_one (number ∷ []) (Some a) None h k = absurd k
    constant_one (number ∷ []) (Some a) (Some b) h k = sym h ∙ k
    constant_one (number ∷ other ∷ numbers) None b h k = absurd h
    constant_one (number ∷ other ∷ numbers) (Some a) b h k = absurd h

    -- ---- members

    member_one : (raw : RawMember) → IsSpelledMember pool raw → (a b : Member) → IsMemberOf pool class raw a → IsMemberOf pool class raw b → a ≡ b
    member_one raw s a b h k =
        let bits : a.flags.0 ≡ b.flags.0 = h.flags ∙ sym k.flags in
        let flags : ◌≡◌ {A = AccessFlags} (record { 0 = a.flags.0 }) (record { 0 = b.flags.0 }) = ap (λ z. record { 0 = z }) bits in
        let kind : a.flags ≡ b.flags = flags in
        let name : a.name ≡ b.name = one_value (text_of pool raw.name) a.name b.name h.name k.name in
        let descriptor : a.descriptor ≡ b.descriptor = one_value (text_of pool raw.descriptor) a.descriptor b.descriptor h.descriptor k.descriptor in
        let body : a.body ≡ b.body = body_one raw (codes_in raw.attributes) a.body b.body (codes_spelled raw.attributes (member_attributes pool raw s)) h.body k.body in
        let value : a.value ≡ b.value = constant_one (values_in raw.attributes) a.value b.value h.value k.value in
        let throws : a.throws ≡ b.throws = classes_one (exceptions_in raw.attributes) a.throws b.throws h.throws k.throws in
        let notes : a.notes ≡ b.notes = notes_one raw.attributes a.notes b.notes h.notes k.notes in
        let kept : a.kept ≡ b.kept = h.kept ∙ sym k.kept in
        let whole : ◌≡◌ {A = Member} (record { flags = a.flags; name = a.name; descriptor = a.descriptor; body = a.body; value = a.value; throws = a.throws; notes = a.notes; kept = a.kept })
        (record { flags = b.flags; name = b.name; descriptor = b.descriptor; body = b.body; value = b.value; throws = b.throws; notes = b.notes; kept = b.kept }) =
        cc (kind, name, descriptor, body, value, throws, notes, kept)
        in
        whole

    members_one : (raws : List RawMember) (members others : List Member) → AllByRecursion (IsSpelledMember pool) raws → AreMembersOf pool class raws members → AreMembersOf pool class raws others → members ≡ others
    members_one raws members others s h k = zip_one (IsSpelledMember pool) (IsMemberOf pool class) member_one raws members others s h k

-- ---- classes

pub one_meaning : (raw : RawClass) (bytes : List ℕ) → IsClass raw bytes → (c d : ClassFile) → IsClassOf raw c → IsClassOf raw d → c ≡ d
one_meaning raw bytes s c d h k =
    let version : c.version ≡ d.version = h.version ∙ sym k.version in
    let bits : c.flags.0 ≡ d.flags.0 = h.flags ∙ sym k.flags in
    let flags : ◌≡◌ {A = AccessFlags} (record { 0 = c.flags.0 }) (record { 0 = d.flags.0 }) = ap (λ z. record { 0 = z }) bits in
    let kind : c.flags ≡ d.flags = flags in
    let name : c.name ≡ d.name = one_value (class_name raw.pool raw.rest.class) c.name d.name h.name k.name in
    let superclass : c.superclass ≡ d.superclass = one_value (class_name raw.pool raw.rest.superclass) c.superclass d.superclass h.superclass k.superclass in
    let interfaces : c.interfaces ≡ d.interfaces = classes_one raw.pool raw.rest.interfaces c.interfaces d.interfaces h.interfaces k.interfaces in
    let fields : c.fields ≡ d.fields = members_one raw.pool raw.rest.class raw.rest.fields c.fields d.fields (rest_fields raw.pool _ raw.rest s.rest s.rest_is) h.fields k.fields in
    let methods : c.methods ≡ d.methods = members_one raw.pool raw.rest.class raw.rest.methods c.methods d.methods (rest_methods raw.pool _ raw.rest s.rest s.rest_is) h.methods k.methods in
    let notes : c.notes ≡ d.notes = notes_one raw.pool raw.rest.attributes c.notes d.notes h.notes k.notes in
    let pool : c.pool ≡ d.pool = h.pool ∙ sym k.pool in
    let kept : c.kept ≡ d.kept = h.kept ∙ sym k.kept in
    let whole : ◌≡◌ {A = ClassFile} (record { version = c.version; flags = c.flags; name = c.name; superclass = c.superclass; interfaces = c.interfaces; fields = c.fields; methods = c.methods; notes = c.notes; pool = c.pool; kept = c.kept })
    (record { version = d.version; flags = d.flags; name = d.name; superclass = d.superclass; interfaces = d.interfaces; fields = d.fields; methods = d.methods; notes = d.notes; pool = d.pool; kept = d.kept }) =
    cc (version, kind, name, superclass, interfaces, fields, methods, notes, pool, kept)
    in
    whole

-- bytes spell one class at most
pub one_class : (bytes : List ℕ) (c d : ClassFile) → Spells bytes c → Spells bytes d → c ≡ d
one_class bytes c d h k =
    let same : k.raw ≡ h.raw = one_layout k.raw h.raw bytes k.layout h.layout in
    one_meaning h.raw bytes h.layout c d h.means (subst (λ (r : RawClass). IsClassOf r d) same k.means)

-- the class that was found is the one
pub found_only : (raw : RawClass) (bytes : List ℕ) → IsClass raw bytes → (c : ClassFile) → IsClassOf raw c → (d : ClassFile) (s : Spells bytes d) → raw ≡ s.raw → c ≡ d
found_only raw bytes layout c h d s same = one_meaning raw bytes layout c d h (subst (λ (r : RawClass). IsClassOf r d) (sym same) s.means)
