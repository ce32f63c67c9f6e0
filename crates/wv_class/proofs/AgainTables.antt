-- Fields and methods that are read again meet what they must.
use Rattle.std.proofs.Common.{◌≡◌, ℕ, zero, suc, ◌+◌, ◌<◌, ◌≤◌, Bool, List, [], ◌∷◌, take, Option, Some, None, refl, sym, ap, subst, ◌∙◌}
use Rattle.std.specs.Prelude.{slice_get, IsSomeAnd, IsTrue, codes, if◌then◌else◌}
use Rattle.std.specs.List.{AllZip}
use Rattle.std.proofs.lemmas.Option.{none-some}
use Rattle.wv_base.specs.Names.{is_unqualified, is_method_name}
use Rattle.wv_base.specs.Descriptor.{IsFieldDescriptor, IsMethodDescriptor, HasWords}
use Rattle.wv_base.specs.declared.class_file.PoolEntry.{PoolEntry}
use Rattle.wv_base.specs.declared.class_file.Body.{Body}
use Rattle.wv_base.specs.declared.class_file.Member.{Member}
use Rattle.wv_pool.specs.References.{text_of, IsText}
use Rattle.wv_code.proofs.LeastPlaces.{taken_front, taken_within}
use Rattle.wv_class.specs.declared.raw_class.RawMember.{RawMember}
use Rattle.wv_class.specs.Breaks.{IsAgain, IsInitializer, HasItsCode, IsNarrow, FieldBreaks, MethodBreaks, InList, member_len}
use Rattle.wv_class.specs.Breaks as breaks
use Rattle.wv_class.specs.Flags.{is_static, is_bodiless}
use Rattle.wv_class.specs.Formed.{AreDistinct, HasFormedBody, IsFormedInitializer, IsFormedWidth, IsFormedField, IsFormedMethod}
use Rattle.wv_class.specs.Limits.{one_if}
use Rattle.wv_class.specs.Written.{IsHeadOf, count_codes}
use Rattle.wv_class.proofs.AgainMembers.{IsReadAs}

-- ---- lists

-- what stands at the same place of the other list
pub zip_at : {A B : Type 0} (R : A → B → Type 0) (xs : List A) (ys : List B) (k : ℕ) (x : A) → AllZip R xs ys → slice_get xs k ≡ Some x → (y : B) × (slice_get ys k ≡ Some y) × R x y
zip_at R [] ys k x h e = absurd (none-some x e)
zip_at R (z ∷ xs) [] k x h e = absurd h
zip_at {B = B} R (z ∷ xs) (y ∷ ys) zero x h e = (y, refl, subst (λ a. R a y) (some_is z x e) h.0)
  where
    some_is : {X : Type 0} (a b : X) → Some a ≡ Some b → a ≡ b
    some_is a b e = cc
zip_at R (z ∷ xs) (y ∷ ys) (suc k) x h e = zip_at R xs ys k x h.1 e

pub taken_is : {X : Type 0} (xs : List X) (i k : ℕ) (x : X) → slice_get (take i xs) k ≡ Some x → (k < i) × (slice_get xs k ≡ Some x)
taken_is xs i k x e = let within = taken_within xs i k x e in (within, sym (taken_front xs i k within) ∙ e)

same_text : (pool : List PoolEntry) (number : ℕ) (a b : List ℕ) → text_of pool number ≡ Some a → text_of pool number ≡ Some b → a ≡ b
same_text pool number a b e f = let same : Some a ≡ Some b = sym e ∙ f in some_text a b same
  where
    some_text : (a b : List ℕ) → Some a ≡ Some b → a ≡ b
    some_text a b e = cc

text_holds : (pool : List PoolEntry) (number : ℕ) (text : List ℕ) (P : List ℕ → Type 0) → text_of pool number ≡ Some text → P text → IsText pool number P
text_holds pool number text P e p = subst (λ (o : Option (List ℕ)). IsSomeAnd o P) (sym e) p

text_held : (pool : List PoolEntry) (number : ℕ) (text : List ℕ) (P : List ℕ → Type 0) → text_of pool number ≡ Some text → IsText pool number P → P text
text_held pool number text P e h = subst (λ (o : Option (List ℕ)). IsSomeAnd o P) e h

-- ---- none comes again

module _ (pool : List PoolEntry) (class : ℕ) (IsFormed : Member → Type 0) (raws : List RawMember) (members : List Member) (read : AllZip (IsReadAs pool class IsFormed) raws members) (distinct : AreDistinct members) where
  pub not_again : (k : ℕ) (raw : RawMember) → slice_get raws k ≡ Some raw → IsAgain pool (take k raws) raw → ⊥
  not_again k raw at a =
      let first = taken_is raws k a.place a.first a.first_is in
      let one = zip_at (IsReadAs pool class IsFormed) raws members a.place a.first read first.1 in
      let other = zip_at (IsReadAs pool class IsFormed) raws members k raw read at in
      let named = a.same.0 in
      let renamed = a.same.1 in
      distinct a.place k one.0 other.0 first.0 one.1 other.1
      (same_text pool a.first.name one.0.name a.name one.2.head.name named.name_is ∙ same_text pool raw.name a.name other.0.name renamed.name_is other.2.head.name)
      (same_text pool a.first.descriptor one.0.descriptor a.descriptor one.2.head.descriptor named.descriptor_is ∙ same_text pool raw.descriptor a.descriptor other.0.descriptor renamed.descriptor_is other.2.head.descriptor)

-- ---- fields

field_meets : (pool old : List PoolEntry) (class : ℕ) (before : List RawMember) (raw : RawMember) (m : Member) → (IsAgain pool before raw → ⊥) → IsReadAs pool class (IsFormedField old) raw m
    → (at : ℕ) → FieldBreaks pool class before raw at → ⊥
field_meets pool old class before raw m fresh r _ (breaks.again h) = fresh h
field_meets pool old class before raw m fresh r _ (breaks.name h) = h (text_holds pool raw.name m.name (λ text. IsTrue (is_unqualified text)) r.head.name r.formed.name.0)
field_meets pool old class before raw m fresh r _ (breaks.descriptor h) = h (text_holds pool raw.descriptor m.descriptor IsFieldDescriptor r.head.descriptor r.formed.descriptor.0)
field_meets pool old class before raw m fresh r _ (breaks.attributes {at = at} h) = r.sound at h

pub fields_meet : (pool old : List PoolEntry) (class base : ℕ) (raws : List RawMember) (members : List Member) → AllZip (IsReadAs pool class (IsFormedField old)) raws members → AreDistinct members
    → (at : ℕ) → InList member_len base raws (λ k m. FieldBreaks pool class (take k raws) m) at → ⊥
fields_meet pool old class base raws members read distinct at (k, raw, is, (place, b, e)) =
    let one = zip_at (IsReadAs pool class (IsFormedField old)) raws members k raw read is in
    field_meets pool old class (take k raws) raw one.0 (not_again pool class (IsFormedField old) raws members read distinct k raw is) one.2 place b

-- ---- methods

initializer_meets : (pool : List PoolEntry) (raw : RawMember) (m : Member) → IsHeadOf pool m raw → IsFormedInitializer m → IsInitializer pool raw
initializer_meets pool raw m h formed named =
    let f = formed (same_text pool raw.name m.name (codes "<clinit>") h.name named) in
    rw (h.flags) (f.0, (h.descriptor ∙ ap (λ (t : List ℕ). Some t) f.1), f.2, f.3)

code_meets : (pool : List PoolEntry) (raw : RawMember) (m : Member) → raw.flags ≡ m.flags.0 → count_codes raw.attributes ≡ one_if m.body → HasFormedBody pool (is_bodiless m.flags.0) m.body → HasItsCode raw
code_meets pool raw m flags codes formed = codes ∙ on m.body (is_bodiless m.flags.0) formed ∙ ap (λ (n : ℕ). if is_bodiless n then 0 else 1) (sym flags)
  where
    on : (body : Option Body) (bodiless : Bool) → HasFormedBody pool bodiless body → one_if body ≡ (if bodiless then 0 else 1)
    on None bodiless f = ap (λ (b : Bool). if b then 0 else 1) (sym f)
    on (Some body) bodiless f = ap (λ (b : Bool). if b then 0 else 1) (sym f.0)

width_meets : (pool : List PoolEntry) (raw : RawMember) (m : Member) → IsHeadOf pool m raw → IsFormedWidth m → IsNarrow pool raw
width_meets pool raw m h formed words has =
    subst (λ (n : ℕ). words + (if is_static n then 0 else 1) ≤ 255) (sym h.flags) (formed words (text_held pool raw.descriptor m.descriptor (λ text. HasWords text words) h.descriptor has))

method_meets : (pool old : List PoolEntry) (class : ℕ) (before : List RawMember) (raw : RawMember) (m : Member) → (IsAgain pool before raw → ⊥) → IsReadAs pool class (IsFormedMethod old) raw m
    → (at : ℕ) → MethodBreaks pool class before raw at → ⊥
method_meets pool old class before raw m fresh r _ (breaks.again h) = fresh h
method_meets pool old class before raw m fresh r _ (breaks.initializer h) = h (initializer_meets pool raw m r.head r.formed.initializer)
method_meets pool old class before raw m fresh r _ (breaks.code h) = h (code_meets old raw m r.head.flags r.codes r.formed.body)
method_meets pool old class before raw m fresh r _ (breaks.wide h) = h (width_meets pool raw m r.head r.formed.narrow)
method_meets pool old class before raw m fresh r _ (breaks.name h) = h (text_holds pool raw.name m.name (λ text. IsTrue (is_method_name text)) r.head.name r.formed.name.0)
method_meets pool old class before raw m fresh r _ (breaks.descriptor h) = h (text_holds pool raw.descriptor m.descriptor IsMethodDescriptor r.head.descriptor r.formed.descriptor.0)
method_meets pool old class before raw m fresh r _ (breaks.attributes {at = at} h) = r.sound at h

pub methods_meet : (pool old : List PoolEntry) (class base : ℕ) (raws : List RawMember) (members : List Member) → AllZip (IsReadAs pool class (IsFormedMethod old)) raws members → AreDistinct members
    → (at : ℕ) → InList member_len base raws (λ k m. MethodBreaks pool class (take k raws) m) at → ⊥
methods_meet pool old class base raws members read distinct at (k, raw, is, (place, b, e)) =
    let one = zip_at (IsReadAs pool class (IsFormedMethod old)) raws members k raw read is in
    method_meets pool old class (take k raws) raw one.0 (not_again pool class (IsFormedMethod old) raws members read distinct k raw is) one.2 place b
