-- A table of types tells of the text with each number.
use Rattle.std.proofs.Common.{◌≡◌, ℕ, zero, suc, Bool, true, false, cond, List, [], ◌∷◌, ◌++◌, Option, Some, None, refl, ap, subst, ◌∙◌, Bor, arith, IsTrue}
use Rattle.std.specs.Option.{option_copied, is_some, IsSomeAnd}
use Rattle.std.specs.Prelude.{slice_get, ◌==◌}
use Rattle.std.proofs.lemmas.Bool.{eqb-true}
use Rattle.wv_base.specs.declared.class_file.PoolEntry.{PoolEntry}
use Rattle.wv_base.specs.declared.class_file.PoolEntry.TheVariants as entries
use Rattle.wv_base.specs.declared.descriptor.ElementType.{ElementType}
use Rattle.wv_base.specs.declared.descriptor.ElementType.TheVariants as elements
use Rattle.wv_base.specs.declared.descriptor.FieldType.{FieldType}
use Rattle.wv_base.specs.Descriptor.{IsFieldDescriptor}
use Rattle.wv_desc.specs.TypeOf.{IsFieldTypeOf}
use Rattle.wv_pool.specs.References.{text_in, text_of}
use Rattle.wv_attr.specs.Types.{IsTextType, IsEntryType, AreTypes, type_in, type_of, class_element, class_in}
use Rattle.wv_attr.specs.References.{IsClassDescriptor}
use Rattle.wv_attr.specs.Meanings.{class_descriptor}

pub AreTypes-push : (pool : List PoolEntry) (types : List (Option FieldType)) (entry : PoolEntry) (type : Option FieldType) → AreTypes pool types → IsEntryType entry type → AreTypes (pool ++ entry ∷ []) (types ++ type ∷ [])
AreTypes-push [] [] entry type h k = (k, tt)
AreTypes-push [] (t ∷ types) entry type h k = absurd h
AreTypes-push (e ∷ pool) [] entry type h k = absurd h
AreTypes-push (e ∷ pool) (t ∷ types) entry type h k = (h.0, AreTypes-push pool types entry type h.1 k)

-- a text, where there is one, and its type
abbrev pub TextType : Option (List ℕ) → Option FieldType → Type 0
TextType (Some text) type = IsTextType text type
TextType None type = type ≡ None

agree_at : (entry : PoolEntry) (type : Option FieldType) → IsEntryType entry type → TextType (text_in (Some entry)) type
agree_at (entries.Utf8 text) type h = h
agree_at (entries.Integer v) type h = h
agree_at (entries.Float v) type h = h
agree_at (entries.Long v) type h = h
agree_at (entries.Double v) type h = h
agree_at (entries.Class n) type h = h
agree_at (entries.String n) type h = h
agree_at (entries.Field m n) type h = h
agree_at (entries.Method m n) type h = h
agree_at (entries.InterfaceMethod m n) type h = h
agree_at (entries.NameAndType m n) type h = h
agree_at (entries.MethodHandle k n) type h = h
agree_at (entries.MethodType n) type h = h
agree_at (entries.InvokeDynamic m n) type h = h
agree_at entries.Unusable type h = h

agree_place : (pool : List PoolEntry) (types : List (Option FieldType)) (place : ℕ) → AreTypes pool types → TextType (text_in (slice_get pool place)) (type_in (slice_get types place))
agree_place [] [] place h = refl
agree_place [] (t ∷ types) place h = absurd h
agree_place (e ∷ pool) [] place h = absurd h
agree_place (e ∷ pool) (t ∷ types) zero h = agree_at e t h.0
agree_place (e ∷ pool) (t ∷ types) (suc place) h = agree_place pool types place h.1

pub agree : (pool : List PoolEntry) (types : List (Option FieldType)) (number : ℕ) → AreTypes pool types → TextType (text_of pool number) (type_of types number)
agree pool types zero h = refl
agree pool types (suc place) h = agree_place pool types place h

pub some_copied : {X : Type 0} (r : Option (Bor X)) (t : Option X) → option_copied r ≡ t → is_some r ≡ is_some t
some_copied (Some x) t e = ap is_some e
some_copied None t e = ap is_some e

pub record Known (b : Bool) (P : Type 0) : Type 0 where
  pub holds : IsTrue b → P
  pub shows : P → IsTrue b

abbrev a_field : ℕ → ElementType → FieldType
a_field d e = record { dimensions = d; element = e }

never_true : false ≡ true → ⊥
never_true e = cc

pub field_known : (o : Option (List ℕ)) (t : Option FieldType) → TextType o t → Known (is_some t) (IsSomeAnd o IsFieldDescriptor)
field_known (Some text) (Some f) h = record { holds = λ e. (f, h.found.0, h.found.1); shows = λ d. refl }
field_known (Some text) None h = record {
  holds = λ e. absurd (never_true e);
  shows = λ d. let never : None ≡ Some d.0 = h.only d.0 (d.1, d.2) in absurd cc;
}
field_known None (Some f) h = absurd cc
field_known None None h = record { holds = λ e. absurd (never_true e); shows = λ d. absurd d }

class_zero : (text : List ℕ) (e : ElementType) → IsFieldTypeOf text (a_field 0 e) → is_some (class_element e) ≡ true → IsClassDescriptor text
class_zero text (elements.Class name) h e = (name, h.0.1, h.1)
class_zero text (elements.Primitive p) h e = absurd (never_true e)

class_found : (text : List ℕ) (d : ℕ) (e : ElementType) (b : Bool) → (d == 0) ≡ b → IsFieldTypeOf text (a_field d e) → is_some (cond {A = Option (List ℕ)} b (class_element e) None) ≡ true → IsClassDescriptor text
class_found text d e true zero_is h is =
    let none : d ≡ 0 = eqb-true d 0 zero_is in
    class_zero text e (subst (λ (k : ℕ). IsFieldTypeOf text (a_field k e)) none h) is
class_found text d e false zero_is h is = absurd (never_true is)

pub class_known : (o : Option (List ℕ)) (t : Option FieldType) → TextType o t → Known (is_some (class_in t)) (IsSomeAnd o IsClassDescriptor)
class_known (Some text) (Some f) h = record {
  holds = λ e. class_found text f.dimensions f.element (f.dimensions == 0) refl h.found e;
  shows = λ d. let same = h.only (a_field 0 (elements.Class d.0)) ((omega arith, d.1), d.2) in ap (λ t. is_some (class_in t)) same;
}
class_known (Some text) None h = record {
  holds = λ e. absurd (never_true e);
  shows = λ d. let never : None ≡ Some (a_field 0 (elements.Class d.0)) = h.only (a_field 0 (elements.Class d.0)) ((omega arith, d.1), d.2) in absurd cc;
}
class_known None (Some f) h = absurd cc
class_known None None h = record { holds = λ e. absurd (never_true e); shows = λ d. absurd d }

text_zero : (text : List ℕ) (e : ElementType) (name : List ℕ) → IsFieldTypeOf text (a_field 0 e) → class_element e ≡ Some name → text ≡ class_descriptor name
text_zero text (elements.Class other) name h e = let same : other ≡ name = cc in h.1 ∙ ap class_descriptor same
text_zero text (elements.Primitive p) name h e = absurd cc

text_found : (text : List ℕ) (d : ℕ) (e : ElementType) (b : Bool) (name : List ℕ) → (d == 0) ≡ b → IsFieldTypeOf text (a_field d e) → cond {A = Option (List ℕ)} b (class_element e) None ≡ Some name → text ≡ class_descriptor name
text_found text d e true name zero_is h is =
    let none : d ≡ 0 = eqb-true d 0 zero_is in
    text_zero text e name (subst (λ (k : ℕ). IsFieldTypeOf text (a_field k e)) none h) is
text_found text d e false name zero_is h is = absurd cc

-- the text whose type is a class
pub class_text : (o : Option (List ℕ)) (t : Option FieldType) (name : List ℕ) → TextType o t → class_in t ≡ Some name → o ≡ Some (class_descriptor name)
class_text (Some text) (Some f) name h e = ap (λ (x : List ℕ). Some x) (text_found text f.dimensions f.element (f.dimensions == 0) name refl h.found e)
class_text (Some text) None name h e = absurd cc
class_text None (Some f) name h e = absurd cc
class_text None None name h e = absurd cc

pub is_some_none : (o : Option (List ℕ)) → None ≡ o → IsTrue (is_some o) → ⊥
is_some_none (Some x) e h = absurd cc
is_some_none None e h = never_true h
