-- The attributes of classes, fields and methods that were written, as they are read again.
use Rattle.std.proofs.Common.{◌≡◌, ℕ, ◌+◌, List, [], ◌++◌, length, Option, Some, None, refl, sym, ap, subst, ◌∙◌, arith}
use Rattle.wv_base.specs.declared.class_file.PoolEntry.{PoolEntry}
use Rattle.wv_base.specs.declared.class_file.Attribute.{Attribute}
use Rattle.wv_base.specs.declared.class_file.Body.{Body}
use Rattle.wv_base.specs.declared.class_file.Member.{Member}
use Rattle.wv_base.specs.declared.constant.Const.{Const}
use Rattle.wv_base.specs.declared.note.Note.{Note}
use Rattle.wv_pool.specs.Adding.{Keeps}
use Rattle.wv_pool.specs.Constants.{class_name}
use Rattle.wv_pool.specs.References.{IsPool}
use Rattle.wv_code.proofs.Lists.{AllByRecursion-map}
use Rattle.wv_class.specs.declared.raw_class.Place.TheVariants as places
use Rattle.wv_class.specs.declared.raw_class.Content.{Content}
use Rattle.wv_class.specs.declared.raw_class.Content.TheVariants as contents
use Rattle.wv_class.specs.declared.raw_class.RawAttribute.{RawAttribute}
use Rattle.wv_class.specs.declared.raw_class.RawMember.{RawMember}
use Rattle.wv_class.specs.Appending.{WritesValue, WritesCode, WritesExceptions, WritesOthers}
use Rattle.wv_class.specs.Breaks.{PartsBreak, ContentBreaks}
use Rattle.wv_class.specs.Formed.{AreFormedKept, AreFormedNotes, IsFormedField, IsFormedMethod}
use Rattle.wv_class.specs.Limits.{one_if, one_if_any}
use Rattle.wv_class.specs.Meaning.{AreClasses, IsValueIn}
use Rattle.wv_class.specs.Tables.{tables_of}
use Rattle.wv_class.specs.Written.{AreOthers, AreAttributes, IsHeadOf}
use Rattle.wv_class.proofs.WrittenParts.{NeverBreaks}
use Rattle.wv_class.proofs.WrittenNotes.{others_again}
use Rattle.wv_class.proofs.WrittenCode.{HasCode, exceptions_before, code_before, value_before, all_again}

-- a break among annotations is one of the content
parts_break : (pool : List PoolEntry) (class : ℕ) (raw : RawMember) (c : Content) (at : ℕ) → PartsBreak pool c at → ContentBreaks pool class raw c at
parts_break pool class raw (contents.Code code) at h = absurd h
parts_break pool class raw (contents.ConstantValue number) at h = absurd h
parts_break pool class raw (contents.Exceptions numbers) at h = absurd h
parts_break pool class raw (contents.Annotations visible parts) at h = h
parts_break pool class raw (contents.ParameterAnnotations visible parts) at h = h
parts_break pool class raw (contents.Other bytes) at h = absurd h

pub class_others : (pool old : List PoolEntry) (notes : List Note) (kept : List Attribute) (bytes : List ℕ) → Keeps old pool → AreFormedNotes places.Class notes → AreFormedKept old places.Class kept → WritesOthers pool notes kept bytes
    → AreOthers pool places.Class notes kept bytes
class_others pool old notes kept bytes grown notes_formed kept_formed w =
    let parts = others_again pool 0 (λ _. Unit {0}) old places.Class notes kept bytes grown notes_formed kept_formed w in
    record {
      all = parts.all;
      count = omega (arith, parts.counted);
      spelled = parts.spelled;
      sound = AllByRecursion-map (NeverBreaks pool 0 (λ _. Unit {0})) (λ (a : RawAttribute). (at : ℕ) → PartsBreak pool a.content at → ⊥) parts.all
          (λ a never at h. never nobody at tt (parts_break pool 0 nobody a.content at h)) parts.sound;
      no_codes = parts.codes;
      no_values = parts.values;
      no_exceptions = parts.exceptions;
      notes_are = parts.notes;
      kept_are = parts.kept;
    }
  where
    nobody : RawMember
    nobody = record { flags = 0; name = 0; descriptor = 0; attributes = [] }

module _ (pool old : List PoolEntry) (class : ℕ) (owner : List ℕ) (m : Member) (value code exceptions others : List ℕ) where
  pub field_attributes : IsPool pool → Keeps old pool → class_name pool class ≡ Some owner → IsFormedField old m
      → WritesValue pool m.value value → WritesCode pool m.body code → WritesExceptions pool m.throws exceptions → WritesOthers pool m.notes m.kept others
      → AreAttributes pool places.Field class m (value ++ (code ++ (exceptions ++ others)))
  field_attributes sound grown owner_is formed value_is code_is exceptions_are others_are =
      let base = others_again pool class (IsHeadOf pool m) old places.Field m.notes m.kept others grown formed.notes formed.kept others_are in
      let no_code : code ≡ [] = subst (λ (b : Option Body). WritesCode pool b code) formed.no_body code_is in
      let no_exceptions : exceptions ≡ [] = subst (λ (names : List (List ℕ)). WritesExceptions pool names exceptions) formed.no_throws exceptions_are in
      let found = value_before pool class m m.value [] [] m.notes m.kept (length m.kept + length (tables_of m.notes)) value others formed.value value_is base in
      let body = ap one_if formed.no_body in
      let throws = ap one_if_any formed.no_throws in
      subst (AreAttributes pool places.Field class m) (ap (λ (t : List ℕ). value ++ (t ++ others)) (sym no_exceptions) ∙ ap (λ (t : List ℕ). value ++ (t ++ (exceptions ++ others))) (sym no_code))
      (all_again pool class m places.Field [] found.0 [] (length m.kept + length (tables_of m.notes) + one_if m.value) (value ++ others)
      (subst (λ (b : Option Body). HasCode pool class m b []) (sym formed.no_body) (record { other = None; many = refl; same = tt; means = λ raw head. tt }))
      found.1
      found.2
      (subst (λ (names : List (List ℕ)). AreClasses pool [] names) (sym formed.no_throws) tt)
      (omega (arith, body, throws))
      found.3)

  pub method_attributes : IsPool pool → Keeps old pool → class_name pool class ≡ Some owner → IsFormedMethod old m
      → WritesValue pool m.value value → WritesCode pool m.body code → WritesExceptions pool m.throws exceptions → WritesOthers pool m.notes m.kept others
      → AreAttributes pool places.Method class m (value ++ (code ++ (exceptions ++ others)))
  method_attributes sound grown owner_is formed value_is code_is exceptions_are others_are =
      let tables = length m.kept + length (tables_of m.notes) in
      let base = others_again pool class (IsHeadOf pool m) old places.Method m.notes m.kept others grown formed.notes formed.kept others_are in
      let thrown = exceptions_before pool class m m.throws m.notes m.kept tables exceptions others exceptions_are base in
      let coded = code_before pool class m owner m.body [] thrown.0 m.notes m.kept (tables + one_if_any m.throws) code (exceptions ++ others) owner_is formed.descriptor.0 code_is thrown.2 in
      let no_value : value ≡ [] = subst (λ (v : Option Const). WritesValue pool v value) formed.no_value value_is in
      let counted = ap one_if formed.no_value in
      subst (AreAttributes pool places.Method class m) (ap (λ (t : List ℕ). t ++ (code ++ (exceptions ++ others))) (sym no_value))
      (all_again pool class m places.Method coded.0 [] thrown.0 (tables + one_if_any m.throws + one_if m.body) (code ++ (exceptions ++ others))
      coded.1
      (subst (IsValueIn pool []) (sym formed.no_value) tt)
      (omega arith)
      thrown.1
      (omega (arith, counted))
      coded.2)
