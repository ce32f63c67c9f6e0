-- The classes that are written have the members that the hook machine has, with code that means the same.
use Rattle.std.proofs.Common.{◌≡◌, ℕ, ◌&&◌, Bool, true, false, List, [], ◌∷◌, map, get_or, Option, Some, None, refl, sym, ap, ◌∙◌, subst, arith, Contains}
use Rattle.std.specs.Prelude.{bytes_eq, if◌then◌else◌, slice_get, option_map, unwrap_or}
use Rattle.std.specs.List.{AllByRecursion, AllZip, find}
use Rattle.std.proofs.lemmas.Option.{slice_get-map}
use Rattle.std.proofs.lemmas.Slice.Eq.{bytes_eq-Decides}
use Rattle.wv_base.specs.declared.class_file.Body.{Body}
use Rattle.wv_base.specs.declared.class_file.ClassFile.{ClassFile}
use Rattle.wv_base.specs.declared.class_file.Member.{Member}
use Rattle.wv_base.specs.declared.insn.Insn.{Insn}
use Rattle.wv_model.specs.FormDomain.{MethodId, Start, At}
use Rattle.wv_model.specs.Linking.{method_shape}
use Rattle.wv_model.specs.PlainMethod.{AreSame}
use Rattle.wv_model.specs.Entries.{start_code}
use Rattle.wv_model.specs.PlainMachine.{item, code_of, body_of, shape_of}
use Rattle.wv_model.specs.MemberTable.{Applied, Becomes, HasOneMethod, mixin_of, IsMember, replaced, unchanged, IsTableOf, overwritten, body_in_target, read_in_target}
use Rattle.wv_model.specs.HookMachine.{Own, Script, TableMember, is_same, own_script, overwriting_script, table_member, member_table, hooked_shape, class_scripts, script_of, meant}
use Rattle.wv_model.proofs.FormFrames.{read_script}

-- a member that is written, and one of the hook machine
pub record AreAlike (written : Member) (member : TableMember) : Type 0 where
  pub shape : method_shape written ≡ member.shape
  pub code : code_of written ≡ read_script member.script

both : (a b : Bool) → a ≡ true → b ≡ true → (a && b) ≡ true
both true true p q = refl
both true false p q = q
both false b p q = p

halves : (a b : Bool) → (a && b) ≡ true → (a ≡ true) × (b ≡ true)
halves true true p = (refl, refl)
halves true false p = (refl, p)
halves false b p = absurd cc

same_found : (first second : Member) → AreSame first second → is_same first second ≡ true
same_found first second (name, descriptor) =
    both _ _ ((bytes_eq-Decides first.name second.name).1 name) ((bytes_eq-Decides first.descriptor second.descriptor).1 descriptor)

found_same : (first second : Member) → is_same first second ≡ true → AreSame first second
found_same first second e =
    let (name, descriptor) = halves (bytes_eq first.name second.name) (bytes_eq first.descriptor second.descriptor) e in
    ((bytes_eq-Decides first.name second.name).0 name, (bytes_eq-Decides first.descriptor second.descriptor).0 descriptor)

-- what the one method of a mixin is found to be
found_one : (old origin : Member) (b : Bool) → is_same old origin ≡ b → b ≡ true → find (is_same old) (origin ∷ []) ≡ Some origin
found_one old origin true e holds = rw e refl
found_one old origin false e holds = absurd cc

not_found : (old origin : Member) (b : Bool) → is_same old origin ≡ b → (AreSame old origin → ⊥) → find (is_same old) (origin ∷ []) ≡ None
not_found old origin true e other = absurd (other (found_same old origin e))
not_found old origin false e other = rw e refl

-- code that is copied with each instruction as it is read in the target
copied : (mixin target : List ℕ) (body : Option Body) → unwrap_or (option_map (λ b. b.insns) (option_map (body_in_target mixin target) body)) [] ≡ map (read_in_target mixin target) (unwrap_or (option_map (λ b. b.insns) body) [])
copied mixin target None = refl
copied mixin target (Some body) = refl

as_it_is : (code : List Insn) → code ≡ map (meant Own) code
as_it_is [] = refl
as_it_is (insn ∷ code) = ap (λ rest. insn ∷ rest) (as_it_is code)

-- the member of the hook machine, where a mixin with these methods overwrites
abbrev member_under : Applied → List Member → Member → TableMember
member_under mixin methods old =
    record { shape = method_shape old; script = overwriting_script mixin old (find (is_same old) methods) }

replaced_alike : (mixin : Applied) (old origin : Member) → find (is_same old) (origin ∷ []) ≡ Some origin → AreAlike (overwritten mixin.name mixin.target old origin) (member_under mixin (origin ∷ []) old)
replaced_alike mixin old origin found =
    subst (λ o. AreAlike (overwritten mixin.name mixin.target old origin) (record { shape = method_shape old; script = overwriting_script mixin old o })) (sym found) (record { shape = refl; code = copied mixin.name mixin.target origin.body })

own_alike : (old : Member) → AreAlike old (record { shape = method_shape old; script = own_script (code_of old) })
own_alike old = record { shape = refl; code = as_it_is (code_of old) }

kept_alike : (mixin : Applied) (old origin : Member) → find (is_same old) (origin ∷ []) ≡ None → AreAlike old (member_under mixin (origin ∷ []) old)
kept_alike mixin old origin found =
    subst (λ o. AreAlike old (record { shape = method_shape old; script = overwriting_script mixin old o })) (sym found) (own_alike old)

pub only_one : (one origin : Member) → Contains (one ∷ []) origin → origin ≡ one
only_one one origin (k, within, at) = let e : k ≡ 0 = omega arith in sym (subst (λ i. get_or (one ∷ []) i origin ≡ origin) e at)

member_alike : (mixin : Applied) (one old written : Member) → mixin.methods ≡ one ∷ [] → IsMember mixin old written → AreAlike written (table_member (Some mixin) old)
member_alike mixin one old _ e (replaced {origin} contains same) =
    let here : origin ≡ one = only_one one origin (subst (λ methods. Contains methods origin) e contains) in
    let found : find (is_same old) (origin ∷ []) ≡ Some origin = found_one old origin _ refl (same_found old origin same) in
    let alike = replaced_alike mixin old origin found in
    subst (λ methods. AreAlike (overwritten mixin.name mixin.target old origin) (member_under mixin methods old)) (ap (λ m. m ∷ []) here ∙ sym e) alike
member_alike mixin one old _ e (unchanged other) =
    let has : Contains mixin.methods one = subst (λ methods. Contains methods one) (sym e) (0, omega arith, refl) in
    let found : find (is_same old) (one ∷ []) ≡ None = not_found old one _ refl (other one has) in
    subst (λ methods. AreAlike old (member_under mixin methods old)) (sym e) (kept_alike mixin old one found)

-- ---- The members of one class

mixed_alike : (mixin : Applied) (one : Member) → mixin.methods ≡ one ∷ [] → (olds written : List Member) → AllZip (IsMember mixin) olds written → AllZip AreAlike written (map (table_member (Some mixin)) olds)
mixed_alike mixin one e [] [] all = tt
mixed_alike mixin one e (old ∷ olds) (new ∷ news) (here, rest) =
    (member_alike mixin one old new e here, mixed_alike mixin one e olds news rest)
mixed_alike mixin one e [] (new ∷ news) all = absurd all
mixed_alike mixin one e (old ∷ olds) [] all = absurd all

unmixed_alike : (methods : List Member) → AllZip AreAlike methods (map (table_member None) methods)
unmixed_alike [] = tt
unmixed_alike (method ∷ methods) = (own_alike method, unmixed_alike methods)

one_method : (methods : List Member) → HasOneMethod methods → (one : Member) × (methods ≡ one ∷ [])
one_method [] e = absurd (omega (arith, e))
one_method (one ∷ []) e = (one, refl)
one_method (one ∷ (two ∷ rest)) e = absurd (omega (arith, e))

members_alike : (mixin : Option Applied) → ((found : Applied) → mixin ≡ Some found → HasOneMethod found.methods) → (olds written : List Member) → IsTableOf mixin olds written → AllZip AreAlike written (map (table_member mixin) olds)
members_alike None single olds written same =
    subst (λ methods. AllZip AreAlike methods (map (table_member None) olds)) (sym same) (unmixed_alike olds)
members_alike (Some mixin) single olds written table =
    let (one, e) = one_method mixin.methods (single mixin refl) in
    mixed_alike mixin one e olds written table

member_shapes : (written : List Member) (members : List TableMember) → AllZip AreAlike written members → map method_shape written ≡ map (λ member. member.shape) members
member_shapes [] [] all = refl
member_shapes (new ∷ news) (member ∷ members) (here, rest) =
    ap (λ shape. shape ∷ map method_shape news) here.shape ∙ ap (λ shapes. member.shape ∷ shapes) (member_shapes news members rest)
member_shapes [] (member ∷ members) all = absurd all
member_shapes (new ∷ news) [] all = absurd all

member_code : (written : List Member) (members : List TableMember) → AllZip AreAlike written members → map code_of written ≡ map read_script (map (λ member. member.script) members)
member_code [] [] all = refl
member_code (new ∷ news) (member ∷ members) (here, rest) =
    ap (λ code. code ∷ map code_of news) here.code ∙ ap (λ codes. read_script member.script ∷ codes) (member_code news members rest)
member_code [] (member ∷ members) all = absurd all
member_code (new ∷ news) [] all = absurd all

-- ---- Code at a place of a class

list_or_none : (o : Option (List Script)) → unwrap_or (option_map (map read_script) o) [] ≡ map read_script (unwrap_or o [])
list_or_none None = refl
list_or_none (Some scripts) = refl

read_or_none : (o : Option Script) → unwrap_or (option_map read_script o) [] ≡ read_script (unwrap_or o (own_script []))
read_or_none None = refl
read_or_none (Some script) = refl

code_at : (scripts : List (List Script)) (class place : ℕ) → item (item (map (map read_script) scripts) class) place ≡ read_script (unwrap_or (slice_get (item scripts class) place) (own_script []))
code_at scripts class place =
    ap (λ o. item (unwrap_or o []) place) (slice_get-map (map read_script) scripts class)
    ∙ ap (λ codes. item codes place) (list_or_none (slice_get scripts class))
    ∙ ap (λ o. unwrap_or o []) (slice_get-map read_script (item scripts class) place)
    ∙ read_or_none (slice_get (item scripts class) place)

-- ---- All classes

found_single : (class : ClassFile) (mixins : List Applied) → AllByRecursion (λ mixin. HasOneMethod mixin.methods) mixins → (found : Applied) → mixin_of mixins class ≡ Some found → HasOneMethod found.methods
found_single class [] single found e = absurd cc
found_single class (mixin ∷ mixins) (here, rest) found e =
    by_test (bytes_eq mixin.target class.name) e (found_single class mixins rest found)
  where
    by_test : (b : Bool) → (if b then Some mixin else mixin_of mixins class) ≡ Some found → (mixin_of mixins class ≡ Some found → HasOneMethod found.methods) → HasOneMethod found.methods
    by_test true e later = let same : mixin ≡ found = cc in subst (λ (m : Applied). HasOneMethod m.methods) same here
    by_test false e later = later e

module _ (mixins : List Applied) (single : AllByRecursion (λ mixin. HasOneMethod mixin.methods) mixins) where
  class_alike : (class written : ClassFile) → Becomes mixins class written → AllZip AreAlike written.methods (member_table mixins class)
  class_alike class written becomes =
      members_alike (mixin_of mixins class) (found_single class mixins single) class.methods written.methods becomes.table

  same_shape : (class written : ClassFile) → Becomes mixins class written → shape_of written ≡ hooked_shape mixins class
  same_shape class written becomes =
      ap (λ n. record { name = n; methods = map method_shape written.methods }) becomes.same_name
      ∙ ap (λ shapes. record { name = class.name; methods = shapes }) (member_shapes written.methods (member_table mixins class) (class_alike class written becomes))

  -- the classes look the same from outside
  pub same_shapes : (classes written : List ClassFile) → AllZip (Becomes mixins) classes written → map shape_of written ≡ map (hooked_shape mixins) classes
  same_shapes [] [] all = refl
  same_shapes (class ∷ classes) (new ∷ news) (here, rest) =
      ap (λ shape. shape ∷ map shape_of news) (same_shape class new here) ∙ ap (λ shapes. hooked_shape mixins class ∷ shapes) (same_shapes classes news rest)
  same_shapes [] (new ∷ news) all = absurd all
  same_shapes (class ∷ classes) [] all = absurd all

  abbrev codes_of : ClassFile → List (List Insn)
  codes_of class = map code_of class.methods

  same_codes : (classes written : List ClassFile) → AllZip (Becomes mixins) classes written → map codes_of written ≡ map (map read_script) (map (class_scripts mixins) classes)
  same_codes [] [] all = refl
  same_codes (class ∷ classes) (new ∷ news) (here, rest) =
      ap (λ codes. codes ∷ map codes_of news) (member_code new.methods (member_table mixins class) (class_alike class new here)) ∙ ap (λ codes. map read_script (class_scripts mixins class) ∷ codes) (same_codes classes news rest)
  same_codes [] (new ∷ news) all = absurd all
  same_codes (class ∷ classes) [] all = absurd all

  -- and each method's code means in the hook machine what is written
  pub same_body : (classes written : List ClassFile) → AllZip (Becomes mixins) classes written → (method : MethodId) → body_of written method ≡ read_script (script_of classes mixins method)
  same_body classes written all (Start method) =
      ap (λ shapes. start_code shapes method) (same_shapes classes written all)
  same_body classes written all (At class place) =
      ap (λ codes. item (item codes class) place) (same_codes classes written all) ∙ code_at (map (class_scripts mixins) classes) class place
