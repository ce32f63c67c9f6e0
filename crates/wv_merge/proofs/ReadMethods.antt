-- Code of a mixin as it is read in the target is plain, and so are the methods of the written class.
use Rattle.std.proofs.Common.{◌≡◌, ◌≢◌, ℕ, zero, suc, ◌<◌, Bool, true, false, cond, List, [], ◌∷◌, ◌++◌, map, set, length, get_or, Option, Some, None, option_map, refl, sym, ap, subst, ◌∙◌, inl, inr, arith, ◌⊎◌}
use Rattle.std.specs.Prelude.{Contains, nat_lt, slice_get, slice_set, bytes_eq, ◌==◌, codes, IsSomeAnd, FitsSigned}
use Rattle.std.specs.Bool.{Decides}
use Rattle.std.specs.Int.{w8}
use Rattle.std.specs.List.{AllByRecursion, AllZip, zip, list_all, slice_split, onto_first}
use Rattle.std.proofs.lemmas.Bool.{and_parts}
use Rattle.std.proofs.lemmas.Slice.Eq.{bytes_eq-Decides}
use Rattle.wv_base.specs.declared.class_file.Body.{Body}
use Rattle.wv_base.specs.declared.class_file.Member.{Member}
use Rattle.wv_base.specs.declared.constant.MemberReference.{MemberReference}
use Rattle.wv_base.specs.declared.insn.Insn.{Insn}
use Rattle.wv_base.specs.declared.insn.Insn.TheVariants as insns
use Rattle.wv_base.specs.Names.{is_class_name, is_name_unit, is_unqualified}
use Rattle.wv_base.specs.Opcodes.{bipush, return}
use Rattle.wv_base.proofs.FieldTypes.{some_is}
use Rattle.wv_model.specs.MemberTable.{meaning_of, read_in_target, body_in_target, overwritten}
use Rattle.wv_model.specs.PlainCode.{Role, Game, Mixin, AnyClass, IsPlainOpcode, IsReferenceCalling, IsInsnCalling, EndsWithReturn, system_out, println}
use Rattle.wv_model.specs.PlainMethod.{AreSame, IsBodyCalling, IsAnyMethod, IsPlainDescriptor}
use Rattle.wv_model.specs.PlainTyping.{Stack, Row, iconst, push as pushed, arithmetic, dropped, returned, read_out, printed, called, Leads}
use Rattle.wv_merge.specs.Plain.{IsPlain, IsPlainBody, IsPlainMethod}
use Rattle.wv_merge.specs.ThinClass.{IsNoArray, IsOwnName}

-- ---- Lists

pub all_weaker : {X : Type 0} (P Q : X → Type 0) (xs : List X) → ((x : X) → P x → Q x) → AllByRecursion P xs → AllByRecursion Q xs
all_weaker P Q [] f h = tt
all_weaker P Q (x ∷ xs) f h = (f x h.0, all_weaker P Q xs f h.1)

pub all_set : {X : Type 0} (P : X → Type 0) (xs : List X) (i : ℕ) (x : X) → AllByRecursion P xs → P x → AllByRecursion P (set xs i x)
all_set P [] i x h k = tt
all_set P (y ∷ xs) zero x h k = (k, h.1)
all_set P (y ∷ xs) (suc i) x h k = (h.0, all_set P xs i x h.1 k)

pub all_at : {X : Type 0} (P : X → Type 0) (xs : List X) (i : ℕ) (x : X) → slice_get xs i ≡ Some x → AllByRecursion P xs → P x
all_at P [] i x e h = cc
all_at P (y ∷ xs) zero x e h = subst P (some_is y x e) h.0
all_at P (y ∷ xs) (suc i) x e h = all_at P xs i x e h.1

pub all_contained : {X : Type 0} (P : X → Type 0) (xs : List X) (x : X) → AllByRecursion P xs → Contains xs x → P x
all_contained P xs x all (k, within, is) = subst P is (go xs k within all)
  where
    go : (ys : List _) (i : ℕ) → i < length ys → AllByRecursion P ys → P (get_or ys i x)
    go [] i lt h = absurd (omega arith)
    go (y ∷ ys) zero lt h = h.0
    go (y ∷ ys) (suc i) lt h = go ys i (omega arith) h.1

-- ---- Plain instructions

-- the same instructions, one case for each form
pub data IsSimple : Insn → Type 0 where
  plain : {op : ℕ} → IsPlainOpcode op → IsSimple (insns.Plain op)
  push : {op : ℕ} {value : _} → op ≡ bipush → FitsSigned w8 value → IsSimple (insns.Push op value)
  reference : {op : ℕ} {owner name descriptor : List ℕ} {interface : Bool} → interface ≡ false → IsReferenceCalling IsNoArray op (record { owner = owner; name = name; descriptor = descriptor })
      → IsSimple (insns.Reference op owner name descriptor interface)

pub simple : (insn : Insn) → IsPlain insn → IsSimple insn
simple (insns.Plain op) h = plain h
simple (insns.Push op value) h = push h.0 h.1
simple (insns.Reference op owner name descriptor interface) h = reference h.0 h.1
simple (insns.Load op value) h = absurd h
simple (insns.Local op slot wide) h = absurd h
simple (insns.Inc slot by wide) h = absurd h
simple (insns.Branch op to) h = absurd h
simple (insns.Table low other targets) h = absurd h
simple (insns.Lookup other cases) h = absurd h
simple (insns.Site bootstrap name descriptor) h = absurd h
simple (insns.Class op class) h = absurd h
simple (insns.NewArray kind) h = absurd h
simple (insns.MultiArray class dimensions) h = absurd h

pub all_simple : (code : List Insn) → AllByRecursion IsPlain code → AllByRecursion IsSimple code
all_simple code h = all_weaker IsPlain IsSimple code simple h

again : {insn : Insn} → IsSimple insn → IsPlain insn
again (plain is) = is
again (push is fits) = (is, fits)
again (reference member is) = (member, is)

all_again : (code : List Insn) → AllByRecursion IsSimple code → AllByRecursion IsPlain code
all_again [] h = tt
all_again (insn ∷ code) h = (again h.0, all_again code h.1)

pub some_body : (body : Option Body) (P : Body → Type 0) → IsSomeAnd body P → (b : Body) × (body ≡ Some b) × P b
some_body None P h = absurd h
some_body (Some b) P h = (b, refl, h)

-- ---- The name of a class is that of no array

no_first : (part : List ℕ) → is_unqualified (0x5B ∷ part) ≡ true → ⊥
no_first part e = let bad : false ≡ true = (and_parts (nat_lt 0 (length (0x5B ∷ part))) (list_all is_name_unit (0x5B ∷ part)) e).1 in cc

no_bracket : (rest : List ℕ) → is_class_name (0x5B ∷ rest) ≡ true → ⊥
no_bracket rest e = go (slice_split (λ u. u == 0x2F) rest) e
  where
    go : (parts : List (List ℕ)) → list_all is_unqualified (onto_first 0x5B parts) ≡ true → ⊥
    go [] e = no_first [] (and_parts (is_unqualified (0x5B ∷ [])) true e).0
    go (part ∷ parts) e = no_first part (and_parts (is_unqualified (0x5B ∷ part)) (list_all is_unqualified parts) e).0

pub class_no_array : (name : List ℕ) → is_class_name name ≡ true → IsNoArray name
class_no_array name is (rest, e) = no_bracket rest (subst (λ (units : List ℕ). is_class_name units ≡ true) e is)

-- ---- Code of the mixin as it is read in the target

pub owner_so : (P : List ℕ → Type 0) (mixin target owner : List ℕ) → P target → P owner → P (meaning_of mixin target owner)
owner_so P mixin target owner of_target of_owner = go (bytes_eq owner mixin)
  where
    go : (same : Bool) → P (cond same target owner)
    go true = of_target
    go false = of_owner

-- another class than the mixin is meant by its own name
other_owner : (mixin target owner : List ℕ) → mixin ≢ owner → meaning_of mixin target owner ≡ owner
other_owner mixin target owner other = go (bytes_eq owner mixin) (bytes_eq-Decides owner mixin)
  where
    go : (same : Bool) → Decides same (owner ≡ mixin) → cond same target owner ≡ owner
    go true decides = absurd (other (sym (decides.0 refl)))
    go false decides = refl

module _ (mixin target : List ℕ) (own : IsOwnName mixin) (no_array : IsNoArray target) where
  meant : MemberReference → MemberReference
  meant m = record m { owner = meaning_of mixin target m.owner }

  platform : (m : MemberReference) (known : MemberReference) → mixin ≢ known.owner → m ≡ known → record m { owner = meaning_of mixin target m.owner } ≡ known
  platform m known other is =
      ap (λ (r : MemberReference). record r { owner = meaning_of mixin target r.owner }) is ∙ ap (λ (owner : List ℕ). record known { owner = owner }) (other_owner mixin target known.owner other)

  reference_read : (op : ℕ) (m : MemberReference) → IsReferenceCalling IsNoArray op m → IsReferenceCalling IsNoArray op (record m { owner = meaning_of mixin target m.owner })
  reference_read op m (inl h) = inl (h.0, platform m system_out own.not_system h.1)
  reference_read op m (inr (inl h)) = inr (inl (h.0, platform m println own.not_stream h.1))
  reference_read op m (inr (inr h)) =
      inr (inr (h.0, record { owner = owner_so IsNoArray mixin target m.owner no_array h.1.owner; ordinary = h.1.ordinary; descriptor = h.1.descriptor }))

  insn_read : {insn : Insn} → IsSimple insn → IsSimple (read_in_target mixin target insn)
  insn_read (plain is) = plain is
  insn_read (push is fits) = push is fits
  insn_read (reference {op = op} {owner = owner} {name = name} {descriptor = descriptor} member is) = reference member (reference_read op (record { owner = owner; name = name; descriptor = descriptor }) is)

  pub insns_read : (code : List Insn) → AllByRecursion IsSimple code → AllByRecursion IsSimple (map (read_in_target mixin target) code)
  insns_read [] h = tt
  insns_read (insn ∷ code) h = (insn_read h.0, insns_read code h.1)

  return_read : (insn : Insn) → read_in_target mixin target insn ≡ insns.Plain return → insn ≡ insns.Plain return
  return_read (insns.Plain op) e = e
  return_read (insns.Push op value) e = e
  return_read (insns.Reference op owner name descriptor interface) e = cc
  return_read (insns.Load op value) e = e
  return_read (insns.Local op slot wide) e = e
  return_read (insns.Inc slot by wide) e = e
  return_read (insns.Branch op to) e = e
  return_read (insns.Table low other targets) e = e
  return_read (insns.Lookup other cases) e = e
  return_read (insns.Site bootstrap name descriptor) e = e
  return_read (insns.Class op class) e = e
  return_read (insns.NewArray kind) e = e
  return_read (insns.MultiArray class dimensions) e = e

  no_return : (code : List Insn) → AllByRecursion (λ insn. insn ≡ insns.Plain return → ⊥) code → AllByRecursion (λ insn. insn ≡ insns.Plain return → ⊥) (map (read_in_target mixin target) code)
  no_return [] h = tt
  no_return (insn ∷ code) h = (λ e. h.0 (return_read insn e), no_return code h.1)

  map_push : (front : List Insn) (last : Insn) → map (read_in_target mixin target) (front ++ last ∷ []) ≡ map (read_in_target mixin target) front ++ read_in_target mixin target last ∷ []
  map_push [] last = refl
  map_push (insn ∷ front) last = ap (λ (code : List Insn). read_in_target mixin target insn ∷ code) (map_push front last)

  ends_read : (code : List Insn) → EndsWithReturn code → EndsWithReturn (map (read_in_target mixin target) code)
  ends_read code h = record {
    front = map (read_in_target mixin target) h.front;
    last = ap (map (read_in_target mixin target)) h.last ∙ map_push h.front (insns.Plain return);
    only = no_return h.front h.only;
  }

  row_read : {insn : Insn} {taken put : Stack} → Row insn taken put → Row (read_in_target mixin target insn) taken put
  row_read (iconst low high) = iconst low high
  row_read (pushed e) = pushed e
  row_read (arithmetic e) = arithmetic e
  row_read (dropped e) = dropped e
  row_read (returned e) = returned e
  row_read (read_out e) = read_out e
  row_read (printed e) = printed e
  row_read (called e) = called e

  leads_read : (code : List Insn) (states : List (Stack × Stack)) → AllZip (λ insn state. Leads insn state.0 state.1) code states → AllZip (λ insn state. Leads insn state.0 state.1) (map (read_in_target mixin target) code) states
  leads_read [] states h = h
  leads_read (insn ∷ code) [] h = absurd h
  leads_read (insn ∷ code) (state ∷ states) h =
      (record { taken = h.0.taken; put = h.0.put; rest = h.0.rest; row = row_read h.0.row; from = h.0.from; to = h.0.to }, leads_read code states h.1)

  body_read : (descriptor other : List ℕ) (body : Body) → other ≡ descriptor → IsPlainBody descriptor body → IsPlainBody other (body_in_target mixin target body)
  body_read descriptor other body same h = record {
    plain = all_again (map (read_in_target mixin target) body.insns) (insns_read body.insns (all_simple body.insns h.plain));
    ends = ends_read body.insns h.ends;
    verifies = record {
      typing = record {
        later = h.verifies.typing.later;
        leads = leads_read body.insns (zip ([] ∷ h.verifies.typing.later) h.verifies.typing.later) h.verifies.typing.leads;
        within = h.verifies.typing.within;
      };
      words = h.verifies.words;
      parameters = rw same h.verifies.parameters;
      locals = h.verifies.locals;
    };
    no_ranges = refl;
    no_frames = refl;
  }

  pub method_read : (old origin : Member) → AreSame old origin → IsPlainMethod Game old → IsPlainMethod Mixin origin → IsPlainMethod Game (overwritten mixin target old origin)
  method_read old origin same was is =
      let b = some_body origin.body (IsPlainBody origin.descriptor) is.code in
      record {
        flags = was.flags;
        name = was.name;
        ordinary = was.ordinary;
        descriptor = was.descriptor;
        code = subst (λ (o : Option Body). IsSomeAnd (option_map (body_in_target mixin target) o) (IsPlainBody old.descriptor)) (sym b.1) (body_read origin.descriptor old.descriptor b.0 same.1 b.2);
      }

-- ---- Methods that may call those of any class

any_reference : (op : ℕ) (m : MemberReference) → IsReferenceCalling IsNoArray op m → IsReferenceCalling AnyClass op m
any_reference op m (inl h) = inl h
any_reference op m (inr (inl h)) = inr (inl h)
any_reference op m (inr (inr h)) = inr (inr (h.0, record { owner = tt; ordinary = h.1.ordinary; descriptor = h.1.descriptor }))

any_insn : {insn : Insn} → IsSimple insn → IsInsnCalling AnyClass insn
any_insn (plain is) = is
any_insn (push is fits) = (is, fits)
any_insn (reference {op = op} {owner = owner} {name = name} {descriptor = descriptor} member is) = (member, any_reference op (record { owner = owner; name = name; descriptor = descriptor }) is)

any_insns : (code : List Insn) → AllByRecursion IsSimple code → AllByRecursion (IsInsnCalling AnyClass) code
any_insns [] h = tt
any_insns (insn ∷ code) h = (any_insn h.0, any_insns code h.1)

pub any_method : (method : Member) → IsPlainMethod Game method → IsAnyMethod method
any_method method h =
    let b = some_body method.body (IsPlainBody method.descriptor) h.code in
    record {
      flags = h.flags;
      name = h.name;
      ordinary = h.ordinary;
      descriptor = h.descriptor;
      code = subst (λ (o : Option Body). IsSomeAnd o (IsBodyCalling AnyClass method.descriptor)) (sym b.1) (record {
        plain = any_insns b.0.insns (all_simple b.0.insns b.2.plain);
        ends = b.2.ends;
        verifies = b.2.verifies;
        no_ranges = b.2.no_ranges;
        no_frames = b.2.no_frames;
      });
    }
