-- A content means one body at most.
use Rattle.std.proofs.Common.{◌≡◌, ℕ, ◌+◌, ◌<◌, ℤ, Bool, false, List, [], ◌∷◌, get_or, Option, Some, None, refl, sym, ap, subst, ◌∙◌, inl, inr, arith}
use Rattle.std.specs.List.{AllByRecursion}
use Rattle.std.specs.List.Sorted.{IsStrictlyIncreasing}
use Rattle.std.proofs.lemmas.Bool.{cases_lt}
use Rattle.std.proofs.lemmas.Option.{slice_get-get_or, slice_get_within, get_or_from_slice_get}
use Rattle.wv_base.specs.declared.class_file.PoolEntry.{PoolEntry}
use Rattle.wv_base.specs.declared.class_file.Attribute.{Attribute}
use Rattle.wv_base.specs.declared.class_file.Body.{Body}
use Rattle.wv_base.specs.declared.class_file.ExceptionRange.{ExceptionRange}
use Rattle.wv_base.specs.declared.constant.Const.{Const}
use Rattle.wv_base.specs.declared.constant.Const.TheVariants as constants
use Rattle.wv_base.specs.declared.constant.MemberReference.{MemberReference}
use Rattle.wv_base.specs.declared.frame.Frame.{Frame}
use Rattle.wv_base.specs.declared.frame.FrameAt.{FrameAt}
use Rattle.wv_base.specs.declared.frame.VType.{VType}
use Rattle.wv_base.specs.declared.frame.VType.TheVariants as vtypes
use Rattle.wv_base.specs.declared.insn.Case.{Case}
use Rattle.wv_base.specs.declared.insn.Insn.{Insn}
use Rattle.wv_base.specs.declared.insn.Insn.TheVariants as insn
use Rattle.wv_base.specs.Opcodes.{putfield, invokeinterface}
use Rattle.wv_base.specs.Descriptor.{HasWords}
use Rattle.wv_insn.specs.declared.raw.Raw.{Raw}
use Rattle.wv_insn.specs.declared.raw.Raw.TheVariants as raw
use Rattle.wv_insn.specs.declared.raw.RawCase.{RawCase}
use Rattle.wv_pool.specs.Constants.{class_name, constant_of}
use Rattle.wv_pool.proofs.Behind.{some_is}
use Rattle.wv_frames.specs.Whole.{frames_from}
use Rattle.wv_code.specs.declared.raw_body.RawRange.{RawRange}
use Rattle.wv_code.specs.declared.raw_body.RawBody.{RawBody}
use Rattle.wv_code.specs.Body.{IsAt, IsEnd, Catches, IsRangeOf, AreRangesOf, IsTypeOf, AreTypesOf, IsFrameOf, AreFramesOf, frames_in, IsBodyOf}
use Rattle.wv_code.specs.Code.{AllMean}
use Rattle.wv_code.specs.Constants.{member_constant}
use Rattle.wv_code.specs.Meaning.{Leads, AllLead, AllCasesLead, IsFlagged, Means}
use Rattle.wv_code.proofs.Indices.{one_index}
use Rattle.wv_code.proofs.Lists.{AllByRecursion-at}
use Rattle.wv_code.proofs.Operands.{field_constant, method_constant}

pub one_value : {A : Type 0} (o : Option A) (a b : A) → o ≡ Some a → o ≡ Some b → a ≡ b
one_value o a b e f = some_is a b (sym e ∙ f)

-- ---- indices

one_lead : (offsets : List ℕ) (at : ℕ) (distance : ℤ) (to other : ℕ) → IsStrictlyIncreasing offsets → Leads offsets at distance to → Leads offsets at distance other → to ≡ other
one_lead offsets at distance to other ascend h k =
    let same : get_or offsets to 0 ≡ get_or offsets other 0 = cc (h.1, k.1) in
    one_index offsets to other (get_or offsets other 0) ascend (slice_get-get_or offsets to 0 h.0 ∙ ap (λ (z : ℕ). Some z) same) (slice_get-get_or offsets other 0 k.0)

one_leads : (offsets : List ℕ) (at : ℕ) (distances : List ℤ) (tos others : List ℕ) → IsStrictlyIncreasing offsets → AllLead offsets at distances tos → AllLead offsets at distances others → tos ≡ others
one_leads offsets at [] [] [] ascend h k = refl
one_leads offsets at [] [] (y ∷ others) ascend h k = absurd k
one_leads offsets at [] (x ∷ tos) others ascend h k = absurd h
one_leads offsets at (d ∷ distances) [] others ascend h k = absurd h
one_leads offsets at (d ∷ distances) (x ∷ tos) [] ascend h k = absurd k
one_leads offsets at (d ∷ distances) (x ∷ tos) (y ∷ others) ascend h k =
    let first : x ≡ y = one_lead offsets at d x y ascend h.0 k.0 in
    let rest : tos ≡ others = one_leads offsets at distances tos others ascend h.1 k.1 in
    cc

one_case : (offsets : List ℕ) (at : ℕ) (r : RawCase) (c d : Case) → IsStrictlyIncreasing offsets → (r.key ≡ c.key) × Leads offsets at r.offset c.to → (r.key ≡ d.key) × Leads offsets at r.offset d.to → c ≡ d
one_case offsets at r c d ascend h k =
    let to : c.to ≡ d.to = one_lead offsets at r.offset c.to d.to ascend h.1 k.1 in
    ap (λ (z : ℤ). record { key = z; to = c.to }) (sym h.0 ∙ k.0) ∙ ap (λ (z : ℕ). record { key = d.key; to = z }) to

one_cases : (offsets : List ℕ) (at : ℕ) (raws : List RawCase) (cases others : List Case) → IsStrictlyIncreasing offsets → AllCasesLead offsets at raws cases → AllCasesLead offsets at raws others → cases ≡ others
one_cases offsets at [] [] [] ascend h k = refl
one_cases offsets at [] [] (y ∷ others) ascend h k = absurd k
one_cases offsets at [] (x ∷ cases) others ascend h k = absurd h
one_cases offsets at (r ∷ raws) [] others ascend h k = absurd h
one_cases offsets at (r ∷ raws) (x ∷ cases) [] ascend h k = absurd k
one_cases offsets at (r ∷ raws) (x ∷ cases) (y ∷ others) ascend h k =
    let first : x ≡ y = one_case offsets at r x y ascend (h.0, h.1) (k.0, k.1) in
    let rest : cases ≡ others = one_cases offsets at raws cases others ascend h.2 k.2 in
    cc

one_class : (pool : List PoolEntry) (n : ℕ) (a b : List ℕ) → constant_of pool n ≡ Some (constants.Class a) → constant_of pool n ≡ Some (constants.Class b) → a ≡ b
one_class pool n a b e f = let same : ◌≡◌ {A = Const} (constants.Class a) (constants.Class b) = one_value (constant_of pool n) (constants.Class a) (constants.Class b) e f in cc

-- ---- instructions, by their raw ones

module _ (pool : List PoolEntry) (offsets : List ℕ) (at : ℕ) where
  pub plain_is : (op : ℕ) (i : Insn) → Means pool offsets at (raw.Plain op) i → i ≡ insn.Plain op
  plain_is op (insn.Plain o) h = ap (λ (z : ℕ). insn.Plain z) (sym h)
  plain_is op _ h = absurd h

  pub push_is : (op : ℕ) (value : ℤ) (i : Insn) → Means pool offsets at (raw.Push op value) i → i ≡ insn.Push op value
  push_is op value (insn.Push o v) h = cc
  push_is op value _ h = absurd h

  pub load_is : (op n : ℕ) (i : Insn) → Means pool offsets at (raw.Load op n) i → (c : Const) × (i ≡ insn.Load op c) × (constant_of pool n ≡ Some c)
  load_is op n (insn.Load o c) h = (c, ap (λ (z : ℕ). insn.Load z c) (sym h.0), h.1.0)
  load_is op n _ h = absurd h

  pub local_is : (op slot : ℕ) (wide : Bool) (i : Insn) → Means pool offsets at (raw.Local op slot wide) i → i ≡ insn.Local op slot wide
  local_is op slot wide (insn.Local o s w) h = cc
  local_is op slot wide _ h = absurd h

  pub inc_is : (slot : ℕ) (by : ℤ) (wide : Bool) (i : Insn) → Means pool offsets at (raw.Inc slot by wide) i → i ≡ insn.Inc slot by wide
  inc_is slot by wide (insn.Inc s b w) h = cc
  inc_is slot by wide _ h = absurd h

  pub branch_is : (op : ℕ) (distance : ℤ) (i : Insn) → Means pool offsets at (raw.Branch op distance) i → (to : ℕ) × (i ≡ insn.Branch op to) × Leads offsets at distance to
  branch_is op distance (insn.Branch o to) h = (to, ap (λ (z : ℕ). insn.Branch z to) (sym h.0), h.1)
  branch_is op distance _ h = absurd h

  pub table_is : (low high other : ℤ) (distances : List ℤ) (i : Insn) → Means pool offsets at (raw.Table low high other distances) i
      → (to : ℕ) × (tos : List ℕ) × (i ≡ insn.Table low to tos) × Leads offsets at other to × AllLead offsets at distances tos
  table_is low high other distances (insn.Table l to tos) h = (to, tos, ap (λ (z : ℤ). insn.Table z to tos) (sym h.0), h.2, h.3)
  table_is low high other distances _ h = absurd h

  pub lookup_is : (other : ℤ) (raws : List RawCase) (i : Insn) → Means pool offsets at (raw.Lookup other raws) i → (to : ℕ) × (cases : List Case) × (i ≡ insn.Lookup to cases) × Leads offsets at other to × AllCasesLead offsets at raws cases
  lookup_is other raws (insn.Lookup to cases) h = (to, cases, refl, h.0, h.1)
  lookup_is other raws _ h = absurd h

  -- a member with its flag
  abbrev pub member_insn : ℕ → MemberReference → Bool → Insn
  member_insn op m interface = insn.Reference op m.owner m.name m.descriptor interface

  pub reference_is : (op n : ℕ) (i : Insn) → Means pool offsets at (raw.Reference op n) i → (m : MemberReference) × (interface : Bool) × (i ≡ member_insn op m interface) × (constant_of pool n ≡ Some (member_constant op m interface)) × IsFlagged op interface
  reference_is op n (insn.Reference o owner name descriptor interface) h =
      let m : MemberReference = record { owner = owner; name = name; descriptor = descriptor } in
      (m, interface, ap (λ (z : ℕ). member_insn z m interface) (sym h.0), subst (λ (z : ℕ). constant_of pool n ≡ Some (member_constant z m interface)) (sym h.0) h.1.0, subst (λ (z : ℕ). IsFlagged z interface) (sym h.0) h.2)
  reference_is op n _ h = absurd h

  pub interface_is : (n count last : ℕ) (i : Insn) → Means pool offsets at (raw.Interface n count last) i
      → (m : MemberReference) × (interface : Bool) × (i ≡ member_insn invokeinterface m interface) × (constant_of pool n ≡ Some (member_constant invokeinterface m interface)) × ((words : ℕ) × HasWords m.descriptor words × (count ≡ words + 1))
  interface_is n count last (insn.Reference o owner name descriptor interface) h =
      let m : MemberReference = record { owner = owner; name = name; descriptor = descriptor } in
      (m, interface, ap (λ (z : ℕ). member_insn z m interface) h.0, subst (λ (z : ℕ). constant_of pool n ≡ Some (member_constant z m interface)) h.0 h.1.0, h.2)
  interface_is n count last _ h = absurd h

  pub site_is : (n : ℕ) (i : Insn) → Means pool offsets at (raw.Dynamic n) i → (b : ℕ) × (name : List ℕ) × (d : List ℕ) × (i ≡ insn.Site b name d) × (constant_of pool n ≡ Some (constants.InvokeDynamic b name d))
  site_is n (insn.Site b name d) h = (b, name, d, refl, h.0)
  site_is n _ h = absurd h

  pub class_is : (op n : ℕ) (i : Insn) → Means pool offsets at (raw.Class op n) i → (c : List ℕ) × (i ≡ insn.Class op c) × (constant_of pool n ≡ Some (constants.Class c))
  class_is op n (insn.Class o c) h = (c, ap (λ (z : ℕ). insn.Class z c) (sym h.0), h.1.0)
  class_is op n _ h = absurd h

  pub array_is : (kind : ℕ) (i : Insn) → Means pool offsets at (raw.NewArray kind) i → i ≡ insn.NewArray kind
  array_is kind (insn.NewArray k) h = ap (λ (z : ℕ). insn.NewArray z) (sym h)
  array_is kind _ h = absurd h

  pub multi_is : (n dimensions : ℕ) (i : Insn) → Means pool offsets at (raw.MultiArray n dimensions) i → (c : List ℕ) × (i ≡ insn.MultiArray c dimensions) × (constant_of pool n ≡ Some (constants.Class c))
  multi_is n dimensions (insn.MultiArray c d) h = (c, ap (λ (z : ℕ). insn.MultiArray c z) (sym h.1), h.0.0)
  multi_is n dimensions _ h = absurd h

  -- one member has a constant, with one flag
  one_member : (op : ℕ) (m r : MemberReference) (i j : Bool) → member_constant op m i ≡ member_constant op r j → IsFlagged op i → IsFlagged op j → member_insn op m i ≡ member_insn op r j
  one_member op m r i j e f g = elim (cases_lt putfield op) [
    | inl above ↦
        let same : ◌≡◌ {A = Const} (constants.Method m i) (constants.Method r j) = sym (method_constant op m i above) ∙ e ∙ method_constant op r j above in
        let members : m ≡ r = cc in
        let flags : i ≡ j = cc in
        ap (λ (x : MemberReference). member_insn op x i) members ∙ ap (λ (b : Bool). member_insn op r b) flags
    | inr below ↦
        let is : i ≡ false = f below in
        let are : j ≡ false = g below in
        let plain : member_constant op m false ≡ member_constant op r false = cc in
        let same : ◌≡◌ {A = Const} (constants.Field m) (constants.Field r) = sym (field_constant op m below) ∙ plain ∙ field_constant op r below in
        let members : m ≡ r = cc in
        ap (λ (x : MemberReference). member_insn op x i) members ∙ ap (λ (b : Bool). member_insn op r b) (is ∙ sym are)
  ]

  one_insn : (r : Raw) (i j : Insn) → IsStrictlyIncreasing offsets → Means pool offsets at r i → Means pool offsets at r j → i ≡ j
  one_insn (raw.Plain op) i j ascend h k = plain_is op i h ∙ sym (plain_is op j k)
  one_insn (raw.Push op value) i j ascend h k = push_is op value i h ∙ sym (push_is op value j k)
  one_insn (raw.Load op n) i j ascend h k = let a = load_is op n i h in let b = load_is op n j k in a.1 ∙ ap (λ (c : Const). insn.Load op c) (one_value (constant_of pool n) a.0 b.0 a.2 b.2) ∙ sym b.1
  one_insn (raw.Local op slot wide) i j ascend h k = local_is op slot wide i h ∙ sym (local_is op slot wide j k)
  one_insn (raw.Inc slot by wide) i j ascend h k = inc_is slot by wide i h ∙ sym (inc_is slot by wide j k)
  one_insn (raw.Branch op distance) i j ascend h k =
      let a = branch_is op distance i h in
      let b = branch_is op distance j k in
      a.1 ∙ ap (λ (z : ℕ). insn.Branch op z) (one_lead offsets at distance a.0 b.0 ascend a.2 b.2) ∙ sym b.1
  one_insn (raw.Table low high other distances) i j ascend h k =
      let a = table_is low high other distances i h in
      let b = table_is low high other distances j k in
      a.2 ∙ ap (λ (z : ℕ). insn.Table low z a.1) (one_lead offsets at other a.0 b.0 ascend a.3 b.3) ∙ ap (λ (z : List ℕ). insn.Table low b.0 z) (one_leads offsets at distances a.1 b.1 ascend a.4 b.4) ∙ sym b.2
  one_insn (raw.Lookup other raws) i j ascend h k =
      let a = lookup_is other raws i h in
      let b = lookup_is other raws j k in
      a.2 ∙ ap (λ (z : ℕ). insn.Lookup z a.1) (one_lead offsets at other a.0 b.0 ascend a.3 b.3) ∙ ap (λ (z : List Case). insn.Lookup b.0 z) (one_cases offsets at raws a.1 b.1 ascend a.4 b.4) ∙ sym b.2
  one_insn (raw.Reference op n) i j ascend h k =
      let a = reference_is op n i h in
      let b = reference_is op n j k in
      a.2 ∙ one_member op a.0 b.0 a.1 b.1 (one_value (constant_of pool n) (member_constant op a.0 a.1) (member_constant op b.0 b.1) a.3 b.3) a.4 b.4 ∙ sym b.2
  one_insn (raw.Interface n count last) i j ascend h k =
      let a = interface_is n count last i h in
      let b = interface_is n count last j k in
      a.2 ∙ one_member invokeinterface a.0 b.0 a.1 b.1 (one_value (constant_of pool n) (member_constant invokeinterface a.0 a.1) (member_constant invokeinterface b.0 b.1) a.3 b.3) (λ le. absurd (omega arith)) (λ le. absurd (omega arith)) ∙ sym b.2
  one_insn (raw.Dynamic n) i j ascend h k =
      let a = site_is n i h in
      let b = site_is n j k in
      let same : ◌≡◌ {A = Const} (constants.InvokeDynamic a.0 a.1 a.2) (constants.InvokeDynamic b.0 b.1 b.2) = one_value (constant_of pool n) (constants.InvokeDynamic a.0 a.1 a.2) (constants.InvokeDynamic b.0 b.1 b.2) a.4 b.4 in
      let first : a.0 ≡ b.0 = cc (same) in
      let second : a.1 ≡ b.1 = cc (same) in
      let third : a.2 ≡ b.2 = cc (same) in
      a.3 ∙ ap (λ (z : ℕ). insn.Site z a.1 a.2) first ∙ ap (λ (z : List ℕ). insn.Site b.0 z a.2) second ∙ ap (λ (z : List ℕ). insn.Site b.0 b.1 z) third ∙ sym b.3
  one_insn (raw.Class op n) i j ascend h k = let a = class_is op n i h in let b = class_is op n j k in a.1 ∙ ap (λ (z : List ℕ). insn.Class op z) (one_class pool n a.0 b.0 a.2 b.2) ∙ sym b.1
  one_insn (raw.NewArray kind) i j ascend h k = array_is kind i h ∙ sym (array_is kind j k)
  one_insn (raw.MultiArray n dimensions) i j ascend h k =
      let a = multi_is n dimensions i h in
      let b = multi_is n dimensions j k in
      a.1 ∙ ap (λ (z : List ℕ). insn.MultiArray z dimensions) (one_class pool n a.0 b.0 a.2 b.2) ∙ sym b.1

one_insns : (pool : List PoolEntry) (offsets : List ℕ) (raws : List Raw) (ats : List ℕ) (insns others : List Insn) → IsStrictlyIncreasing offsets → AllMean pool offsets raws ats insns → AllMean pool offsets raws ats others → insns ≡ others
one_insns pool offsets [] [] [] [] ascend h k = refl
one_insns pool offsets [] [] [] (y ∷ others) ascend h k = absurd k
one_insns pool offsets [] [] (x ∷ insns) others ascend h k = absurd h
one_insns pool offsets [] (at ∷ ats) insns others ascend h k = absurd h
one_insns pool offsets (r ∷ raws) [] insns others ascend h k = absurd h
one_insns pool offsets (r ∷ raws) (at ∷ ats) [] others ascend h k = absurd h
one_insns pool offsets (r ∷ raws) (at ∷ ats) (x ∷ insns) [] ascend h k = absurd k
one_insns pool offsets (r ∷ raws) (at ∷ ats) (x ∷ insns) (y ∷ others) ascend h k =
    let first : x ≡ y = one_insn pool offsets at r x y ascend h.0 k.0 in
    let rest : insns ≡ others = one_insns pool offsets raws ats insns others ascend h.1 k.1 in
    cc

-- ---- ranges

one_end : (offsets : List ℕ) (len at i j : ℕ) → IsStrictlyIncreasing offsets → AllByRecursion (λ o. o < len) offsets → IsEnd offsets len i at → IsEnd offsets len j at → i ≡ j
one_end offsets len at i j ascend within (inl h) (inl k) = one_index offsets i j at ascend h k
one_end offsets len at i j ascend within (inl h) (inr k) =
    absurd (omega (arith, AllByRecursion-at (λ o. o < len) offsets i 0 (slice_get_within offsets i at h) within, get_or_from_slice_get offsets i at 0 h, k.1))
one_end offsets len at i j ascend within (inr h) (inl k) =
    absurd (omega (arith, AllByRecursion-at (λ o. o < len) offsets j 0 (slice_get_within offsets j at k) within, get_or_from_slice_get offsets j at 0 k, h.1))
one_end offsets len at i j ascend within (inr h) (inr k) = h.0 ∙ sym k.0

one_catch : (pool : List PoolEntry) (n : ℕ) (a b : Option (List ℕ)) → Catches pool n a → Catches pool n b → a ≡ b
one_catch pool n None None h k = refl
one_catch pool n None (Some b) h k = let none : class_name pool 0 ≡ Some b = subst (λ (z : ℕ). class_name pool z ≡ Some b) h k in absurd cc
one_catch pool n (Some a) None h k = let none : class_name pool 0 ≡ Some a = subst (λ (z : ℕ). class_name pool z ≡ Some a) k h in absurd cc
one_catch pool n (Some a) (Some b) h k = ap (λ (z : List ℕ). Some z) (one_value (class_name pool n) a b h k)

one_range : (pool : List PoolEntry) (offsets : List ℕ) (len : ℕ) (r : RawRange) (a b : ExceptionRange) → IsStrictlyIncreasing offsets → AllByRecursion (λ o. o < len) offsets → IsRangeOf pool offsets len r a → IsRangeOf pool offsets len r b → a ≡ b
one_range pool offsets len r a b ascend within h k =
    let start : a.start ≡ b.start = one_index offsets a.start b.start r.start ascend h.0 k.0 in
    let end : a.end ≡ b.end = one_end offsets len r.end a.end b.end ascend within h.1 k.1 in
    let handler : a.handler ≡ b.handler = one_index offsets a.handler b.handler r.handler ascend h.2 k.2 in
    let catch : a.catch ≡ b.catch = one_catch pool r.catch a.catch b.catch h.3 k.3 in
    ap (λ (z : ℕ). record { start = z; end = a.end; handler = a.handler; catch = a.catch }) start ∙ ap (λ (z : ℕ). record { start = b.start; end = z; handler = a.handler; catch = a.catch }) end
    ∙ ap (λ (z : ℕ). record { start = b.start; end = b.end; handler = z; catch = a.catch }) handler ∙ ap (λ (z : Option (List ℕ)). record { start = b.start; end = b.end; handler = b.handler; catch = z }) catch

one_ranges : (pool : List PoolEntry) (offsets : List ℕ) (len : ℕ) (raws : List RawRange) (ranges others : List ExceptionRange) → IsStrictlyIncreasing offsets → AllByRecursion (λ o. o < len) offsets → AreRangesOf pool offsets len raws ranges
    → AreRangesOf pool offsets len raws others → ranges ≡ others
one_ranges pool offsets len [] [] [] ascend within h k = refl
one_ranges pool offsets len [] [] (y ∷ others) ascend within h k = absurd k
one_ranges pool offsets len [] (x ∷ ranges) others ascend within h k = absurd h
one_ranges pool offsets len (r ∷ raws) [] others ascend within h k = absurd h
one_ranges pool offsets len (r ∷ raws) (x ∷ ranges) [] ascend within h k = absurd k
one_ranges pool offsets len (r ∷ raws) (x ∷ ranges) (y ∷ others) ascend within h k =
    let first : x ≡ y = one_range pool offsets len r x y ascend within h.0 k.0 in
    let rest : ranges ≡ others = one_ranges pool offsets len raws ranges others ascend within h.1 k.1 in
    cc

-- ---- frames

made_is : (offsets : List ℕ) (at : ℕ) (t : VType) → IsTypeOf offsets (vtypes.Uninitialized at) t → (index : ℕ) × (t ≡ vtypes.Uninitialized index) × IsAt offsets index at
made_is offsets at (vtypes.Uninitialized index) h = (index, refl, h)
made_is offsets at _ h = absurd h

one_type : (offsets : List ℕ) (raw a b : VType) → IsStrictlyIncreasing offsets → IsTypeOf offsets raw a → IsTypeOf offsets raw b → a ≡ b
one_type offsets (vtypes.Uninitialized at) a b ascend h k =
    let i = made_is offsets at a h in
    let j = made_is offsets at b k in
    i.1 ∙ ap (λ (z : ℕ). vtypes.Uninitialized z) (one_index offsets i.0 j.0 at ascend i.2 j.2) ∙ sym j.1
one_type offsets _ a b ascend h k = sym h ∙ k

one_types : (offsets : List ℕ) (raws ts others : List VType) → IsStrictlyIncreasing offsets → AreTypesOf offsets raws ts → AreTypesOf offsets raws others → ts ≡ others
one_types offsets [] [] [] ascend h k = refl
one_types offsets [] [] (y ∷ others) ascend h k = absurd k
one_types offsets [] (x ∷ ts) others ascend h k = absurd h
one_types offsets (r ∷ raws) [] others ascend h k = absurd h
one_types offsets (r ∷ raws) (x ∷ ts) [] ascend h k = absurd k
one_types offsets (r ∷ raws) (x ∷ ts) (y ∷ others) ascend h k =
    let first : x ≡ y = one_type offsets r x y ascend h.0 k.0 in
    let rest : ts ≡ others = one_types offsets raws ts others ascend h.1 k.1 in
    cc

one_frame : (offsets : List ℕ) (raw a b : FrameAt) → IsStrictlyIncreasing offsets → IsFrameOf offsets raw a → IsFrameOf offsets raw b → a ≡ b
one_frame offsets raw a b ascend h k =
    let at : a.at ≡ b.at = one_index offsets a.at b.at raw.at ascend h.0 k.0 in
    let locals : a.frame.locals ≡ b.frame.locals = one_types offsets raw.frame.locals a.frame.locals b.frame.locals ascend h.1 k.1 in
    let stack : a.frame.stack ≡ b.frame.stack = one_types offsets raw.frame.stack a.frame.stack b.frame.stack ascend h.2 k.2 in
    let flag : a.frame.this_uninitialized ≡ b.frame.this_uninitialized = sym h.3 ∙ k.3 in
    let frames : a.frame ≡ b.frame =
    ap (λ (z : List VType). record { locals = z; stack = a.frame.stack; this_uninitialized = a.frame.this_uninitialized }) locals
    ∙ ap (λ (z : List VType). record { locals = b.frame.locals; stack = z; this_uninitialized = a.frame.this_uninitialized }) stack
    ∙ ap (λ (z : Bool). record { locals = b.frame.locals; stack = b.frame.stack; this_uninitialized = z }) flag
    in
    ap (λ (z : ℕ). record { at = z; frame = a.frame }) at ∙ ap (λ (z : Frame). record { at = b.at; frame = z }) frames

one_frames : (offsets : List ℕ) (raws fs others : List FrameAt) → IsStrictlyIncreasing offsets → AreFramesOf offsets raws fs → AreFramesOf offsets raws others → fs ≡ others
one_frames offsets [] [] [] ascend h k = refl
one_frames offsets [] [] (y ∷ others) ascend h k = absurd k
one_frames offsets [] (x ∷ fs) others ascend h k = absurd h
one_frames offsets (r ∷ raws) [] others ascend h k = absurd h
one_frames offsets (r ∷ raws) (x ∷ fs) [] ascend h k = absurd k
one_frames offsets (r ∷ raws) (x ∷ fs) (y ∷ others) ascend h k =
    let first : x ≡ y = one_frame offsets r x y ascend h.0 k.0 in
    let rest : fs ≡ others = one_frames offsets raws fs others ascend h.1 k.1 in
    cc

-- ---- bodies

pub one_body : (pool : List PoolEntry) (first : Frame) (raw : RawBody) (a b : Body) → IsStrictlyIncreasing raw.code.offsets → AllByRecursion (λ o. o < raw.len) raw.code.offsets → IsBodyOf pool first raw a → IsBodyOf pool first raw b → a ≡ b
one_body pool first raw a b ascend within h k =
    let stack : a.max_stack ≡ b.max_stack = h.stack ∙ sym k.stack in
    let locals : a.max_locals ≡ b.max_locals = h.locals ∙ sym k.locals in
    let insns : a.insns ≡ b.insns = one_insns pool raw.code.offsets raw.code.raws raw.code.offsets a.insns b.insns ascend h.insns k.insns in
    let ranges : a.ranges ≡ b.ranges = one_ranges pool raw.code.offsets raw.len raw.ranges a.ranges b.ranges ascend within h.ranges k.ranges in
    let spelled : h.spelled ≡ k.spelled = one_value (frames_from pool 0 first.locals (frames_in raw.attributes)) h.spelled k.spelled h.whole k.whole in
    let frames : a.frames ≡ b.frames = one_frames raw.code.offsets k.spelled a.frames b.frames ascend (subst (λ (fs : List FrameAt). AreFramesOf raw.code.offsets fs a.frames) spelled h.frames) k.frames in
    let kept : a.kept ≡ b.kept = h.kept ∙ sym k.kept in
    ap (λ (z : ℕ). record a { max_stack = z }) stack
    ∙ ap (λ (z : ℕ). record a { max_stack = b.max_stack; max_locals = z }) locals
    ∙ ap (λ (z : List Insn). record a { max_stack = b.max_stack; max_locals = b.max_locals; insns = z }) insns
    ∙ ap (λ (z : List ExceptionRange). record a { max_stack = b.max_stack; max_locals = b.max_locals; insns = b.insns; ranges = z }) ranges
    ∙ ap (λ (z : List FrameAt). record a { max_stack = b.max_stack; max_locals = b.max_locals; insns = b.insns; ranges = b.ranges; frames = z }) frames
    ∙ ap (λ (z : List Attribute). record b { kept = z }) kept
