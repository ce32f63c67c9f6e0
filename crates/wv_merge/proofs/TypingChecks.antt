-- The state behind an instruction is the one to which its row leads, and a check by states says whether there is a typing.
use Rattle.std.proofs.Common.{◌≡◌, ℕ, suc, ◌+◌, ◌==◌, ◌||◌, add-one, drop-cons, ◌<◌, ◌≤◌, nat_le, Bool, true, false, ◌&&◌, cond, if◌then◌else◌, ◌⊎◌, inl, inr, List, [], ◌∷◌, ◌++◌, length, drop, get_or, Option, Some, None, Err, refl, sym, ap, ◌∙◌, arith, tests, rules}
use Rattle.std.proofs.lemmas.Bool.{leb-true, le-leb}
use Rattle.std.proofs.lemmas.Bool.Decides.{nat_tests}
use Rattle.std.specs.Cmp.Derive.{both_true}
use Rattle.std.proofs.lemmas.Option.{option_and_then_some}
use Rattle.std.proofs.lemmas.Grind.{common_steps}
use Rattle.std.specs.List.{AllByRecursion, AllZip, zip}
use Rattle.wv_base.specs.declared.frame.VType.{VType}
use Rattle.wv_base.specs.declared.frame.VType.TheVariants as types
use Rattle.wv_base.specs.declared.insn.Insn.{Insn}
use Rattle.wv_base.specs.declared.insn.Insn.TheVariants as insns
use Rattle.wv_base.specs.Opcodes.{iconst_0, iconst_5, pop, iadd, imul, return, getstatic, invokevirtual, invokestatic}
use Rattle.wv_model.specs.PlainTyping.{Stack, print_stream, Row, iconst, push, arithmetic, dropped, returned, read_out, printed, called, Leads, HasTyping}
use Rattle.wv_merge.specs.declared.typing.Kind.{Kind}
use Rattle.wv_merge.specs.declared.typing.Kind.TheVariants as kinds
use Rattle.wv_merge.specs.Checking as checking
use Rattle.wv_merge.specs.declared.fault.TypingFault.{TypingFault}
use Rattle.wv_merge.specs.declared.fault.TypingFault.TheVariants as faults
use Rattle.wv_merge.specs.Checking.{Answers, IsNext, type_of, is_of, taken, added, next_plain, next_push, next_reference, next, goes_on, checks}

-- ---- A row leads to the next state

row_next : {insn : Insn} {before after : Stack} (rest : Stack) → Row insn before after → next insn (before ++ rest) ≡ Some (after ++ rest)
row_next rest (iconst low high) = grind (arith, nat_tests)
row_next rest (push e) = rw e refl
row_next rest (arithmetic (inl e)) = rw e refl
row_next rest (arithmetic (inr e)) = rw e refl
row_next rest (dropped e) = rw e refl
row_next rest (returned e) = rw e refl
row_next rest (read_out e) = rw e refl
row_next rest (printed e) = rw e refl
row_next rest (called e) = rw e refl

pub leads_next : {insn : Insn} {before after : Stack} → Leads insn before after → next insn before ≡ Some after
leads_next {insn} leads = ap (next insn) leads.from ∙ row_next leads.rest leads.row ∙ ap Some (sym leads.to)

-- ---- The next state is one to which a row leads

if_cases : {A : Type 0} (b : Bool) (o p : Option A) (x : A) → cond b o p ≡ Some x → ((b ≡ true) × (o ≡ Some x)) ⊎ ((b ≡ false) × (p ≡ Some x))
if_cases true o p x e = inl (refl, e)
if_cases false o p x e = inr (refl, e)

if_some : {A : Type 0} (b : Bool) (x y : A) → cond b (Some x) None ≡ Some y → (b ≡ true) × (x ≡ y)
if_some true x y e = (refl, cc)
if_some false x y e = cc

type_is : (kind : Kind) (type : VType) → is_of kind type ≡ true → type ≡ type_of kind
type_is kinds.Int types.Int e = refl
type_is kinds.Int types.Top e = cc
type_is kinds.Int types.Float e = cc
type_is kinds.Int types.Long e = cc
type_is kinds.Int types.Double e = cc
type_is kinds.Int types.Null e = cc
type_is kinds.Int types.UninitializedThis e = cc
type_is kinds.Int (types.Uninitialized place) e = cc
type_is kinds.Int (types.Class name) e = cc
type_is kinds.Stream types.Int e = cc
type_is kinds.Stream types.Top e = cc
type_is kinds.Stream types.Float e = cc
type_is kinds.Stream types.Long e = cc
type_is kinds.Stream types.Double e = cc
type_is kinds.Stream types.Null e = cc
type_is kinds.Stream types.UninitializedThis e = cc
type_is kinds.Stream (types.Uninitialized place) e = cc
type_is kinds.Stream (types.Class name) e = ap types.Class (search (rules, tests))

taken_from : (kind : Kind) (stack rest : Stack) → taken kind stack ≡ Some rest → stack ≡ type_of kind ∷ rest
taken_from kind [] rest e = cc
taken_from kind (top ∷ below) rest e =
    let found = if_some (is_of kind top) below rest e in
    let same = type_is kind top found.0 in
    let below_same = found.1 in
    cc

added_leads : (op : ℕ) (before after : Stack) → (op ≡ iadd) ⊎ (op ≡ imul) → added before ≡ Some after → Leads (insns.Plain op) before after
added_leads op before after which e =
    option_and_then_some _ (taken kinds.Int before) after e
    (λ one first second.
    option_and_then_some _ (taken kinds.Int one) after second
    (λ rest third last.
    let a = taken_from kinds.Int before one first in
    let b = taken_from kinds.Int one rest third in
    record {
      taken = types.Int ∷ types.Int ∷ [];
      put = types.Int ∷ [];
      rest = rest;
      row = arithmetic which;
      from = cc;
      to = cc;
    }))

dropped_leads : (op : ℕ) (before after : Stack) → op ≡ pop → checking.dropped before ≡ Some after → Leads (insns.Plain op) before after
dropped_leads op [] after which e = cc
dropped_leads op (top ∷ rest) after which e =
    record { taken = top ∷ []; put = []; rest = rest; row = dropped which; from = refl; to = cc }

plain_leads : (op : ℕ) (before after : Stack) → next_plain op before ≡ Some after → Leads (insns.Plain op) before after
plain_leads op before after e =
    let other_than_pop : Option Stack = if op == return then Some before else None in
    let other_than_add : Option Stack = if op == pop then checking.dropped before else other_than_pop in
    let other_than_const : Option Stack = if op == iadd || op == imul then added before else other_than_add in
    elim (if_cases (nat_le iconst_0 op && nat_le op iconst_5) (Some (types.Int ∷ before)) other_than_const after e) [
      | inl a ↦
          record { taken = []; put = types.Int ∷ []; rest = before; row = iconst (grind (arith, nat_tests)) (grind (arith, nat_tests)); from = refl; to = cc }
      | inr a ↦
          elim (if_cases (op == iadd || op == imul) (added before) other_than_add after a.1) [
            | inl b ↦ added_leads op before after (grind (arith, nat_tests)) b.1
            | inr b ↦
                elim (if_cases (op == pop) (checking.dropped before) other_than_pop after b.1) [
                  | inl d ↦ dropped_leads op before after (grind (arith, nat_tests)) d.1
                  | inr d ↦
                      let found = if_some _ before after d.1 in
                      record { taken = []; put = []; rest = before; row = returned (grind (arith, nat_tests)); from = refl; to = sym found.1 }
                ]
          ]
    ]

printed_leads : (op : ℕ) (owner name descriptor : List ℕ) (interface : Bool) (before after : Stack) → op ≡ invokevirtual → checking.printed before ≡ Some after → Leads (insns.Reference op owner name descriptor interface) before after
printed_leads op owner name descriptor interface before after which e =
    option_and_then_some _ (taken kinds.Int before) after e
    (λ one first second.
    let a = taken_from kinds.Int before one first in
    let b = taken_from kinds.Stream one after second in
    record { taken = types.Int ∷ print_stream ∷ []; put = []; rest = after; row = printed which; from = cc; to = refl })

reference_leads : (op : ℕ) (owner name descriptor : List ℕ) (interface : Bool) (before after : Stack) → next_reference op before ≡ Some after → Leads (insns.Reference op owner name descriptor interface) before after
reference_leads op owner name descriptor interface before after e =
    let other_than_print : Option Stack = if op == invokestatic then Some before else None in
    let other_than_get : Option Stack = if op == invokevirtual then checking.printed before else other_than_print in
    elim (if_cases (op == getstatic) (Some (print_stream ∷ before)) other_than_get after e) [
      | inl a ↦
          record { taken = []; put = print_stream ∷ []; rest = before; row = read_out (grind (arith, nat_tests)); from = refl; to = cc }
      | inr a ↦
          elim (if_cases (op == invokevirtual) (checking.printed before) other_than_print after a.1) [
            | inl b ↦ printed_leads op owner name descriptor interface before after (grind (arith, nat_tests)) b.1
            | inr b ↦
                let found = if_some _ before after b.1 in
                record { taken = []; put = []; rest = before; row = called (grind (arith, nat_tests)); from = refl; to = sym found.1 }
          ]
    ]

push_leads : (op : ℕ) (value : _) (before after : Stack) → next_push op before ≡ Some after → Leads (insns.Push op value) before after
push_leads op value before after e =
    let found = if_some _ (types.Int ∷ before) after e in
    record { taken = []; put = types.Int ∷ []; rest = before; row = push (grind (arith, nat_tests)); from = refl; to = sym found.1 }

pub next_leads : (insn : Insn) (before after : Stack) → next insn before ≡ Some after → Leads insn before after
next_leads (insns.Plain op) before after e = plain_leads op before after e
next_leads (insns.Push op value) before after e = push_leads op value before after e
next_leads (insns.Reference op owner name descriptor interface) before after e =
    reference_leads op owner name descriptor interface before after e
next_leads (insns.Load op value) before after e = cc
next_leads (insns.Local op slot wide) before after e = cc
next_leads (insns.Inc slot by wide) before after e = cc
next_leads (insns.Branch op to) before after e = cc
next_leads (insns.Table low other targets) before after e = cc
next_leads (insns.Lookup other cases) before after e = cc
next_leads (insns.Site bootstrap name descriptor) before after e = cc
next_leads (insns.Class op class) before after e = cc
next_leads (insns.NewArray kind) before after e = cc
next_leads (insns.MultiArray class dimensions) before after e = cc

-- ---- A typing from a state

-- a typing from this state
abbrev TypingFrom : ℕ → Stack → List Insn → Type 0
TypingFrom max_stack stack insns =
    (later : List Stack) × AllZip (λ insn states. Leads insn states.0 states.1) insns (zip (stack ∷ later) later)
    × AllByRecursion (λ state. length state ≤ max_stack) later

both : (a b : Bool) → (a && b) ≡ true → (a ≡ true) × (b ≡ true)
both true b e = (refl, e)
both false b e = cc

state_typing : (max_stack : ℕ) (stack : Stack) (insn : Insn) (insns : List Insn) (found : Option Stack) → next insn stack ≡ found
    → ((after : Stack) → checks max_stack after insns ≡ true → TypingFrom max_stack after insns)
    → goes_on max_stack (λ after. checks max_stack after insns) found ≡ true
    → TypingFrom max_stack stack (insn ∷ insns)
state_typing max_stack stack insn insns None is more e = cc
state_typing max_stack stack insn insns (Some after) is more e =
    let parts = both (nat_le (length after) max_stack) (checks max_stack after insns) e in
    let rest = more after parts.1 in
    (after ∷ rest.0, (next_leads insn stack after is, rest.1), (leb-true (length after) max_stack parts.0, rest.2))

typing_from : (max_stack : ℕ) (stack : Stack) (insns : List Insn) → checks max_stack stack insns ≡ true → TypingFrom max_stack stack insns
typing_from max_stack stack [] e = ([], tt, tt)
typing_from max_stack stack (insn ∷ insns) e =
    state_typing max_stack stack insn insns (next insn stack) refl (λ after. typing_from max_stack after insns) e

checks_from : (max_stack : ℕ) (stack : Stack) (insns : List Insn) (later : List Stack)
    → AllZip (λ insn states. Leads insn states.0 states.1) insns (zip (stack ∷ later) later)
    → AllByRecursion (λ state. length state ≤ max_stack) later → checks max_stack stack insns ≡ true
checks_from max_stack stack [] later leads within = refl
checks_from max_stack stack (insn ∷ insns) [] leads within = absurd leads
checks_from max_stack stack (insn ∷ insns) (after ∷ later) leads within =
    rw (leads_next leads.0) (both_true (le-leb (length after) max_stack within.0) (checks_from max_stack after insns later leads.1 within.1))

pub typing_of_checks : (max_stack : ℕ) (insns : List Insn) → checks max_stack [] insns ≡ true → HasTyping max_stack insns
typing_of_checks max_stack insns e =
    let found = typing_from max_stack [] insns e in
    record { later = found.0; leads = found.1; within = found.2 }

pub checks_of_typing : (max_stack : ℕ) (insns : List Insn) → HasTyping max_stack insns → checks max_stack [] insns ≡ true
checks_of_typing max_stack insns typing = checks_from max_stack [] insns typing.later typing.leads typing.within

-- ---- The end of the check

pub checks_stop : (max_stack : ℕ) (stack : Stack) (insns : List Insn) (i : ℕ) (insn : Insn) → i < length insns → insn ≡ get_or insns i insn
    → next insn stack ≡ None → checks max_stack stack (drop i insns) ≡ false
checks_stop max_stack stack insns i insn within is found =
    let cut : drop i insns ≡ insn ∷ drop (i + 1) insns = rw (add-one, drop-cons insns i insn) (ap (λ x. x ∷ drop (suc i) insns) (sym is)) in
    rw cut (rw found refl)

pub checks_end : (max_stack : ℕ) (stack : Stack) (insns : List Insn) (i : ℕ) → length insns ≤ i → checks max_stack stack (drop i insns) ≡ true
checks_end max_stack stack insns i over =
    let none : drop i insns ≡ [] = grind (arith, common_steps) in rw none refl

-- ---- What the check tells

pub no_typing : (max_stack : ℕ) (insns : List Insn) → checks max_stack [] insns ≡ false → HasTyping max_stack insns → ⊥
no_typing max_stack insns fails typing = let holds = checks_of_typing max_stack insns typing in cc

pub stop_tells : (fault : TypingFault) (max_stack : ℕ) (stack after : Stack) (insns : List Insn) (i : ℕ) (insn : Insn) → i < length insns → insn ≡ get_or insns i insn
    → checks max_stack [] insns ≡ checks max_stack stack (drop i insns) → IsNext {T = Unit {0}} (Err fault) (next insn stack) after → Answers {T = Unit {0}} (Err fault) (checks max_stack [] insns)
stop_tells faults.Untyped max_stack stack after insns i insn within is kept found =
    kept ∙ (checks_stop max_stack stack insns i insn within is found)
stop_tells faults.Memory max_stack stack after insns i insn within is kept found = tt
