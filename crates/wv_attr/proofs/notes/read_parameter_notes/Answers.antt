use Rattle.std.proofs.Common.{◌≡◌, ℕ, ◌<◌, List, ◌∷◌, length, get_or, Err, sym, subst, ap, ◌∙◌, refl, true, false, inl, arith}
use Rattle.std.specs.List.{AllByRecursion}
use Rattle.std.proofs.lemmas.Result.{err_from_is_err_and}
use Rattle.wv_base.specs.declared.fault.ClassFault.{ClassFault}
use Rattle.wv_base.specs.declared.fault.ClassFault.TheVariants as faults
use Rattle.wv_base.specs.declared.note.Note.{Note}
use Rattle.wv_attr.specs.declared.mark.Mark.{Mark}
use Rattle.wv_attr.specs.Groups.{Follows}
use Rattle.wv_attr.specs.Layout.{lists, GivesParts}
use Rattle.wv_attr.specs.References.{IsSound}
use Rattle.wv_attr.specs.Meanings.{AreListed, GivesNotes}
use Rattle.wv_attr.proofs.Parameters.{too_long_lists}
use Rattle.wv_attr.proofs.Uniqueness.{sound_unbroken, listed_one}
use Rattle.wv_attr.proofs.notes.read_parameter_notes.Goals as goal

gives_none : (fault : ClassFault) (parts : List Mark) (notes : List Note) → GivesParts (Err fault) parts → GivesNotes (Err fault) notes
gives_none faults.Memory parts notes g = tt
gives_none (faults.Layout at) parts notes g = g
gives_none (faults.Reference at) parts notes g = g

first_small : (bytes : List ℕ) (count : ℕ) (rest : List ℕ) → ((i : ℕ) → get_or bytes i 0 < 256) → bytes ≡ count ∷ rest → count < 256
first_small bytes count rest small e = subst (λ (k : ℕ). k < 256) (ap (λ (t : List ℕ). get_or t 0 0) e) (small 0)

pub returns-then-not-is_short-clause-fault : goal.returns-then-not-is_short-clause-fault
returns-then-not-is_short-clause-fault c = inl (too_long_lists c.args.bytes.now (λ small. let bad : false ≡ true = c.if-not-is_short.ensures.1 small in absurd cc))

pub returns-then-not-is_short-clause-only : goal.returns-then-not-is_short-clause-only
returns-then-not-is_short-clause-only c = λ notes a. let bad : false ≡ true = c.if-not-is_short.ensures.1 a.table.small in absurd cc

pub returns-in_err-parts-clause-only : goal.returns-in_err-parts-clause-only
returns-in_err-parts-clause-only c =
    let p = err_from_is_err_and c.from_residual.result c.from_residual.ensures.1 in
    rw (p.1, p.2) (λ notes a. gives_none c.in_err-parts.field-0.0 a.parts notes (c.in_err-parts.ensures.only refl a.parts a.table))

pub returns-in-Some-clause-only : goal.returns-in-Some-clause-only
returns-in-Some-clause-only c = λ notes a.
    let same = c.deref.ensures.value ∙ c.in_ok-parts.ensures.only refl a.parts a.table in
    sound_unbroken c.args.pool.now c.deref.result.now c.in-Some.place (subst (AllByRecursion (IsSound c.args.pool.now)) (sym same) a.sound) c.in-Some.ensures.found

pub parameter_notes_of-requires-clause-layout : goal.parameter_notes_of-requires-clause-layout
parameter_notes_of-requires-clause-layout c =
    let t = c.in_ok-parts.ensures.found.1 in
    let small = first_small c.args.bytes.now t.count t.rest (λ i. omega (arith, c.type_inv.bytes i)) t.starts in
    (length t.rest, t.count, omega arith, subst (λ (ms : List Mark). Follows (length t.rest) (lists t.count) ms) (sym c.deref-2.ensures.value) t.table.follows)

pub returns-clause-only : goal.returns-clause-only
returns-clause-only c = λ notes a.
    let same = c.deref-2.ensures.value ∙ c.in_ok-parts.ensures.only refl a.parts a.table in
    listed_one c.args.pool.now c.args.visible c.in_ok-parameter_notes_of.ensures (subst (AreListed c.args.pool.now c.args.visible 0 notes) (sym same) a.notes_are)
