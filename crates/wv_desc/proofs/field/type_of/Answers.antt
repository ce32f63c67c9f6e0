use Rattle.std.proofs.Common.{length, sym, ◌∙◌}
use Rattle.std.proofs.lemmas.Bool.{eqb-true}
use Rattle.std.proofs.lemmas.List.{nil_from_length}
use Rattle.wv_desc.proofs.Reading.{whole_is, nothing_whole, more_behind}
use Rattle.wv_desc.specs.Front.{field_of}
use Rattle.wv_desc.proofs.field.type_of.Goals as goal

pub returns-in_default-clause-none : goal.returns-in_default-clause-none
returns-in_default-clause-none c = nothing_whole c.args.units.now c.in_default.ensures

pub returns-then-not-is_empty-clause-none : goal.returns-then-not-is_empty-clause-none
returns-then-not-is_empty-clause-none c =
    more_behind c.args.units.now c.in-Some.rest.now (field_of c.in-Some.field) c.in-Some.ensures c.if-not-is_empty.ensures

pub returns-clause-found : goal.returns-clause-found
returns-clause-found c =
    let empty = nil_from_length c.in-Some.rest.now (eqb-true (length c.in-Some.rest.now) 0 (sym c.is_empty.ensures ∙ c.if-not-is_empty.false)) in
    let is = whole_is c.args.units.now c.in-Some.rest.now (field_of c.in-Some.field) c.in-Some.ensures empty in
    rw c.in_ok-to_type.ensures is
