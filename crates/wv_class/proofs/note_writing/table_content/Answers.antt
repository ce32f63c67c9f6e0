use Rattle.std.proofs.Common.{subst, arith}
use Rattle.std.specs.List.{AllByRecursion}
use Rattle.wv_pool.specs.Numbers.{Named}
use Rattle.wv_attr.specs.Writing.{notes_need, parameters_need}
use Rattle.wv_class.specs.Needs.{content_needs}
use Rattle.wv_class.specs.Appending.{IsWritableOf}
use Rattle.wv_class.proofs.PutNotes.{fewer_writable, fewer_named, never_full, stays, members_put, parameters_put}
use Rattle.wv_class.proofs.note_writing.table_content.Goals as goal

pub write_parameter_notes-requires : goal.write_parameter_notes-requires
write_parameter_notes-requires c =
    let table = c.args.table.now in
    fewer_writable c.list_count.result 255 table c.list_count.ensures.few c.list_count.ensures.ordered (subst (λ p. IsWritableOf p table) c.in-Some.is c.requires.writable)

pub returns-in-None-clause-same : goal.returns-in-None-clause-same
returns-in-None-clause-same c =
    let table = c.args.table.now in
    let old = c.args.pool.now in
    let new = c.write_notes.new.pool in
    stays old new c.args.first.now.visible c.args.first.now.parameter table c.write_notes.result (notes_need table)
    (subst (λ p. AllByRecursion (Named old) (content_needs p table)) c.in-None.is c.requires.named) c.write_notes.ensures.grows

pub returns-in-None-clause-written : goal.returns-in-None-clause-written
returns-in-None-clause-written c =
    members_put c.args.pool.now c.write_notes.new.pool c.args.first.now.visible c.args.first.now.parameter c.args.table.now c.write_notes.result c.in-None.is (returns-in-None-clause-same c) (c.write_notes.ensures.read_again c.args.first.now.visible)

pub returns-in-None-clause-not_full : goal.returns-in-None-clause-not_full
returns-in-None-clause-not_full c =
    let table = c.args.table.now in
    let old = c.args.pool.now in
    never_full old c.write_notes.new.pool c.args.first.now.visible c.args.first.now.parameter table c.write_notes.result (notes_need table) c.entries-entries.ensures.sound.0.0
    (subst (λ p. AllByRecursion (Named old) (content_needs p table)) c.in-None.is c.requires.named) c.write_notes.ensures.full

pub returns-in-Some-clause-same : goal.returns-in-Some-clause-same
returns-in-Some-clause-same c =
    let table = c.args.table.now in
    let old = c.args.pool.now in
    let count = c.list_count.result in
    stays old c.write_parameter_notes.new.pool c.args.first.now.visible c.args.first.now.parameter table c.write_parameter_notes.result (parameters_need count table)
    (fewer_named old count 255 table c.list_count.ensures.few (subst (λ p. AllByRecursion (Named old) (content_needs p table)) c.in-Some.is c.requires.named)) c.write_parameter_notes.ensures.grows

pub returns-in-Some-clause-written : goal.returns-in-Some-clause-written
returns-in-Some-clause-written c =
    let few = c.list_count.ensures.few in
    parameters_put c.args.pool.now c.write_parameter_notes.new.pool c.args.first.now.visible c.args.first.now.parameter c.args.table.now c.write_parameter_notes.result c.in-Some.field-0 c.list_count.result c.in-Some.is (omega (arith, few))
    (returns-in-Some-clause-same c) (c.write_parameter_notes.ensures.read_again c.args.first.now.visible) c.write_parameter_notes.ensures.count

pub returns-in-Some-clause-not_full : goal.returns-in-Some-clause-not_full
returns-in-Some-clause-not_full c =
    let table = c.args.table.now in
    let old = c.args.pool.now in
    let count = c.list_count.result in
    never_full old c.write_parameter_notes.new.pool c.args.first.now.visible c.args.first.now.parameter table c.write_parameter_notes.result (parameters_need count table) c.entries-entries.ensures.sound.0.0
    (fewer_named old count 255 table c.list_count.ensures.few (subst (λ p. AllByRecursion (Named old) (content_needs p table)) c.in-Some.is c.requires.named)) c.write_parameter_notes.ensures.full
