use Rattle.std.proofs.Common.{◌≡◌, ◌-◌, length, slice_get, Some, sym, ap, ◌∙◌, arith}
use Rattle.std.specs.Option.{option_copied}
use Rattle.wv_class.proofs.PutNotes.{up_to_last, place_there, last_there}
use Rattle.wv_class.proofs.note_writing.place_count.Goals as goal

pub overflow_add-result : goal.overflow_add-result
overflow_add-result c =
    let table = c.args.table.now in
    let at : slice_get table (length table - 1) ≡ Some c.in-Some.last.now = sym c.last.ensures.value ∙ ap option_copied c.in-Some.is in
    let there = place_there 0 255 (length table - 1) table c.in-Some.last.now c.requires at in
    let same : there.0 ≡ c.in-Some-parameter.place = cc (there.1, c.in-Some-parameter.is) in
    omega (arith, same, there.2)

pub unreachable-requires : goal.unreachable-requires
unreachable-requires c =
    let table = c.args.table.now in
    let at : slice_get table (length table - 1) ≡ Some c.in-Some.last.now = sym c.last.ensures.value ∙ ap option_copied c.in-Some.is in
    let there = place_there 0 255 (length table - 1) table c.in-Some.last.now c.requires at in
    absurd (cc (there.1, c.in-None.is))

pub returns-clause-ordered : goal.returns-clause-ordered
returns-clause-ordered c = λ count le.
    let table = c.args.table.now in
    let at : slice_get table (length table - 1) ≡ Some c.in-Some.last.now = sym c.last.ensures.value ∙ ap option_copied c.in-Some.is in
    up_to_last 0 255 (length table - 1) c.in-Some-parameter.place count table c.in-Some.last.now (last_there table c.in-Some.last.now at) c.requires at c.in-Some-parameter.is (omega (arith, le))

pub returns-clause-few : goal.returns-clause-few
returns-clause-few c =
    let table = c.args.table.now in
    let at : slice_get table (length table - 1) ≡ Some c.in-Some.last.now = sym c.last.ensures.value ∙ ap option_copied c.in-Some.is in
    let there = place_there 0 255 (length table - 1) table c.in-Some.last.now c.requires at in
    let same : there.0 ≡ c.in-Some-parameter.place = cc (there.1, c.in-Some-parameter.is) in
    omega (arith, same, there.2)
