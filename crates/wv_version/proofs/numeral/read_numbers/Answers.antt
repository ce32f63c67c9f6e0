use Rattle.std.proofs.Common.{◌≡◌, Some, None, sym, option_copied}
use Rattle.wv_version.specs.Reading.{number_of, numbers_of}
use Rattle.wv_version.proofs.Pieces.{each_stop, each_step}
use Rattle.wv_version.proofs.numeral.read_numbers.Goals as goal

pub returns-in_default-read_number : goal.returns-in_default-read_number
returns-in_default-read_number c =
    let none : number_of c.cut.result.0.now ≡ None = cc in
    sym (each_stop number_of c.loop-rest.numbers c.in-Some.text.now c.cut.result.0.now (option_copied c.cut.result.1) (numbers_of c.args.text.now) c.cut.ensures none (rw c.in-Some.is at c.loop-rest.invariant))

pub loop-rest-preserved : goal.loop-rest-preserved
loop-rest-preserved c =
    let some : number_of c.cut.result.0.now ≡ Some c.in-Some-read_number.number = cc in
    rw c.in_ok-push.ensures.ok
    (each_step number_of c.loop-rest.numbers c.in-Some.text.now c.cut.result.0.now (option_copied c.cut.result.1) (numbers_of c.args.text.now) c.in-Some-read_number.number c.cut.ensures some (rw c.in-Some.is at c.loop-rest.invariant))
