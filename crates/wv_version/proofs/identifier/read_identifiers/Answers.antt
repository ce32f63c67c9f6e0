use Rattle.std.proofs.Common.{◌≡◌, Some, None, sym, ◌∙◌, option_copied}
use Rattle.wv_version.specs.Reading.{identifier_of, identifiers_of}
use Rattle.wv_version.proofs.Pieces.{each_stop, each_step}
use Rattle.wv_version.proofs.identifier.read_identifiers.Goals as goal

pub returns-in_default-2 : goal.returns-in_default-2
returns-in_default-2 c =
    let none : identifier_of c.cut.result.0.now ≡ None = sym c.in_ok-identifier.ensures ∙ c.in_default-2.is in
    sym (each_stop identifier_of c.loop-rest.identifiers c.in-Some.text.now c.cut.result.0.now (option_copied c.cut.result.1) (identifiers_of c.args.text.now) c.cut.ensures none (rw c.in-Some.is at c.loop-rest.invariant))

pub loop-rest-preserved : goal.loop-rest-preserved
loop-rest-preserved c =
    let some : identifier_of c.cut.result.0.now ≡ Some c.in-Some-2.identifier = sym c.in_ok-identifier.ensures ∙ c.in-Some-2.is in
    rw c.in_ok-push.ensures.ok
    (each_step identifier_of c.loop-rest.identifiers c.in-Some.text.now c.cut.result.0.now (option_copied c.cut.result.1) (identifiers_of c.args.text.now) c.in-Some-2.identifier c.cut.ensures some (rw c.in-Some.is at c.loop-rest.invariant))
