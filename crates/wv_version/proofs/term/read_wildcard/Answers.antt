use Rattle.std.proofs.lemmas.Result.{IfOk-weaker}
use Rattle.wv_version.proofs.Signs.{wildcard-found, wildcard-none}
use Rattle.wv_version.proofs.term.read_wildcard.Goals as goal

pub returns-in-Some-clause-found : goal.returns-in-Some-clause-found
returns-in-Some-clause-found c =
    IfOk-weaker c.read_numbers.result _ _ (wildcard-found c.args.text.now c.in-Some.front.now c.in-Some.ensures) c.read_numbers.ensures

pub returns-in-Some-clause-none : goal.returns-in-Some-clause-none
returns-in-Some-clause-none c =
    IfOk-weaker c.read_numbers.result _ _ (wildcard-none c.args.text.now c.in-Some.front.now c.in-Some.ensures) c.read_numbers.ensures

pub returns-in-None-clause-none : goal.returns-in-None-clause-none
returns-in-None-clause-none c = λ numbers h. c.in-None.ensures h.front h.before
