use Rattle.serde_json.specs.View.{view}
use Rattle.wv_mod.proofs.Games.{wrong-id, wrong-version, wrong-main, wrong-builtin}
use Rattle.wv_mod.proofs.game_info.read_value.Goals as goal

pub returns-in_default-clause-stop : goal.returns-in_default-clause-stop
returns-in_default-clause-stop c = λ bytes text.
    wrong-id bytes (view c.args.value.now) text (rw c.in_default.is at c.in_ok-id.ensures)

pub returns-in_default-2-clause-stop : goal.returns-in_default-2-clause-stop
returns-in_default-2-clause-stop c = λ bytes text.
    wrong-version bytes (view c.args.value.now) c.in-Some.id text (rw c.in-Some.is at c.in_ok-id.ensures) (rw c.in_default-2.is at c.in_ok-version.ensures)

pub returns-in_default-3-clause-stop : goal.returns-in_default-3-clause-stop
returns-in_default-3-clause-stop c = λ bytes text.
    wrong-main bytes (view c.args.value.now) c.in-Some.id c.in-Some-2.version text (rw c.in-Some.is at c.in_ok-id.ensures) (rw c.in-Some-2.is at c.in_ok-version.ensures) (rw c.in_default-3.is at c.in_ok-main.ensures)

pub returns-in_default-4-clause-stop : goal.returns-in_default-4-clause-stop
returns-in_default-4-clause-stop c = λ bytes text.
    wrong-builtin bytes (view c.args.value.now) c.in-Some.id c.in-Some-2.version c.in-Some-3.main text (rw c.in-Some.is at c.in_ok-id.ensures) (rw c.in-Some-2.is at c.in_ok-version.ensures) (rw c.in-Some-3.is at c.in_ok-main.ensures) (rw c.in_default-4.is at c.in_ok-builtin.ensures)
