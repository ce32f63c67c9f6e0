use Rattle.wv_model.proofs.Safety as Law
use Rattle.wv_model.proofs.typing.never_stuck.Goals as goal

pub returns : goal.returns
returns g c =
    let law = g.S.Typed in
    Law.never_stuck law.rules law.control law.typing law.laws
