use Rattle.wv_model.proofs.Safety as Law
use Rattle.wv_model.proofs.typing.starts_typed.Goals as goal

pub returns : goal.returns
returns g c =
    let law = g.S.Typed in
    Law.starts_typed law.rules law.control law.typing law.laws
