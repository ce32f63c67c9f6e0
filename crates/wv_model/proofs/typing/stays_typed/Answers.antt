use Rattle.wv_model.proofs.Safety as Law
use Rattle.wv_model.proofs.typing.stays_typed.Goals as goal

pub returns : goal.returns
returns g c =
    let law = g.S.Typed in
    λ state n typed. Law.stays_typed law.rules law.control law.typing law.laws n state typed
