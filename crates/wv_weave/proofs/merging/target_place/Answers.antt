use Rattle.std.proofs.Common.{◌∙◌, ap, bytes_eq}
use Rattle.std.specs.List.{position}
use Rattle.wv_weave.proofs.WovenMeaning.{one-target_name}
use Rattle.wv_weave.proofs.merging.target_place.Goals as goal

pub returns-in-Some : goal.returns-in-Some
returns-in-Some c = λ names name places has.
    c.place.ensures names places ∙ ap (λ n. position (bytes_eq n) names) (one-target_name c.args.mixin.now c.in-Some.name name (rw c.in-Some.is at c.in_ok-name.ensures) has)

pub returns-in-None : goal.returns-in-None
returns-in-None c = λ names name places has. absurd ((rw c.in-None.is at c.in_ok-name.ensures) name has)
