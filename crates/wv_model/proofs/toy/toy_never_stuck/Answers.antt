use Rattle.std.proofs.Common.{[]}
use Rattle.wv_model.specs.Step.{start}
use Rattle.wv_model.specs.Toy.{plain, toy_rules, toy_typing}
use Rattle.wv_model.proofs.EndsWell.{typing_laws, starts_well}
use Rattle.wv_model.proofs.Safety.{never_stuck, starts_typed}
use Rattle.wv_model.proofs.toy.toy_never_stuck.Goals as goal

pub returns : goal.returns
returns c =
    λ code each method said n.
    let laws = typing_laws code each in
    let frame = (plain code).enter method [] in
    let typed = starts_typed toy_rules (plain code) toy_typing laws tt method frame said tt (starts_well code each method) in
    never_stuck toy_rules (plain code) toy_typing laws (start frame said) n typed
