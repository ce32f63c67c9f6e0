use Rattle.wv_resolve.specs.Discovery.{BreaksRule, mod_rules}
use Rattle.wv_resolve.proofs.Discovering.{loaded-kept}
use Rattle.wv_resolve.proofs.FirstRule.{kept-not_first}
use Rattle.wv_resolve.proofs.laws.loaded_or_refused.Goals as goal

pub returns-clause-kept : goal.returns-clause-kept
returns-clause-kept c = loaded-kept

pub returns-clause-refused : goal.returns-clause-refused
returns-clause-refused c = λ builtin folder side broken kept first. kept-not_first (BreaksRule builtin folder side) mod_rules broken kept first
