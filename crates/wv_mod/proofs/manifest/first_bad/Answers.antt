use Rattle.std.proofs.Common.{rules, not, tests}
use Rattle.std.proofs.lemmas.Iterator.{YieldsList-from_slice}
use Rattle.std.proofs.lemmas.Iterator.Search.{find_from_yields_List}
use Rattle.wv_mod.specs.Id.{is_id}
use Rattle.wv_mod.proofs.manifest.first_bad.Goals as goal

pub returns : goal.returns
returns c = find_from_yields_List (λ id. not (is_id id)) _ _ c.find.result c.find.ensures.ran (YieldsList-from_slice c.args.ids.now cc) (λ x b q k. search (rules, tests))
