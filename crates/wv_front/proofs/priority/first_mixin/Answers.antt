use Rattle.std.proofs.Common.{rules, tests}
use Rattle.std.proofs.lemmas.Iterator.{YieldsList-from_slice}
use Rattle.std.proofs.lemmas.Iterator.Search.{find_from_yields_List}
use Rattle.wv_front.specs.Marks.{is_mixin_note}
use Rattle.wv_front.proofs.priority.first_mixin.Goals as goal

pub returns : goal.returns
returns c = find_from_yields_List is_mixin_note _ _ c.find.result c.find.ensures.ran (YieldsList-from_slice c.args.notes.now cc) (λ x b q k. search (rules, tests))
