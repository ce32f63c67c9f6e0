use Rattle.std.proofs.Common.{codes, bytes_eq, not, lit<, rules, tests}
use Rattle.std.proofs.lemmas.Iterator.Search.{all_from_yields_List}
use Rattle.std.proofs.lemmas.Iterator.Splits.{YieldsList-from_str_split}
use Rattle.wv_resolve.proofs.path.is_outside_meta_inf.Goals as goal

pub returns : goal.returns
returns c =
    all_from_yields_List (λ part. not (bytes_eq part (codes "META-INF"))) _ _ _ c.all.ensures.ran (YieldsList-from_str_split 47 c.args.path.now (lit< tt) c.split.ensures.text c.split.ensures.has_more c.split.ensures.pattern) (λ x r q k. search (rules, tests))
