use Rattle.wv_front.proofs.Openings.{passing-kept, passing-first}
use Rattle.wv_front.proofs.folder_rules.within_limits.Goals as goal

pub returns-in-None-clause-kept : goal.returns-in-None-clause-kept
returns-in-None-clause-kept c = passing-kept c.args.folder.now c.in-None.ensures

pub returns-in_ok-broken-in-Some-clause-broken : goal.returns-in_ok-broken-in-Some-clause-broken
returns-in_ok-broken-in-Some-clause-broken c =
    passing-first c.args.folder.now c.in-Some.path.now c.in-Some.limit c.in_ok-broken-in-Some.broken c.in-Some.ensures c.in_ok-broken-in-Some.ensures
