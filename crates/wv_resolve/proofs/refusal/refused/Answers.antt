use Rattle.wv_resolve.proofs.Entries.{refused-by}
use Rattle.wv_resolve.proofs.refusal.refused.Goals as goal

pub returns : goal.returns
returns c = λ list h. refused-by c.args.kind list c.args.path.now c.args.dependency.now c.rule.result c.as_str.result.now c.from_string-wanted.result c.in_ok-found.found c.broken_at.result c.rule.ensures c.as_str.ensures (rw c.from_string-wanted.ensures c.in_ok-wanted.ensures) (c.in_ok-found.ensures list h) c.broken_at.ensures
