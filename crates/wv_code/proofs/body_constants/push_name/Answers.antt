use Rattle.std.proofs.Common.{sym, ◌∙◌}
use Rattle.wv_code.proofs.BodyConstants.{table_named}
use Rattle.wv_code.proofs.body_constants.push_name.Goals as goal

pub returns-in_ok-push : goal.returns-in_ok-push
returns-in_ok-push c =
    let e = table_named c.args.frames.now (sym c.is_empty.ensures ∙ c.if-not-is_empty.true) in
    rw (e, c.in_ok-push.ensures.ok, c.in_ok-from_ascii.ensures)
