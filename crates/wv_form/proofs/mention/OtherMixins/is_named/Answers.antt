use Rattle.std.proofs.Common.{sym, ◌∙◌}
use Rattle.wv_form.proofs.Others.{passes, fails}
use Rattle.wv_form.proofs.mention.OtherMixins.is_named.Goals as goal

pub returns-in-Some : goal.returns-in-Some
returns-in-Some c =
    passes c.args.self.now.names.now c.args.self.now.own.now c.args.name.now c.in-Some.text c.have.result (sym c.in_ok-text.ensures ∙ c.in-Some.is)
    (rw c.as_str.ensures at c.have.ensures)

pub returns-in-None : goal.returns-in-None
returns-in-None c = fails c.args.self.now.names.now c.args.self.now.own.now c.args.name.now (sym c.in_ok-text.ensures ∙ c.in-None.is)
