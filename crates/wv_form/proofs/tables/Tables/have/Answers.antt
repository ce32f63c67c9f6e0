use Rattle.std.proofs.Common.{sym, ◌∙◌}
use Rattle.wv_form.proofs.Forms.{thin-formed, clash, mixin-formed, mixin-lacks}
use Rattle.wv_form.proofs.Having.{answer-is, no-class, neither, a-thin, a-mixin}
use Rattle.wv_form.proofs.tables.Tables.have.Goals as goal

pub returns-in-Thin : goal.returns-in-Thin
returns-in-Thin c = λ folder classes files known are is.
    let class = c.in-Thin.class.now in
    let file = c.args.known.now.file.now in
    let tables = c.args.self.now in
    let thin = a-thin folder classes c.args.known.now is c.in-Thin.class c.in-Thin.is in
    answer-is c.stands_alone.result
    (thin-formed folder classes files tables known are file class thin)
    (clash folder classes files tables known are file class thin.0)
    c.stands_alone.ensures

pub returns-then-not-is_right : goal.returns-then-not-is_right
returns-then-not-is_right c = λ folder classes files known are is.
    let class = c.in-Mixin.class.now in
    let file = c.args.known.now.file.now in
    let tables = c.args.self.now in
    let mixin = a-mixin folder classes c.args.known.now is c.in-Mixin.class c.in-Mixin.target c.in-Mixin.is in
    mixin-lacks folder classes files tables known are file class mixin.0 c.in-Mixin.target mixin.1
    (sym (rw c.as_str.ensures at c.is_right.ensures) ∙ c.if-not-is_right.true)

pub returns-else-not-is_right : goal.returns-else-not-is_right
returns-else-not-is_right c = λ folder classes files known are is.
    let class = c.in-Mixin.class.now in
    let file = c.args.known.now.file.now in
    let tables = c.args.self.now in
    let mixin = a-mixin folder classes c.args.known.now is c.in-Mixin.class c.in-Mixin.target c.in-Mixin.is in
    answer-is c.stands_alone-in-Mixin.result
    (mixin-formed folder classes files tables known are file class mixin.0 c.in-Mixin.target mixin.1 (sym (rw c.as_str.ensures at c.is_right.ensures) ∙ c.if-not-is_right.false))
    (clash folder classes files tables known are file class mixin.0.0)
    c.stands_alone-in-Mixin.ensures
