use Rattle.std.proofs.Common.{sym, ◌∙◌}
use Rattle.wv_form.specs.Tables.{elsewhere}
use Rattle.wv_form.proofs.Having.{alone-or}
use Rattle.wv_form.proofs.tables.Tables.stands_alone.Goals as goal

pub returns-then-stands_elsewhere : goal.returns-then-stands_elsewhere
returns-then-stands_elsewhere c =
    elsewhere (sym (rw (c.as_str.ensures, c.as_str-2.ensures) at c.stands_elsewhere.ensures) ∙ c.if-stands_elsewhere.true)

pub returns : goal.returns
returns c =
    alone-or c.args.self.now c.args.file.now c.args.class.now c.in_ok-are_in_class.field-0
    (sym (rw (c.as_str.ensures, c.as_str-2.ensures) at c.stands_elsewhere.ensures) ∙ c.if-stands_elsewhere.false)
    (rw c.as_str-3.ensures at c.in_ok-are_in_class.ensures)
