use Rattle.wv_class.proofs.NoteTables.{parameter_table}
use Rattle.wv_class.proofs.formed_notes.is_formed_table.Goals as goal

pub returns-in-Some-Method : goal.returns-in-Some-Method
returns-in-Some-Method c =
    rw c.in-Some-Method.is-1 (parameter_table c.args.notes.now c.first-item.result c.in-Some-Method.field-0-0 c.are_parameters_writable.result c.in-len1-up.len_at_least c.first-item.is c.in-Some-Method.is-0 c.are_parameters_writable.ensures)
