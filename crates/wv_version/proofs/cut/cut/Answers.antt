use Rattle.std.proofs.Common.{sym}
use Rattle.std.proofs.lemmas.List.{append-nil}
use Rattle.std.proofs.lemmas.Str.Pattern.{split_parts}
use Rattle.wv_version.proofs.Cutting.{IsFree-from_reads}
use Rattle.wv_version.proofs.cut.cut.Goals as goal

pub returns-in-Some : goal.returns-in-Some
returns-in-Some c =
    let parts = split_parts c.args.mark c.args.text.now c.split_once.result c.split_once.ensures.cases c.requires in
    let at = rw c.in-Some.is at parts in
    record { whole = at.0; free = IsFree-from_reads _ _ at.1 }

pub returns-in-None : goal.returns-in-None
returns-in-None c =
    let parts = split_parts c.args.mark c.args.text.now c.split_once.result c.split_once.ensures.cases c.requires in
    record { whole = sym (append-nil c.args.text.now); free = IsFree-from_reads _ _ (rw c.in-None.is at parts) }
