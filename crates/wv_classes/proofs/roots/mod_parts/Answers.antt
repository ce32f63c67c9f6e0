use Rattle.std.proofs.Common.{codes, lit<}
use Rattle.std.proofs.lemmas.Str.Pattern.{split_parts}
use Rattle.wv_resolve.proofs.Paths.{stripped}
use Rattle.wv_classes.proofs.Behind.{mod-parts}
use Rattle.wv_classes.proofs.roots.mod_parts.Goals as goal

pub returns : goal.returns
returns c =
    let inside = c.in_ok-strip_prefix.field-0.now in
    mod-parts c.args.path.now inside c.split_once.result
    (rw c.in_ok-strip_prefix.was at (stripped (codes "mods/") c.args.path.now c.strip_prefix.result c.strip_prefix.ensures.cases))
    (split_parts 47 inside c.split_once.result c.split_once.ensures.cases (lit< tt))
