use Rattle.std.proofs.Common.{codes, lit<}
use Rattle.std.proofs.lemmas.Str.Pattern.{split_parts}
use Rattle.wv_resolve.proofs.Paths.{stripped, loose, lies}
use Rattle.wv_resolve.proofs.discovery.mod_folder.Goals as goal

pub returns-in_err-name : goal.returns-in_err-name
returns-in_err-name c =
    let front = rw c.in_ok-strip_prefix.was at (stripped (codes "mods/") c.args.path.now c.strip_prefix.result c.strip_prefix.ensures.cases) in
    let parts = rw c.in_err-name.was at (split_parts 47 c.in_ok-strip_prefix.field-0.now c.split_once.result c.split_once.ensures.cases (lit< tt)) in
    rw c.from_residual-in_err-name.ensures (λ name. loose c.args.path.now c.in_ok-strip_prefix.field-0.now name front parts)

pub returns : goal.returns
returns c =
    let front = rw c.in_ok-strip_prefix.was at (stripped (codes "mods/") c.args.path.now c.strip_prefix.result c.strip_prefix.ensures.cases) in
    let parts = rw c.in_ok-name.was at (split_parts 47 c.in_ok-strip_prefix.field-0.now c.split_once.result c.split_once.ensures.cases (lit< tt)) in
    lies c.args.path.now c.in_ok-strip_prefix.field-0.now c.in_ok-name.name.now c.in_ok-name.field-0-1.now front parts.0 parts.1
