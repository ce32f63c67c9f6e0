use Rattle.std.proofs.Common.{◌∙◌}
use Rattle.wv_resolve.proofs.Loaded.{told-at, flawed-at}
use Rattle.wv_resolve.proofs.loaded_folder.says_loaded.Goals as goal

pub returns-in-Ok : goal.returns-in-Ok
returns-in-Ok c =
    told-at c.args.folder.now c.args.side c.args.name.now c.from_string-path.result c.in-Some.bytes.now c.in-Ok.info (c.from_string-path.ensures ∙ c.in_ok-format.ensures.ok) (rw c.as_str.ensures at c.in-Some.ensures.content) (rw c.as_slice.ensures at c.in-Ok.ensures.read)

pub returns-in-Err-Broken : goal.returns-in-Err-Broken
returns-in-Err-Broken c =
    flawed-at c.args.folder.now c.args.side c.args.name.now c.from_string-path.result c.in-Some.bytes.now c.in-Err-Broken.field-0-0 (c.from_string-path.ensures ∙ c.in_ok-format.ensures.ok) (rw c.as_str.ensures at c.in-Some.ensures.content) (rw (c.as_slice.ensures, c.in-Err-Broken.field-0-is) at c.in-Err-Broken.ensures.fault)
