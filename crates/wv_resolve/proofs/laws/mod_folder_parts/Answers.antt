use Rattle.wv_resolve.proofs.Parts.{in-three_parts, from-three_parts}
use Rattle.wv_resolve.proofs.laws.mod_folder_parts.Goals as goal

pub returns : goal.returns
returns c = λ name path. (in-three_parts name path, from-three_parts name path)
