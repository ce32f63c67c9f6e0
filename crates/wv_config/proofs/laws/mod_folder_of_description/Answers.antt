use Rattle.wv_config.proofs.ModFolder.{folder-of_description}
use Rattle.wv_config.proofs.laws.mod_folder_of_description.Goals as goal

pub returns : goal.returns
returns c = folder-of_description
