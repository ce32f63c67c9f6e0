use Rattle.wv_resolve.proofs.Loaded.{one-folder_list}
use Rattle.wv_resolve.proofs.laws.one_folder_list.Goals as goal

pub returns : goal.returns
returns c = one-folder_list
