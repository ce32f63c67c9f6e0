use Rattle.wv_resolve.proofs.Loaded.{in-loaded_mods, of-loaded_mods}
use Rattle.wv_resolve.proofs.laws.loaded_by_mods.Goals as goal

pub returns : goal.returns
returns c = λ builtin folder side loaded h name. (in-loaded_mods builtin folder side loaded h name, of-loaded_mods builtin folder side loaded h name)
