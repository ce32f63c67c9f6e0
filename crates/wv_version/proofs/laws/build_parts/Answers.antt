use Rattle.std.proofs.Common.{◌∷◌, ◌++◌, subst, sym, append_assoc}
use Rattle.wv_version.proofs.Dotting.{with_build}
use Rattle.wv_version.proofs.laws.build_parts.Goals as goal

pub returns : goal.returns
returns c text build v h free of_build = rw append_assoc (with_build text build v h free of_build)
