-- What an outlet got. Our own.
use Rattle.std.specs.Prelude.{List, [], ◌∷◌, ◌++◌, Option}
use Rattle.std.specs.Option.{option_map}
use Rattle.wv_tree.specs.declared.outlet.PutFile.{PutFile}

-- what was told before, if anything, and this file behind it
abbrev pub with_file : PutFile → Option (List PutFile) → Option (List PutFile)
with_file file told = option_map (λ files. files ++ file ∷ []) told
