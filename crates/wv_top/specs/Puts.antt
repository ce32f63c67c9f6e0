-- Which files a call of the loader puts (our own).
use Rattle.std.specs.Prelude.{◌≡◌, ◌⊎◌, ℕ, List, ◌++◌, map, take, Option, Some, None}
use Rattle.std.specs.Option.{option_map}
use Rattle.wv_base.specs.Folder.{File, IsInOrder}
use Rattle.wv_tree.specs.Tree.{Folders}
use Rattle.wv_tree.specs.declared.outlet.PutFile.{PutFile}
use Rattle.wv_weave.specs.declared.weaver.Woven.{Woven}
use Rattle.wv_top.specs.Reading.{WhereTold}
use Rattle.wv_top.specs.Rules.{IsWovenOf, MeansOf}
use Rattle.wv_top.specs.Words.{Command}
use Rattle.wv_top.specs.declared.status.Status.{Status}
use Rattle.wv_top.specs.declared.status.Status.TheVariants.{Done, Refused, Usage, ReadFault, WriteFault, Memory}

-- a file as an outlet gets it under a name
abbrev pub put_file : List ℕ → File → PutFile
put_file name file = record { folder = name; path = file.0; bytes = file.1 }

-- what was told before, if anything, and these files behind it
abbrev pub with_files : List ℕ → List File → Option (List PutFile) → Option (List PutFile)
with_files name files told = option_map (λ before. before ++ map (put_file name) files) told

-- what the command's folder is woven to on its side: its files, in the order of their paths, do what the classes of the
-- folder do under its mixins
pub record IsWovenFor (command : Command) (told : Option Folders) (woven : Woven) : Type 0 where
  pub order : IsInOrder woven.files
  pub meets : WhereTold told command.folder (λ files. IsWovenOf files command.side woven)
  pub means : WhereTold told command.folder (λ files. MeansOf files command.side woven.files)

-- the written files were put under the command's name, and no others
abbrev pub PutsAll : Command → Option Folders → Option (List PutFile) → Option (List PutFile) → Type 0
PutsAll command told before now =
    (woven : Woven) × IsWovenFor command told woven × (now ≡ with_files command.out woven.files before)

-- no file was put, or some first ones of the written files were under the command's name, and no others
abbrev pub PutsFront : Command → Option Folders → Option (List PutFile) → Option (List PutFile) → Type 0
PutsFront command told before now =
    (now ≡ before)
    ⊎ ((woven : Woven) × (count : ℕ) × IsWovenFor command told woven
    × (now ≡ with_files command.out (take count woven.files) before))

-- after each status: no file was put, or all written files were, or some first ones of them
abbrev pub Puts : Option Command → Option Folders → Status → Option (List PutFile) → Option (List PutFile) → Type 0
Puts None told status before now = now ≡ before
Puts (Some command) told Done before now = PutsAll command told before now
Puts (Some command) told WriteFault before now = PutsFront command told before now
Puts (Some command) told Memory before now = PutsFront command told before now
Puts (Some command) told Refused before now = now ≡ before
Puts (Some command) told ReadFault before now = now ≡ before
Puts (Some command) told Usage before now = now ≡ before
