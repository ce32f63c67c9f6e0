-- What is read of the files that a folder lists, and the first of the opening rules that they break (our own).
use Rattle.std.specs.Prelude.{◌≡◌, ◌⊎◌, ℕ, IsTrue, List, []}
use Rattle.std.specs.List.{AllByRecursion, AllZip}
use Rattle.wv_base.specs.declared.broken.Broken.{Broken}
use Rattle.wv_base.specs.Folder.{File, IsPathBefore}
use Rattle.wv_model.specs.FolderRead.{is_read}
use Rattle.wv_mod.specs.FirstBroken.{IsKept, IsFirstOf}
use Rattle.wv_front.specs.declared.limit.Limit.{Limit}
use Rattle.wv_front.specs.Opening.{PassesAt, BreaksOpening, opening_rules}

-- the path comes before the one at which the files pass a limit, if they pass any
abbrev pub IsReached : List File → List ℕ → Type 0
IsReached files path = (cut : List ℕ) (limit : Limit) → PassesAt files cut limit → IsPathBefore path cut

-- the file with this path counts as read
abbrev pub CountsAsRead : List File → List ℕ → Type 0
CountsAsRead files path = IsTrue (is_read path) × IsReached files path

-- a file as it stands in the folder that is read: with its bytes where it counts as read, and otherwise with none
abbrev pub StandsAs : List File → File → File → Type 0
StandsAs files file read =
    (read.0 ≡ file.0)
    × ((CountsAsRead files file.0 × (read.1 ≡ file.1)) ⊎ ((CountsAsRead files file.0 → ⊥) × (read.1 ≡ [])))

-- the folder that is read of the files: each of them at its place
abbrev pub IsReadOf : (files folder : List File) → Type 0
IsReadOf files folder = AllZip (StandsAs files) files folder

-- the files break none of the opening rules
abbrev pub AreOpened : List File → Type 0
AreOpened files = AllByRecursion (λ rule. IsKept (BreaksOpening (IsReached files) (PassesAt files) files rule)) opening_rules

-- the first of the opening rules that the files break
abbrev pub IsFirstOfFiles : List File → Broken → Type 0
IsFirstOfFiles files broken = IsFirstOf (BreaksOpening (IsReached files) (PassesAt files) files) opening_rules broken
