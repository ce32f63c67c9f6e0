-- What is known of the folders in which class files lie (our own).
use Rattle.std.specs.Prelude.{◌↔◌, ℕ, Bool, IsTrue, List, Contains}
use Rattle.std.specs.Borrow.{Bor}
use Rattle.std.specs.BTreeSet.{BTreeSet, contains_by}
use Rattle.std.specs.Cmp.Lexicographic.{slice_cmp}
use Rattle.std.specs.Ordering.{nat_cmp}
use Rattle.wv_base.specs.declared.side.Side.{Side}
use Rattle.wv_base.specs.Folder.{File}
use Rattle.wv_resolve.specs.LoadedFolder.{IsLoadedFolder}
use Rattle.wv_classes.specs.declared.roots.Roots.{Roots}

-- the set has this text
abbrev pub has : BTreeSet (Bor (List ℕ)) → List ℕ → Bool
has set text = contains_by (λ key. slice_cmp nat_cmp text key.now) set

-- the set has the texts of the list, and no others
abbrev pub HasExactly : List (List ℕ) → BTreeSet (Bor (List ℕ)) → Type 0
HasExactly list set = (text : List ℕ) → IsTrue (has set text) ↔ Contains list text

-- the folders of mods are those of the loaded ones
abbrev pub AreRoots : List File → Side → Roots → Type 0
AreRoots folder side roots = (name : List ℕ) → IsTrue (has roots.mods name) ↔ IsLoadedFolder folder side name
