-- A folder of files: a list of pairs of path and bytes, in the order of the paths. Our own.
use Rattle.std.specs.Prelude.{◌≡◌, ℕ, List, All, AllPairs, Option, find, bytes_eq}
use Rattle.std.specs.Option.{option_map}
use Rattle.std.specs.Cmp.Lexicographic.{slice_cmp}
use Rattle.std.specs.Ordering.{nat_cmp}
use Rattle.std.specs.declared.cmp.Ordering.TheVariants.{Less}

-- a file: the bytes of its path, and its content
abbrev pub File : Type 0
File = List ℕ × List ℕ

-- the first path is less by its bytes, a proper front being less
abbrev pub IsPathBefore : List ℕ → List ℕ → Type 0
IsPathBefore path later = slice_cmp nat_cmp path later ≡ Less

-- each path is less than all later ones, so no two are the same
abbrev pub IsInOrder : List File → Type 0
IsInOrder files = AllPairs (λ file later. IsPathBefore file.0 later.0) files

-- the path is greater than all paths of the files
abbrev pub IsPathAfter : List ℕ → List File → Type 0
IsPathAfter path files = All (λ file. IsPathBefore file.0 path) files

-- the content of the file with this path, if there is one
abbrev pub content_of : List ℕ → List File → Option (List ℕ)
content_of path files = option_map (λ file. file.1) (find (λ file. bytes_eq file.0 path) files)
