-- What a tree of folders gives. Our own.
use Rattle.std.specs.Prelude.{ℕ, List, [], map, AllPairs, take, unwrap_or, string_bytes, Vec, String, bytes_eq, if◌then◌else◌}
use Rattle.std.specs.declared.alloc.Global.{Global}
use Rattle.wv_base.specs.Folder.{File, IsPathBefore, content_of}

-- the folders that a tree has, by their names
abbrev pub Folders : Type 0
Folders = List ℕ → List File

-- one folder has these files, and every other name has the empty folder
abbrev pub only_folder : List ℕ → List File → Folders
only_folder name files = λ asked. if bytes_eq asked name then files else []

-- the bytes of each path
abbrev pub path_bytes : Vec (String Global) Global → List (List ℕ)
path_bytes paths = map string_bytes paths.items

-- each path is less by its bytes than all later ones, so no two are the same
abbrev pub IsAscending : List (List ℕ) → Type 0
IsAscending paths = AllPairs IsPathBefore paths

-- the paths of the files
abbrev pub paths_of : List File → List (List ℕ)
paths_of files = map (λ file. file.0) files

-- the first bytes of the file with this path, at most so many, and none where there is no such file
abbrev pub first_bytes : ℕ → List ℕ → List File → List ℕ
first_bytes most path files = take most (unwrap_or (content_of path files) [])
