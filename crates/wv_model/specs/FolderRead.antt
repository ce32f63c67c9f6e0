-- Which files of a folder are read, and how many bytes of them (our own).
use Rattle.std.specs.Prelude.{◌≡◌, ℕ, ◌+◌, ◌<◌, ◌≤◌, ◌==◌, Bool, false, not, ◌&&◌, ◌||◌, IsTrue, nat_eq, nat_le, if◌then◌else◌, List, [], ◌∷◌, ◌++◌, length, codes, bytes_eq, slice_get, Option, Some, None}
use Rattle.std.specs.List.{list_all, last_or, ends_with, slice_split, sum_by}
use Rattle.wv_base.specs.Folder.{File}

-- the parts of a path, between its slashes
abbrev pub parts : List ℕ → List (List ℕ)
parts path = slice_split (λ byte. byte == 47) path

-- the path ends with this text
abbrev pub has_ending : List ℕ → List ℕ → Bool
has_ending path ending = ends_with nat_eq path ending

-- the last part is this file name
abbrev pub is_last : Option (List ℕ) → List ℕ → Bool
is_last None name = false
is_last (Some part) name = bytes_eq part name

-- a file that lies in `mods/` itself
abbrev pub is_loose : List (List ℕ) → Bool
is_loose (folder ∷ file ∷ []) = bytes_eq folder (codes "mods")
is_loose _ = false

-- a path is read where it ends in `.class` or `.json`, but for `module-info.class`, what lies below `META-INF`, and
-- what lies in `mods/` itself
unfoldable pub is_read : List ℕ → Bool
is_read path =
    (has_ending path (codes ".class") || has_ending path (codes ".json"))
    && not (is_last (last_or None (parts path)) (codes "module-info.class"))
    && list_all (λ part. not (bytes_eq part (codes "META-INF"))) (parts path)
    && not (is_loose (parts path))

-- how many bytes the files have that are read
abbrev pub read_size : List File → ℕ
read_size files = sum_by (λ file. if is_read file.0 then length file.1 else 0) files

-- how many bytes are read at most
unfoldable pub most_read : ℕ
most_read = 67108864

-- at this path the files that are read have more bytes than are read at most
pub record PassesLimit (files : List File) (path : List ℕ) : Type 0 where
  pub before : List File
  pub content : List ℕ
  pub after : List File
  pub parted : files ≡ before ++ ((path, content) ∷ after)
  pub is_read : IsTrue (is_read path)
  pub fits : read_size before ≤ most_read
  pub passes : most_read < read_size before + length content

-- a file behind these others, as it stands in the folder that is read: with its bytes where its path is read and the
-- limit isn't passed, and otherwise with none
abbrev pub as_read : List File → File → File
as_read before file =
    (file.0, if is_read file.0 && nat_le (read_size before + length file.1) most_read then file.1 else [])

-- the folder that is read of these files: each of them at its place
pub record IsReading (files read : List File) : Type 0 where
  pub same_length : length read ≡ length files
  pub each : (before after : List File) (file : File) → files ≡ before ++ (file ∷ after) → slice_get read (length before) ≡ Some (as_read before file)
