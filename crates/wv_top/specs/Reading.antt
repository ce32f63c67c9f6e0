-- What the loader reads of a folder (our own).
use Rattle.std.specs.Prelude.{◌≡◌, ⊤, ℕ, ◌+◌, List, [], ◌∷◌, ◌++◌, length, if◌then◌else◌, unwrap_or, IfSome, Option, Some, None}
use Rattle.wv_base.specs.Folder.{File, content_of}
use Rattle.wv_front.specs.FilesRead.{IsReadOf}
use Rattle.wv_front.specs.Opening.{most_files, AreWithin, PassesAt}
use Rattle.wv_front.specs.declared.limit.Cut.{Cut}
use Rattle.wv_model.specs.FolderRead.{is_read, read_size, most_read}
use Rattle.wv_tree.specs.Tree.{Folders}
use Rattle.wv_top.specs.declared.reading.Allowance.{Allowance}
use Rattle.wv_top.specs.declared.reading.Reading.{Reading}

-- the files that a tree tells under a name are such, if it tells its folders
abbrev pub WhereTold : Option Folders → List ℕ → (List File → Type 0) → Type 0
WhereTold told name IsSuch = IfSome told (λ folders. IsSuch (folders name))

-- without a cut the files are within the limits, and with one they pass a limit there
abbrev pub EndsAt : List File → Option Cut → Type 0
EndsAt files None = AreWithin files
EndsAt files (Some cut) = PassesAt files cut.path cut.limit

-- the folder that is read of these files, and where its reading ended early
pub record IsReadingOf (files : List File) (reading : Reading) : Type 0 where
  pub read : IsReadOf files reading.folder
  pub cut : EndsAt files reading.cut

-- ---- File by file

-- so many files more may be listed behind these, and so many bytes more read
pub record Leaves (files : List File) (more more_bytes : ℕ) : Type 0 where
  pub listed : length files + more ≡ most_files
  pub read : read_size files + more_bytes ≡ most_read

-- without a cut so much is left behind these files, and with one they pass a limit there
abbrev pub IsLeft : List File → (listed bytes : ℕ) → Option Cut → Type 0
IsLeft files listed bytes None = Leaves files listed bytes
IsLeft files listed bytes (Some cut) = PassesAt files cut.path cut.limit

-- the bytes of a file, none where its path isn't read
abbrev pub bytes_read : File → List ℕ
bytes_read file = if is_read file.0 then file.1 else []

-- a cut stays, and a new one is at this path
abbrev pub CutStays : List ℕ → Option Cut → Option Cut → Type 0
CutStays path (Some cut) now = now ≡ Some cut
CutStays path None (Some cut) = cut.path ≡ path
CutStays path None None = ⊤

-- the bytes of a file as it is read without a cut, and none with one
abbrev pub bytes_before : Option Cut → File → List ℕ
bytes_before None file = bytes_read file
bytes_before (Some cut) file = []

-- the file with this path, with no bytes where there is no such file
abbrev pub file_at : List ℕ → List File → File
file_at path files = (path, unwrap_or (content_of path files) [])

-- behind any files, this file is read too: what is left is then what is left behind all of them, and the bytes are
-- those of the file where it counts as read
pub record ReadsNext (file : File) (old new : Allowance) (bytes : List ℕ) : Type 0 where
  pub left : (before : List File) → IsLeft before old.files old.bytes old.cut → IsLeft (before ++ file ∷ []) new.files new.bytes new.cut
  pub cut : CutStays file.0 old.cut new.cut
  pub bytes_are : bytes ≡ bytes_before new.cut file
