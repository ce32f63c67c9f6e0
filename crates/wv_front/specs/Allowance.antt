-- What may still be read of a folder (our own).
use Rattle.std.specs.Prelude.{◌≡◌, ◌+◌, List, length}
use Rattle.wv_base.specs.Folder.{File}
use Rattle.wv_model.specs.FolderRead.{read_size, most_read}
use Rattle.wv_front.specs.declared.limit.Allowance.{Allowance}
use Rattle.wv_front.specs.Opening.{most_files}

-- behind these files, which are within both limits, this much is left
pub record IsLeft (files : List File) (allowance : Allowance) : Type 0 where
  pub listed : length files + allowance.files ≡ most_files
  pub read : read_size files + allowance.bytes ≡ most_read
