-- Counting the words of arguments.
use Rattle.std.proofs.Common.{◌≡◌, ℕ, ◌*◌, ◌≤◌, List, take}
use Rattle.std.specs.List.{sum_by}
use Rattle.wv_base.specs.declared.descriptor.FieldType.{FieldType}
use Rattle.wv_base.specs.Descriptor.{field_words}

-- so many words are those of the first types, two at most for each
pub record IsCounted (fields : List FieldType) (index words : ℕ) : Type 0 where
  pub counted : words ≡ sum_by field_words (take index fields)
  pub bounded : words ≤ 2 * index
