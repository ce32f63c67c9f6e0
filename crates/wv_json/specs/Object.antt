-- A JSON text whose value is an object (RFC 8259, as serde_json reads it).
use Rattle.std.specs.Prelude.{◌≡◌, ℕ, List, Some, IsUtf8}
use Rattle.serde_json.specs.Data.{Data}
use Rattle.serde_json.specs.Read.{read}
use Rattle.wv_json.specs.Kind.{IsObject}

-- the bytes are a JSON text in UTF-8 whose value is this object
pub record IsObjectText (bytes : List ℕ) (value : Data) : Type 0 where
  pub utf8 : IsUtf8 bytes
  pub whole : read bytes ≡ Some value
  pub is_object : IsObject value
