-- What goes on behind the bytes of a code that are there.
use Rattle.std.specs.Prelude.{ℕ, ◌+◌, ◌<◌, ◌^◌, List, length}
use Rattle.wv_code.specs.declared.fitting.Behind.{Behind}

-- an attribute and what is to come in it are below 2^32 bytes
abbrev pub IsBounded : Behind → List ℕ → Type 0
IsBounded behind bytes = (length bytes + behind.missing < 2 ^ 32) × (behind.tail < 2 ^ 32)
