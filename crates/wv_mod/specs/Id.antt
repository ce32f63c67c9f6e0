use Rattle.std.specs.Prelude.{ℕ, Bool, not, ◌&&◌, ◌||◌, ◌==◌, List, ◌∷◌, length, nat_le, slice_index, Option, find}
use Rattle.std.specs.List.{list_all}
use Rattle.wv_mod.specs.declared.manifest.Manifest.{Manifest}

-- 'a' to 'z'
abbrev pub is_lower : ℕ → Bool
is_lower byte = nat_le 97 byte && nat_le byte 122

-- '0' to '9'
abbrev pub is_digit : ℕ → Bool
is_digit byte = nat_le 48 byte && nat_le byte 57

-- a lower-case letter, a digit, '-' or '_'
abbrev pub is_id_byte : ℕ → Bool
is_id_byte byte = is_lower byte || is_digit byte || byte == 45 || byte == 95

-- an id of a mod (fabric.mod.json, `id`): 2 to 64 of these, the first a lower-case letter
abbrev pub is_id : List ℕ → Bool
is_id text = nat_le 2 (length text) && nat_le (length text) 64 && is_lower (slice_index text 0)
    && list_all is_id_byte text

-- the first of the id and the provided ids that is outside the grammar
abbrev pub first_bad_id : Manifest → Option (List ℕ)
first_bad_id manifest = find (λ id. not (is_id id)) (manifest.id ∷ manifest.provides)
