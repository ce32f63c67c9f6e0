-- Names as they are printed: the characters of UTF-16 (Unicode, 3.9), our own where a surrogate stands alone.
use Rattle.std.specs.Prelude.{ℕ, List, [], ◌∷◌, ◌&&◌, if◌then◌else◌, unwrap_or}
use Rattle.std.specs.Char.Utf16.{is_high_surrogate, is_low_surrogate, surrogate_pair_char, lone_unit_char}

-- the character of a unit that is in no pair, `?` for a surrogate
abbrev pub lone_character : ℕ → ℕ
lone_character unit = unwrap_or (lone_unit_char unit) 63

-- the characters of UTF-16 units
unfoldable pub shown_characters : List ℕ → List ℕ
shown_characters [] = []
shown_characters (unit ∷ []) = lone_character unit ∷ []
shown_characters (high ∷ low ∷ units) =
    if is_high_surrogate high && is_low_surrogate low then surrogate_pair_char high low ∷ shown_characters units
    else lone_character high ∷ shown_characters (low ∷ units)
