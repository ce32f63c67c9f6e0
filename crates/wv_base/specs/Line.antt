-- The line of a refusal (our own).
use Rattle.std.specs.Prelude.{◌≡◌, ℕ, List, [], ◌∷◌, ◌++◌, length, map, take, codes, decimal, Option, Some, None, nat_lt, nat_le, ◌==◌, ◌||◌, if◌then◌else◌}
use Rattle.std.specs.Fmt.Cut.{floor_char_boundary}
use Rattle.wv_base.specs.Rule.{number_of, name_of}
use Rattle.wv_base.specs.declared.broken.Broken.{Broken}
use Rattle.wv_base.specs.declared.broken.Place.{Place}

-- a control character prints as `?`
abbrev pub shown_byte : ℕ → ℕ
shown_byte b = if nat_lt b 32 || b == 127 then 63 else b

abbrev pub shown : List ℕ → List ℕ
shown text = map shown_byte text

-- a part of a place that may be left out, behind its sign
abbrev pub member_text : Option (List ℕ) → List ℕ
member_text None = []
member_text (Some member) = codes ":" ++ member

abbrev pub index_text : Option ℕ → List ℕ
index_text None = []
index_text (Some index) = codes "@" ++ decimal index

-- `FILE:MEMBER@INDEX`
abbrev pub place_text : Place → List ℕ
place_text place = (place.file ++ member_text place.member) ++ index_text place.index

-- `refused: rule N Name at FILE:MEMBER@INDEX wanted W found F`
abbrev pub refusal_text : Broken → List ℕ
refusal_text broken =
    ((((((((codes "refused: rule " ++ decimal (number_of broken.rule)) ++ codes " ") ++ name_of broken.rule) ++ codes " at ")
    ++ place_text broken.place) ++ codes " wanted ") ++ broken.wanted) ++ codes " found ") ++ broken.found

-- how much of a text a line keeps: all of it, or the whole characters within 4,095 bytes
unfoldable pub kept_length : List ℕ → ℕ
kept_length text = if nat_le (length text) 4095 then length text else floor_char_boundary text 4095

-- what is shown of a text, cut, and ended by a line feed
unfoldable pub line : List ℕ → List ℕ
line text = take (kept_length (shown text)) (shown text) ++ 10 ∷ []

-- the line that tells a broken rule
abbrev pub refusal : Broken → List ℕ
refusal broken = line (refusal_text broken)

-- the first bytes of a buffer show the text, as far as there is room
pub record Shows (buffer : List ℕ) (len : ℕ) (text : List ℕ) : Type 0 where
  pub front : take len buffer ≡ take 4096 (shown text)
