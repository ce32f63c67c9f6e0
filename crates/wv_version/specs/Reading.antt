-- What the readers give, as functions of the bytes. The grammars beside the types say what it means.
use Rattle.std.specs.Prelude.{ℕ, Bool, ◌&&◌, ◌||◌, ◌==◌, if◌then◌else◌, nat_lt, List, [], ◌∷◌, length, Option, Some, None, option_and_then, option_map}
use Rattle.std.specs.List.{slice_split, list_all}
use Rattle.std.specs.Char.{is_ascii_digit}
use Rattle.std.specs.Str.Parse.{digits_value}
use Rattle.wv_version.specs.declared.identifier.Identifier.{Identifier}
use Rattle.wv_version.specs.declared.identifier.Identifier.TheVariants.{Number, Word}
use Rattle.wv_version.specs.Identifier.{is_word_byte}

-- 1 to 18 digits
abbrev pub is_numeral : List ℕ → Bool
is_numeral text = (nat_lt 0 (length text) && nat_lt (length text) 19) && list_all is_ascii_digit text

abbrev pub number_of : List ℕ → Option ℕ
number_of text = if is_numeral text then Some (digits_value 10 text) else None

-- what each piece gives, where every piece gives something
abbrev pub each_of : {A : Type 0} → (List ℕ → Option A) → List (List ℕ) → Option (List A)
each_of read [] = Some []
each_of read (piece ∷ pieces) = option_and_then (λ x. option_map (λ xs. x ∷ xs) (each_of read pieces)) (read piece)

-- the parts at the marks
abbrev pub parts : ℕ → List ℕ → List (List ℕ)
parts mark text = slice_split (λ byte. byte == mark) text

-- the parts of a text that may be missing
abbrev pub parts_of : ℕ → Option (List ℕ) → List (List ℕ)
parts_of mark None = []
parts_of mark (Some text) = parts mark text

abbrev pub numbers_of : List ℕ → Option (List ℕ)
numbers_of text = each_of number_of (parts 46 text)

abbrev pub is_word : List ℕ → Bool
is_word text = nat_lt 0 (length text) && list_all is_word_byte text

abbrev pub identifier_of : List ℕ → Option Identifier
identifier_of text = if is_numeral text then Some (Number (digits_value 10 text))
    else (if is_word text then Some (Word text) else None)

abbrev pub identifiers_of : List ℕ → Option (List Identifier)
identifiers_of text = each_of identifier_of (parts 46 text)

abbrev pub pre_release_of : List ℕ → Option (List Identifier)
pre_release_of text = if length text == 0 then Some [] else identifiers_of text

abbrev pub is_build : List ℕ → Bool
is_build text = nat_lt 0 (length text) && list_all (λ byte. is_word_byte byte || byte == 46) text
