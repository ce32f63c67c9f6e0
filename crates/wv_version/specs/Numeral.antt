-- Decimal numbers of 1 to 18 digits (our own).
use Rattle.std.specs.Prelude.{◌≡◌, ℕ, ◌<◌, ◌≤◌, List, length}
use Rattle.std.specs.Str.Parse.{AllDigits, digits_value}

-- 1 to 18 decimal digits, which stand for this number (own)
pub record IsNumeral (text : List ℕ) (number : ℕ) : Type 0 where
  pub digits : AllDigits 10 text
  pub not_empty : 0 < length text
  pub not_long : length text ≤ 18
  pub value : digits_value 10 text ≡ number
