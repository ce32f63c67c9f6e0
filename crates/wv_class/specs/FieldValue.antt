-- The fields that keep their value in an int (JVM Specification 4.7.2, table 4.7.2-A).
use Rattle.std.specs.Prelude.{ℕ, ◌==◌, ◌||◌, Bool, false, List, [], ◌∷◌}

-- the descriptor is one of B C I S and Z
abbrev pub is_small : List ℕ → Bool
is_small (letter ∷ []) = letter == 66 || letter == 67 || letter == 73 || letter == 83 || letter == 90
is_small _ = false
