-- The text of the number that the small classes print.
use Rattle.std.proofs.Common.{◌≡◌, [], ◌∷◌, arith}
use Rattle.std.specs.Fmt.{decimal}
use Rattle.std.proofs.lemmas.Fmt.{decimal_digit}

pub seven : decimal 7 ≡ 0x37 ∷ []
seven = decimal_digit 7 (omega arith)
