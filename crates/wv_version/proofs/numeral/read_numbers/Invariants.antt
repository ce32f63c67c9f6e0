use Rattle.std.proofs.Common.{◌≡◌, ◌++◌, option_map, option_copied}
use Rattle.wv_version.specs.Reading.{each_of, number_of, numbers_of, parts_of}
use Rattle.wv_version.proofs.Pieces.{text_left}
use Rattle.wv_version.proofs.numeral.read_numbers.Given as goal

-- the numbers so far and those of the rest are the text's
abbrev pub invariant-loop-rest : goal.invariant-loop-rest
invariant-loop-rest l = option_map (λ more. l.numbers ++ more) (each_of number_of (parts_of 46 (option_copied l.rest))) ≡ numbers_of l.fn.text

abbrev pub decreases-loop-rest : goal.decreases-loop-rest
decreases-loop-rest l = text_left (option_copied l.rest)
