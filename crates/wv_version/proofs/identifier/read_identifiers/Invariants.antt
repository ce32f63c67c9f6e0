use Rattle.std.proofs.Common.{◌≡◌, ◌++◌, option_map, option_copied}
use Rattle.wv_version.specs.Reading.{each_of, identifier_of, identifiers_of, parts_of}
use Rattle.wv_version.proofs.Pieces.{text_left}
use Rattle.wv_version.proofs.identifier.read_identifiers.Given as goal

-- the identifiers so far and those of the rest are the text's
abbrev pub invariant-loop-rest : goal.invariant-loop-rest
invariant-loop-rest l = option_map (λ more. l.identifiers ++ more) (each_of identifier_of (parts_of 46 (option_copied l.rest))) ≡ identifiers_of l.fn.text

abbrev pub decreases-loop-rest : goal.decreases-loop-rest
decreases-loop-rest l = text_left (option_copied l.rest)
