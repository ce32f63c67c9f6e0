use Rattle.std.proofs.Common.{option_copied}
use Rattle.wv_version.proofs.Pieces.{text_left}
use Rattle.wv_version.proofs.Spaces.{IsReadTo}
use Rattle.wv_version.proofs.predicate.Predicate.read.Given as goal

abbrev pub invariant-loop-rest : goal.invariant-loop-rest
invariant-loop-rest l = IsReadTo l.fn.text (option_copied l.rest) l.terms

abbrev pub decreases-loop-rest : goal.decreases-loop-rest
decreases-loop-rest l = text_left (option_copied l.rest)
