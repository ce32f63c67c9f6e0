use Rattle.wv_desc.proofs.WordCounts.{IsCounted}
use Rattle.wv_desc.proofs.method.words.Given as goal

abbrev pub invariant-loop-field : goal.invariant-loop-field
invariant-loop-field l = IsCounted l.field-items l.field-index l.words
