use Rattle.std.proofs.Common.{◌≡◌}
use Rattle.std.specs.Ordering.{nat_cmp}
use Rattle.std.specs.Cmp.Lexicographic.{slice_cmp}
use Rattle.wv_version.proofs.Identifiers.{word_tells}
use Rattle.wv_version.proofs.identifier.Identifier.compare.Goals as goal

pub returns-in-Word-Word : goal.returns-in-Word-Word
returns-in-Word-Word c =
    let is : c.cmp-in-Word-Word.result ≡ slice_cmp nat_cmp c.in-Word-Word.word c.in-Word-Word.other = cc in
    rw (c.in-Word-Word.is-0, c.in-Word-Word.is-1) (word_tells c.in-Word-Word.word c.in-Word-Word.other c.cmp-in-Word-Word.result is)
