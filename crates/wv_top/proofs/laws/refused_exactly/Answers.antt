use Rattle.std.proofs.Common.{inl, inr}
use Rattle.wv_tree.specs.Tree.{Folders}
use Rattle.wv_top.specs.Words.{Command}
use Rattle.wv_top.specs.Unfailed.{EndsUnfailed, Decides, refused, done, starved}
use Rattle.wv_top.specs.declared.status.Status.{Status}
use Rattle.wv_top.specs.declared.status.Status.TheVariants.{Done, Refused, Usage, ReadFault, WriteFault, Memory}
use Rattle.wv_top.proofs.OneReading.{one_broken_of, none_or_first}
use Rattle.wv_top.proofs.laws.refused_exactly.Goals as goal

decided : (command : Command) (folders : Folders) (status : Status) → EndsUnfailed command folders status → Decides (folders command.folder) command.side status
decided command folders Done ends = done ends.rules
decided command folders Refused ends = refused ends.rules
decided command folders Usage ends = absurd ends.words
decided command folders ReadFault ends = absurd (ends.tree_stays ends.reading)
decided command folders WriteFault ends =
    elim ends.writing [ inl failed ↦ absurd (ends.outlet_stays failed.0) | inr failed ↦ absurd (ends.sink_stays failed.1) ]
decided command folders Memory ends = starved

pub returns-clause-decided : goal.returns-clause-decided
returns-clause-decided c = λ command folders status ends. decided command folders status ends

pub returns-clause-apart : goal.returns-clause-apart
returns-clause-apart c = λ files side none some. none_or_first files side some.0 none some.1

pub returns-clause-one_first : goal.returns-clause-one_first
returns-clause-one_first c = λ files side first second a b. one_broken_of files side first second a b
