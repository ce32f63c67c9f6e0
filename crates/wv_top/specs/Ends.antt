-- How a call of the loader ends (our own).
use Rattle.std.specs.Prelude.{◌≡◌, ⊤, ◌⊎◌, ℕ, List, Option, Some, None}
use Rattle.wv_tree.specs.Fault.{Rises}
use Rattle.wv_tree.specs.Sink.{with_bytes, AddsFirst}
use Rattle.wv_tree.specs.Tree.{Folders}
use Rattle.wv_tree.specs.declared.outlet.PutFile.{PutFile}
use Rattle.wv_base.specs.Folder.{File}
use Rattle.wv_base.specs.Line.{refusal}
use Rattle.wv_base.specs.declared.broken.Broken.{Broken}
use Rattle.wv_base.specs.declared.side.Side.{Side}
use Rattle.wv_weave.specs.declared.weaver.Woven.{Woven}
use Rattle.wv_top.specs.Lines.{usage_line, summary_of}
use Rattle.wv_top.specs.Puts.{IsWovenFor, with_files}
use Rattle.wv_top.specs.Reading.{WhereTold}
use Rattle.wv_top.specs.Rules.{FirstBrokenOf, IsWovenOf, NoneBrokenOf, SomeBrokenOf}
use Rattle.wv_top.specs.Words.{Command}
use Rattle.wv_top.specs.declared.status.Status.{Status}
use Rattle.wv_top.specs.declared.status.Status.TheVariants.{Done, Refused, Usage, ReadFault, WriteFault, Memory}

-- words that are no command are answered by the usage line, unless the sink fails, and a command never is
abbrev pub FitsWords : Option Command → Status → Type 0
FitsWords None Usage = ⊤
FitsWords None WriteFault = ⊤
FitsWords None Done = ⊥
FitsWords None Refused = ⊥
FitsWords None ReadFault = ⊥
FitsWords None Memory = ⊥
FitsWords (Some command) Usage = ⊥
FitsWords (Some command) Done = ⊤
FitsWords (Some command) Refused = ⊤
FitsWords (Some command) ReadFault = ⊤
FitsWords (Some command) WriteFault = ⊤
FitsWords (Some command) Memory = ⊤

-- the tree's count of faults rises where the status is ReadFault, and else it stays
abbrev pub TellsReading : Status → ℕ → ℕ → Type 0
TellsReading ReadFault before now = Rises before now
TellsReading Done before now = now ≡ before
TellsReading Refused before now = now ≡ before
TellsReading Usage before now = now ≡ before
TellsReading WriteFault before now = now ≡ before
TellsReading Memory before now = now ≡ before

-- the outlet's count or the sink's rises where the status is WriteFault, and else both stay
abbrev pub TellsWriting : Status → ℕ → ℕ → ℕ → ℕ → Type 0
TellsWriting WriteFault outlet outlet_now sink sink_now =
    (Rises outlet outlet_now × (sink_now ≡ sink)) ⊎ ((outlet_now ≡ outlet) × Rises sink sink_now)
TellsWriting Done outlet outlet_now sink sink_now = (outlet_now ≡ outlet) × (sink_now ≡ sink)
TellsWriting Refused outlet outlet_now sink sink_now = (outlet_now ≡ outlet) × (sink_now ≡ sink)
TellsWriting Usage outlet outlet_now sink sink_now = (outlet_now ≡ outlet) × (sink_now ≡ sink)
TellsWriting ReadFault outlet outlet_now sink sink_now = (outlet_now ≡ outlet) × (sink_now ≡ sink)
TellsWriting Memory outlet outlet_now sink sink_now = (outlet_now ≡ outlet) × (sink_now ≡ sink)

-- nothing is put where the words are no command, reading fails, or a rule is broken
abbrev pub KeepsOutlet : {O : Type 0} → Status → O → O → Type 0
KeepsOutlet Usage outlet now = now ≡ outlet
KeepsOutlet Refused outlet now = now ≡ outlet
KeepsOutlet ReadFault outlet now = now ≡ outlet
KeepsOutlet Done outlet now = ⊤
KeepsOutlet WriteFault outlet now = ⊤
KeepsOutlet Memory outlet now = ⊤

-- where the tree tells its folders: after Done the files break no rule on the command's side, and after Refused they
-- break one
abbrev pub FitsRules : Option Command → Option Folders → Status → Type 0
FitsRules None told status = ⊤
FitsRules (Some command) told Done = WhereTold told command.folder (λ files. NoneBrokenOf files command.side)
FitsRules (Some command) told Refused = WhereTold told command.folder (λ files. SomeBrokenOf files command.side)
FitsRules (Some command) told Usage = ⊤
FitsRules (Some command) told ReadFault = ⊤
FitsRules (Some command) told WriteFault = ⊤
FitsRules (Some command) told Memory = ⊤

-- the line of a command where nothing fails: that of the first rule that the files break on its side, and the summary
-- of what they are woven to where they break none
pub data IsLineOf (files : List File) (side : Side) : List ℕ → Type 0 where
  refuses : {broken : Broken} → FirstBrokenOf files side broken → IsLineOf files side (refusal broken)
  sums_up : {woven : Woven} → NoneBrokenOf files side → IsWovenOf files side woven → IsLineOf files side (summary_of woven)

-- the line of the first broken rule was written
abbrev pub PrintsRefusal : Command → Option Folders → Option (List ℕ) → Option (List ℕ) → Type 0
PrintsRefusal command told before now =
    (broken : Broken) × WhereTold told command.folder (λ files. FirstBrokenOf files command.side broken)
    × (now ≡ with_bytes (refusal broken) before)

-- the summary of what the command's folder is woven to was written
abbrev pub PrintsSummary : Command → Option Folders → Option (List ℕ) → Option (List ℕ) → Type 0
PrintsSummary command told before now =
    (woven : Woven) × WhereTold told command.folder (λ files. IsWovenOf files command.side woven)
    × (now ≡ with_bytes (summary_of woven) before)

-- some first bytes were written of the line that the command writes where nothing fails
abbrev pub PrintsFront : Command → Option Folders → Option (List ℕ) → Option (List ℕ) → Type 0
PrintsFront command told before now =
    (line : List ℕ) × WhereTold told command.folder (λ files. IsLineOf files command.side line)
    × AddsFirst line before now

-- what is told of the sink's content: the line of the status, first bytes of a line where writing fails, and nothing
-- where reading fails or memory runs out
abbrev pub Prints : Option Command → Option Folders → Status → Option (List ℕ) → Option (List ℕ) → Type 0
Prints None told Usage before now = now ≡ with_bytes usage_line before
Prints None told WriteFault before now = AddsFirst usage_line before now
Prints None told Done before now = now ≡ before
Prints None told Refused before now = now ≡ before
Prints None told ReadFault before now = now ≡ before
Prints None told Memory before now = now ≡ before
Prints (Some command) told Done before now = PrintsSummary command told before now
Prints (Some command) told Refused before now = PrintsRefusal command told before now
Prints (Some command) told WriteFault before now = PrintsFront command told before now
Prints (Some command) told Usage before now = now ≡ before
Prints (Some command) told ReadFault before now = now ≡ before
Prints (Some command) told Memory before now = now ≡ before

-- after Done the files of one weave of the command's folder were put, and of the same weave the summary was written
abbrev pub IsDone : Status → Option Command → Option Folders → (put put_now : Option (List PutFile)) → (printed printed_now : Option (List ℕ)) → Type 0
IsDone Done None told put put_now printed printed_now = ⊤
IsDone Done (Some command) told put put_now printed printed_now =
    (woven : Woven) × IsWovenFor command told woven × (put_now ≡ with_files command.out woven.files put)
    × (printed_now ≡ with_bytes (summary_of woven) printed)
IsDone Refused asked told put put_now printed printed_now = ⊤
IsDone Usage asked told put put_now printed printed_now = ⊤
IsDone ReadFault asked told put put_now printed printed_now = ⊤
IsDone WriteFault asked told put put_now printed printed_now = ⊤
IsDone Memory asked told put put_now printed printed_now = ⊤
