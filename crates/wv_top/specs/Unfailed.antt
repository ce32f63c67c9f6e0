-- How a command ends where nothing outside fails (our own).
use Rattle.std.specs.Prelude.{ℕ, List, Some}
use Rattle.wv_base.specs.Folder.{File}
use Rattle.wv_tree.specs.Fault.{Rises}
use Rattle.wv_tree.specs.Tree.{Folders}
use Rattle.wv_base.specs.declared.side.Side.{Side}
use Rattle.wv_top.specs.Words.{Command}
use Rattle.wv_top.specs.Rules.{NoneBrokenOf, SomeBrokenOf}
use Rattle.wv_top.specs.Ends.{FitsWords, FitsRules, TellsReading, TellsWriting}
use Rattle.wv_top.specs.declared.status.Status.{Status}
use Rattle.wv_top.specs.declared.status.Status.TheVariants.{Done, Refused, Memory}

-- how often the tree, the outlet and the sink have failed
pub record Counts : Type 0 where
  pub tree : ℕ
  pub outlet : ℕ
  pub sink : ℕ

-- a call with this command, over a tree that tells these folders, ended with this status, and no count rose
pub record EndsUnfailed (command : Command) (folders : Folders) (status : Status) : Type 0 where
  pub before : Counts
  pub now : Counts
  pub words : FitsWords (Some command) status
  pub rules : FitsRules (Some command) (Some folders) status
  pub reading : TellsReading status before.tree now.tree
  pub writing : TellsWriting status before.outlet now.outlet before.sink now.sink
  pub tree_stays : Rises before.tree now.tree → ⊥
  pub outlet_stays : Rises before.outlet now.outlet → ⊥
  pub sink_stays : Rises before.sink now.sink → ⊥

-- refused where the files break a rule on a side, done where they break none, or memory ran out
pub data Decides (files : List File) (side : Side) : Status → Type 0 where
  refused : SomeBrokenOf files side → Decides files side Refused
  done : NoneBrokenOf files side → Decides files side Done
  starved : Decides files side Memory
