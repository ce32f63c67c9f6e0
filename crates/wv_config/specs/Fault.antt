-- Why a file isn't read (our own).
use Rattle.std.specs.Prelude.{ℕ, List, None, codes}
use Rattle.wv_base.specs.declared.broken.Broken.{Broken}
use Rattle.wv_base.specs.declared.rule.Rule.{Rule}
use Rattle.wv_config.specs.declared.fault.ConfigFault.{ConfigFault}
use Rattle.wv_config.specs.declared.fault.ConfigFault.TheVariants.{Broken as broken_fault, Memory}

-- the rule is broken by a whole file, in which this was found
abbrev pub broken_at : Rule → List ℕ → List ℕ → Broken
broken_at rule path found = record {
  rule = rule;
  place = record { file = path; member = None; index = None };
  wanted = codes "-";
  found = found;
}

-- the fault is such a broken rule, or want of memory
abbrev pub IsFaultOf : (Broken → Type 0) → ConfigFault → Type 0
IsFaultOf IsBroken (broken_fault broken) = IsBroken broken
IsFaultOf IsBroken Memory = Unit {0}
