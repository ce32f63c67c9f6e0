-- The first broken rule of an opened folder, up to the merging of mixins.
use Rattle.std.proofs.Common.{List, ℕ}
use Rattle.wv_base.specs.declared.broken.Broken.{Broken}
use Rattle.wv_front.specs.declared.fault.WeaveFault.{WeaveFault}
use Rattle.wv_front.specs.declared.fault.WeaveFault.TheVariants as faults
use Rattle.wv_front.specs.Opening.{IsBrokenFault}

-- a fault of one kind is one of another
pub fault-weaker : (P Q : Broken → Type 0) → ((broken : Broken) → P broken → Q broken) → (fault : WeaveFault) → IsBrokenFault P fault → IsBrokenFault Q fault
fault-weaker P Q more (faults.Broken broken) h = more broken h
fault-weaker P Q more faults.Memory h = tt
