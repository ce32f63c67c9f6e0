use Rattle.wv_class.proofs.OneFault.{class_is_sound, never_both_faults, one_layout_fault, one_reference_fault}
use Rattle.wv_class.proofs.laws.one_fault.Goals as goal

pub returns-clause-layout : goal.returns-clause-layout
returns-clause-layout c = one_layout_fault

pub returns-clause-reference : goal.returns-clause-reference
returns-clause-reference c = one_reference_fault

pub returns-clause-not_both : goal.returns-clause-not_both
returns-clause-not_both c = never_both_faults

pub returns-clause-no_layout_fault : goal.returns-clause-no_layout_fault
returns-clause-no_layout_fault c = λ bytes class at spells fault. fault.no_class spells.raw spells.layout

pub returns-clause-no_reference_fault : goal.returns-clause-no_reference_fault
returns-clause-no_reference_fault c = class_is_sound
