use Rattle.std.proofs.Common.{refl}
use Rattle.wv_model.specs.Platform.{interfaces}
use Rattle.wv_model.proofs.meaning.two_classes_examples.Goals as goal

pub returns-clause-hooked_other : goal.returns-clause-hooked_other
unfolding interfaces
returns-clause-hooked_other c = refl

pub returns-clause-no_interface_method : goal.returns-clause-no_interface_method
unfolding interfaces
returns-clause-no_interface_method c = refl
