use Rattle.wv_base.proofs.MethodTypes.{descriptor_cancel, front_is, method_cancel}
use Rattle.wv_base.proofs.descriptor.one_descriptor.Goals as goal

pub returns-clause-front : goal.returns-clause-front
returns-clause-front c units rest field = front_is units rest field

pub returns-clause-field : goal.returns-clause-field
returns-clause-field c = descriptor_cancel

pub returns-clause-method : goal.returns-clause-method
returns-clause-method c = method_cancel
