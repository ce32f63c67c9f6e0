-- The roles of classes in the form (our own).
use Rattle.wv_model.specs.PlainCode as model
use Rattle.wv_merge.specs.declared.role.Role.{Role}
use Rattle.wv_merge.specs.declared.role.Role.TheVariants as roles

-- the role that the form speaks of
abbrev pub role_of : Role → model.Role
role_of roles.Game = model.Game
role_of roles.Mixin = model.Mixin
