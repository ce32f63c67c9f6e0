-- A mixin as it is applied to its target (Mixin 0.8.5, @Overwrite).
use Rattle.wv_base.specs.declared.class_file.ClassFile.{ClassFile}
use Rattle.wv_model.specs.MemberTable as model

-- the mixin's class, applied to this class
abbrev pub applied : (target mixin : ClassFile) → model.Applied
applied target mixin = record { name = mixin.name; target = target.name; methods = mixin.methods }
