-- A mixin's code as it is read in the target, by the names of both (Mixin 0.8.5, @Overwrite).
use Rattle.std.specs.Prelude.{ℕ, List}
use Rattle.wv_base.specs.declared.class_file.Body.{Body}
use Rattle.wv_base.specs.declared.class_file.Member.{Member}
use Rattle.wv_base.specs.declared.insn.Insn.{Insn}
use Rattle.wv_model.specs.MemberTable as model
use Rattle.wv_merge.specs.declared.overwrite.Renaming.{Renaming}

-- what a class's name in the mixin's code means
abbrev pub meaning : Renaming → List ℕ → List ℕ
meaning names name = model.meaning_of names.mixin.now names.target.now name

-- an instruction and code of it, and a method of the target that it overwrites
abbrev pub insn_read : Renaming → Insn → Insn
insn_read names insn = model.read_in_target names.mixin.now names.target.now insn

abbrev pub body_read : Renaming → Body → Body
body_read names body = model.body_in_target names.mixin.now names.target.now body

abbrev pub method_read : Renaming → Member → Member → Member
method_read names old origin = model.overwritten names.mixin.now names.target.now old origin
