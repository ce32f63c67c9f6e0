use Rattle.std.proofs.Common.{take}
use Rattle.std.specs.List.{AllByRecursion}
use Rattle.wv_form.specs.declared.kinds.KnownFile.{KnownFile}
use Rattle.wv_form.specs.Form.{IsOfForm}
use Rattle.wv_form.proofs.checking.check_form.Given as goal

-- the class files so far have the form
abbrev pub invariant-loop-known : goal.invariant-loop-known
invariant-loop-known l = AllByRecursion (λ (one : KnownFile). IsOfForm l.folder l.classes one.file.now) (take l.known-index l.known-items)
