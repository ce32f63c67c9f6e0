use Rattle.std.proofs.Common.{◌∙◌, sym, subst, List, rules}
use Rattle.std.proofs.lemmas.Iterator.Adapters.{YieldsList-from_vec}
use Rattle.std.proofs.lemmas.Iterator.Consumers.{YieldsList-end}
use Rattle.std.proofs.lemmas.List.{map-id}
use Rattle.wv_resolve.proofs.Flaws.{match-both}
use Rattle.wv_classes.specs.declared.folder_class.FolderClass.{FolderClass}
use Rattle.wv_classes.specs.LoadedClass.{IsLoadedAs}
use Rattle.wv_classes.specs.Rules.{IsLeastOf, IsBrokenFault}
use Rattle.wv_classes.specs.Checking.{IsCheckingOf}
use Rattle.wv_classes.proofs.checking.check_classes.Goals as goal

pub loop-class-preserved : goal.loop-class-preserved
loop-class-preserved c =
    let file = c.in-Some.class in
    c.in_ok-add.ensures c.loop-class.yielded file c.loop-class.invariant
    (match-both c.check_class-checked.result (IsLoadedAs file) (IsBrokenFault (IsLeastOf file)) c.check_class-checked.ensures.loaded c.check_class-checked.ensures.fault)

pub returns-clause-loaded : goal.returns-clause-loaded
returns-clause-loaded c =
    let ended = YieldsList-end (YieldsList-from_vec c.args.classes.items (search rules) (search rules)) c.loop-class.yielded c.loop-class.class-iterator c.loop-class.yielded_by c.next.result c.next.new.self c.in-None.is c.next.ensures.steps in
    c.finish.ensures.loaded c.args.classes.items
    (subst (λ (files : List FolderClass). IsCheckingOf files c.loop-class.checking) (sym (map-id c.loop-class.yielded) ∙ ended.0) c.loop-class.invariant)

pub returns-clause-fault : goal.returns-clause-fault
returns-clause-fault c =
    let ended = YieldsList-end (YieldsList-from_vec c.args.classes.items (search rules) (search rules)) c.loop-class.yielded c.loop-class.class-iterator c.loop-class.yielded_by c.next.result c.next.new.self c.in-None.is c.next.ensures.steps in
    c.finish.ensures.fault c.args.classes.items
    (subst (λ (files : List FolderClass). IsCheckingOf files c.loop-class.checking) (sym (map-id c.loop-class.yielded) ∙ ended.0) c.loop-class.invariant)
