use Rattle.std.proofs.Common.{◌≡◌, ◌-◌, ◌<◌, List, length, get_or, subst}
use Rattle.wv_base.specs.Folder.{File}
use Rattle.wv_base.proofs.PathOrder.{takes-after_all}
use Rattle.wv_base.proofs.folder.Folder.takes.Goals as goal

pub returns-in-Some : goal.returns-in-Some
returns-in-Some c =
    let some = subst (λ (fs : List File). 0 < length fs) c.deref.ensures.value c.in-Some.ensures.item.3.0 in
    let last = subst (λ (fs : List File). c.in-Some.file.now ≡ get_or fs (length fs - 1) c.in-Some.file.now) c.deref.ensures.value c.in-Some.ensures.item.1 in
    takes-after_all c.self.inside.files.items c.args.self.now c.args.path.now c.in-Some.file.now c.lt.result c.self.view_is c.self.invariant some last (cc)
