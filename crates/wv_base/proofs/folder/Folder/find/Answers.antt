use Rattle.std.proofs.Common.{◌≡◌, ◌≢◌, All, Some, None, rules}
use Rattle.std.specs.Cmp.Lexicographic.{slice_cmp}
use Rattle.std.specs.List.{HoldsAt, Contains}
use Rattle.std.specs.Ordering.{nat_cmp}
use Rattle.std.specs.declared.cmp.Ordering.TheVariants.{Equal}
use Rattle.std.proofs.lemmas.Fn.{always_returns_same}
use Rattle.wv_base.specs.Folder.{File, content_of}
use Rattle.wv_base.proofs.PathOrder.{content_of-at, content_of-none}
use Rattle.wv_base.proofs.folder.Folder.find.Goals as goal

found : (c : goal.After-index) → (Some c.index.result.now.1 ≡ content_of c.args.path.now c.args.self.now) × Contains c.args.self.now (c.args.path.now, c.index.result.now.1)
found c =
    let ties : HoldsAt (λ (f : File). slice_cmp nat_cmp f.0 c.args.path.now ≡ Equal) c.deref.result.now c.in-Ok.place = c.in-Ok.ensures.position (λ f. slice_cmp nat_cmp f.0 c.args.path.now) (always_returns_same _ _ _ (λ a r f called. search rules)) in
    content_of-at c.self.inside.files.items c.args.self.now c.deref.result.now c.args.path.now c.in-Ok.place c.index.result.now c.self.view_is c.deref.ensures.value c.self.invariant c.in-Ok.ensures.bound ties c.index.ensures

pub returns-in-Ok-clause-content : goal.returns-in-Ok-clause-content
returns-in-Ok-clause-content c = (found c).0

pub returns-in-Ok-clause-found : goal.returns-in-Ok-clause-found
returns-in-Ok-clause-found c = (found c).1

absent : (c : goal.In-Err) → (None ≡ content_of c.args.path.now c.args.self.now) × All (λ file. file.0 ≢ c.args.path.now) c.args.self.now
absent c =
    content_of-none c.self.inside.files.items c.args.self.now c.deref.result.now c.args.path.now c.in-Err.field-0 c.self.view_is c.deref.ensures.value c.self.invariant
    (c.in-Err.ensures.position (λ f. slice_cmp nat_cmp f.0 c.args.path.now) (always_returns_same _ _ _ (λ a r f called. search rules)))

pub returns-in-Err-clause-content : goal.returns-in-Err-clause-content
returns-in-Err-clause-content c = (absent c).0

pub returns-in-Err-clause-absent : goal.returns-in-Err-clause-absent
returns-in-Err-clause-absent c = (absent c).1
