use Rattle.std.proofs.Common.{◌≡◌, [], length, sym, subst}
use Rattle.std.proofs.lemmas.Iterator.{YieldsList-from_zip}
use Rattle.std.proofs.lemmas.Iterator.Adapters.{YieldsList-from_vec}
use Rattle.std.proofs.lemmas.Iterator.Consumers.{YieldsList-end}
use Rattle.wv_weave.specs.Outgoing.{AreKept, none}
use Rattle.wv_weave.proofs.KeptPairs.{pair-left, pair-kept, pairs-all}
use Rattle.wv_weave.proofs.outgoing.kept.Goals as goal

pub loop-class-init : goal.loop-class-init
loop-class-init c = λ configs names. subst (AreKept configs [] []) (sym c.new-kept.ensures.items) none

pub loop-class-preserved-in_ok-push : goal.loop-class-preserved-in_ok-push
loop-class-preserved-in_ok-push c = λ configs names.
    pair-kept configs c.loop-class.yielded c.in-Some.class c.in-Some.overwriting c.loop-class.kept.items c.in_ok-written_path.field-0 c.push.new.self.items c.has.result c.if-not-has.true
    (c.has.ensures configs names) c.in_ok-written_path.ensures c.in_ok-push.ensures.items (c.loop-class.invariant configs names)

pub loop-class-preserved : goal.loop-class-preserved
loop-class-preserved c = λ configs names.
    pair-left configs c.loop-class.yielded c.in-Some.class c.in-Some.overwriting c.loop-class.kept.items c.has.result c.if-not-has.false
    (c.has.ensures configs names) (c.loop-class.invariant configs names)

pub returns : goal.returns
returns c = λ configs names.
    let items-of-classes : c.into_iter-class-iterator.result.a.rest.items ≡ c.args.classes.items = cc in
    let len-of-classes : c.into_iter-class-iterator.result.a.rest.len ≡ length c.args.classes.items = (let ok = c.args.classes.ok.0 in cc) in
    let items-of-edits : c.into_iter-class-iterator.result.b.rest.items ≡ c.args.edits.items = cc in
    let len-of-edits : c.into_iter-class-iterator.result.b.rest.len ≡ length c.args.edits.items = (let ok = c.args.edits.ok.0 in cc) in
    pairs-all configs c.args.classes.items c.args.edits.items c.loop-class.yielded c.loop-class.kept.items c.requires
    (YieldsList-end (YieldsList-from_zip
    (YieldsList-from_vec {s = c.into_iter-class-iterator.result.a} c.args.classes.items items-of-classes len-of-classes)
    (YieldsList-from_vec {s = c.into_iter-class-iterator.result.b} c.args.edits.items items-of-edits len-of-edits))
    c.loop-class.yielded c.loop-class.class-iterator c.loop-class.yielded_by c.next.result c.next.new.self c.in-None.is c.next.ensures.steps).0
    (c.loop-class.invariant configs names)
