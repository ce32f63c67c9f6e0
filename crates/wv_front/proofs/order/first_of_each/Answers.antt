use Rattle.std.proofs.Common.{◌≡◌, true, false, ◌∙◌, rules, tests}
use Rattle.std.proofs.lemmas.Iterator.Adapters.{YieldsList-from_vec}
use Rattle.std.proofs.lemmas.Iterator.Consumers.{YieldsList-turn}
use Rattle.wv_front.proofs.FirstEach.{yielded-more, yielded-before, firsts-new, firsts-old, seen-more, seen-again, seen-class, unseen-class}
use Rattle.wv_front.proofs.order.first_of_each.Goals as goal

pub loop-naming-preserved-in-Continue-branch-2 : goal.loop-naming-preserved-in-Continue-branch-2
loop-naming-preserved-in-Continue-branch-2 c =
    let b = c.into_iter-naming-iterator.ensures.into_iter_gives in
    let t = YieldsList-turn (YieldsList-from_vec {s = c.into_iter-naming-iterator.result} c.args.namings.items b.0 (b.1 ∙ c.args.namings.ok.0)) c.loop-naming.yielded c.loop-naming.naming-iterator c.loop-naming.yielded_by c.next.result c.next.new.self c.in-Some.naming c.in-Some.is c.next.ensures.steps in
    let before = yielded-before c.args.namings.items c.loop-naming.yielded c.in-Some.naming c.requires c.loop-naming.invariant.so_far t in
    let added : c.in_ok-insert.field-0 ≡ true = search (rules, tests) in
    record {
      so_far = yielded-more c.args.namings.items c.loop-naming.yielded c.in-Some.naming c.loop-naming.invariant.so_far t;
      firsts = rw c.in_ok-push.ensures.items (firsts-new c.loop-naming.yielded c.in-Some.naming c.loop-naming.mixins.items before c.loop-naming.invariant.firsts
          (unseen-class c.loop-naming.seen c.loop-naming.mixins.items c.in-Some.naming.class_place c.in_ok-insert.field-0 c.loop-naming.invariant.seen c.in_ok-insert.ensures.added added));
      seen = rw c.in_ok-push.ensures.items (seen-more c.loop-naming.seen c.insert.new.self c.loop-naming.mixins.items c.in-Some.naming c.in_ok-insert.ensures.updates c.loop-naming.invariant.seen);
    }

pub loop-naming-preserved : goal.loop-naming-preserved
loop-naming-preserved c =
    let b = c.into_iter-naming-iterator.ensures.into_iter_gives in
    let t = YieldsList-turn (YieldsList-from_vec {s = c.into_iter-naming-iterator.result} c.args.namings.items b.0 (b.1 ∙ c.args.namings.ok.0)) c.loop-naming.yielded c.loop-naming.naming-iterator c.loop-naming.yielded_by c.next.result c.next.new.self c.in-Some.naming c.in-Some.is c.next.ensures.steps in
    let before = yielded-before c.args.namings.items c.loop-naming.yielded c.in-Some.naming c.requires c.loop-naming.invariant.so_far t in
    let added : c.in_ok-insert.field-0 ≡ false = search (rules, tests) in
    record {
      so_far = yielded-more c.args.namings.items c.loop-naming.yielded c.in-Some.naming c.loop-naming.invariant.so_far t;
      firsts = firsts-old c.loop-naming.yielded c.in-Some.naming c.loop-naming.mixins.items before c.loop-naming.invariant.firsts
          (seen-class c.loop-naming.seen c.loop-naming.mixins.items c.in-Some.naming.class_place c.in_ok-insert.field-0 c.loop-naming.invariant.seen c.in_ok-insert.ensures.added added);
      seen = seen-again c.loop-naming.seen c.insert.new.self c.loop-naming.mixins.items c.in-Some.naming.class_place c.in_ok-insert.field-0 c.in_ok-insert.ensures.updates c.loop-naming.invariant.seen c.in_ok-insert.ensures.added added;
    }
