use Rattle.std.proofs.Common.{◌≡◌, true, false, refl, sym, ◌∙◌, arith, rules, tests}
use Rattle.wv_class.proofs.MemberKeys.{next_keys, seen_twice, all_distinct}
use Rattle.wv_class.proofs.distinct.are_distinct.Goals as goal

pub returns-then-not-branch : goal.returns-then-not-branch
returns-then-not-branch c =
    let key = c.in_ok-copy.ensures in
    let other = c.in_ok-copy-2.ensures in
    let seen : c.in_ok-insert.field-0 ≡ false = search (rules, tests) in (
      (λ never. cc),
      λ distinct. absurd (seen_twice c.loop-member.seen c.args.members.now c.loop-member.member-index c.member-item.result c.loop-member-test.true c.member-item.is c.loop-member.invariant
          (sym (rw (key, other) at c.in_ok-insert.ensures.added) ∙ seen) distinct),
    )

pub loop-member-preserved : goal.loop-member-preserved
loop-member-preserved c =
    let key = c.in_ok-copy.ensures in
    let other = c.in_ok-copy-2.ensures in
    let fresh : c.in_ok-insert.field-0 ≡ true = search (rules, tests) in
    next_keys c.loop-member.seen c.insert.new.self c.args.members.now c.loop-member.member-index c.member-item.result c.loop-member-test.true c.member-item.is c.loop-member.invariant
    (sym (rw (key, other) at c.in_ok-insert.ensures.added) ∙ fresh) (rw (key, other) at c.in_ok-insert.ensures.updates)

pub returns : goal.returns
returns c =
    ((λ _. all_distinct c.loop-member.seen c.args.members.now c.loop-member.member-index (omega (arith, c.loop-member-test.false)) c.loop-member.invariant), λ _. refl)
