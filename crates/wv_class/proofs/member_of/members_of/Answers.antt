use Rattle.std.proofs.Common.{◌≡◌, ◌++◌, ◌∷◌, []}
use Rattle.wv_class.proofs.MemberMeanings.{member_read, members_more}
use Rattle.wv_class.proofs.member_of.members_of.Goals as goal

pub member_of-requires-clause-read : goal.member_of-requires-clause-read
member_of-requires-clause-read c =
    let done = c.loop-raw.invariant.0 in
    let parts : c.args.raws ≡ (c.pop.new.self ++ c.in-Some.raw ∷ []) ++ done = rw c.in-Some.ensures at c.loop-raw.invariant.1 in
    member_read c.args.pool.now c.args.class c.args.raws c.pop.new.self done c.in-Some.raw parts c.requires.read

pub loop-raw-preserved : goal.loop-raw-preserved
loop-raw-preserved c =
    let done = c.loop-raw.invariant.0 in
    let parts : c.args.raws ≡ (c.pop.new.self ++ c.in-Some.raw ∷ []) ++ done = rw c.in-Some.ensures at c.loop-raw.invariant.1 in
    rw c.in_ok-push.ensures.items
    (members_more c.args.pool.now c.args.class c.args.raws c.pop.new.self done c.in-Some.raw c.loop-raw.members.items c.in_ok-member_of.field-0 parts c.loop-raw.invariant.2 c.in_ok-member_of.ensures)
