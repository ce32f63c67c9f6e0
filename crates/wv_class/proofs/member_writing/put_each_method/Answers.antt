use Rattle.std.proofs.Common.{◌∙◌, arith}
use Rattle.wv_class.specs.Appending.{WritesMember}
use Rattle.wv_class.proofs.Appended.{next_appended}
use Rattle.wv_class.proofs.PutMembers.{layout_at, layouts_many}
use Rattle.wv_class.proofs.member_writing.put_each_method.Goals as goal

pub bounds-layouts-index : goal.bounds-layouts-index
bounds-layouts-index c = omega (arith, c.loop-index-test.true, layouts_many c.args.pool.now c.args.methods.now c.args.layouts.now c.requires.laid)

pub put_member-requires-clause-laid : goal.put_member-requires-clause-laid
put_member-requires-clause-laid c =
    let l = c.loop-index in
    rw (l.invariant.same, c.as_ref.ensures.value)
    (layout_at c.args.pool.now c.args.methods.now c.args.layouts.now l.index c.index-methods-index.result c.index-layouts-index.result c.loop-index-test.true c.index-methods-index.is c.index-layouts-index.is c.requires.laid)

pub loop-index-preserved : goal.loop-index-preserved
loop-index-preserved c =
    let l = c.loop-index in
    record {
      same = c.in_ok-put_member.ensures.same ∙ l.invariant.same;
      put =
          next_appended (WritesMember c.args.pool.now) c.args.methods.now l.index c.index-methods-index.result c.args.out.now l.out c.put_member.new.out c.loop-index-test.true c.index-methods-index.is l.invariant.put
          (rw l.invariant.same at c.in_ok-put_member.ensures.written);
    }
