use Rattle.std.proofs.Common.{◌∙◌}
use Rattle.wv_class.specs.Appending.{WritesMember}
use Rattle.wv_class.proofs.Appended.{next_appended}
use Rattle.wv_class.proofs.member_writing.put_each_field.Goals as goal

pub loop-field-preserved : goal.loop-field-preserved
loop-field-preserved c =
    let l = c.loop-field in
    record {
      same = c.in_ok-put_member.ensures.same ∙ l.invariant.same;
      put =
          next_appended (WritesMember c.args.pool.now) c.args.fields.now l.field-index c.field-item.result c.args.out.now l.out c.put_member.new.out c.loop-field-test.true c.field-item.is l.invariant.put
          (rw l.invariant.same at c.in_ok-put_member.ensures.written);
    }
