use Rattle.wv_merge.proofs.MergedClasses.{ok_so, place_within}
use Rattle.wv_merge.proofs.WrittenTable.{is_written}
use Rattle.wv_merge.proofs.overwriting.Overwriting.write.Goals as goal

pub changed-woven-requires : goal.changed-woven-requires
changed-woven-requires c = place_within c.args.target.methods c.requires.3.origin c.args.self.place c.requires.3.replaced

pub written-requires : goal.written-requires
written-requires c =
    (c.args.target, c.requires.0, record { is_target = c.requires.1; is_mixin = c.requires.2; overwriting = c.args.self; change = c.requires.3; made = c.changed-woven.ensures })

pub returns : goal.returns
returns c = λ mixin is_target is_mixin change.
    ok_so c.written.result
    (is_written c.args.target mixin c.changed-woven.result (record { is_target = is_target; is_mixin = is_mixin; overwriting = c.args.self; change = change; made = c.changed-woven.ensures }))
    c.written.ensures
