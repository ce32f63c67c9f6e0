use Rattle.std.proofs.Common.{◌≡◌, ℕ, length, subst, arith}
use Rattle.wv_code.specs.Code.{Follow}
use Rattle.wv_code.proofs.Follows.{follow_push}
use Rattle.wv_code.proofs.Splits.{follow_one, none_goes_on}
use Rattle.wv_code.proofs.splitting.split_code.Goals as goal

pub returns-in-Err-Fault-clause-only : goal.returns-in-Err-Fault-clause-only
returns-in-Err-Fault-clause-only c = λ raws offsets k.
    let cause = rw c.in-Err-Fault.field-0-is at c.in-Err-Fault.ensures.fault in
    absurd (none_goes_on c.args.code.now 0 c.loop-at.raws c.loop-at.offsets c.loop-at.at raws offsets c.loop-at.invariant.follow c.loop-at-test.true cause.none k)

pub loop-at-preserved : goal.loop-at-preserved
loop-at-preserved c = record {
  follow =
      rw (c.in_ok-push.ensures.ok, c.in_ok-push-2.ensures.ok)
      (follow_push c.args.code.now 0 c.loop-at.raws c.loop-at.offsets c.loop-at.at c.in-Ok.found.1 c.in-Ok.found.0 c.loop-at.invariant.follow c.in-Ok.ensures.found);
  within = c.in-Ok.ensures.found.within;
}

pub returns-clause-only : goal.returns-clause-only
returns-clause-only c = λ raws offsets k.
    let end : c.loop-at.at ≡ length c.args.code.now = omega arith in
    follow_one c.args.code.now 0 c.loop-at.raws c.loop-at.offsets raws offsets (subst (λ (z : ℕ). Follow c.args.code.now 0 c.loop-at.raws c.loop-at.offsets z) end c.loop-at.invariant.follow) k
