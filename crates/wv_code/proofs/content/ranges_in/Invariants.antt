use Rattle.std.proofs.Common.{◌≡◌, ◌-◌, ◌≤◌, length}
use Rattle.wv_code.specs.Reading.{range_at, times}
use Rattle.wv_code.proofs.Times.{with_front}
use Rattle.wv_code.proofs.content.ranges_in.Given as goal

abbrev pub invariant-loop : goal.invariant-loop
invariant-loop l = record {
  gives : with_front l.ranges (times (λ left missing. range_at) (l.count - l.counter) l.missing l.rest) ≡ times (λ left missing. range_at) l.count l.missing l.bytes;
  shorter : length l.rest ≤ length l.bytes;
}
