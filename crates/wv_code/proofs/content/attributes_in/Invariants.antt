use Rattle.std.proofs.Common.{◌≡◌, ◌-◌, ◌≤◌, length}
use Rattle.wv_code.specs.Reading.{attribute_at, times}
use Rattle.wv_code.proofs.Times.{with_front}
use Rattle.wv_code.proofs.content.attributes_in.Given as goal

abbrev pub invariant-loop-place : goal.invariant-loop-place
invariant-loop-place l = record {
  gives : with_front l.attributes (times (attribute_at l.pool) (l.count - l.place) l.missing l.rest) ≡ times (attribute_at l.pool) l.count l.missing l.bytes;
  shorter : length l.rest ≤ length l.bytes;
}
