use Rattle.std.proofs.Common.{◌≡◌, ◌-◌}
use Rattle.std.specs.Int.{w32}
use Rattle.wv_insn.specs.Reading.{signed_at, times}
use Rattle.wv_insn.proofs.Times.{with_front}
use Rattle.wv_insn.proofs.reading.offsets.Given as goal

abbrev pub invariant-loop : goal.invariant-loop
invariant-loop l = with_front l.offsets (times (signed_at w32) (l.count - l.counter) l.rest) ≡ times (signed_at w32) l.count l.bytes
