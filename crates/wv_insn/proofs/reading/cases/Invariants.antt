use Rattle.std.proofs.Common.{◌≡◌, ◌-◌}
use Rattle.wv_insn.specs.Reading.{case_at, times}
use Rattle.wv_insn.proofs.Times.{with_front}
use Rattle.wv_insn.proofs.reading.cases.Given as goal

abbrev pub invariant-loop : goal.invariant-loop
invariant-loop l = with_front l.cases (times case_at (l.count - l.counter) l.rest) ≡ times case_at l.count l.bytes
