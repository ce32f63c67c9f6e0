use Rattle.std.proofs.Common.{◌≡◌, ◌-◌, false}
use Rattle.wv_pool.specs.Reading.{slots_in}
use Rattle.wv_pool.proofs.Loop.{with_front}
use Rattle.wv_pool.proofs.layout.slots_in.Given as goal

abbrev pub invariant-loop-place : goal.invariant-loop-place
invariant-loop-place l = with_front l.entries.items (slots_in l.wide (l.count - l.place) l.rest) ≡ slots_in false l.count l.bytes
