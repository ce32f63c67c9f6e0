use Rattle.std.proofs.Common.{arith}
use Rattle.wv_class.proofs.Shorts.{short_stops}
use Rattle.wv_class.proofs.number.short_at.Goals as goal

pub returns-then-bytes-lt2 : goal.returns-then-bytes-lt2
returns-then-bytes-lt2 c = short_stops c.args.bytes.now (λ i. omega (arith, c.type_inv.bytes i)) c.if-bytes-lt2.true
