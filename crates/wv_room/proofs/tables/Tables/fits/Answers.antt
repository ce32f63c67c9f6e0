use Rattle.std.proofs.Common.{ℕ, ◌-◌, arith, subst}
use Rattle.wv_room.specs.Tables.{TablesTake}
use Rattle.wv_room.proofs.TableSizes.{reached, spelled}
use Rattle.wv_room.proofs.tables.Tables.fits.Goals as goal

pub returns-then-room-least-clause-filled : goal.returns-then-room-least-clause-filled
returns-then-room-least-clause-filled c = (λ t. absurd cc, λ f. let r = reached f in absurd (omega (arith, r.size)))

pub returns-clause-filled : goal.returns-clause-filled
returns-clause-filled c = (
  λ t. spelled (omega arith) (record { more = c.from-room.result - c.least-least.result; size = omega arith; takes = c.take.ensures.0 t }),
  λ f. let r = reached f in c.take.ensures.1 (subst (λ (k : ℕ). TablesTake c.args.self.now.attributes c.args.self.now.attribute_tables c.args.self.now.range_tables k) (omega (arith, r.size)) r.takes),
)
