use Rattle.std.proofs.Common.{ℕ, ◌-◌, arith, subst}
use Rattle.wv_room.specs.Elements.{Takes}
use Rattle.wv_room.proofs.ElementSizes.{reached, spelled}
use Rattle.wv_room.proofs.elements.Elements.fits.Goals as goal

pub returns-then-room-least-clause-filled : goal.returns-then-room-least-clause-filled
returns-then-room-least-clause-filled c = (λ t. absurd cc, λ f. let r = reached f in absurd (omega (arith, r.size)))

pub returns-clause-filled : goal.returns-clause-filled
returns-clause-filled c = (
  λ t. spelled (record { more = c.from-room.result - c.least-least.result; size = omega arith; takes = c.take.ensures.0 t }),
  λ f. let r = reached f in c.take.ensures.1 (subst (λ (k : ℕ). Takes c.args.self.now.values c.args.self.now.annotations c.args.self.now.parameters k) (omega (arith, r.size)) r.takes),
)
