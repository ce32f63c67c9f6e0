use Rattle.std.proofs.Common.{◌≡◌, arith, refl, inl, inr, true, false}
use Rattle.std.proofs.Math.Nat.{sub-zero}
use Rattle.wv_room.proofs.Fronts.{begun_with, next_positive, next_reading, stops, narrow}
use Rattle.wv_room.proofs.number.read_number.Goals as goal

pub pow-span-requires : goal.pow-span-requires
pow-span-requires g c = omega (arith, narrow c.args.width c.requires.few)

pub loop-place-init : goal.loop-place-init
loop-place-init g c = record {
  within = omega arith;
  read = omega arith;
  span_is = rw sub-zero c.pow-span.ensures;
  least_is = omega arith;
  room = omega (arith, narrow c.args.width c.requires.few, c.pow-span.ensures);
  begun = λ h. absurd (omega arith);
}

pub returns-then-place-bytes-clause-fault : goal.returns-then-place-bytes-clause-fault
returns-then-place-bytes-clause-fault g c = record {
  within = c.loop-place-test.true;
  read = c.loop-place.invariant.read;
  begun = begun_with _ _ _ _ _ _ c.loop-place.invariant;
  stopped = inl (omega (arith, c.loop-place.invariant.read));
}

pub overflow_sub-least : goal.overflow_sub-least
overflow_sub-least g c = omega (arith, next_positive _ _ _ _ _ _ c.loop-place.invariant c.loop-place-test.true c.if-place-bytes.false (omega (arith, c.type_inv.bytes c.loop-place.place)))

pub allows_some-requires : goal.allows_some-requires
allows_some-requires g c = omega (arith, next_positive _ _ _ _ _ _ c.loop-place.invariant c.loop-place-test.true c.if-place-bytes.false (omega (arith, c.type_inv.bytes c.loop-place.place)))

pub returns-then-not-allows_some-clause-fault : goal.returns-then-not-allows_some-clause-fault
returns-then-not-allows_some-clause-fault g c = record {
  within = c.loop-place-test.true;
  read = c.loop-place.invariant.read;
  begun = begun_with _ _ _ _ _ _ c.loop-place.invariant;
  stopped = inr (stops _ _ _ _ _ _ c.loop-place.invariant c.loop-place-test.true c.if-place-bytes.false (omega (arith, c.type_inv.bytes c.loop-place.place))
      (λ some. let no : false ≡ true = c.if-not-allows_some.ensures.1 (rw c.from.ensures some) in absurd cc));
}

pub loop-place-preserved : goal.loop-place-preserved
loop-place-preserved g c =
    rw c.from.ensures (next_reading _ _ _ _ _ _ c.loop-place.invariant c.loop-place-test.true c.if-place-bytes.false (omega (arith, c.type_inv.bytes c.loop-place.place))
    (rw (← c.from.ensures) (c.if-not-allows_some.ensures.0 refl)))
