use Rattle.std.proofs.Common.{refl}
use Rattle.wv_merge.proofs.NoteTests.{begins}
use Rattle.wv_merge.proofs.note.begins_with.Goals as goal

pub returns : goal.returns
returns c = (
  λ _. begins c.args.name.now c.args.front.now c.units-units.result.now c.as_bytes-bytes.result.now c.loop-place.place c.units-units.ensures c.as_bytes-bytes.ensures.value c.loop-place-test.false c.loop-place.invariant,
  λ _. refl,
)
