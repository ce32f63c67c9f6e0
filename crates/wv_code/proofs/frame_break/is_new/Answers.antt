use Rattle.std.proofs.Common.{sym}
use Rattle.wv_code.proofs.NamedOperands.{through}
use Rattle.wv_code.proofs.FramePlaces.{new_there, no_insn}
use Rattle.wv_code.proofs.frame_break.is_new.Goals as goal

pub returns-in-Some-get : goal.returns-in-Some-get
returns-in-Some-get c =
    through c.makes_object.ensures
    (new_there c.args.code.now c.requires.0 c.in-Some.index c.args.at c.in-Some-get.insn.now c.requires.1 (rw (c.as_slice.ensures, c.from.ensures) at c.in-Some.ensures.found) (sym c.in-Some-get.ensures.value))

pub returns-in-None : goal.returns-in-None
returns-in-None c = (
  (λ t. absurd cc),
  (λ n. absurd (no_insn c.args.code.now c.requires.0 c.in-Some.index c.args.at c.requires.1 (rw (c.as_slice.ensures, c.from.ensures) at c.in-Some.ensures.found) (sym c.in-None.ensures.value) n)),
)
