use Rattle.std.proofs.lemmas.Bool.{iff_false}
use Rattle.wv_merge.specs.Role.{role_of}
use Rattle.wv_merge.proofs.PlainTests.{void_room, other_room}
use Rattle.wv_merge.proofs.plain.has_room.Goals as goal

pub returns-then-is_ascii : goal.returns-then-is_ascii
returns-then-is_ascii c =
    (λ _. void_room c.args.descriptor.now c.args.max_locals (c.is_ascii.ensures.0 c.if-is_ascii.true), λ _. c.if-is_ascii.true)

pub returns-else-is_ascii : goal.returns-else-is_ascii
returns-else-is_ascii c =
    other_room (role_of c.args.role) c.args.descriptor.now c.args.max_locals c.requires (iff_false c.is_ascii.ensures c.if-is_ascii.false)
