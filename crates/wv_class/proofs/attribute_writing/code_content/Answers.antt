use Rattle.wv_pool.specs.Numbers.{Named}
use Rattle.wv_code.specs.Constants.{all_constants}
use Rattle.wv_code.specs.BodyConstants.{body_constants, other_constants}
use Rattle.wv_code.proofs.Written.{all_front}
use Rattle.wv_class.proofs.HasParts.{each_has_parts, parts_named, enters_same, never_full, short_among}
use Rattle.wv_class.proofs.attribute_writing.code_content.Goals as goal

pub write_code-requires-clause-named : goal.write_code-requires-clause-named
write_code-requires-clause-named c =
    let pool = c.args.pool.now in
    let body = c.args.body.now in
    short_among (Named pool) body.insns (all_front (Named pool) (all_constants body.insns) (other_constants body) (parts_named pool (body_constants body) c.requires.named))

pub unreachable-requires : goal.unreachable-requires
unreachable-requires c =
    let pool = c.args.pool.now in
    let constants = body_constants c.args.body.now in
    never_full pool constants c.entries-entries.ensures.sound.0.0 (each_has_parts pool constants c.requires.named) (c.in-Err-Full.ensures.full c.in-Err-Full.field-0-is)

pub returns-in-Ok-clause-same : goal.returns-in-Ok-clause-same
returns-in-Ok-clause-same c =
    let pool = c.args.pool.now in
    let constants = body_constants c.args.body.now in
    enters_same pool constants c.write_code.new.pool (each_has_parts pool constants c.requires.named) c.in-Ok.ensures.entered

pub returns-in-Ok-clause-read_again : goal.returns-in-Ok-clause-read_again
returns-in-Ok-clause-read_again c = λ first. rw (returns-in-Ok-clause-same c) at (c.in-Ok.ensures.read_again first)
