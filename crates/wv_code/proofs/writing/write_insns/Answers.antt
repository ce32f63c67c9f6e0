use Rattle.wv_code.proofs.Written.{layout_kept}
use Rattle.wv_code.proofs.writing.write_insns.Goals as goal

pub encode_all-requires-clause-laid : goal.encode_all-requires-clause-laid
encode_all-requires-clause-laid c =
    layout_kept c.args.pool.now c.enter_all.new.pool c.args.insns.now c.args.layout.now c.entries-entries.ensures.sound c.in_ok-enter_all.ensures.kept c.in_ok-enter_all.ensures.older c.requires.named c.requires.laid
