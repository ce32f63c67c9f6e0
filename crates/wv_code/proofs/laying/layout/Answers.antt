use Rattle.std.proofs.Common.{length}
use Rattle.wv_code.proofs.laying.layout.Goals as goal

pub enter_constants-requires : goal.enter_constants-requires
enter_constants-requires c = (length c.args.body.now.insns, rw c.as_slice-insns.ensures c.requires)

pub stand-requires : goal.stand-requires
stand-requires c = (length c.args.body.now.insns, rw c.as_slice-insns.ensures c.requires)
