use Rattle.std.proofs.Common.{◌≡◌, ◌+◌, ◌++◌, take, arith}
use Rattle.std.proofs.lemmas.List.{length-take}
use Rattle.wv_base.specs.Line.{shown}
use Rattle.wv_base.proofs.Buffer.{Shows-append}
use Rattle.wv_base.proofs.line.put.Goals as goal

pub returns-clause-text : goal.returns-clause-text
returns-clause-text c =
    let i : c.loop-i.i ≡ c.min-count.result = omega (arith, length-take c.min-count.result c.args.more.now) in
    let stored : take (c.args.len + c.min-count.result) c.loop-i.out ≡ take c.args.len c.args.out.now ++ shown (take c.min-count.result c.args.more.now) =
    rw i at c.loop-i.invariant in
    λ text shows. Shows-append c.args.out.now c.loop-i.out c.args.len c.min-count.result text c.args.more.now c.requires c.told-out c.min-count.ensures stored shows
