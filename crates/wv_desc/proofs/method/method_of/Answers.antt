use Rattle.std.proofs.Common.{◌≡◌, [], ◌∷◌, ◌++◌}
use Rattle.wv_desc.specs.Front.{field_of}
use Rattle.wv_desc.proofs.Reading.{no_method, no_parameter, read_one_more}
use Rattle.wv_desc.proofs.method.method_of.Goals as goal

pub returns-in-Some-behind-clause-none : goal.returns-in-Some-behind-clause-none
returns-in-Some-behind-clause-none c =
    no_method c.args.units.now c.loop-after.rest.now c.in-Some-behind.after.now c.loop-after.parameters.items c.with_result.result c.loop-after.invariant c.in-Some-behind.ensures.found c.with_result.ensures.none

pub returns-in_default-field_front-clause-none : goal.returns-in_default-field_front-clause-none
returns-in_default-field_front-clause-none c =
    no_parameter c.args.units.now c.loop-after.parameters.items c.loop-after.rest.now c.loop-after.invariant c.in_default-behind.ensures.none c.in_default-field_front.ensures

pub loop-after-smaller : goal.loop-after-smaller
loop-after-smaller c =
    let read = c.in-Some-field_front in
    (read_one_more c.args.units.now c.loop-after.parameters.items c.loop-after.rest.now read.after.now (field_of read.field) c.loop-after.invariant read.ensures).1

pub loop-after-preserved : goal.loop-after-preserved
loop-after-preserved c =
    let read = c.in-Some-field_front in
    let more = read_one_more c.args.units.now c.loop-after.parameters.items c.loop-after.rest.now read.after.now (field_of read.field) c.loop-after.invariant read.ensures in
    let pushed : c.push.new.self.items ≡ c.loop-after.parameters.items ++ field_of read.field ∷ [] = cc (c.in_ok-push.ensures.items, c.in_ok-to_type.ensures) in
    rw pushed more.0
