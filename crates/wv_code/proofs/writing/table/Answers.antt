use Rattle.std.proofs.Common.{◌∙◌, length, SFits, sym, rules}
use Rattle.std.proofs.lemmas.Int.{to_z-of_z}
use Rattle.std.specs.Int.{w32}
use Rattle.wv_code.proofs.Leading.{lead_lengths, keys_are}
use Rattle.wv_code.proofs.writing.table.Goals as goal

pub returns-clause-encodable : goal.returns-clause-encodable
returns-clause-encodable c =
    let low_fits : SFits w32 c.args.low = search rules in
    let high_fits : SFits w32 c.last_key.result = search rules in
    let low = to_z-of_z w32 c.args.low low_fits in
    let high = to_z-of_z w32 c.last_key.result high_fits in
    rw (high, c.last_key.ensures, low)
    (lead_lengths c.args.offsets.now c.args.at c.in_ok-offsets_of_keys.offsets_of_keys c.args.targets.now c.in_ok-offsets_of_keys.ensures ∙ sym (keys_are c.args.low (length c.args.targets.now) c.requires.some))
