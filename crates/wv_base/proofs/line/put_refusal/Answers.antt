use Rattle.std.proofs.Common.{◌∙◌, refl, []}
use Rattle.wv_base.specs.Line.{Shows}
use Rattle.wv_base.proofs.Buffer.{shows_refusal}
use Rattle.wv_base.proofs.line.put_refusal.Goals as goal

pub returns-clause-text : goal.returns-clause-text
returns-clause-text c =
    let start : Shows c.args.out.now 0 [] = record { front = refl } in
    let rule = c.put-len-2.ensures.text _ (c.put_number-len.ensures.text _ (c.put-len.ensures.text _ start)) in
    let place = c.put_place-len.ensures.text _ (c.put-len-4.ensures.text _ (c.put-len-3.ensures.text _ rule)) in
    let wanted = c.put-len-6.ensures.text _ (c.put-len-5.ensures.text _ place) in
    let found = c.put.ensures.text _ (c.put-len-7.ensures.text _ wanted) in
    shows_refusal c.put.new.out c.put.result c.args.broken.now c.number.result c.as_bytes.result.now c.as_bytes-2.result.now c.as_bytes-3.result.now
    c.number.ensures (c.as_bytes.ensures.value ∙ c.name.ensures) c.as_bytes-2.ensures c.as_bytes-3.ensures found
