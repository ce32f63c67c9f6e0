use Rattle.std.proofs.Common.{◌≡◌, Some, length, refl, sym, ap, ◌∙◌}
use Rattle.std.specs.Prelude.{slice_get}
use Rattle.std.proofs.lemmas.Option.{slice_get_read}
use Rattle.wv_code.specs.declared.raw_body.RawAttribute.{RawAttribute}
use Rattle.wv_code.specs.declared.raw_body.RawAttribute.TheVariants as attributes
use Rattle.wv_code.proofs.Tables.{only_table}
use Rattle.wv_code.proofs.body.frames_in.Goals as goal

pub returns-in-Frames : goal.returns-in-Frames
returns-in-Frames c =
    let here : slice_get c.args.attributes.now c.loop-attribute.attribute-index ≡ Some c.attribute-item.result = slice_get_read c.args.attributes.now (length c.args.attributes.now) c.loop-attribute.attribute-index c.attribute-item.result refl c.loop-attribute-test.true c.attribute-item.is in
    let table : slice_get c.args.attributes.now c.loop-attribute.attribute-index ≡ Some (attributes.Frames c.in-Frames.name c.in-Frames.frames) = here ∙ ap (λ (a : RawAttribute). Some a) c.in-Frames.is in
    c.as_slice.ensures ∙ sym (only_table c.args.attributes.now c.loop-attribute.attribute-index c.in-Frames.name c.in-Frames.frames c.requires c.loop-attribute.invariant table)
