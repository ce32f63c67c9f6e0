use Rattle.wv_class.specs.Meaning.{none}
use Rattle.wv_class.proofs.AttributeMeanings.{notes_more}
use Rattle.wv_class.proofs.notes_of.all_notes.Goals as goal

pub loop-attribute-init : goal.loop-attribute-init
loop-attribute-init c = rw c.new-found.ensures none

pub loop-attribute-preserved : goal.loop-attribute-preserved
loop-attribute-preserved c =
    rw c.in_ok-append.ensures (notes_more c.args.pool.now c.args.attributes.now c.loop-attribute.found c.in_ok-notes_in.field-0 c.loop-attribute.attribute-index c.attribute-item.result c.loop-attribute-test.true c.attribute-item.is
    c.loop-attribute.invariant c.in_ok-notes_in.ensures)
