use Rattle.wv_pool.specs.Numbers.{Named}
use Rattle.wv_class.specs.declared.raw_class.Place.TheVariants as places
use Rattle.wv_class.proofs.NeededParts.{class_head, class_annotations}
use Rattle.wv_class.proofs.WritableMembers.{tables_writable, kept_room, fields_writable, fields_bodiless, methods_writable}
use Rattle.wv_class.proofs.rest_writing.parts_to_bytes.Goals as goal

pub put_class-requires : goal.put_class-requires
put_class-requires c = (class_head (Named c.args.pool.now) c.args.class.now c.requires.named).0

pub put_class-requires-2 : goal.put_class-requires-2
put_class-requires-2 c = (class_head (Named c.args.pool.now) c.args.class.now c.requires.named).1.0

pub put_classes-requires-clause-named : goal.put_classes-requires-clause-named
put_classes-requires-clause-named c = rw c.as_slice.ensures (class_head (Named c.args.pool.now) c.args.class.now c.requires.named).1.1

pub put_fields-requires-clause-writable : goal.put_fields-requires-clause-writable
put_fields-requires-clause-writable c = rw c.as_slice-2.ensures (fields_writable c.args.class.now c.args.pool.now c.requires.formed c.requires.few c.requires.kept c.requires.named)

pub put_fields-requires-clause-no_bodies : goal.put_fields-requires-clause-no_bodies
put_fields-requires-clause-no_bodies c = rw c.as_slice-2.ensures (fields_bodiless c.args.class.now c.args.pool.now c.requires.formed c.requires.few c.requires.kept c.requires.named)

pub put_methods-requires-clause-writable : goal.put_methods-requires-clause-writable
put_methods-requires-clause-writable c = rw (c.in_ok-put_fields.ensures.same, c.as_slice-3.ensures) (methods_writable c.args.class.now c.args.pool.now c.requires.formed c.requires.few c.requires.kept c.requires.named)

pub put_others-requires-clause-writable : goal.put_others-requires-clause-writable
put_others-requires-clause-writable c = rw c.as_slice-notes.ensures (tables_writable places.Class c.args.class.now.notes c.requires.formed.notes)

pub put_others-requires-clause-kept : goal.put_others-requires-clause-kept
put_others-requires-clause-kept c = rw c.as_slice-kept.ensures (kept_room c.args.class.now.pool places.Class c.args.class.now.kept c.requires.formed.kept)

pub put_others-requires-clause-named : goal.put_others-requires-clause-named
put_others-requires-clause-named c = rw (c.in_ok-put_methods.ensures.same, c.in_ok-put_fields.ensures.same, c.as_slice-notes.ensures) (class_annotations (Named c.args.pool.now) c.args.class.now c.requires.named)
