use Rattle.wv_class.proofs.ClassMeanings.{class_named, superclass_named, interfaces_named, fields_read, methods_read, attributes_read}
use Rattle.wv_class.proofs.class.class_of.Goals as goal

pub names_of-requires-clause-class : goal.names_of-requires-clause-class
names_of-requires-clause-class c = class_named c.args.pool.now c.args.types.now c.requires.types c.args.rest c.requires.spelled.0 c.requires.spelled.1 c.requires.spelled.2 c.requires.sound

pub names_of-requires-clause-superclass : goal.names_of-requires-clause-superclass
names_of-requires-clause-superclass c = superclass_named c.args.pool.now c.args.types.now c.requires.types c.args.rest c.requires.spelled.0 c.requires.spelled.1 c.requires.spelled.2 c.requires.sound

pub names_of-requires-clause-interfaces : goal.names_of-requires-clause-interfaces
names_of-requires-clause-interfaces c = interfaces_named c.args.pool.now c.args.types.now c.requires.types c.args.rest c.requires.spelled.0 c.requires.spelled.1 c.requires.spelled.2 c.requires.sound

pub all_members-requires-clause-fields : goal.all_members-requires-clause-fields
all_members-requires-clause-fields c = fields_read c.args.pool.now c.args.types.now c.requires.types c.args.rest c.requires.spelled.0 c.requires.spelled.1 c.requires.spelled.2 c.requires.sound

pub all_members-requires-clause-methods : goal.all_members-requires-clause-methods
all_members-requires-clause-methods c = methods_read c.args.pool.now c.args.types.now c.requires.types c.args.rest c.requires.spelled.0 c.requires.spelled.1 c.requires.spelled.2 c.requires.sound

pub notes_and_kept-requires-clause-read : goal.notes_and_kept-requires-clause-read
notes_and_kept-requires-clause-read c = attributes_read c.args.pool.now c.args.types.now c.requires.types c.args.rest c.requires.spelled.0 c.requires.spelled.1 c.requires.spelled.2 c.requires.sound
