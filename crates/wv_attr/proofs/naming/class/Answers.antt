use Rattle.wv_pool.specs.References.{text_of}
use Rattle.wv_attr.specs.Types.{type_of, class_in}
use Rattle.wv_attr.proofs.TypeTables.{agree, class_known, is_some_none}
use Rattle.wv_attr.proofs.Meanings.{named_class}
use Rattle.wv_attr.proofs.naming.class.Goals as goal

pub unreachable-requires : goal.unreachable-requires
unreachable-requires c =
    let known = class_known (text_of c.args.pool.now c.args.number) (type_of c.args.types.now c.args.number) (agree c.args.pool.now c.args.types.now c.args.number c.requires.types) in
    is_some_none (class_in (type_of c.args.types.now c.args.number)) c.in-None.ensures (known.shows c.requires.class)

pub returns : goal.returns
returns c =
    named_class (text_of c.args.pool.now c.args.number) (type_of c.args.types.now c.args.number) c.in-Some.name.now c.copy.result (agree c.args.pool.now c.args.types.now c.args.number c.requires.types) c.in-Some.ensures c.copy.ensures
