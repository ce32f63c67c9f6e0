use Rattle.std.specs.Int.{w32}
use Rattle.std.proofs.lemmas.Int.{to_z-of_z}
use Rattle.wv_insn.specs.declared.raw.Raw.TheVariants as raws
use Rattle.wv_code.specs.Breaks.{Lands, Loads, Takes, TakesSite, NamesClass}
use Rattle.wv_code.proofs.LeastPlaces.{asked}
use Rattle.wv_code.proofs.InsnPlaces.{one_least}
use Rattle.wv_code.proofs.insn_break.insn_break.Goals as goal

pub returns-in-Load : goal.returns-in-Load
returns-in-Load c =
    let A = Loads c.args.pool.now c.in-Load.op c.in-Load.number in
    rw c.in-Load.is (one_least c.args.pool.now c.args.offsets.now c.args.at c.args.base (raws.Load c.in-Load.op c.in-Load.number) A (λ m h. h) (λ m h. h) (asked A c.unless.ensures c.names_loaded.ensures))

pub returns-in-Branch : goal.returns-in-Branch
returns-in-Branch c =
    let A = Lands c.args.offsets.now c.args.at c.in-Branch.offset in
    rw c.in-Branch.is
    (one_least c.args.pool.now c.args.offsets.now c.args.at c.args.base (raws.Branch _ c.in-Branch.offset) A (λ m h. h) (λ m h. h)
    (asked A c.unless-in-Branch.ensures (rw (to_z-of_z w32 c.in-Branch.offset (rw c.in-Branch.is at c.requires.typed).1) at c.lands.ensures)))

pub returns-in-Table : goal.returns-in-Table
returns-in-Table c =
    let typed = rw c.in-Table.is at c.requires.typed in
    rw c.in-Table.is
    (rw (to_z-of_z w32 c.in-Table.low typed.0, to_z-of_z w32 c.in-Table.high typed.1, to_z-of_z w32 c.in-Table.other typed.2, c.as_slice-distances.ensures) at (c.table_break.ensures c.args.pool.now))

pub returns-in-Lookup : goal.returns-in-Lookup
returns-in-Lookup c =
    let typed = rw c.in-Lookup.is at c.requires.typed in
    rw c.in-Lookup.is (rw (to_z-of_z w32 c.in-Lookup.other typed.0, c.as_slice.ensures) at (c.lookup_break.ensures c.args.pool.now))

pub returns-in-Interface : goal.returns-in-Interface
returns-in-Interface c = rw c.in-Interface.is (c.interface_break.ensures c.args.offsets.now c.args.at)

pub returns-in-Reference : goal.returns-in-Reference
returns-in-Reference c =
    let A = Takes c.args.pool.now c.in-Reference.op c.in-Reference.number in
    rw c.in-Reference.is
    (one_least c.args.pool.now c.args.offsets.now c.args.at c.args.base (raws.Reference c.in-Reference.op c.in-Reference.number) A (λ m h. h) (λ m h. h) (asked A c.unless-in-Reference.ensures c.names_taken.ensures))

pub returns-in-Dynamic : goal.returns-in-Dynamic
returns-in-Dynamic c =
    let A = TakesSite c.args.pool.now c.in-Dynamic.number in
    rw c.in-Dynamic.is (one_least c.args.pool.now c.args.offsets.now c.args.at c.args.base (raws.Dynamic c.in-Dynamic.number) A (λ m h. h) (λ m h. h) (asked A c.unless-in-Dynamic.ensures c.names_site.ensures))

pub returns-in-Class : goal.returns-in-Class
returns-in-Class c =
    let A = NamesClass c.args.pool.now c.in-Class.number in
    rw c.in-Class.is (one_least c.args.pool.now c.args.offsets.now c.args.at c.args.base (raws.Class _ c.in-Class.number) A (λ m h. h) (λ m h. h) (asked A c.unless-in-Class.ensures c.names_class.ensures))

pub returns-in-NewArray : goal.returns-in-NewArray
returns-in-NewArray c =
    rw c.in-NewArray.is (one_least c.args.pool.now c.args.offsets.now c.args.at c.args.base (raws.NewArray c.in-NewArray.kind) _ (λ m h. h) (λ m h. h) (asked _ c.unless-in-NewArray.ensures c.is_array_kind.ensures))

pub returns-in-MultiArray : goal.returns-in-MultiArray
returns-in-MultiArray c = rw c.in-MultiArray.is (c.multi_array_break.ensures c.args.offsets.now c.args.at)
