use Rattle.std.proofs.Common.{Vec, Global}
use Rattle.wv_front.specs.declared.order.AppliedMixin.{AppliedMixin}
use Rattle.wv_front.proofs.FirstEach.{sorted-named, all-applied, all-ordered}
use Rattle.wv_front.proofs.order.order_mixins.Goals as goal

pub returns-clause-applied : goal.returns-clause-applied
returns-clause-applied c =
    all-applied (λ (v : Vec AppliedMixin Global). v.items) c.args.configs.now.used.items c.args.classes.now c.args.side c.sort.new.namings.items c.first_of_each.result
    (sorted-named c.args.configs.now.used.items c.args.classes.now c.args.side c.in_ok-namings.namings.items c.sort.new.namings.items c.in_ok-sort.ensures (rw c.as_slice.ensures.value at c.in_ok-namings.ensures))
    c.first_of_each.ensures

pub returns-clause-ordered : goal.returns-clause-ordered
returns-clause-ordered c =
    all-ordered (λ (v : Vec AppliedMixin Global). v.items) c.args.configs.now.used.items c.args.classes.now c.args.side c.sort.new.namings.items c.first_of_each.result
    (sorted-named c.args.configs.now.used.items c.args.classes.now c.args.side c.in_ok-namings.namings.items c.sort.new.namings.items c.in_ok-sort.ensures (rw c.as_slice.ensures.value at c.in_ok-namings.ensures))
    c.first_of_each.ensures
