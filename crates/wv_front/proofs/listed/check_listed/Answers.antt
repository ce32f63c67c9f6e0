use Rattle.std.proofs.Common.{map}
use Rattle.wv_front.specs.Places.{folder_name}
use Rattle.wv_front.specs.Listing.{values}
use Rattle.wv_front.proofs.OneMissing.{all-listed, first-missing}
use Rattle.wv_front.proofs.listed.check_listed.Goals as goal

pub returns-clause-listed : goal.returns-clause-listed
returns-clause-listed c =
    all-listed c.args.configs.now c.args.classes.now (values c.in_ok-ordered.ordered.items) c.check_each.result c.in_ok-ordered.ensures
    (rw c.as_slice.ensures.value at (c.check_each.ensures.listed (map folder_name c.args.classes.now) c.in_ok-places.ensures))

pub returns-clause-missing : goal.returns-clause-missing
returns-clause-missing c =
    first-missing c.args.configs.now c.args.classes.now (values c.in_ok-ordered.ordered.items) c.check_each.result c.in_ok-ordered.ensures
    (rw c.as_slice.ensures.value at (c.check_each.ensures.missing (map folder_name c.args.classes.now) c.in_ok-places.ensures))
