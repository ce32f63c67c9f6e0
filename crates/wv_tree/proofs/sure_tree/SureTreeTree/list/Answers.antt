use Rattle.std.proofs.Common.{ap, ◌∙◌}
use Rattle.wv_tree.specs.Tree.{path_bytes, paths_of}
use Rattle.wv_tree.proofs.Ascending.{IsAscending-same}
use Rattle.wv_tree.proofs.sure_tree.SureTreeTree.list.Goals as goal

pub returns-clause-order : goal.returns-clause-order
returns-clause-order c =
    IsAscending-same c.here.result.now (path_bytes c.in_ok-paths.paths) c.files.ensures.order (c.in_ok-paths.ensures.paths ∙ ap paths_of c.files.ensures.list)
