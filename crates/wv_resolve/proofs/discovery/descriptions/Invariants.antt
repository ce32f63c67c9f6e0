use Rattle.std.proofs.Common.{take}
use Rattle.std.specs.List.{AllZip}
use Rattle.wv_resolve.specs.Finding.{IsDescriptionIn}
use Rattle.wv_resolve.proofs.discovery.descriptions.Given as goal

-- the descriptions so far are those in the folders so far
abbrev pub invariant-loop-name : goal.invariant-loop-name
invariant-loop-name l = AllZip (λ name. IsDescriptionIn l.folder name.now) (take l.name-index l.name-items) l.descriptions.items
