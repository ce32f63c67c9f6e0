use Rattle.std.proofs.Common.{◌≡◌, take}
use Rattle.wv_top.specs.Puts.{with_files}
use Rattle.wv_top.proofs.put.put_files.Given as goal

-- no fault so far, the name stays, and the files so far are put
abbrev pub invariant-loop-file : goal.invariant-loop-file
invariant-loop-file g l =
    (g.O.Outlet.faults l.outlet ≡ g.O.Outlet.faults l.fn.outlet) × (g.O.Outlet.name l.outlet ≡ l.name)
    × (g.O.Outlet.told l.outlet ≡ with_files l.name (take l.file-index l.listed) (g.O.Outlet.told l.fn.outlet))
