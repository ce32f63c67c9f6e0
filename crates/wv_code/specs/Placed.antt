-- The places that whole frames name (JVM Specification 4.7.4), as offsets of instructions.
use Rattle.std.specs.Prelude.{ℕ, List}
use Rattle.std.specs.List.{AllByRecursion}
use Rattle.wv_base.specs.declared.frame.VType.{VType}
use Rattle.wv_base.specs.declared.frame.VType.TheVariants as vtypes
use Rattle.wv_base.specs.declared.frame.FrameAt.{FrameAt}
use Rattle.wv_code.specs.Breaks.{Starts}

-- the offset in the type, where it has one, is that of an instruction
abbrev pub IsTypePlaced : List ℕ → VType → Type 0
IsTypePlaced offsets (vtypes.Uninitialized at) = Starts offsets at
IsTypePlaced offsets _ = Unit {0}

-- an instruction starts where the frame stands, and where each offset in its types says
abbrev pub IsFramePlaced : List ℕ → FrameAt → Type 0
IsFramePlaced offsets f = Starts offsets f.at × AllByRecursion (IsTypePlaced offsets) f.frame.locals × AllByRecursion (IsTypePlaced offsets) f.frame.stack
