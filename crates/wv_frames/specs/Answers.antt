-- What the calls that read a StackMapTable answer.
use Rattle.std.specs.Prelude.{◌≡◌, ℕ, List, None, Result, Ok, Err}
use Rattle.wv_base.specs.declared.fault.ClassFault.{ClassFault}
use Rattle.wv_base.specs.declared.fault.ClassFault.TheVariants as faults
use Rattle.wv_base.specs.declared.class_file.PoolEntry.{PoolEntry}
use Rattle.wv_base.specs.declared.frame.Frame.{Frame}
use Rattle.wv_base.specs.declared.frame.VType.{VType}
use Rattle.wv_frames.specs.declared.raw.RawType.{RawType}
use Rattle.wv_frames.specs.declared.raw.RawFrame.{RawFrame}
use Rattle.wv_frames.specs.Spelling.{table_bytes, IsLayout}
use Rattle.wv_frames.specs.Layout.{IsLayoutFault}
use Rattle.wv_frames.specs.Whole.{type_of}
use Rattle.wv_frames.specs.References.{TypesBreak, BreaksAt, FirstBreaks}

-- the answer is these frames, unless memory ran out
abbrev pub GivesFrames : {A : Type 0} → Result A ClassFault → A → Type 0
GivesFrames (Ok found) all = found ≡ all
GivesFrames (Err faults.Memory) all = Unit {0}
GivesFrames (Err (faults.Layout at)) all = ⊥
GivesFrames (Err (faults.Reference at)) all = ⊥

-- the bytes have the layout of a table, in which a field first breaks what it must meet at the place
pub record IsReferenceFault (pool : List PoolEntry) (first : Frame) (bytes : List ℕ) (at : ℕ) : Type 0 where
  pub raw : List RawFrame
  pub layout : IsLayout raw
  pub spelled : bytes ≡ table_bytes raw
  pub breaks : FirstBreaks pool first raw at

-- the cause of a fault of the layout alone, where so many bytes are missing
abbrev pub LayoutBreaks : ℕ → List ℕ → ClassFault → Type 0
LayoutBreaks missing bytes faults.Memory = Unit {0}
LayoutBreaks missing bytes (faults.Layout at) = IsLayoutFault missing bytes at
LayoutBreaks missing bytes (faults.Reference at) = ⊥

-- the cause of a fault of a type whose number stands at the place
abbrev pub TypeBreaks : List PoolEntry → RawType → ℕ → ClassFault → Type 0
TypeBreaks pool raw at faults.Memory = Unit {0}
TypeBreaks pool raw at (faults.Layout place) = ⊥
TypeBreaks pool raw at (faults.Reference place) = (type_of pool raw ≡ None) × (place ≡ at)

-- the cause of a fault of types whose bytes begin at base
abbrev pub TypesBreakFrom : List PoolEntry → List RawType → ℕ → ClassFault → Type 0
TypesBreakFrom pool raw base faults.Memory = Unit {0}
TypesBreakFrom pool raw base (faults.Layout at) = ⊥
TypesBreakFrom pool raw base (faults.Reference at) = TypesBreak pool raw base at

-- the cause of a fault of a frame that begins at base, behind one with these locals
abbrev pub FrameBreaks : List PoolEntry → List VType → RawFrame → ℕ → ClassFault → Type 0
FrameBreaks pool locals raw base faults.Memory = Unit {0}
FrameBreaks pool locals raw base (faults.Layout at) = ⊥
FrameBreaks pool locals raw base (faults.Reference at) = BreaksAt pool locals raw base at

-- the cause of a fault of frames that have a layout
abbrev pub ReferencesBreak : List PoolEntry → Frame → List RawFrame → ClassFault → Type 0
ReferencesBreak pool first raw faults.Memory = Unit {0}
ReferencesBreak pool first raw (faults.Layout at) = ⊥
ReferencesBreak pool first raw (faults.Reference at) = FirstBreaks pool first raw at

-- the cause of a fault
abbrev pub FramesBreak : List PoolEntry → Frame → List ℕ → ClassFault → Type 0
FramesBreak pool first bytes faults.Memory = Unit {0}
FramesBreak pool first bytes (faults.Layout at) = IsLayoutFault 0 bytes at
FramesBreak pool first bytes (faults.Reference at) = IsReferenceFault pool first bytes at
