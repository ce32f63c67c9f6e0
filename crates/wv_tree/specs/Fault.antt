-- Why a call of the outside failed: the object's own count of faults tells. Our own.
use Rattle.std.specs.Prelude.{◌≡◌, ◌≢◌, ℕ, ◌-◌, ◌≤◌, ◌^◌, Result, Ok, Err}
use Rattle.wv_tree.specs.declared.fault.IoFault.{IoFault}
use Rattle.wv_tree.specs.declared.fault.IoFault.TheVariants.{Failed, Memory}
use Rattle.std.specs.declared.io.ErrorKind.{ErrorKind}
use Rattle.std.specs.declared.io.ErrorKind.TheVariants.{OutOfMemory}
use Rattle.wv_tree.specs.declared.fault.SinkFault.{SinkFault}

-- the count rose, or stands at the last value that a counter has
pub record Rises (before now : ℕ) : Type 0 where
  pub no_less : before ≤ now
  pub risen : now ≤ before → now ≡ 2 ^ 64 - 1

-- `Failed` is told only where the count rose in the call, and all other answers leave it
abbrev pub HasCause : {T : Type 0} → Result T IoFault → ℕ → ℕ → Type 0
HasCause (Err Failed) before now = Rises before now
HasCause (Err Memory) before now = now ≡ before
HasCause (Ok _) before now = now ≡ before

-- the same for a sink, which takes no memory
abbrev pub HasSinkCause : {T : Type 0} → Result T SinkFault → ℕ → ℕ → Type 0
HasSinkCause (Err _) before now = Rises before now
HasSinkCause (Ok _) before now = now ≡ before

-- of the system's errors want of memory is told as such, and all others as failures
pub record TellsMemory (kind : ErrorKind) (fault : IoFault) : Type 0 where
  pub memory : kind ≡ OutOfMemory → fault ≡ Memory
  pub failed : kind ≢ OutOfMemory → fault ≡ Failed
