-- Splitting a code array into its instructions (JVM Specification 4.7.3).
use Rattle.std.specs.Prelude.{◌≡◌, ℕ, ◌<◌, List, length, Result, Ok, Err}
use Rattle.wv_base.specs.declared.fault.ClassFault.{ClassFault}
use Rattle.wv_base.specs.declared.fault.ClassFault.TheVariants as faults
use Rattle.wv_insn.specs.declared.raw.Raw.{Raw}
use Rattle.wv_insn.specs.Standing.{IsFirstFault}
use Rattle.wv_code.specs.declared.splitting.RawCode.{RawCode}
use Rattle.wv_code.specs.Code.{Follow}

-- these instructions at these offsets, unless memory ran out
abbrev pub GivesRaws : Result RawCode ClassFault → List Raw → List ℕ → Type 0
GivesRaws (Ok found) raws offsets = (found.raws ≡ raws) × (found.offsets ≡ offsets)
GivesRaws (Err e) raws offsets = e ≡ faults.Memory

-- Some instructions stand in the code from its start on, and behind them, before its end, none; the place is the first
-- at which no instruction goes on, or the code's end.
pub record StopsBehind (code : List ℕ) (place : ℕ) : Type 0 where
  pub raws : List Raw
  pub offsets : List ℕ
  pub end : ℕ
  pub follow : Follow code 0 raws offsets end
  pub within : end < length code
  pub fault : IsFirstFault code end place

abbrev pub StopsIn : List ℕ → ClassFault → Type 0
StopsIn code (faults.Layout place) = StopsBehind code place
StopsIn code (faults.Reference place) = ⊥
StopsIn code faults.Memory = Unit {0}
