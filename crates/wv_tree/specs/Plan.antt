-- At which calls an object in memory is to fail. Our own.
use Rattle.std.specs.Prelude.{◌≡◌, ℕ, ◌+◌, ◌-◌, ◌^◌, min, Contains}
use Rattle.wv_tree.specs.declared.plan.Plan.{Plan}

-- the number of the call that comes, counted from 1 up to the last value of a counter
abbrev pub next_call : Plan → ℕ
next_call plan = min (plan.calls + 1) (2 ^ 64 - 1)

-- the call that comes is to fail
abbrev pub FailsNext : Plan → Type 0
FailsNext plan = Contains plan.failing (next_call plan)

-- one call was counted, and the calls that are to fail are the same
pub record CountsCall (old new : Plan) : Type 0 where
  pub calls : new.calls ≡ next_call old
  pub failing : new.failing ≡ old.failing
