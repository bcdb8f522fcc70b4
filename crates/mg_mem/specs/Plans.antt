-- Which calls of a device in memory fail, and how much a failing one keeps of its piece.
use Rattle.std.specs.Prelude.{◌≡◌, ◌≢◌, ℕ, ◌+◌, ◌-◌, ◌^◌, ◌<◌, ◌≤◌, ◌==◌, min, nat_le, fold, if◌then◌else◌, None, Some}
use Rattle.std.specs.declared.option.Option.{Option}
use Rattle.mg_mem.specs.declared.failure_plan.FailurePlan.{FailurePlan}
use Rattle.mg_mem.specs.declared.failure_plan.PlannedFailure.{PlannedFailure}

-- what one planned failure says of a call, after what was said before
abbrev pub keep_of : ℕ → Option ℕ → PlannedFailure → Option ℕ
keep_of call before planned = if planned.call == call then Some planned.keep else before

-- what a number says from which on all calls fail
abbrev pub keep_from : Option ℕ → ℕ → Option ℕ
keep_from None call = None
keep_from (Some from) call = if nat_le from call then Some 0 else None

-- the least number from which on all calls fail, with one more such number
abbrev pub lesser : Option ℕ → ℕ → ℕ
lesser None call = call
lesser (Some from) call = min from call

-- how many bytes the call of this number keeps, if it is to fail
unfoldable pub keep_at : FailurePlan → ℕ → Option ℕ
keep_at plan call = fold (keep_of call) (keep_from plan.fails_from call) plan.planned.items

-- how many calls there were
unfoldable pub calls_of : FailurePlan → ℕ
calls_of plan = plan.calls

-- the same of the next call
abbrev pub next_keep : FailurePlan → Option ℕ
next_keep plan = keep_at plan (calls_of plan)

-- one more call was counted, and the same calls are to fail
pub record AfterCall (old new : FailurePlan) : Type 0 where
  pub calls : calls_of new ≡ min (calls_of old + 1) (2 ^ 64 - 1)
  pub others : (n : ℕ) → keep_at new n ≡ keep_at old n

-- the call of this number is to fail and keeps so much, and the others are as before
pub record FailsAt (old new : FailurePlan) (call keep : ℕ) : Type 0 where
  pub calls : calls_of new ≡ calls_of old
  pub here : keep_at new call ≡ Some keep
  pub others : (n : ℕ) → n ≢ call → keep_at new n ≡ keep_at old n

-- each call from this number on is to fail and keeps nothing, and those before are as before
pub record FailsFrom (old new : FailurePlan) (call : ℕ) : Type 0 where
  pub calls : calls_of new ≡ calls_of old
  pub from : (n : ℕ) → call ≤ n → keep_at new n ≡ Some 0
  pub others : (n : ℕ) → n < call → keep_at new n ≡ keep_at old n

-- nothing changed
pub record SamePlan (old new : FailurePlan) : Type 0 where
  pub calls : calls_of new ≡ calls_of old
  pub others : (n : ℕ) → keep_at new n ≡ keep_at old n
