-- How a device counts the calls that failed.
use Rattle.std.specs.Prelude.{◌≡◌, ◌≢◌, ◌≤◌, ℕ, ◌+◌, ◌-◌, ◌^◌, min, Result, Err, OnOk, OnErr}

-- a count one higher, or at the last value of its type
abbrev pub raised : ℕ → ℕ
raised n = min (n + 1) (2 ^ 64 - 1)

-- a failed call is counted: the count is one higher at least, or stands at the last value of its
-- type
abbrev pub CountsFault : ℕ → ℕ → Type 0
CountsFault before now = min (before + 1) (2 ^ 64 - 1) ≤ now

-- A count of failed calls never falls. A call that failed is counted, and one that was answered Ok
-- leaves the count as it was.
pub record HasCause {T E : Type 0} (before now : ℕ) (result : Result T E) : Type 0 where
  pub later : before ≤ now
  pub failed : OnErr result (CountsFault before now)
  pub fine : OnOk result (now ≡ before)

-- A call that has other errors too counts its faults: the error given here alone says that the
-- device failed, and after any other answer the count is as it was.
pub record HasFault {T E : Type 0} (fault : E) (before now : ℕ) (result : Result T E) : Type 0 where
  pub later : before ≤ now
  pub failed : result ≡ Err fault → CountsFault before now
  pub fine : result ≢ Err fault → now ≡ before
