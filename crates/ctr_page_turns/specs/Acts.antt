-- What the record of a turn is between two states that may be a database's.
use Rattle.std.specs.Prelude.{ℕ}
use Rattle.ctr_passed.specs.redo_States.{State}
use Rattle.ctr_walk.specs.record_effects_States.{pages_in, area_in}
use Rattle.ctr_passed.specs.actions_Actions.{Action}
use Rattle.ctr_passed.specs.actions_Records.{Does}
use Rattle.ctr_passed.specs.Laid.{LiesAs, LaidPasses}

-- A state is left by an action of a transaction, which owes nothing more in the one before. Its
-- bytes lie at what it changes, and pass their checks.
pub record ActsBy (x : ℕ) (a : Action) (s t : State) : Type 0 where
  pub does : Does x a s t
  pub lies : LiesAs a (area_in s) (pages_in s) (pages_in t)
  pub passes : LaidPasses a t.counted (area_in t) (pages_in t)
