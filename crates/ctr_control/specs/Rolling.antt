-- A turn of a ROLLBACK, by what it answers.
use Rattle.std.specs.Prelude.{Option, Some, None, Result, Ok, Err}
use Rattle.ctr_disk.specs.declared.fault.StoreFault.{StoreFault}
use Rattle.ctr_types.specs.declared.tape.Reply.{Reply}
use Rattle.ctr_writing.specs.ctr_session_world.ctr_rollback.declared.rolling.Rolled.{Rolled}
use Rattle.ctr_writing.specs.ctr_session_world.ctr_rollback.declared.rolling.Rolled.TheVariants.{Undone, Back}

-- A ROLLBACK goes on where an item was undone, and replies where the transaction is aborted.
abbrev pub rolled_by : Option Reply → Rolled
rolled_by None = Undone
rolled_by (Some r) = Back

-- what the turn did, or its fault
abbrev pub as_rolled : Result (Option Reply) StoreFault → Result Rolled StoreFault
as_rolled (Ok r) = Ok (rolled_by r)
as_rolled (Err e) = Err e
