-- How a command ends: one table from the ending to its status and to what its last line tells.
use Rattle.std.specs.Prelude.{ℕ, ⊤, Result, Ok, Err}
use Rattle.ctr_disk.specs.declared.fault.Stop.TheVariants as stop
use Rattle.ctr_model.specs.declared.tape.Cause.{Cause}
use Rattle.ctr_model.specs.declared.tape.Cause.TheVariants as cause
use Rattle.ctr_script.specs.declared.error.ScriptError.{ScriptError}
use Rattle.ctr_script.specs.declared.error.ScriptError.TheVariants as script_error
use Rattle.ctr_log.specs.declared.opening.OpenError.{OpenError}
use Rattle.ctr_log.specs.declared.opening.OpenError.TheVariants as open_error
use Rattle.ctr_database.specs.ctr_run.declared.ran.RunEnd.{RunEnd}
use Rattle.ctr_database.specs.ctr_run.declared.ran.RunEnd.TheVariants as run
use Rattle.ctr_store.specs.declared.creating.CreateError.{CreateError}
use Rattle.ctr_store.specs.declared.creating.CreateError.TheVariants as create
use Rattle.ctr_words.specs.declared.words.WordsError.{WordsError}
use Rattle.ctr_words.specs.declared.words.WordsError.TheVariants as words
use Rattle.ctr_top.specs.declared.ending.Ending.{Ending}
use Rattle.ctr_top.specs.declared.ending.Ending.TheVariants as ending

-- the status of each ending
abbrev pub status_of : Ending → ℕ
status_of ending.Finished = 0
status_of (ending.Refused line at) = 1
status_of ending.TooLong = 1
status_of ending.Usage = 2
status_of ending.NoDatabase = 3
status_of (ending.Damaged d) = 4
status_of ending.DiskFault = 5
status_of ending.ReadFault = 6
status_of ending.WriteFault = 7
status_of ending.OutOfMemory = 8
status_of ending.Exists = 9
status_of (ending.Worn number) = 10

-- what the last line tells beside the status
abbrev pub cause_of : Ending → Cause
cause_of (ending.Refused line at) = cause.Script line at
cause_of (ending.Damaged d) = cause.Damaged d
cause_of (ending.Worn number) = cause.Worn number
cause_of e = cause.Plain

-- the ending of the work alone: one whose text couldn't be put came to its end
abbrev pub work : Ending → Ending
work ending.WriteFault = ending.Finished
work e = e

-- ---- by what it ends

-- How a command ends whose words ask for nothing, by the error.
abbrev pub asked_as : WordsError → Ending
asked_as words.Usage = ending.Usage
asked_as words.OutOfMemory = ending.OutOfMemory

-- How a command ends whose database wasn't opened, by the error.
abbrev pub opened_as : OpenError → Ending
opened_as open_error.NoDatabase = ending.NoDatabase
opened_as (open_error.Damaged d) = ending.Damaged d
opened_as (open_error.Worn number) = ending.Worn number
opened_as open_error.Fault = ending.DiskFault
opened_as open_error.OutOfMemory = ending.OutOfMemory

-- How a command ends that couldn't read its script, by the error.
abbrev pub read_as : ScriptError → Ending
read_as (script_error.Refused line at) = ending.Refused line at
read_as script_error.TooLong = ending.TooLong
read_as script_error.ReadFault = ending.ReadFault
read_as script_error.OutOfMemory = ending.OutOfMemory

-- How a run ends whose script was read, by its end.
abbrev pub ran_as : RunEnd → Ending
ran_as run.Finished = ending.Finished
ran_as (run.Unopened error) = opened_as error
ran_as (run.Stopped stop.Fault) = ending.DiskFault
ran_as (run.Stopped (stop.Damaged d)) = ending.Damaged d
ran_as (run.Stopped (stop.Worn lsn)) = ending.Worn lsn

-- a database was made, or wasn't
abbrev pub made_as : Result ⊤ CreateError → Ending
made_as (Ok made) = ending.Finished
made_as (Err create.Exists) = ending.Exists
made_as (Err create.Fault) = ending.DiskFault
