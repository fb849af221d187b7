-- How the calls of a disk in memory are to end.
use Rattle.std.specs.Prelude.{Bool, true, false}
use Rattle.ctr_mem_disk.specs.declared.record.Outcome.{Outcome}
use Rattle.ctr_mem_disk.specs.declared.record.Outcome.TheVariants.{Done, Failed, Refused}

-- a call that is refused comes before one that is listed as failing
abbrev pub outcome_of : Bool → Bool → Outcome
outcome_of true listed = Refused
outcome_of false true = Failed
outcome_of false false = Done
