-- What a new database is, and what a count answers and leaves.
use Rattle.std.specs.Prelude.{◌≡◌, ◌⊎◌, None, Result, Ok, Err}
use Rattle.ctr_disk.specs.Image.{Image}
use Rattle.ctr_home.specs.declared.block.Block.TheVariants.{Root as RootBlock}
use Rattle.ctr_home.specs.Blocks.{value_of}
use Rattle.ctr_log.specs.declared.opening.OpenError.{OpenError}
use Rattle.ctr_log.specs.declared.opening.OpenError.TheVariants.{OutOfMemory}
use Rattle.ctr_log.specs.Opening.{fault_told}
use Rattle.ctr_model.specs.declared.tape.Survey.{Survey}
use Rattle.ctr_redo.specs.Images.{new_state}
use Rattle.ctr_record_effects.specs.Standing.{StandsForDatabase}
use Rattle.ctr_survey.specs.chain_ReadRefusal.{ReadRefusal}
use Rattle.ctr_survey.specs.chain_ReadRefusal.TheVariants as refusal
use Rattle.ctr_run.specs.ctr_world.Ended.{PassesOpening}

-- The image stands for a database in which no page has anything and no transaction was, and it can
-- be opened.
pub record IsNewlyMade (image : Image) : Type 0 where
  pub stands : StandsForDatabase image new_state
  pub opens : PassesOpening image

-- no root home is open, or it is a new database
abbrev pub IsNoneOrNewlyMade : Image → Type 0
IsNoneOrNewlyMade image = (value_of RootBlock image ≡ None) ⊎ IsNewlyMade image

-- the disk that a count gives back
abbrev pub disk_counted : {D : Type 0} → Result (Survey × D) (OpenError × D) → D
disk_counted (Ok r) = r.1
disk_counted (Err e) = e.1

-- why nothing is counted, as an opening tells it
abbrev pub counting_refused_by : ReadRefusal → OpenError
counting_refused_by (refusal.Store fault) = fault_told fault
counting_refused_by refusal.OutOfMemory = OutOfMemory
