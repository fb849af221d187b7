-- What a count tells, over a store that was opened.
use Rattle.std.proofs.Common.{inr}
use Rattle.ctr_disk.specs.Image.{Image}
use Rattle.ctr_disk.specs.declared.fault.StoreFault.TheVariants as fault
use Rattle.ctr_redo.specs.States.{State}
use Rattle.ctr_record_effects.specs.Standing.{StandsForDatabase}
use Rattle.ctr_base.specs.Base.{IsSoundImage}
use Rattle.ctr_store.specs.Opening.{IsUndamaged}
use Rattle.ctr_survey.specs.chain_ReadRefusal.{ReadRefusal}
use Rattle.ctr_survey.specs.chain_ReadRefusal.TheVariants as refusal
use Rattle.ctr_survey.specs.reading_Reading.{IsDiskOrMemory}
use Rattle.ctr_run.specs.ctr_world.Ended.{PassesOpening, RefusesWorld}
use Rattle.ctr_database.specs.Database.{counting_refused_by}

-- why nothing is counted, as the reading of the pages tells it, which tells no damage of a database
pub told_reading : (image : Image) (r : ReadRefusal) → PassesOpening image → ((s : State) → StandsForDatabase image s → IsDiskOrMemory r) → RefusesWorld image (counting_refused_by r)
told_reading image (refusal.Store fault.Fault) passes undamaged = tt
told_reading image (refusal.Store (fault.Damaged d)) passes undamaged = inr (passes, λ s stands. let same = undamaged s stands in cc)
told_reading image refusal.OutOfMemory passes undamaged = tt

pub reading_undamaged : (r : ReadRefusal) → IsDiskOrMemory r → IsUndamaged (counting_refused_by r)
reading_undamaged (refusal.Store fault.Fault) is = tt
reading_undamaged (refusal.Store (fault.Damaged d)) is = absurd cc
reading_undamaged refusal.OutOfMemory is = tt

pub sound_of : (first : Image) (s : State) → StandsForDatabase first s → IsSoundImage first
sound_of first s stands = (stands.folds.root, stands.folds.sound)
