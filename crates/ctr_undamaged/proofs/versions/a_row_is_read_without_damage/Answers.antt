use Rattle.std.proofs.Common.{◌≡◌}
use Rattle.ctr_heap.specs.record_effects_States.{pages_in}
use Rattle.ctr_chain.specs.Seeking.{sought_at, xids_found}
use Rattle.ctr_chain.specs.Visible.{EndsReading}
use Rattle.ctr_undamaged.proofs.Entries.{meets}
use Rattle.ctr_undamaged.proofs.Behind.{xids_well, row_well}
use Rattle.ctr_undamaged.proofs.versions.a_row_is_read_without_damage.Goals as goal

pub returns-clause-whose : goal.returns-clause-whose
returns-clause-whose c = λ s sought e at sound in_. meets (λ r. r ≡ xids_found (sought_at sought s.counted (pages_in s) at))
    (xids_well sought s.counted (pages_in s) at (row_well s.counted s.tables (pages_in s) sound.passed sound.sound e sought at in_))

pub returns-clause-row : goal.returns-clause-row
returns-clause-row c = λ s sought e at sound in_. meets (EndsReading (sought_at sought s.counted (pages_in s) at))
    (row_well s.counted s.tables (pages_in s) sound.passed sound.sound e sought at in_)
