use Rattle.std.proofs.Common.{◌≡◌, sym}
use Rattle.std.specs.Prelude.{⊤}
use Rattle.ctr_heap.specs.record_effects_States.{pages_in}
use Rattle.ctr_chain.specs.ctr_pvs.Lending.{VersionSaidAt}
use Rattle.ctr_chain.specs.ctr_pvs.Reading.{version_check_at}
use Rattle.ctr_chain.specs.ctr_pvs.Writing.{drop_check}
use Rattle.ctr_undamaged.proofs.Entries.{meets, passes_or_fails}
use Rattle.ctr_undamaged.proofs.There.{version_passes, drop_passes}
use Rattle.ctr_undamaged.proofs.tables.a_version_entry_is_read_without_damage.Goals as goal

pub returns-clause-read : goal.returns-clause-read
returns-clause-read c = λ s e at sound in_. meets (VersionSaidAt s.counted (pages_in s) at)
    (λ bad. passes_or_fails (version_check_at s.counted (pages_in s) at) tt bad (version_passes s.counted s.tables (pages_in s) sound.passed sound.sound e at in_))

pub returns-clause-freed : goal.returns-clause-freed
returns-clause-freed c = λ s e at sound in_. meets {T = ⊤} (λ r. r ≡ drop_check s.counted (pages_in s) at)
    (λ bad is. passes_or_fails (drop_check s.counted (pages_in s) at) tt bad (drop_passes s.counted s.tables (pages_in s) sound.passed sound.sound e at in_) (sym is))
