use Rattle.ctr_heap.specs.record_effects_States.{pages_in}
use Rattle.ctr_chain.specs.ctr_pvs.Table.{table_check, TableSaid}
use Rattle.ctr_undamaged.proofs.Entries.{meets, passes_or_fails}
use Rattle.ctr_undamaged.proofs.There.{table_passes, older_page, slot_page}
use Rattle.ctr_undamaged.proofs.tables.a_table_is_known_without_damage.Goals as goal

pub returns-clause-rows : goal.returns-clause-rows
returns-clause-rows c = λ s e at sound in_. meets (TableSaid 1 s.counted (pages_in s) at.page)
    (λ bad. passes_or_fails (table_check 1 s.counted (pages_in s) at.page) tt bad
    (table_passes s.counted s.tables (pages_in s) sound.passed sound.sound 1 e at.page (slot_page s.counted s.tables (pages_in s) sound.passed sound.sound e at in_)))

pub returns-clause-versions : goal.returns-clause-versions
returns-clause-versions c = λ s e at sound in_. meets (TableSaid 2 s.counted (pages_in s) at.page)
    (λ bad. passes_or_fails (table_check 2 s.counted (pages_in s) at.page) tt bad
    (table_passes s.counted s.tables (pages_in s) sound.passed sound.sound 2 e at.page (older_page s.counted s.tables (pages_in s) sound.passed sound.sound e at in_)))
