use Rattle.ctr_heap.specs.record_effects_States.{pages_in}
use Rattle.ctr_catalog.specs.Finding.{checks_at, EndsEntries, EndsEntry}
use Rattle.ctr_catalog.specs.Free.{EndsCatalog}
use Rattle.ctr_undamaged.proofs.Entries.{meets, entries_whole, entry_whole, free_whole}
use Rattle.ctr_undamaged.proofs.catalog.a_catalog_search_meets_no_damage.Goals as goal

pub returns-clause-named : goal.returns-clause-named
returns-clause-named c = λ s sought sound. meets (EndsEntries (checks_at s.counted (pages_in s)) sought) (entries_whole s.counted (pages_in s) sound.passed sought)

pub returns-clause-changed : goal.returns-clause-changed
returns-clause-changed c = λ s who e sound lt. meets (EndsEntry (checks_at s.counted (pages_in s) e) who e) (entry_whole s.counted (pages_in s) sound.passed who e lt)

pub returns-clause-free : goal.returns-clause-free
returns-clause-free c = λ s sound. meets (EndsCatalog s.counted (pages_in s)) (free_whole s.counted (pages_in s) sound.passed)
