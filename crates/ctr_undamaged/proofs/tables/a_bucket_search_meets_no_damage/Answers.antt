use Rattle.ctr_heap.specs.record_effects_States.{pages_in}
use Rattle.ctr_heap.specs.Finding.{EndsBucket}
use Rattle.ctr_undamaged.proofs.Entries.{meets}
use Rattle.ctr_undamaged.proofs.Walks.{bucket_whole}
use Rattle.ctr_undamaged.proofs.tables.a_bucket_search_meets_no_damage.Goals as goal

pub returns : goal.returns
returns c = λ s e bucket sought sound lt. meets (EndsBucket s.counted (pages_in s) e bucket sought) (bucket_whole s.counted s.tables (pages_in s) sound.passed sound.sound sound.few e lt bucket sought)
