use Rattle.ctr_heap.specs.record_effects_States.{pages_in}
use Rattle.ctr_chain.specs.ctr_pvs.Along.{EndsVersions}
use Rattle.ctr_undamaged.proofs.Entries.{meets}
use Rattle.ctr_undamaged.proofs.Walks.{versions_whole}
use Rattle.ctr_undamaged.proofs.tables.a_search_for_room_meets_no_damage.Goals as goal

pub returns : goal.returns
returns c = λ s e sound lt. meets (EndsVersions s.counted (pages_in s) e) (versions_whole s.counted s.tables (pages_in s) sound.passed sound.sound sound.few e lt)
