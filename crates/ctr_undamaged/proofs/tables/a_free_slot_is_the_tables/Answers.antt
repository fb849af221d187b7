use Rattle.ctr_heap.proofs.area_Buckets.{of_bucket, nothing_from_0}
use Rattle.ctr_undamaged.proofs.tables.a_free_slot_is_the_tables.Goals as goal

pub returns : goal.returns
returns c = λ area e bucket at found. of_bucket area at bucket (area.firsts e).buckets found.0 (nothing_from_0 area at)
