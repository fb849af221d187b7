use Rattle.std.proofs.Common.{◌≡◌, sym}
use Rattle.std.specs.Prelude.{⊤}
use Rattle.ctr_heap.specs.record_effects_States.{pages_in}
use Rattle.ctr_revert.specs.Reverting.{revert_check}
use Rattle.ctr_undamaged.proofs.Entries.{meets, passes_or_fails}
use Rattle.ctr_undamaged.proofs.Lost.{revert_passes}
use Rattle.ctr_undamaged.proofs.versions.a_head_is_taken_without_damage.Goals as goal

pub returns : goal.returns
returns c = λ s e at sound used. meets {T = ⊤} (λ r. r ≡ revert_check s.counted (pages_in s) at)
    (λ bad is. passes_or_fails (revert_check s.counted (pages_in s) at) tt bad (revert_passes s.counted s.tables (pages_in s) sound.passed sound.sound e at used) (sym is))
