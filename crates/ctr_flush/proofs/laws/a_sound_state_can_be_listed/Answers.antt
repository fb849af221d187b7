use Rattle.std.proofs.Common.{◌==◌, ◌+◌, ◌*◌, length, refl}
use Rattle.ctr_record_effects.specs.States.{pages_in, area_in}
use Rattle.ctr_flush.proofs.Heads.{need_is_met, eight_at_most}
use Rattle.ctr_flush.proofs.laws.a_sound_state_can_be_listed.Goals as goal

pub returns : goal.returns
returns c = λ s sound.
    need_is_met (area_in s) (c.pages_are_in_bounds.ensures (pages_in s)) (λ e. eight_at_most (((area_in s).title e).state == 0) _ _ refl) s.tables.opens s.tables.aborted (33 + 16 * length s.tables.opens) sound.counts
