use Rattle.ctr_actions.specs.page_Making.{slot_bytes}
use Rattle.ctr_actions.specs.ctr_record_effects.States.{area_in}
use Rattle.ctr_passed.specs.Laid.{width_in}
use Rattle.ctr_passed.proofs.Kept.{row_here}
use Rattle.ctr_passed.proofs.Putting.{slot_put}
use Rattle.ctr_passed.proofs.owed.owed_slots_are_laid_as_their_actions.Goals as goal

pub returns-clause-writes : goal.returns-clause-writes
returns-clause-writes c = λ s r m slot sound owed puts.
    let laid = slot_put s sound m.entry m.at (row_here s.tables (area_in s) m owed) r slot puts in (
      c.slots_lie_as_their_actions.ensures.writes s r m (slot_bytes (width_in (area_in s) m.entry) slot) laid.laid,
      c.slots_pass_their_checks.ensures.writes s r m slot laid,
    )

pub returns-clause-reverts : goal.returns-clause-reverts
returns-clause-reverts c = λ s r e at way slot sound owed puts.
    let laid = slot_put s sound e at owed.used.0 r slot puts in (
      c.slots_lie_as_their_actions.ensures.reverts s r e at way (slot_bytes (width_in (area_in s) e) slot) laid.laid,
      c.slots_pass_their_checks.ensures.reverts s r e at way slot laid,
    )

pub returns-clause-trims : goal.returns-clause-trims
returns-clause-trims c = λ s r passes e at way slot sound owed puts.
    let laid = slot_put s sound e at owed.used.0 r slot puts in (
      c.slots_lie_as_their_actions.ensures.trims s r passes e at way (slot_bytes (width_in (area_in s) e) slot) laid.laid,
      c.slots_pass_their_checks.ensures.trims s r passes e at way slot laid,
    )
