use Rattle.ctr_pvs.proofs.walk_Limits.{in_limit}
use Rattle.ctr_pvs.proofs.walk_Searches.{ends_there}
use Rattle.ctr_revert.specs.Reverting.{SlotSaidFrom}
use Rattle.ctr_revert.proofs.revert.look_slot.Goals as goal

pub returns-clause-said : goal.returns-clause-said
returns-clause-said g c = λ told sound.
    let at = c.args.place in
    ends_there at.page (SlotSaidFrom c.args.counted c.args.table.now at) c.slot_on.result c.found_on.result _ _ c.found_on.ensures (c.in_ok-page.ensures.shown told sound (in_limit at.page c.requires.there)) c.slot_on.ensures.said
