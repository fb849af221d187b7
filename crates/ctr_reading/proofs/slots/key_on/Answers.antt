use Rattle.ctr_walk.proofs.Limits.{in_limit}
use Rattle.ctr_walk.proofs.Searches.{ends_there}
use Rattle.ctr_reading.specs.Gathering.{KeySaid}
use Rattle.ctr_reading.proofs.slots.key_on.Goals as goal

pub returns-clause-said : goal.returns-clause-said
returns-clause-said g c = λ told sound.
    let at = c.args.place in
    ends_there at.page (KeySaid c.args.counted c.args.table.now at.slot) c.key_in.result c.found_on.result _ _ c.found_on.ensures (c.in_ok-page.ensures.shown told sound (in_limit at.page c.requires.there)) c.key_in.ensures
