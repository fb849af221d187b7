use Rattle.ctr_walk.proofs.Limits.{in_limit}
use Rattle.ctr_walk.proofs.Searches.{ends_there}
use Rattle.ctr_pvs.specs.Table.{OwnerSaid}
use Rattle.ctr_pvs.proofs.table.owner_on.Goals as goal

pub returns-clause-said : goal.returns-clause-said
returns-clause-said g c = λ told sound.
    let at = c.args.p in
    ends_there at (OwnerSaid c.args.kind c.args.counted at) c.owner_in.result c.found_on.result _ _ c.found_on.ensures (c.in_ok-page.ensures.shown told sound (in_limit at c.requires.there)) c.owner_in.ensures.said
