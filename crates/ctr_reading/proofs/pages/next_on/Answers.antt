use Rattle.ctr_walk.proofs.Limits.{in_limit}
use Rattle.ctr_walk.proofs.Searches.{ends_there}
use Rattle.ctr_reading.specs.Gathering.{NextSaid}
use Rattle.ctr_reading.proofs.pages.next_on.Goals as goal

pub returns-clause-said : goal.returns-clause-said
returns-clause-said g c = λ told sound.
    ends_there c.args.p (NextSaid c.args.chain c.args.counted) c.next_in.result c.found_on.result _ _ c.found_on.ensures (c.in_ok-page.ensures.shown told sound (in_limit c.args.p c.requires.there)) c.next_in.ensures.said
