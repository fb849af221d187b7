use Rattle.ctr_walk.specs.Along.{LooksAt}
use Rattle.ctr_walk.proofs.Limits.{below_limit}
use Rattle.ctr_walk.proofs.Searches.{ends_there}
use Rattle.ctr_walk.proofs.along.look.Goals as goal

pub returns-clause-looks : goal.returns-clause-looks
returns-clause-looks g c = λ told sound.
    ends_there c.args.at (LooksAt (record { chain = c.args.chain; counted = c.args.counted; ends = g.S.PageSought.ends c.args.sought.now c.args.kinds.now c.args.counted })) c.look_at.result c.found_on.result _ _ c.found_on.ensures
    (c.in_ok-page.ensures.shown told sound (below_limit c.args.at c.args.counted c.requires.inside.0 c.requires.inside.1.1)) c.look_at.ensures.looks
