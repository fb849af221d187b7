use Rattle.ctr_pvs.proofs.walk_Limits.{in_limit}
use Rattle.ctr_pvs.proofs.walk_Searches.{ends_there}
use Rattle.ctr_chain.specs.Looking.{LooksAtRow}
use Rattle.ctr_chain.proofs.looking.look_at_row.Goals as goal

pub returns-clause-looks : goal.returns-clause-looks
returns-clause-looks g c = λ told sound.
    let at = c.args.place in
    ends_there at.page (LooksAtRow c.args.counted c.args.table.now at.slot) c.row_looked.result c.found_on.result _ _ c.found_on.ensures (c.in_ok-page.ensures.shown told sound (in_limit at.page c.requires.there)) c.row_looked.ensures
