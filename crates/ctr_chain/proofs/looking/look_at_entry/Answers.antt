use Rattle.std.proofs.Common.{sym, subst, arith}
use Rattle.std.specs.Prelude.{IfOk}
use Rattle.ctr_pvs.specs.record_effects_States.{pages_in}
use Rattle.ctr_pvs.specs.walk_Damage.{searched, EndsOnPage}
use Rattle.ctr_pvs.proofs.walk_Limits.{in_limit}
use Rattle.ctr_pvs.proofs.walk_Searches.{ends_on}
use Rattle.ctr_chain.specs.Looking.{LooksAtEntry}
use Rattle.ctr_chain.proofs.Looked.{looks_on}
use Rattle.ctr_chain.proofs.looking.look_at_entry.Goals as goal

pub returns-clause-looks : goal.returns-clause-looks
returns-clause-looks g c = λ told sound.
    let at = c.args.place in
    let page = pages_in c.args.store.now.now at.page in
    let looks = LooksAtEntry c.args.counted c.args.table.now at page in
    subst (λ r. IfOk (searched r) (EndsOnPage at.page looks)) (sym c.found_on.ensures)
    (ends_on at.page looks c.entry_looked.result (looks_on c.args.counted c.args.table.now at c.in_ok-page.page.now page c.entry_looked.result (let least = c.requires.some.0 in omega (arith, least)) c.requires.some.1
    (λ low. c.in_ok-page.ensures.shown told sound (in_limit at.page low)) c.entry_looked.ensures))
