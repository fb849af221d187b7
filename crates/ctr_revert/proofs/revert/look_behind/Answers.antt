use Rattle.std.proofs.Common.{sym, subst, arith}
use Rattle.std.specs.Prelude.{IfOk}
use Rattle.ctr_pvs.specs.record_effects_States.{pages_in}
use Rattle.ctr_pvs.specs.walk_Damage.{searched, EndsOnPage}
use Rattle.ctr_pvs.proofs.walk_Limits.{in_limit}
use Rattle.ctr_pvs.proofs.walk_Searches.{ends_on}
use Rattle.ctr_revert.specs.Reverting.{EntrySaidFrom}
use Rattle.ctr_revert.proofs.Passed.{entry_on}
use Rattle.ctr_revert.proofs.revert.look_behind.Goals as goal

pub returns-clause-said : goal.returns-clause-said
returns-clause-said g c = λ told sound.
    let t = c.args.table.now in
    let f = c.args.from.now in
    let at = f.older.page in
    let page = pages_in c.args.store.now.now at in
    subst (λ r. IfOk (searched r) (EndsOnPage at (EntrySaidFrom c.args.counted t f page))) (sym c.found_on.ensures)
    (ends_on at (EntrySaidFrom c.args.counted t f page) c.behind_on.result (entry_on c.args.counted t f c.in_ok-page.page.now page c.behind_on.result (let least = c.requires.some.0 in omega (arith, least)) c.requires.some.1
    (λ low. c.in_ok-page.ensures.shown told sound (in_limit at low)) c.behind_on.ensures))
