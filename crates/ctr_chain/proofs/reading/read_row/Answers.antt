use Rattle.std.proofs.Common.{◌≡◌, ◌<◌, Ok, sym, subst}
use Rattle.std.specs.Prelude.{IfOk}
use Rattle.ctr_page.specs.declared.rows.Place.{Place}
use Rattle.ctr_pvs.specs.record_effects_States.{pages_in}
use Rattle.ctr_pvs.specs.walk_Damage.{searched, EndsOnPage}
use Rattle.ctr_pvs.proofs.walk_Limits.{in_limit}
use Rattle.ctr_pvs.proofs.walk_Searches.{ends_there}
use Rattle.ctr_chain.specs.Reading.{found_check, RowSaidAt}
use Rattle.ctr_chain.proofs.reading.read_row.Goals as goal

pub returns-clause-said : goal.returns-clause-said
returns-clause-said g c = λ told sound.
    let from = c.place_of_version-from.result in
    subst (λ (p : Place). p.page < 30000 → found_check c.args.counted c.args.table.now c.args.at p.slot (pages_in c.args.store.now.now p.page) ≡ Ok tt → IfOk (searched c.found_on.result) (EndsOnPage p.page (RowSaidAt c.args.counted c.args.table.now c.args.at p.slot (pages_in c.args.store.now.now p.page)))) c.place_of_version-from.ensures
    (λ low passes.
    let same = c.in_ok-page.ensures.shown told sound (in_limit from.page low) in
    ends_there from.page (RowSaidAt c.args.counted c.args.table.now c.args.at from.slot) c.row_on.result c.found_on.result _ _ c.found_on.ensures same
    (c.row_on.ensures (subst (λ l. found_check c.args.counted c.args.table.now c.args.at from.slot l ≡ Ok tt) (sym same) passes)))
