use Rattle.std.proofs.Common.{subst}
use Rattle.ctr_model.specs.Database.{Database}
use Rattle.ctr_model.specs.State.{at_rest}
use Rattle.ctr_passed.specs.record_effects_States.{area_in}
use Rattle.ctr_kept.specs.ctr_names.Held.{names_of_items}
use Rattle.ctr_passed.specs.actions_Sites.{site_of}
use Rattle.ctr_kept.specs.ctr_paged.Paged.{at_open}
use Rattle.ctr_kept.specs.ctr_paged.Shown.{IsShown}
use Rattle.ctr_stops.proofs.stops.what_is_left_opens.Goals as goal

pub returns : goal.returns
returns c = λ base asked least image left.
    let s = left.stands.state in
    subst (λ (rows : Database). IsShown 0 (site_of s) (record { run = at_open; state = at_rest rows (names_of_items (area_in s).title s.tables.items) })) left.stands.rows_are
    (c.an_image_opens.ensures image s left.stands.stands)
