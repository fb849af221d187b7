use Rattle.std.proofs.Common.{◌≡◌, Ok, sym, subst}
use Rattle.ctr_meta.specs.Needs.{needs}
use Rattle.ctr_meta.specs.Tables.{Tables}
use Rattle.ctr_walk.specs.record_effects_States.{pages_in}
use Rattle.ctr_passed.specs.actions_Sites.{site_of}
use Rattle.ctr_passed.specs.actions_Records.{record_of}
use Rattle.ctr_page_turns.proofs.Why.{by_disk}
use Rattle.ctr_page_turns.proofs.refusing.a_record_is_refused_by_the_disk_alone.Goals as goal

pub returns : goal.returns
returns g c = λ x a o v w result sound owed same why.
    let r = record_of x a (site_of v.now) o in
    by_disk r v w result (subst (λ (t : Tables). needs r t ≡ Ok tt) (sym same) (c.an_action_meets_its_needs.ensures.fits x a (site_of v.now) o (c.pages_are_in_bounds.ensures (pages_in v.now)) sound.sound owed)) why
