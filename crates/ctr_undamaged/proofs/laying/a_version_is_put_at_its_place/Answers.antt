use Rattle.std.proofs.Common.{◌∙◌, Some, sym, ap}
use Rattle.ctr_page.specs.Places.{kept_size}
use Rattle.ctr_page.specs.Making.{kept_bytes}
use Rattle.ctr_heap.specs.record_effects_Changing.{laid_on_place}
use Rattle.ctr_undamaged.proofs.laying.a_version_is_put_at_its_place.Goals as goal

pub returns-clause-width : goal.returns-clause-width
returns-clause-width c = λ s e older made. made.is.version.2

pub returns-clause-place : goal.returns-clause-place
unfolding returns-clause-width
returns-clause-place c = λ s e at older sound among made whole.
    let fits = c.a_place_of_a_table_fits.ensures.versions s e at sound among in
    (fits.0 whole, fits.1 ∙ sym (returns-clause-width c s e older made))

pub returns-clause-puts : goal.returns-clause-puts
unfolding returns-clause-width
returns-clause-puts c = λ s x e at older made whole. record {
  made = made;
  whole = whole;
  lays = ap (λ w. Some (laid_on_place at (kept_size w) (kept_bytes older))) (returns-clause-width c s e older made);
}
