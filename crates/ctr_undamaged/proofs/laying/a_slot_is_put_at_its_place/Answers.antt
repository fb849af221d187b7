use Rattle.std.proofs.Common.{◌∙◌, Some, sym, ap}
use Rattle.ctr_page.specs.Places.{slot_size}
use Rattle.ctr_page.specs.Making.{slot_bytes}
use Rattle.ctr_heap.specs.record_effects_Changing.{laid_on_place}
use Rattle.ctr_undamaged.proofs.laying.a_slot_is_put_at_its_place.Goals as goal

pub returns-clause-width : goal.returns-clause-width
returns-clause-width c = λ s e slot made. made.is.head.2

pub returns-clause-place : goal.returns-clause-place
unfolding returns-clause-width
returns-clause-place c = λ s e at slot sound among made whole.
    let fits = c.a_place_of_a_table_fits.ensures.rows s e at sound among in
    (fits.0 whole, fits.1 ∙ sym (returns-clause-width c s e slot made))

pub returns-clause-puts : goal.returns-clause-puts
unfolding returns-clause-width
returns-clause-puts c = λ s x over e at slot made whole. record {
  made = made;
  whole = whole;
  lays = ap (λ w. Some (laid_on_place at (slot_size w) (slot_bytes w slot))) (returns-clause-width c s e slot made);
}
