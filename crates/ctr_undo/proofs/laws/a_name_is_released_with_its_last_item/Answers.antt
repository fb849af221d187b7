use Rattle.ctr_undo.proofs.Released.{name_kept, name_released}
use Rattle.ctr_undo.proofs.laws.a_name_is_released_with_its_last_item.Goals as goal

pub returns-clause-kept : goal.returns-clause-kept
returns-clause-kept c = λ run now site w item v keeps goes has.
    name_kept c.recovery_keeps_the_names_of_items.ensures run now site w v keeps c.an_undone_item_goes_alone.ensures item goes has

pub returns-clause-released : goal.returns-clause-released
returns-clause-released c = λ run now site w item v keeps goes its none.
    name_released c.recovery_keeps_the_names_of_items.ensures run now site w v keeps c.an_undone_item_goes_alone.ensures item goes its none
