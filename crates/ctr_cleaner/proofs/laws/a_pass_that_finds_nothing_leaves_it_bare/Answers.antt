use Rattle.ctr_walk.specs.record_effects_States.{pages_in}
use Rattle.ctr_actions.specs.Sites.{site_of}
use Rattle.ctr_emptying.specs.clean_Choosing.{passes_below}
use Rattle.ctr_cleaner.proofs.Bare.{state_few, all_seen, passes_committed, nothing_left}
use Rattle.ctr_cleaner.proofs.laws.a_pass_that_finds_nothing_leaves_it_bare.Goals as goal

pub returns : goal.returns
returns c = λ s low passed database closed drawn free whole found.
    let bounds = c.pages_are_in_bounds.ensures (pages_in s) in
    let every = c.a_pass_comes_by_every_place.ensures.everywhere (site_of s) passed database.sound whole in
    c.a_site_with_nothing_to_clean_is_bare.ensures.bare (passes_below low s.tables) (site_of s) bounds database.sound closed (passes_committed low s.tables) (λ x is. all_seen s low x drawn is) (state_few s database bounds) (nothing_left s low passed database bounds closed free every found)
