use Rattle.ctr_rollback.proofs.Others.{others_act, items_left, all_turns, all_steps}
use Rattle.ctr_rollback.proofs.laws.a_rollback_takes_a_turn_an_item.Goals as goal

pub returns-clause-others : goal.returns-clause-others
returns-clause-others c = λ x y a s t sound apart acts.
    others_act c.an_undone_item_goes_alone.ensures c.a_sound_state_stays_sound.ensures.action c.pages_are_in_bounds.ensures c.a_sound_state_stays_sound.ensures.growth x y a s t sound apart acts

pub returns-clause-left : goal.returns-clause-left
returns-clause-left c = λ x turns s t sound leads.
    items_left c.an_undone_item_goes_alone.ensures c.a_sound_state_stays_sound.ensures.action c.pages_are_in_bounds.ensures c.a_sound_state_stays_sound.ensures.growth x turns s t sound leads

pub returns-clause-all : goal.returns-clause-all
returns-clause-all c = λ x turns s t u sound leads back.
    all_turns c.an_undone_item_goes_alone.ensures c.a_sound_state_stays_sound.ensures.action c.pages_are_in_bounds.ensures c.a_sound_state_stays_sound.ensures.growth x turns s t u sound leads back

pub returns-clause-steps : goal.returns-clause-steps
returns-clause-steps c = λ x turns s t u sound leads back.
    all_steps c.an_undone_item_goes_alone.ensures c.a_sound_state_stays_sound.ensures.action c.pages_are_in_bounds.ensures c.a_sound_state_stays_sound.ensures.growth x turns s t u sound leads back
