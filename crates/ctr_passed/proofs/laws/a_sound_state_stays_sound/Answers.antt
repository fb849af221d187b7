use Rattle.std.proofs.Common.{◌≤◌, ◌<◌, sym, subst}
use Rattle.ctr_actions.specs.area_Chains.{pages_bound}
use Rattle.ctr_actions.specs.Sites.{Site, site_of}
use Rattle.ctr_passed.proofs.Sound.{drawn_after, counted_after, sound_grown}
use Rattle.ctr_passed.proofs.laws.a_sound_state_stays_sound.Goals as goal

pub returns-clause-action : goal.returns-clause-action
returns-clause-action c = λ x a s t sound does lies laid. record {
  passed = c.an_action_keeps_pages_passed.ensures x a s t sound does lies laid;
  sound = c.what_is_done_stays.ensures.sound x a s t does sound.few sound.sound;
  few = subst (λ (u : Site). u.counted ≤ pages_bound) (sym does.leaves) (subst (λ n. n ≤ pages_bound) (sym (counted_after x (site_of s) a)) sound.few);
  some = subst (λ (u : Site). 0 < u.tables.next) (sym does.leaves) (drawn_after x (site_of s) a sound.some);
}

pub returns-clause-growth : goal.returns-clause-growth
returns-clause-growth c = sound_grown
