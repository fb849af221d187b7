use Rattle.std.proofs.Common.{subst, sym}
use Rattle.ctr_record_laws.specs.Bounds.{IsInBounds}
use Rattle.ctr_record_effects.specs.States.{pages_in}
use Rattle.ctr_actions.specs.Sites.{Site, IsSoundSite, site_of}
use Rattle.ctr_actions.specs.Facts.{HoldsFact}
use Rattle.ctr_actions.proofs.states.what_is_done_stays.Goals as goal

pub returns-clause-bounds : goal.returns-clause-bounds
returns-clause-bounds c = λ x a s t does. subst (λ (z : Site). IsInBounds z.area) does.leaves (c.pages_are_in_bounds.ensures (pages_in t))

pub returns-clause-sound : goal.returns-clause-sound
returns-clause-sound c = λ x a s t does few sound.
    subst IsSoundSite (sym does.leaves) (c.an_action_stays_sound.ensures.sound x a (site_of s) (c.pages_are_in_bounds.ensures (pages_in s)) few sound does.owed)

pub returns-clause-held : goal.returns-clause-held
returns-clause-held c = λ x y a fact s t does few sound away either holds.
    subst (HoldsFact x fact) (sym does.leaves) (c.what_is_held_stays.ensures x y a fact (site_of s) (c.pages_are_in_bounds.ensures (pages_in s)) few sound does.owed away either holds)
