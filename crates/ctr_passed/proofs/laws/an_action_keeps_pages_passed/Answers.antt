use Rattle.std.proofs.Common.{sym, subst}
use Rattle.ctr_actions.specs.ctr_record_effects.States.{pages_in}
use Rattle.ctr_actions.proofs.record_laws_Bounds.{pages_bounded}
use Rattle.ctr_actions.specs.Sites.{Site, site_of}
use Rattle.ctr_passed.specs.Laid.{LaidPasses}
use Rattle.ctr_passed.proofs.Pagewise.{PassedIn, page_by_page, place_by_place}
use Rattle.ctr_passed.proofs.Kept.{passed_on}
use Rattle.ctr_passed.proofs.laws.an_action_keeps_pages_passed.Goals as goal

pub returns : goal.returns
returns c = λ x a s t sound does lies laid. place_by_place t.counted (pages_in t)
    (subst (λ (u : Site). PassedIn u.counted (pages_in t) u.area) (sym does.leaves)
    (passed_on (site_of s) (pages_bounded (pages_in s)) sound.sound (pages_in s) (pages_in t) (page_by_page s.counted (pages_in s) sound.passed) x a does.owed lies
    (subst (λ (u : Site). LaidPasses a u.counted u.area (pages_in t)) does.leaves laid)))
