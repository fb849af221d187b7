use Rattle.std.proofs.Common.{ℕ, ◌<◌, ◌≡◌, [], sym, ap, subst, arith}
use Rattle.std.proofs.lemmas.List.{append-nil}
use Rattle.ctr_model.specs.Texts.{answers}
use Rattle.ctr_kept.specs.ctr_paged.actions_Sites.{Site}
use Rattle.ctr_kept.specs.Turns.{KeepsRun}
use Rattle.ctr_stops.specs.Words.{site_of}
use Rattle.ctr_cleaning.proofs.laws.a_cleaned_world_is_kept.Goals as goal

pub returns : goal.returns
returns g c = λ run opened a b w low does world may acts rested.
    let now = g.D.Disk.moment_of a.disk in
    let later = g.D.Disk.moment_of b.disk in
    let next = a.now.tables.next in
    let bounds = c.what_is_done_stays.ensures.bounds next does a.now b.now acts.does in
    let walked = c.what_is_cleaned_is_kept.ensures run now later low (site_of a.now) w does world.walks rested.later may acts.does.owed bounds in
    let walks = subst (λ (z : Site). KeepsRun run later z w) (sym acts.does.leaves) walked in
    let pages = c.an_action_keeps_the_pages.ensures.nobodys run now next a.now b.now w w does world.walks world.pages
    (λ r s at same. beyond s.me next (world.walks.scene.shown.paged.shows.below r s at) same) acts.does acts.lies acts.passes
    (λ r d p h at in_. (d, at, in_)) in
    c.a_turn_of_a_world_is_kept.ensures.logged run opened a b w w [] rested.rec world (sym (append-nil w.tape)) walks (record { at = tt; none = ap answers (append-nil w.tape) }) pages rested.front rested.rests rested.logs
  where
    beyond : (d next : ℕ) → d < next → d ≡ next → ⊥
    beyond d next lt is = omega (arith, lt, is)
