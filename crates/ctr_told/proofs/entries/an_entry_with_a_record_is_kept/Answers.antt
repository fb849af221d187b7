use Rattle.std.proofs.Common.{[], ◌∷◌, sym, subst}
use Rattle.ctr_rollback.specs.actions_Actions.{site_after}
use Rattle.ctr_views.specs.actions_Sites.{Site, site_of}
use Rattle.ctr_rollback.specs.kept_Turns.{KeepsRun}
use Rattle.ctr_rollback.proofs.Worlds.{no_answer}
use Rattle.ctr_told.proofs.entries.an_entry_with_a_record_is_kept.Goals as goal

pub returns : goal.returns
returns g c = λ run opened a b w v e s seat act mine world some acts longer walked is answers others facts blank rested.
    let now = g.D.Disk.moment_of a.disk in
    let later = g.D.Disk.moment_of b.disk in
    let walks = subst (λ (z : Site). KeepsRun run later z v) (sym acts.does.leaves) (subst (λ n. KeepsRun run n (site_after seat.session.me act (site_of a.now)) v) is walked) in
    let pages = c.an_action_keeps_the_pages.ensures.own run now s a.now b.now w v seat act mine world.walks world.pages some acts.does acts.lies acts.passes others facts (λ p h in_. absurd (blank p h in_)) in
    c.a_turn_of_a_world_is_kept.ensures.logged run opened a b w v (e ∷ []) rested.rec world longer walks (record { at = (is, tt); none = no_answer w.tape e answers }) pages rested.front rested.rests rested.logs
