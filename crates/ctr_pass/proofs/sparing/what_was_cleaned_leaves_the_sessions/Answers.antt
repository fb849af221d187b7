use Rattle.std.proofs.Common.{ℕ, ◌≤◌, sym, subst, arith}
use Rattle.ctr_versions.specs.Laws.{mark_of}
use Rattle.ctr_area.specs.Sound.{xids_in}
use Rattle.ctr_walk.specs.record_effects_States.{area_in}
use Rattle.ctr_actions.specs.Sites.{site_of}
use Rattle.ctr_exec.specs.ctr_control.kept_Turns.{state_now}
use Rattle.ctr_exec.specs.ctr_control.txn_Steps.{mark_in}
use Rattle.ctr_exec.specs.ctr_session_world.paged_Paged.{engine_at}
use Rattle.ctr_pass.proofs.Freely.{free_row, in_catalog, page_spared, spares_locked}
use Rattle.ctr_pass.proofs.Outside.{is_outside, unlocked}
use Rattle.ctr_pass.proofs.sparing.what_was_cleaned_leaves_the_sessions.Goals as goal

pub returns : goal.returns
returns g c = λ run opened a b h w x did may before cleans nobody logs.
    let state = state_now run w in
    let world = before.world in
    let scene = world.keeps.walks.scene in
    let low = mark_in a.now.tables h.txns in
    c.the_cleaner_leaves_the_sessions.ensures run opened a b h w low cleans.action before (record {
      mark = subst (λ r. low ≤ mark_of (engine_at (site_of a.now) r)) (sym world.run_is) (at_most low);
      cleans = cleans.cleaning;
      free = free_row a.now h.locks state world.locks c.what_nobody_has_locked_is_free.ensures (in_catalog a.now h.locks state world.locks w world.tables) cleans.action cleans.free;
      spares = λ p is front. page_spared a.now.counted (xids_in a.now.tables.opens) a.now.tables.items w.undo.items scene.undo.0.run (area_in a.now) scene.shown.paged.sound.owned scene.undo.0.items p (cleans.spares p is) front;
    })
    (spares_locked h.locks cleans.action (λ e title left is r f key.
    unlocked g.D.Disk run opened a h w before (is_outside g.D.Disk run opened a h w before (nobody (cleans.frees e title left is))) r f key))
    cleans.acts logs
  where
    at_most : (n : ℕ) → n ≤ n
    at_most n = omega arith
