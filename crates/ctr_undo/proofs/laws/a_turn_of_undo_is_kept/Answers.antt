use Rattle.std.proofs.Common.{[], ◌∷◌, refl, sym, ap, subst}
use Rattle.std.proofs.lemmas.List.{append-nil}
use Rattle.ctr_model.specs.Texts.{answers}
use Rattle.ctr_actions.specs.Sites.{Site, site_of}
use Rattle.ctr_rollback.specs.kept_Turns.{KeepsRun, release_entry}
use Rattle.ctr_rollback.proofs.Worlds.{no_answer}
use Rattle.ctr_undo.specs.Turns.{undo_actor, undo_action}
use Rattle.ctr_undo.specs.Keeping.{undone_to, name_undone, released_to}
use Rattle.ctr_undo.proofs.Worlds.{UndoWalks, walks_on, walks_released, actor_nobodys}
use Rattle.ctr_undo.proofs.laws.a_turn_of_undo_is_kept.Goals as goal

pub returns-clause-may : goal.returns-clause-may
returns-clause-may g c = λ run opened a w world. record {
  sound = world.pages.sound;
  sessions = w.run.sessions;
  turns = w.undo.turns;
  first = w.undo.first;
  left = world.walks.scene.undo.0;
}

pub returns-clause-kept : goal.returns-clause-kept
returns-clause-kept g c = λ run opened a b w v world does kept rested.
    let now = g.D.Disk.moment_of a.disk in
    let later = g.D.Disk.moment_of b.disk in
    let site = site_of a.now in
    let item = does.item in
    let x = undo_actor item a.now.tables in
    let act = undo_action item in
    let acts = does.acts in
    let laws : UndoWalks = record {
      taken = c.a_page_is_given_back.ensures.taken;
      gone = c.a_page_is_given_back.ensures.left;
      created = c.a_table_is_undone.ensures.created;
      last_created = c.a_table_is_undone.ensures.last_created;
      dropped = c.a_table_is_undone.ensures.dropped;
      last_dropped = c.a_table_is_undone.ensures.last_dropped;
      ended = c.an_orphan_is_ended.ensures;
    } in
    let next = undone_to v w in
    let walked = walks_on run now later site w v world.walks laws rested.later item does.goes (c.what_is_done_stays.ensures.bounds x act a.now b.now acts.does) kept in
    let walks = subst (λ (z : Site). KeepsRun run later z next) (sym acts.does.leaves) walked in
    let pages = c.an_action_keeps_the_pages.ensures.nobodys run now x a.now b.now w next act world.walks world.pages (actor_nobodys run now later site w v world.walks item does.goes) acts.does acts.lies acts.passes
    (λ r d p h at in_. (d, at, in_)) in
    c.a_turn_of_a_world_is_kept.ensures.logged run opened a b w next [] rested.rec world (sym (append-nil w.tape)) walks (record { at = tt; none = ap answers (append-nil w.tape) }) pages rested.front rested.rests rested.logs

pub returns-clause-released : goal.returns-clause-released
returns-clause-released g c = λ run opened a b w v world does last none rested.
    let now = g.D.Disk.moment_of a.disk in
    let later = g.D.Disk.moment_of b.disk in
    let site = site_of a.now in
    let item = does.item in
    let x = undo_actor item a.now.tables in
    let act = undo_action item in
    let acts = does.acts in
    let laws : UndoWalks = record {
      taken = c.a_page_is_given_back.ensures.taken;
      gone = c.a_page_is_given_back.ensures.left;
      created = c.a_table_is_undone.ensures.created;
      last_created = c.a_table_is_undone.ensures.last_created;
      dropped = c.a_table_is_undone.ensures.dropped;
      last_dropped = c.a_table_is_undone.ensures.last_dropped;
      ended = c.an_orphan_is_ended.ensures;
    } in
    let name = name_undone item site in
    let told = release_entry name later in
    let next = released_to v name later w in
    let walked = walks_released run now later site w v world.walks laws rested.later item does.goes (c.what_is_done_stays.ensures.bounds x act a.now b.now acts.does) none last in
    let walks = subst (λ (z : Site). KeepsRun run later z next) (sym acts.does.leaves) walked in
    let pages = c.an_action_keeps_the_pages.ensures.nobodys run now x a.now b.now w next act world.walks world.pages (actor_nobodys run now later site w v world.walks item does.goes) acts.does acts.lies acts.passes
    (λ r d p h at in_. (d, at, in_)) in
    c.a_turn_of_a_world_is_kept.ensures.logged run opened a b w next (told ∷ []) rested.rec world refl walks (record { at = (refl, tt); none = no_answer w.tape told refl }) pages rested.front rested.rests rested.logs
