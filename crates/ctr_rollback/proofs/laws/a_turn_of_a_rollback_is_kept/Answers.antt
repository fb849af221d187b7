use Rattle.std.proofs.Common.{ℕ, ◌≤◌, [], ◌∷◌, refl, inl, sym, ap, subst, arith}
use Rattle.std.proofs.lemmas.List.{append-nil}
use Rattle.ctr_model.proofs.Sessions.{find-put-other, find-without-other}
use Rattle.ctr_model.specs.Texts.{answers}
use Rattle.ctr_types.specs.declared.tape.Act.TheVariants as act
use Rattle.ctr_types.specs.declared.tape.Reply.TheVariants as reply
use Rattle.ctr_page_turns.specs.actions_Sites.{Site, site_of}
use Rattle.ctr_page_turns.specs.actions_Actions.{Aborts, undoing, site_after}
use Rattle.ctr_area.specs.Sound.{IsAmong}
use Rattle.ctr_area.proofs.Buckets.{each_of}
use Rattle.ctr_stops.specs.actions_Facts.{Fact}
use Rattle.ctr_stops.specs.kept_Tables.{IsTable}
use Rattle.ctr_stops.proofs.kept_Tables.{no_blank}
use Rattle.ctr_stops.specs.kept_Turns.{KeepsRun, scene_now, undoing_mind, gone_mind, entry_of, telling}
use Rattle.ctr_rollback.proofs.Worlds.{carries_none, undoing_seat, same_twice, undoing_covered, undoing_moves, no_answer, its_held, apart_fact, its_carried}
use Rattle.ctr_rollback.proofs.laws.a_turn_of_a_rollback_is_kept.Goals as goal

at_once : (n : ℕ) → n ≤ n
at_once n = omega arith

pub returns-clause-undone : goal.returns-clause-undone
returns-clause-undone g c = λ run opened a b w s seat world writer at rolls rested more its.
    let i = rolls.0 in
    let acts = rolls.2 in
    let now = g.D.Disk.moment_of a.disk in
    let later = g.D.Disk.moment_of b.disk in
    let me = seat.session.me in
    let site = site_of a.now in
    let v = undoing_mind s seat.session more w in
    let undoes = undoing_seat run w s seat more in
    let z = site_after me (undoing i) site in
    let held = its_held run now s site w world.walks seat writer.some more its in
    let stays = λ (f : Fact) (in_ : IsAmong f more). let apart = apart_fact run now s site w world.walks seat writer.some more its i rolls.1 f (each_of IsTable f more its.tables in_) in_ in
    c.ones_own_action_leaves_what_is_held.ensures me (undoing i) f site world.walks.scene.shown.paged.bounds world.walks.scene.shown.paged.few world.walks.scene.shown.paged.sound acts.does.owed apart.0 apart.1 (held f in_) in
    let began = c.a_rollback_begins.ensures run now later s site w seat more world.walks rested.later at (its_carried run now s site w world.walks seat writer.some more its site held) in
    let turned = c.a_turn_without_an_entry_is_kept.ensures run later later s site v undoes (undoing i) more began (at_once later) writer.some acts.does.owed
    (undoing_covered run now s site w world.walks seat writer.some i rolls.1)
    (c.what_is_done_stays.ensures.bounds me (undoing i) a.now b.now acts.does)
    (undoing_moves began.scene.low me site (scene_now run v) (record { s = s; session = undoes.session; t = seat.t; at = undoes.at; is_t = seat.is_t; unasked = writer.unasked; me = refl }) refl i)
    (its_carried run now s site w world.walks seat writer.some more its z stays) in
    let walks = subst (λ (z : Site). KeepsRun run later z v) (sym acts.does.leaves) (subst (KeepsRun run later (site_after me (undoing i) site)) (same_twice s seat.session more w) turned) in
    let pages = c.an_action_keeps_the_pages.ensures.own run now s a.now b.now w v seat (undoing i) more world.walks world.pages writer.some acts.does acts.lies acts.passes
    (λ r two. find-put-other r s undoes.session w.run.sessions two) refl (λ p h in_. absurd (no_blank more its.tables p h in_)) in
    c.a_turn_of_a_world_is_kept.ensures.logged run opened a b w v [] rested.rec world (sym (append-nil w.tape)) walks (record { at = tt; none = ap answers (append-nil w.tape) }) pages rested.front rested.rests rested.logs

pub returns-clause-back : goal.returns-clause-back
returns-clause-back g c = λ run opened a b w s seat e world writer comes is rolls rested.
    let acts = rolls.1 in
    let now = g.D.Disk.moment_of a.disk in
    let later = g.D.Disk.moment_of b.disk in
    let me = seat.session.me in
    let site = site_of a.now in
    let v = telling e act.Rollback reply.RolledBack w (gone_mind s w) in
    let told = entry_of s e act.Rollback reply.RolledBack in
    let ended = c.a_rollback_ends.ensures run now s site w seat e world.walks comes writer.some acts.does.owed
    (c.what_is_done_stays.ensures.bounds me Aborts a.now b.now acts.does)
    (inl (record { by = record { s = s; session = seat.session; t = seat.t; at = seat.at; is_t = seat.is_t; unasked = writer.unasked; me = refl }; leads = refl })) in
    let walks = subst (λ n. KeepsRun run n (site_of b.now) v) is (subst (λ (z : Site). KeepsRun run e.later z v) (sym acts.does.leaves) ended) in
    let pages = c.an_action_keeps_the_pages.ensures.own run now s a.now b.now w v seat Aborts [] world.walks world.pages writer.some acts.does acts.lies acts.passes
    (λ r two. find-without-other r s w.run.sessions two) refl (λ p h in_. absurd in_) in
    c.a_turn_of_a_world_is_kept.ensures.logged run opened a b w v (told ∷ []) rested.rec world refl walks (record { at = (is, tt); none = no_answer w.tape told refl }) pages rested.front rested.rests rested.logs
