use Rattle.std.proofs.Common.{◌<◌, None, Some, Ok, refl, sym, ◌∙◌, ap, subst}
use Rattle.std.proofs.lemmas.Bool.{false≢true}
use Rattle.std.specs.Ordering.{nat_cmp}
use Rattle.ctr_types.specs.declared.statement.Statement.TheVariants as st
use Rattle.ctr_types.specs.declared.tape.Act.TheVariants as act
use Rattle.ctr_types.specs.declared.tape.Refusal.TheVariants as refusal
use Rattle.ctr_types.specs.declared.tape.Reply.TheVariants as reply
use Rattle.ctr_model.specs.Maps.{without}
use Rattle.ctr_model.specs.Reply.{next_from}
use Rattle.ctr_actions.specs.Sites.{Site, site_of}
use Rattle.ctr_versions.specs.Engine.{SessionHeld}
use Rattle.ctr_writing.specs.ctr_session_world.kept_Turns.{state_now}
use Rattle.ctr_writing.specs.ctr_session_world.ctr_rollback.Rolling.{MayRoll, RollsTo, RollsTxns}
use Rattle.ctr_writing.specs.ctr_session_world.txn_Held.{me_in, run_of}
use Rattle.ctr_writing.specs.ctr_session_world.txn_Numbered.{NumbersHeld}
use Rattle.ctr_writing.specs.ctr_session_world.txn_Steps.{txn_undoing}
use Rattle.ctr_writing.specs.ctr_session_world.World.{SessionsHeld}
use Rattle.ctr_control.proofs.Asking.{in_neither}
use Rattle.ctr_control.proofs.Gone.{gone_told}
use Rattle.ctr_control.proofs.Others.{others_of}
use Rattle.ctr_writing.proofs.ctr_session_world.Ready.{others_set, ready_as_was, ready_here, stands_with, unasked_set}
use Rattle.ctr_writing.proofs.ctr_session_world.Resting.{rests_here, refused_told}
use Rattle.ctr_control.proofs.Rolled.{KeepsTitles, at_rollback, back_comes, back_refused, is_open, its, titles_undone, undoing_run, undone_kept, writer}
use Rattle.ctr_writing.proofs.ctr_session_world.Standing.{comes, none_of, seat_of}
use Rattle.ctr_control.proofs.Unasked.{ready, unasked_next}
use Rattle.ctr_writing.proofs.ctr_session_world.Disks.{disk_done, disk_failed, disk_still}
use Rattle.ctr_control.proofs.rolling.roll_back.Goals as goal

-- ---- what is left of the sessions

pub returns-in-Ok-Undone-clause-over : goal.returns-in-Ok-Undone-clause-over
returns-in-Ok-Undone-clause-over g c = c.in-Ok-Undone.ensures.over c.requires.may.stand.items

pub returns-in-Ok-Back-clause-over : goal.returns-in-Ok-Back-clause-over
returns-in-Ok-Back-clause-over g c = c.in-Ok-Back.ensures.over c.requires.may.stand.items

pub returns-then-is_reading-clause-over : goal.returns-then-is_reading-clause-over
returns-then-is_reading-clause-over g c =
    let s = c.args.s in
    let old = c.args.txns.now in
    let new = c.end_reader.new.self in
    let a = c.args.store.now in
    let may = c.requires.may in
    let ends = c.end_reader.ensures in (
      ready_here s old new a (stands_with old new a ends.numbers ends.items may.stand) (others_set s None old new may.one ends.sets) may.room.going,
      unasked_set s None old new may.one c.numbers_commits.ensures.eight ends.sets (λ unasked. refl),
    )

pub returns-clause-over : goal.returns-clause-over
returns-clause-over g c = (ready_as_was c.args.s c.args.txns.now c.args.store.now c.requires.may.stand c.requires.may.room.going, λ unasked. unasked)

-- ---- what is told

pub returns-in-Ok-Undone-clause-told : goal.returns-in-Ok-Undone-clause-told
returns-in-Ok-Undone-clause-told g c = λ run opened tells sound next.
    let a = c.args.store.now in
    let b = c.undo_or_abort.new.store in
    let s = c.args.s in
    let old = c.args.txns.now in
    let new = c.undo_or_abort.new.txns in
    let locks = c.args.locks.now in
    let h : SessionsHeld = record { txns = old; locks = locks } in
    let writing = c.is_writing.ensures.0 c.if-is_writing.true in
    let seated = seat_of g.D.Disk run opened a b h s st.Rollback 0 next c.the_run_is_of_the_sessions.ensures.found c.requires.may.one writing.t writing.there in
    let seat = seated.0 in
    let some = subst (λ (b : SessionHeld). 0 < b.me) (sym seated.1) writing.some in
    let me_is = ap me_in writing.there ∙ ap (λ (b : SessionHeld). b.me) (sym seated.1) in
    let may = subst (λ x. MayRoll x a.now) (sym me_is) (record { sound = next.world.keeps.pages.sound; is_open = is_open g.D.Disk run opened a b old locks s next seat some }) in
    let turn = c.in-Ok-Undone.ensures in
    let rolls = subst (λ r. RollsTo seat.session.me a.now b.now r) c.in-Ok-Undone.field-0-is (subst (λ x. RollsTo x a.now b.now c.in-Ok-Undone.field-0) me_is (turn.rolls tells sound may)) in
    let held = subst (λ r. RollsTxns s old new (Ok r)) c.in-Ok-Undone.field-0-is turn.txns in
    let others = its g.D.Disk run opened a b old locks s next seat some in
    let keeps = c.a_turn_of_a_rollback_is_kept.ensures.undone run opened a b next.mind s seat next.world.keeps (writer g.D.Disk run opened a b old locks s next seat some)
    (at_rollback g.D.Disk run opened a b old locks s next seat) rolls (turn.logs tells sound) (others_of seat.session.me (next.mind.facts s)) others in
    let titles = subst (KeepsTitles (site_of a.now)) (sym rolls.2.does.leaves) (titles_undone seat.session.me rolls.0 (site_of a.now)) in
    let sets = held.2 writing.t writing.there in
    let run_now = undoing_run next.mind.run old new s seat.session writing.t next.world.run_is seated.1 held.0
    (c.the_run_is_of_the_sessions.ensures.sets s (txn_undoing writing.t) old new c.requires.may.one c.counts_sessions.ensures sets) in
    undone_kept g.D.Disk run opened a b old locks s next seat some new run_now titles keeps

pub returns-in-Ok-Back-clause-told : goal.returns-in-Ok-Back-clause-told
returns-in-Ok-Back-clause-told g c = λ run opened tells sound next.
    let a = c.args.store.now in
    let b = c.undo_or_abort.new.store in
    let s = c.args.s in
    let old = c.args.txns.now in
    let new = c.undo_or_abort.new.txns in
    let locks = c.args.locks.now in
    let h : SessionsHeld = record { txns = old; locks = locks } in
    let writing = c.is_writing.ensures.0 c.if-is_writing.true in
    let seated = seat_of g.D.Disk run opened a b h s st.Rollback 0 next c.the_run_is_of_the_sessions.ensures.found c.requires.may.one writing.t writing.there in
    let seat = seated.0 in
    let some = subst (λ (b : SessionHeld). 0 < b.me) (sym seated.1) writing.some in
    let me_is = ap me_in writing.there ∙ ap (λ (b : SessionHeld). b.me) (sym seated.1) in
    let may = subst (λ x. MayRoll x a.now) (sym me_is) (record { sound = next.world.keeps.pages.sound; is_open = is_open g.D.Disk run opened a b old locks s next seat some }) in
    let turn = c.in-Ok-Back.ensures in
    let rolls = subst (λ r. RollsTo seat.session.me a.now b.now r) c.in-Ok-Back.field-0-is (subst (λ x. RollsTo x a.now b.now c.in-Ok-Back.field-0) me_is (turn.rolls tells sound may)) in
    let held = subst (λ r. RollsTxns s old new (Ok r)) c.in-Ok-Back.field-0-is turn.txns in
    let keeps = c.a_turn_of_a_rollback_is_kept.ensures.back run opened a b next.mind s seat next.e next.world.keeps (writer g.D.Disk run opened a b old locks s next seat some)
    (back_comes g.D.Disk run opened a b old locks s next seat) next.at_end rolls (turn.logs tells sound) in
    let run_now = c.the_run_is_of_the_sessions.ensures.ends s old new c.requires.may.one held.1
    ∙ ap (λ (l : NumbersHeld). record (run_of old) { commits = l.commits; sessions = without nat_cmp s (run_of old).sessions }) held.0 in
    gone_told g.D.Disk run opened a b old new locks c.release_all.new.self s st.Rollback 0 next act.Rollback reply.RolledBack run_now c.release_all.ensures c.key_locks_show.ensures.release
    (ap (λ o. next_from (state_now run next.mind) s o act.Rollback (Some st.Rollback) reply.RolledBack) seat.is_t) (λ e. ap (λ (z : Site). z.area.title e) rolls.1.does.leaves) tt keeps

pub returns-then-is_reading-clause-told : goal.returns-then-is_reading-clause-told
returns-then-is_reading-clause-told g c = λ run opened tells sound next.
    let a = c.args.store.now in
    let s = c.args.s in
    let old = c.args.txns.now in
    let new = c.end_reader.new.self in
    let locks = c.args.locks.now in
    let h : SessionsHeld = record { txns = old; locks = locks } in
    let reading = c.is_reading.ensures.0 c.if-is_reading.true in
    let rested = rests_here g.D.Disk a (c.rests.ensures tells sound c.requires.may.room.going) in
    let seated = seat_of g.D.Disk run opened a a h s st.Rollback 0 next c.the_run_is_of_the_sessions.ensures.found c.requires.may.one reading.t reading.there in
    let seat = seated.0 in
    let none = ap (λ (b : SessionHeld). b.me) seated.1 ∙ reading.none in
    let come = back_comes g.D.Disk run opened a a old locks s next seat in
    let keeps = c.a_reader_that_ends_is_told.ensures.rollback run opened a a next.mind s (record { keeps = next.world.keeps; seat = seat; e = next.e; at_end = next.at_end }) none come rested in
    let run_now = c.the_run_is_of_the_sessions.ensures.ends s old new c.requires.may.one c.end_reader.ensures.sets
    ∙ ap (λ (l : NumbersHeld). record (run_of old) { commits = l.commits; sessions = without nat_cmp s (run_of old).sessions }) c.end_reader.ensures.numbers in
    gone_told g.D.Disk run opened a a old new locks c.release_all-then-is_reading.new.self s st.Rollback 0 next act.Rollback reply.RolledBack run_now c.release_all-then-is_reading.ensures c.key_locks_show.ensures.release
    (ap (λ o. next_from (state_now run next.mind) s o act.Rollback (Some st.Rollback) reply.RolledBack) seat.is_t) (λ e. refl) tt keeps

pub returns-clause-told : goal.returns-clause-told
returns-clause-told g c = λ run opened tells sound next.
    let a = c.args.store.now in
    let s = c.args.s in
    let old = c.args.txns.now in
    let locks = c.args.locks.now in
    let h : SessionsHeld = record { txns = old; locks = locks } in
    let rested = rests_here g.D.Disk a (c.rests.ensures tells sound c.requires.may.room.going) in
    let finds = c.the_run_is_of_the_sessions.ensures.found in
    let held = c.numbers_commits.ensures in
    let nobody = in_neither s old
    (unasked_next g.D.Disk run opened a a h s st.Rollback next c.requires.may.one finds held (ready g.D.Disk run opened a a h s st.Rollback next c.requires.may.one finds held act.Rollback refl))
    (λ writes. false≢true (sym c.if-is_writing.false ∙ c.is_writing.ensures.1 writes))
    (λ reads. false≢true (sym c.if-is_reading.false ∙ c.is_reading.ensures.1 reads)) in
    let none = none_of g.D.Disk run opened a a h s st.Rollback 0 next c.the_run_is_of_the_sessions.ensures.found c.requires.may.one nobody in
    let come = comes g.D.Disk run opened a a h s st.Rollback 0 next act.Rollback (reply.Refused refusal.NoTransaction) refl tt (back_refused g.D.Disk run opened a a old locks s next none) in
    refused_told g.D.Disk run opened a a h s st.Rollback 0 next act.Rollback refusal.NoTransaction rested
    (c.a_refusal_is_told.ensures.outside run opened a a next.mind s (record { keeps = next.world.keeps; none = none; e = next.e; at_end = next.at_end }) act.Rollback refusal.NoTransaction come rested)

-- one that wrote is none that reads, or is in no transaction
pub returns-then-is_reading-clause-rolls : goal.returns-then-is_reading-clause-rolls
returns-then-is_reading-clause-rolls g c = λ writes. absurd (false≢true (sym c.if-is_writing.false ∙ c.is_writing.ensures.1 writes))

pub returns-clause-rolls : goal.returns-clause-rolls
returns-clause-rolls g c = λ writes. absurd (false≢true (sym c.if-is_writing.false ∙ c.is_writing.ensures.1 writes))

-- ---- errors

pub returns-in-Err-clause-refused : goal.returns-in-Err-clause-refused
returns-in-Err-clause-refused g c = λ run opened tells sound next.
    let a = c.args.store.now in
    let b = c.undo_or_abort.new.store in
    let s = c.args.s in
    let old = c.args.txns.now in
    let locks = c.args.locks.now in
    let h : SessionsHeld = record { txns = old; locks = locks } in
    let writing = c.is_writing.ensures.0 c.if-is_writing.true in
    let seated = seat_of g.D.Disk run opened a b h s st.Rollback 0 next c.the_run_is_of_the_sessions.ensures.found c.requires.may.one writing.t writing.there in
    let seat = seated.0 in
    let some = subst (λ (b : SessionHeld). 0 < b.me) (sym seated.1) writing.some in
    let me_is = ap me_in writing.there ∙ ap (λ (b : SessionHeld). b.me) (sym seated.1) in
    c.in-Err.ensures.rolls tells sound
    (subst (λ x. MayRoll x a.now) (sym me_is) (record { sound = next.world.keeps.pages.sound; is_open = is_open g.D.Disk run opened a b old locks s next seat some }))

-- ---- what is left of the disk

pub returns-in-Ok-Undone-clause-disk : goal.returns-in-Ok-Undone-clause-disk
returns-in-Ok-Undone-clause-disk g c = disk_done g.O.Origin.first g.D.Disk c.args.store.now c.undo_or_abort.new.store c.in-Ok-Undone.field-0 _ c.in-Ok-Undone.ensures.disk

pub returns-in-Ok-Back-clause-disk : goal.returns-in-Ok-Back-clause-disk
returns-in-Ok-Back-clause-disk g c = disk_done g.O.Origin.first g.D.Disk c.args.store.now c.undo_or_abort.new.store c.in-Ok-Back.field-0 _ c.in-Ok-Back.ensures.disk

pub returns-in-Err-clause-disk : goal.returns-in-Err-clause-disk
returns-in-Err-clause-disk g c = disk_failed g.O.Origin.first g.D.Disk c.args.store.now c.undo_or_abort.new.store c.in-Err.fault c.in-Err.ensures.disk

pub returns-then-is_reading-clause-disk : goal.returns-then-is_reading-clause-disk
returns-then-is_reading-clause-disk g c = disk_still g.O.Origin.first g.D.Disk c.args.store.now c.args.store.now _ refl (λ told sound. c.rests.ensures told sound c.requires.may.room.going)

pub returns-clause-disk : goal.returns-clause-disk
returns-clause-disk g c = disk_still g.O.Origin.first g.D.Disk c.args.store.now c.args.store.now _ refl (λ told sound. c.rests.ensures told sound c.requires.may.room.going)
