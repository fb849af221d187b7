use Rattle.std.proofs.Common.{◌+◌, ◌<◌, inr, List, [], ◌∷◌, ◌++◌, length, None, Some, Ok, Err, refl, sym, ◌∙◌, ap, subst}
use Rattle.std.proofs.lemmas.Bool.{false≢true}
use Rattle.std.specs.Ordering.{nat_cmp}
use Rattle.ctr_types.specs.declared.statement.Statement.TheVariants as st
use Rattle.ctr_types.specs.declared.tape.Act.TheVariants as act
use Rattle.ctr_types.specs.declared.tape.Refusal.TheVariants as refusal
use Rattle.ctr_types.specs.declared.tape.Reply.TheVariants as reply
use Rattle.ctr_rec.specs.declared.record.Record.TheVariants.{Commit}
use Rattle.ctr_model.specs.Maps.{without}
use Rattle.ctr_model.specs.Reply.{next_from}
use Rattle.ctr_area.specs.Sound.{IsAmong}
use Rattle.ctr_actions.specs.Actions.{Commits, Owes}
use Rattle.ctr_actions.specs.Facts.{Fact}
use Rattle.ctr_actions.specs.Sites.{site_of}
use Rattle.ctr_writing.specs.ctr_session_world.page_turns_Acts.{ActsBy}
use Rattle.ctr_versions.specs.Engine.{SessionHeld}
use Rattle.ctr_writing.specs.ctr_session_world.paged_Paged.{Run}
use Rattle.ctr_writing.specs.ctr_session_world.kept_Turns.{state_now}
use Rattle.ctr_writing.specs.ctr_session_world.txn_Held.{me_in, number_drawn, run_of}
use Rattle.ctr_writing.specs.ctr_session_world.txn_Numbered.{NumbersHeld}
use Rattle.ctr_writing.specs.ctr_session_world.txn_Steps.{txn_asked}
use Rattle.ctr_writing.specs.ctr_session_world.Ready.{is_asking}
use Rattle.ctr_writing.specs.ctr_session_world.World.{SessionsHeld}
use Rattle.ctr_writing.specs.ctr_session_world.Told.{IsActTold}
use Rattle.ctr_writing.proofs.ctr_session_world.Standing.{comes, none_of, seat_of}
use Rattle.ctr_writing.proofs.ctr_session_world.Ready.{others_set, own_set, ready_as_was, ready_here, ready_logged, stands_with, unasked_set}
use Rattle.ctr_writing.proofs.ctr_session_world.Resting.{rests_here, refused_told}
use Rattle.ctr_control.proofs.Asking.{asks, asked_told, ends, in_neither, many_asked, refused_outside}
use Rattle.ctr_writing.proofs.ctr_session_world.Idling.{idle_seat}
use Rattle.ctr_writing.proofs.ctr_session_world.Numbers.{idle_in}
use Rattle.ctr_control.proofs.Gone.{gone_told}
use Rattle.ctr_control.proofs.Unasked.{ready, unasked_next}
use Rattle.ctr_writing.proofs.ctr_session_world.Disks.{disk_done, disk_failed, disk_one, disk_still}
use Rattle.ctr_control.proofs.ending.ask.Goals as goal

-- ---- what is left of the sessions

pub returns-in-Ok-clause-over : goal.returns-in-Ok-clause-over
returns-in-Ok-clause-over g c =
    let s = c.args.s in
    let old = c.args.txns.now in
    let new = c.ask_for.new.txns in
    let a = c.args.store.now in
    let b = c.ask_for.new.store in
    let writing = c.is_writing.ensures.0 c.if-is_writing.true in
    let asked = c.in-Ok.ensures.asks.0.1 writing.t writing.there in (
      ready_logged s old new a b (Commit (number_drawn s old)) a.next (record { next = c.in-Ok.ensures.over; items = c.in-Ok.ensures.items c.requires.may.stand.items })
          (others_set s (Some (txn_asked (record { k = c.in-Ok.k; statement = c.args.statement }) writing.t)) old new c.requires.may.one asked.1) c.in-Ok.ensures.one.going c.in-Ok.ensures.one.takes,
      λ isnt. absurd (false≢true (sym isnt)),
      λ is. ap is_asking (own_set s (Some (txn_asked (record { k = c.in-Ok.k; statement = c.args.statement }) writing.t)) old new c.requires.may.one c.numbers_commits.ensures.eight asked.1),
    )

pub returns-then-is_reading-clause-over : goal.returns-then-is_reading-clause-over
returns-then-is_reading-clause-over g c =
    let s = c.args.s in
    let old = c.args.txns.now in
    let new = c.end_reader.new.self in
    let a = c.args.store.now in
    let may = c.requires.may in
    let ends = c.end_reader.ensures in (
      ready_here s old new a (stands_with old new a ends.numbers ends.items may.stand) (others_set s None old new may.one ends.sets) may.room.going,
      λ isnt. unasked_set s None old new may.one c.numbers_commits.ensures.eight ends.sets (λ unasked. refl),
      λ is. absurd (false≢true is),
    )

pub returns-clause-over : goal.returns-clause-over
returns-clause-over g c = (ready_as_was c.args.s c.args.txns.now c.args.store.now c.requires.may.stand c.requires.may.room.going, (λ isnt unasked. unasked), λ is. absurd (false≢true is))

-- ---- what is told

pub returns-in-Ok-clause-told : goal.returns-in-Ok-clause-told
returns-in-Ok-clause-told g c = λ run opened tells sound next idle.
    let a = c.args.store.now in
    let b = c.ask_for.new.store in
    let s = c.args.s in
    let old = c.args.txns.now in
    let new = c.ask_for.new.txns in
    let locks = c.args.locks.now in
    let h : SessionsHeld = record { txns = old; locks = locks } in
    let writing = c.is_writing.ensures.0 c.if-is_writing.true in
    let seated = seat_of g.D.Disk run opened a b h s st.Commit 0 next c.the_run_is_of_the_sessions.ensures.found c.requires.may.one writing.t writing.there in
    let seat = seated.0 in
    let some = subst (λ (b : SessionHeld). 0 < b.me) (sym seated.1) writing.some in
    let me_is = ap me_in writing.there ∙ ap (λ (b : SessionHeld). b.me) (sym seated.1) in
    let still = idle_seat g.D.Disk run opened a h next.mind s next.world seat idle in
    let more = still.0 in
    let counted = idle_in seat.session.me seat.session.me more (next.mind.facts s) refl some still.1 in
    let owes = c.a_commit_that_is_asked_for_is_told.ensures.owed run opened a next.mind s seat more next.world.keeps counted.1 in
    let marked = c.in-Ok.ensures.marks tells sound (subst (λ x. Owes x Commits (site_of a.now)) (sym me_is) owes) in
    let asked = c.in-Ok.ensures.asks.0.1 writing.t writing.there in
    let k = length (state_now run next.mind).asked + 1 in
    let come = comes g.D.Disk run opened a b h s st.Commit 0 next act.Ask (reply.Asked k) refl tt (asks g.D.Disk run opened a b old locks s next seat some) in
    let acts = subst (λ x. ActsBy x Commits a.now b.now) me_is marked.acts in
    let keeps = c.a_commit_that_is_asked_for_is_told.ensures.told run opened a b next.mind s (record { keeps = next.world.keeps; seat = seat; e = next.e; at_end = next.at_end }) more some counted.0
    (λ f is. subst (λ (l : List Fact). IsAmong f l) (sym counted.1) (inr (inr is))) come acts marked.logs in
    let run_now = ap (λ (r : Run). record r { commits = r.commits ++ seat.session.me ∷ [] }) next.world.run_is
    ∙ ap (λ l. record (run_of old) { commits = l }) (ap (λ (b : SessionHeld). old.numbers.commits ++ b.me ∷ []) seated.1 ∙ sym asked.0.commits)
    ∙ sym (c.the_run_is_of_the_sessions.ensures.same s writing.t (txn_asked (record { k = c.in-Ok.k; statement = c.args.statement }) writing.t) old new writing.there refl asked.1) in
    let told = asked_told g.D.Disk run opened a b old locks s next seat more counted.1 new run_now acts.does.leaves counted.0 keeps in
    subst (λ m. IsActTold next (record { txns = new; locks = locks }) act.Ask (reply.Asked m))
    (sym (c.in-Ok.ensures.asks.0.0 ∙ ap (λ n. n + 1) (many_asked g.D.Disk run opened a b old locks s next seat))) told

pub returns-then-is_reading-clause-told : goal.returns-then-is_reading-clause-told
returns-then-is_reading-clause-told g c = λ run opened tells sound next idle.
    let a = c.args.store.now in
    let s = c.args.s in
    let old = c.args.txns.now in
    let new = c.end_reader.new.self in
    let locks = c.args.locks.now in
    let h : SessionsHeld = record { txns = old; locks = locks } in
    let reading = c.is_reading.ensures.0 c.if-is_reading.true in
    let rested = rests_here g.D.Disk a (c.rests.ensures tells sound c.requires.may.room.going) in
    let seated = seat_of g.D.Disk run opened a a h s st.Commit 0 next c.the_run_is_of_the_sessions.ensures.found c.requires.may.one reading.t reading.there in
    let seat = seated.0 in
    let none = ap (λ (b : SessionHeld). b.me) seated.1 ∙ reading.none in
    let come = comes g.D.Disk run opened a a h s st.Commit 0 next act.Ask reply.ReadOnly refl tt (ends g.D.Disk run opened a a old locks s next seat none) in
    let keeps = c.a_reader_that_ends_is_told.ensures.commit run opened a a next.mind s (record { keeps = next.world.keeps; seat = seat; e = next.e; at_end = next.at_end }) none come rested in
    let run_now = c.the_run_is_of_the_sessions.ensures.ends s old new c.requires.may.one c.end_reader.ensures.sets
    ∙ ap (λ (l : NumbersHeld). record (run_of old) { commits = l.commits; sessions = without nat_cmp s (run_of old).sessions }) c.end_reader.ensures.numbers in
    gone_told g.D.Disk run opened a a old new locks c.release_all.new.self s st.Commit 0 next act.Ask reply.ReadOnly run_now c.release_all.ensures c.key_locks_show.ensures.release
    (ap (λ o. next_from (state_now run next.mind) s o act.Ask (Some st.Commit) reply.ReadOnly) seat.is_t) (λ e. refl) tt keeps

pub returns-clause-told : goal.returns-clause-told
returns-clause-told g c = λ run opened tells sound next idle.
    let a = c.args.store.now in
    let s = c.args.s in
    let old = c.args.txns.now in
    let h : SessionsHeld = record { txns = old; locks = c.args.locks.now } in
    let rested = rests_here g.D.Disk a (c.rests.ensures tells sound c.requires.may.room.going) in
    let finds = c.the_run_is_of_the_sessions.ensures.found in
    let held = c.numbers_commits.ensures in
    let nobody = in_neither s old
    (unasked_next g.D.Disk run opened a a h s st.Commit next c.requires.may.one finds held (ready g.D.Disk run opened a a h s st.Commit next c.requires.may.one finds held act.Ask refl))
    (λ writes. false≢true (sym c.if-is_writing.false ∙ c.is_writing.ensures.1 writes))
    (λ reads. false≢true (sym c.if-is_reading.false ∙ c.is_reading.ensures.1 reads)) in
    let none = none_of g.D.Disk run opened a a h s st.Commit 0 next c.the_run_is_of_the_sessions.ensures.found c.requires.may.one nobody in
    let come = comes g.D.Disk run opened a a h s st.Commit 0 next act.Ask (reply.Refused refusal.NoTransaction) refl tt (refused_outside g.D.Disk run opened a a h s next none) in
    refused_told g.D.Disk run opened a a h s st.Commit 0 next act.Ask refusal.NoTransaction rested
    (c.a_refusal_is_told.ensures.outside run opened a a next.mind s (record { keeps = next.world.keeps; none = none; e = next.e; at_end = next.at_end }) act.Ask refusal.NoTransaction come rested)

-- ---- errors

pub returns-in-Err-clause-refused : goal.returns-in-Err-clause-refused
returns-in-Err-clause-refused g c = λ run opened tells sound next idle.
    let a = c.args.store.now in
    let b = c.ask_for.new.store in
    let s = c.args.s in
    let h : SessionsHeld = record { txns = c.args.txns.now; locks = c.args.locks.now } in
    let writing = c.is_writing.ensures.0 c.if-is_writing.true in
    let seated = seat_of g.D.Disk run opened a b h s st.Commit 0 next c.the_run_is_of_the_sessions.ensures.found c.requires.may.one writing.t writing.there in
    let seat = seated.0 in
    let some = subst (λ (b : SessionHeld). 0 < b.me) (sym seated.1) writing.some in
    let me_is = ap me_in writing.there ∙ ap (λ (b : SessionHeld). b.me) (sym seated.1) in
    let still = idle_seat g.D.Disk run opened a h next.mind s next.world seat idle in
    let counted = idle_in seat.session.me seat.session.me still.0 (next.mind.facts s) refl some still.1 in
    let owes = c.a_commit_that_is_asked_for_is_told.ensures.owed run opened a next.mind s seat still.0 next.world.keeps counted.1 in
    c.in-Err.ensures.refused tells sound next.world.keeps.pages.sound (subst (λ x. Owes x Commits (site_of a.now)) (sym me_is) owes)

-- ---- what is left of the disk

pub returns-in-Ok-clause-disk : goal.returns-in-Ok-clause-disk
returns-in-Ok-clause-disk g c =
    let a = c.args.store.now in
    let b = c.ask_for.new.store in
    disk_done g.O.Origin.first g.D.Disk a b c.in-Ok.k _ (disk_one g.O.Origin.first g.D.Disk (Commit (number_drawn c.args.s c.args.txns.now)) a b (Ok c.in-Ok.k) c.in-Ok.ensures.one)

pub returns-in-Err-clause-disk : goal.returns-in-Err-clause-disk
returns-in-Err-clause-disk g c =
    let a = c.args.store.now in
    let b = c.ask_for.new.store in
    disk_failed g.O.Origin.first g.D.Disk a b c.in-Err.fault (disk_one g.O.Origin.first g.D.Disk (Commit (number_drawn c.args.s c.args.txns.now)) a b (Err c.in-Err.fault) c.in-Err.ensures.one)

pub returns-then-is_reading-clause-disk : goal.returns-then-is_reading-clause-disk
returns-then-is_reading-clause-disk g c = disk_still g.O.Origin.first g.D.Disk c.args.store.now c.args.store.now _ refl (λ told sound. c.rests.ensures told sound c.requires.may.room.going)

pub returns-clause-disk : goal.returns-clause-disk
returns-clause-disk g c = disk_still g.O.Origin.first g.D.Disk c.args.store.now c.args.store.now _ refl (λ told sound. c.rests.ensures told sound c.requires.may.room.going)
