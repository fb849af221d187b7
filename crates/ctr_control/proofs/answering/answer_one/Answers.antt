use Rattle.std.proofs.Common.{refl, sym, ap, subst}
use Rattle.std.specs.Prelude.{is_some}
use Rattle.std.proofs.lemmas.Bool.{false≢true}
use Rattle.ctr_writing.specs.ctr_session_world.txn_Held.{TxnsHeld}
use Rattle.ctr_writing.proofs.ctr_session_world.Ready.{stands_with}
use Rattle.ctr_writing.proofs.ctr_session_world.Resting.{rests_here}
use Rattle.ctr_writing.specs.ctr_session_world.Ready.{StandOver}
use Rattle.ctr_control.proofs.Answered.{answer_comes, answered_told, by_list, e, seat}
use Rattle.ctr_control.proofs.answering.answer_one.Goals as goal

-- ---- one was answered

pub returns-in-Some-clause-none : goal.returns-in-Some-clause-none
returns-in-Some-clause-none g c = λ is. absurd (false≢true (ap is_some (sym is)))

pub returns-in-Some-clause-next : goal.returns-in-Some-clause-next
returns-in-Some-clause-next g c = (
  c.in-Some.ensures.next,
  by_list c.args.store.now.waiting (λ none. none) (λ some. absurd (false≢true (ap is_some (sym (c.in-Some.ensures.waits some).0)))),
)

pub returns-in-Some-clause-over : goal.returns-in-Some-clause-over
returns-in-Some-clause-over g c =
    stands_with c.args.txns.now c.answer_hardened.new.self c.args.store.now (ap (λ (h : TxnsHeld). h.numbers) c.in-Some.ensures.next.new_is) c.in-Some.ensures.items

pub returns-in-Some-clause-told : goal.returns-in-Some-clause-told
returns-in-Some-clause-told g c = λ run opened tells sound going before.
    let v = c.args.store.now in
    let s = c.in-Some.s in
    let asked = c.in-Some.asked in
    let old = c.args.txns.now in
    let m = c.answer_hardened.new.self in
    let locks = c.args.locks.now in
    let left = c.release_all.new.self in
    let next = c.in-Some.ensures.next in
    let held = c.numbers_commits.ensures in
    let finds = c.the_run_is_of_the_sessions.ensures.found in
    let hardened = by_list v.waiting (λ none. none) (λ some. absurd (false≢true (ap is_some (sym (c.in-Some.ensures.waits some).0)))) in
    let w = before.mind in
    let world = before.world in
    let keeps = c.a_commit_that_is_answered_is_told.ensures run opened v v w s
    (record { keeps = world.keeps; seat = seat g.D.Disk run opened v old locks w world s asked m next held finds; e = e g.D.Disk run opened v old locks w world s asked m next held finds; at_end = refl })
    (answer_comes g.D.Disk run opened v old locks w world s asked m next held finds) (rests_here g.D.Disk v (c.rests.ensures tells sound going)) hardened in
    answered_told g.D.Disk run opened v old locks w world s asked m next held finds left (c.the_run_is_of_the_sessions.ensures.answers s asked old m next) c.release_all.ensures c.key_locks_show.ensures.release keeps

-- ---- none was: all are, or a record waits

pub returns-in-None-clause-none : goal.returns-in-None-clause-none
returns-in-None-clause-none g c = λ is. by_list c.args.store.now.waiting
    (λ none. let its = c.in-None.ensures.none none refl in (its.1, refl, λ empty. its.0))
    (λ some. ((c.in-None.ensures.waits some).1, refl, λ empty. absurd (some empty)))

pub returns-in-None-clause-over : goal.returns-in-None-clause-over
returns-in-None-clause-over g c = λ stand.
    let same = by_list c.args.store.now.waiting (λ none. (c.in-None.ensures.none none refl).1) (λ some. (c.in-None.ensures.waits some).1) in
    subst (λ (h : TxnsHeld). StandOver h c.args.store.now) (sym same) stand
