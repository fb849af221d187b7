use Rattle.std.proofs.Common.{◌≡◌, true, Some, ℕ, ◌≤◌, ◌+◌, refl, sym, ◌∙◌, ap, subst, arith}
use Rattle.ctr_meta.specs.Tables.{Tables}
use Rattle.ctr_session_world.specs.walk_OneRecord.{HasRoomForOne}
use Rattle.ctr_session_world.specs.txn_Held.{TxnsHeld, run_of, txn_of}
use Rattle.ctr_session_world.specs.txn_Rooms.{items_kept}
use Rattle.ctr_session_world.specs.txn_Steps.{txn_room}
use Rattle.ctr_looks.proofs.Rooms.{still_inside}
use Rattle.ctr_session_world.proofs.Ready.{others_same, others_set, own_set, ready_unlogged, same_but, unasked_as, unasked_same}
use Rattle.ctr_session_world.proofs.Standing.{some_of}
use Rattle.ctr_looks.proofs.reserving.reserve_for.Goals as goal

same_now : goal.returns-in-Ok-clause-run
same_now g c =
    let old = c.args.txns.now in
    let its = some_of (txn_of c.args.s old) c.requires.inside.some in
    c.the_run_is_of_the_sessions.ensures.same c.args.s its.0 (txn_room true its.0) old c.reserve.new.self its.1 refl (c.in-Ok.ensures.sets its.0 its.1)
    ∙ ap (λ l. record (run_of old) { commits = l }) c.in-Ok.ensures.numbers.commits

same_then : goal.returns-in-Err-clause-run
same_then g c = ap run_of c.in-Err.ensures.err ∙ ap (λ l. record (run_of c.args.txns.now) { commits = l }) c.in-Err.ensures.numbers.commits

pub returns-in-Ok-clause-run : goal.returns-in-Ok-clause-run
returns-in-Ok-clause-run g c = same_now g c

pub returns-in-Err-clause-run : goal.returns-in-Err-clause-run
returns-in-Err-clause-run g c = same_then g c

pub returns-in-Ok-clause-inside : goal.returns-in-Ok-clause-inside
returns-in-Ok-clause-inside g c = still_inside c.args.s c.args.txns.now c.reserve.new.self c.the_run_is_of_the_sessions.ensures.found c.requires.inside (same_now g c)

pub returns-in-Err-clause-inside : goal.returns-in-Err-clause-inside
returns-in-Err-clause-inside g c = still_inside c.args.s c.args.txns.now c.reserve.new.self c.the_run_is_of_the_sessions.ensures.found c.requires.inside (same_then g c)

pub returns-in-Ok-clause-item : goal.returns-in-Ok-clause-item
returns-in-Ok-clause-item g c =
    let its = some_of (txn_of c.args.s c.args.txns.now) c.requires.inside.some in
    record {
      t = txn_room true its.0;
      there = own_set c.args.s (Some (txn_room true its.0)) c.args.txns.now c.reserve.new.self c.requires.inside.one c.counts_sessions.ensures (c.in-Ok.ensures.sets its.0 its.1);
      kept = refl;
    }

pub returns-in-Ok-clause-over : goal.returns-in-Ok-clause-over
returns-in-Ok-clause-over g c = λ stand going.
    let s = c.args.s in
    let old = c.args.txns.now in
    let new = c.reserve.new.self in
    let a = c.args.store.now in
    let b = c.reserve.new.store in
    let one = c.requires.inside.one in
    let its = some_of (txn_of s old) c.requires.inside.some in
    let sets = c.in-Ok.ensures.sets its.0 its.1 in
    let still = same_but a b c.in-Ok.ensures.same.0 in (
      ready_unlogged s old new a b (record { next = c.in-Ok.ensures.numbers.next ∙ stand.next ∙ sym (ap (λ (t : Tables). t.next) c.in-Ok.ensures.same.1); items = c.in-Ok.ensures.room.2 })
          (others_set s (Some (txn_room true its.0)) old new one sets) (still.0 ∙ going) still.1 still.2,
      unasked_as s its.0 (txn_room true its.0) old new one c.counts_sessions.ensures its.1 refl sets,
    )

as_much : (n m k l : ℕ) → n ≡ m → m ≤ k → k ≤ l + 0 → n ≤ l
as_much n m k l is fits left = omega (arith, is, fits, left)

pub returns-in-Err-clause-over : goal.returns-in-Err-clause-over
returns-in-Err-clause-over g c = λ stand going.
    let s = c.args.s in
    let old = c.args.txns.now in
    let new = c.reserve.new.self in
    let a = c.args.store.now in
    let b = c.reserve.new.store in
    let same = ap (λ (h : TxnsHeld). h.sessions) c.in-Err.ensures.err in
    let still = same_but a b c.in-Err.ensures.same.0 in (
      ready_unlogged s old new a b
          (record {
            next = c.in-Err.ensures.numbers.next ∙ stand.next ∙ sym (ap (λ (t : Tables). t.next) c.in-Err.ensures.same.1);
            items = as_much (items_kept new) (items_kept old) a.meta.items_room b.meta.items_room (ap items_kept c.in-Err.ensures.err) stand.items c.in-Err.ensures.kept.1;
          })
          (others_same s old new same) (still.0 ∙ going) still.1 still.2,
      unasked_same s old new same,
    )

pub returns-in-Ok-clause-may : goal.returns-in-Ok-clause-may
returns-in-Ok-clause-may g c = λ over room reads. record {
  one = c.requires.inside.one;
  reader = reads;
  over = c.in-Ok.ensures.numbers.next ∙ over ∙ sym (ap (λ (t : Tables). t.next) c.in-Ok.ensures.same.1);
  numbers = c.in-Ok.ensures.room.0;
  room = subst (λ v. HasRoomForOne 1 0 v) (sym c.in-Ok.ensures.same.0)
      (record { going = room.going; opens_fit = c.in-Ok.ensures.room.1; items_fit = none c.reserve.new.store.meta.items_room; room = room.room; number = room.number });
}
  where
    none : (n : ℕ) → 0 ≤ n
    none n = omega arith
