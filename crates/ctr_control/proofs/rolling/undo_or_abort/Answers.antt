use Rattle.std.proofs.Common.{◌≡◌, ◌+◌, ℕ, false, length, None, Some, Result, Ok, Err, refl}
use Rattle.std.specs.Prelude.{OnOk}
use Rattle.ctr_disk.specs.declared.fault.StoreFault.{StoreFault}
use Rattle.ctr_rec.specs.declared.record.Record.{Record}
use Rattle.ctr_store.specs.Store.{TakesRecord, View}
use Rattle.ctr_writing.specs.ctr_session_world.txn_Held.{IsOneOfEight, IsWriting, TxnsHeld}
use Rattle.ctr_writing.specs.ctr_session_world.txn_Calls.{IsOverStore}
use Rattle.ctr_writing.specs.ctr_session_world.txn_Rooms.{HasItemRoom}
use Rattle.ctr_writing.specs.ctr_session_world.txn_Steps.{txn_undoing}
use Rattle.ctr_writing.specs.ctr_session_world.ctr_rollback.Rolling.{RollsTxns}
use Rattle.ctr_writing.specs.ctr_session_world.ctr_rollback.declared.rolling.Rolled.{Rolled}
use Rattle.ctr_writing.specs.ctr_session_world.ctr_rollback.declared.rolling.Rolled.TheVariants.{Undone, Back}
use Rattle.ctr_writing.proofs.ctr_session_world.rollback_Records.{three_ok}
use Rattle.ctr_writing.specs.ctr_session_world.Ready.{LeavesOver}
use Rattle.ctr_writing.proofs.ctr_session_world.Ready.{others_set, ready_logged, unasked_as, unasked_set}
use Rattle.ctr_writing.proofs.ctr_session_world.Disks.{disk_one}
use Rattle.ctr_control.proofs.rolling.undo_or_abort.Goals as goal

module _ {D : Type 0} (s : ℕ) (old new : TxnsHeld) (a b : View D) (one : IsOneOfEight s) (eight : length old.sessions ≡ 8) (writing : IsWriting s old) (rec : Record) where
  rolled_leaves : (r : Result Rolled StoreFault) → RollsTxns s old new r → OnOk r (IsOverStore new b) → OnOk r (HasItemRoom old a.meta → HasItemRoom new b.meta) → OnOk r (b.stopped ≡ false) → OnOk r (TakesRecord rec a.next a b) → HasItemRoom old a.meta
      → LeavesOver s old new a b r
  rolled_leaves (Ok Undone) rolls over items going takes room =
      let sets = rolls.2 writing.t writing.there in (
        ready_logged s old new a b rec a.next (record { next = over; items = items room }) (others_set s (Some (txn_undoing writing.t)) old new one sets) going takes,
        unasked_as s writing.t (txn_undoing writing.t) old new one eight writing.there refl sets,
      )
  rolled_leaves (Ok Back) rolls over items going takes room = (
    ready_logged s old new a b rec a.next (record { next = over; items = items room }) (others_set s None old new one rolls.1) going takes,
    unasked_set s None old new one eight rolls.1 (λ unasked. refl),
  )
  rolled_leaves (Err e) rolls over items going takes room = tt

-- a record that is taken has the next number
next_number : {D : Type 0} (rec : Record) (a b : View D) (r : Result Rolled StoreFault) → OnOk r (TakesRecord rec a.next a b) → OnOk r (b.next ≡ a.next + 1)
next_number rec a b (Ok x) takes = takes.next
next_number rec a b (Err e) takes = tt

pub returns-clause-over : goal.returns-clause-over
returns-clause-over g c =
    let turned = c.turn-rolled.ensures in
    rolled_leaves c.args.s c.args.txns.now c.turn-rolled.new.txns c.args.store.now c.turn-rolled.new.store c.requires.may.one c.counts_sessions.ensures c.requires.may.writer turned.one.0 c.turn-rolled.result turned.txns turned.over turned.items
    turned.one.1.going turned.one.1.takes

pub returns-clause-logs : goal.returns-clause-logs
returns-clause-logs g c = λ tells sound.
    let one = c.turn-rolled.ensures.one in
    three_ok c.turn-rolled.result
    (λ logs going nothing. record { rec = one.0; logs = logs; front = one.1.any_moment tells sound; rests = c.rests.ensures tells sound going; later = one.1.time.later })
    (one.1.logs tells sound) one.1.going one.1.going

pub returns-clause-steps : goal.returns-clause-steps
returns-clause-steps g c = (c.turn-rolled.ensures.steps, next_number c.turn-rolled.ensures.one.0 c.args.store.now c.turn-rolled.new.store c.turn-rolled.result c.turn-rolled.ensures.one.1.takes)

pub returns-clause-disk : goal.returns-clause-disk
returns-clause-disk g c = disk_one g.O.Origin.first g.D.Disk c.turn-rolled.ensures.one.0 c.args.store.now c.turn-rolled.new.store c.turn-rolled.result c.turn-rolled.ensures.one.1
