use Rattle.std.proofs.Common.{inl, inr, Ok, Err, Result, refl, subst}
use Rattle.std.specs.Prelude.{⊤}
use Rattle.ctr_disk.specs.declared.disk.Disk.{Ghosts}
use Rattle.ctr_disk.specs.Image.{Image}
use Rattle.ctr_disk.specs.declared.fault.StoreFault.{StoreFault}
use Rattle.ctr_pvs.specs.redo_States.{State}
use Rattle.ctr_page.specs.declared.rows.Place.{Place}
use Rattle.ctr_record_effects.specs.Standing.{IsDatabaseState}
use Rattle.ctr_actions.specs.Actions.{FreesOlder}
use Rattle.ctr_pvs.specs.store_Store.{View}
use Rattle.ctr_pvs.specs.Writing.{blank_record, DropsEntry}
use Rattle.ctr_pvs.proofs.walk_Joins.{answers_ok}
use Rattle.ctr_dead.specs.page_turns_Turns.{Turns, Reads, LogsARecord}
use Rattle.ctr_dead.specs.page_turns_Acts.{ActsBy}
use Rattle.ctr_dead.proofs.trim_Reading.{reads_fault}
use Rattle.ctr_clean.specs.declared.steps.Step.{Step}
use Rattle.ctr_clean.specs.declared.steps.Step.TheVariants.{Cleaned, Nothing}
use Rattle.ctr_clean.specs.declared.older.Looseness.{Looseness}
use Rattle.ctr_clean.specs.Older.{IsLooseIn, LooseAt}
use Rattle.ctr_clean.proofs.older.free_older_at.Goals as goal

-- a version entry that is freed is a turn
frees_turn : {D : Type 0} (first : Image) (g : Ghosts D) (at : Place) (a b : View D) (result : Result ⊤ StoreFault) → DropsEntry first g at a b result → Turns {T = ⊤} first g a b result
frees_turn first g at a b (Ok t) (w, one, wide) = LogsARecord (blank_record at w, one)
frees_turn first g at a b (Err e) (inl read) = Reads read
frees_turn first g at a b (Err e) (inr (w, one)) = LogsARecord (blank_record at w, one)

pub returns-in-Err-clause-turns : goal.returns-in-Err-clause-turns
returns-in-Err-clause-turns g c = Reads (reads_fault g.O.Origin.first g.D.Disk c.args.store.now c.loose_at.new.store Looseness Step c.in-Err.fault c.loose_at.result c.in-Err.is c.loose_at.ensures.leaves)

pub returns-in-Ok-Kept-clause-turns : goal.returns-in-Ok-Kept-clause-turns
returns-in-Ok-Kept-clause-turns g c = Reads (answers_ok g.O.Origin.first g.D.Disk c.in-Ok-Kept.field-0 Nothing c.args.store.now c.loose_at.new.store c.in-Ok-Kept.ensures.leaves)

pub returns-in-Ok-Unknown-clause-turns : goal.returns-in-Ok-Unknown-clause-turns
returns-in-Ok-Unknown-clause-turns g c = Reads (answers_ok g.O.Origin.first g.D.Disk c.in-Ok-Unknown.field-0 _ c.args.store.now c.loose_at.new.store c.in-Ok-Unknown.ensures.leaves)

pub returns-in-Err-free_loose-clause-turns : goal.returns-in-Err-free_loose-clause-turns
returns-in-Err-free_loose-clause-turns g c =
    let first = g.O.Origin.first in
    let mid = c.loose_at.new.store in
    let new = c.free_loose.new.store in
    let fault = c.in-Err-free_loose.fault in
    c.a_turn_goes_on.ensures.behind first c.args.store.now mid new c.in-Ok-Loose.field-0 (Err fault) c.in-Ok-Loose.ensures.leaves
    (c.a_turn_goes_on-2.ensures.failed first mid new fault c.free_loose.result (Err fault) (frees_turn first g.D.Disk c.args.place mid new c.free_loose.result c.free_loose.ensures.one) c.in-Err-free_loose.is refl)

pub returns-in-Ok-clause-turns : goal.returns-in-Ok-clause-turns
returns-in-Ok-clause-turns g c =
    let first = g.O.Origin.first in
    let mid = c.loose_at.new.store in
    let new = c.free_loose.new.store in
    c.a_turn_goes_on.ensures.behind first c.args.store.now mid new c.in-Ok-Loose.field-0 (Ok Cleaned) c.in-Ok-Loose.ensures.leaves
    (c.a_turn_goes_on-2.ensures.answered first mid new tt Cleaned (frees_turn first g.D.Disk c.args.place mid new (Ok tt) c.in-Ok.ensures.one))

pub returns-in-Ok-clause-cleans : goal.returns-in-Ok-clause-cleans
returns-in-Ok-clause-cleans g c = λ told sound database among live.
    let s = c.args.store.now.now in
    let e = c.args.entry in
    let q = c.args.place in
    let chosen = subst (LooseAt c.args.low c.args.locks.now e q s) c.in-Ok-Loose.field-0-is (c.in-Ok-Loose.ensures.chooses told sound database among) in (
      record {
        action = FreesOlder e q;
        cleaning = live;
        free = chosen.0;
        acts = subst (λ (u : State). IsDatabaseState u → IsLooseIn e q u → ActsBy s.tables.next (FreesOlder e q) u c.free_loose.new.store.now)
            (c.in-Ok-Loose.ensures.leaves.logs told sound).now (c.in-Ok.ensures.acts s.tables.next e told sound) database chosen.1;
      },
      refl,
    )
