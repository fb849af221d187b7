use Rattle.std.proofs.Common.{◌≡◌, inl, inr, Ok, Err, Result, refl, subst}
use Rattle.std.specs.Prelude.{⊤}
use Rattle.ctr_disk.specs.declared.disk.Disk.{Ghosts}
use Rattle.ctr_disk.specs.Image.{Image}
use Rattle.ctr_disk.specs.declared.fault.StoreFault.{StoreFault}
use Rattle.ctr_disk.specs.declared.fault.StoreFault.TheVariants.{Fault}
use Rattle.ctr_pvs.specs.redo_States.{State}
use Rattle.ctr_page.specs.declared.rows.Place.{Place}
use Rattle.ctr_record_laws.specs.Owed.{OwedByCut}
use Rattle.ctr_record_effects.specs.States.{area_in}
use Rattle.ctr_record_effects.specs.Standing.{IsDatabaseState}
use Rattle.ctr_actions.specs.Actions.{Cuts}
use Rattle.ctr_pvs.specs.store_Store.{View}
use Rattle.ctr_pvs.proofs.walk_Joins.{answers_ok}
use Rattle.ctr_dead.specs.page_turns_Turns.{Turns, Reads, LogsARecord}
use Rattle.ctr_dead.specs.page_turns_Acts.{ActsBy}
use Rattle.ctr_dead.specs.trim_Cutting.{cut_record, CutsEntry}
use Rattle.ctr_dead.proofs.trim_Reading.{reads_fault}
use Rattle.ctr_clean.specs.declared.steps.Step.{Step}
use Rattle.ctr_clean.specs.declared.steps.Step.TheVariants.{Cleaned, Nothing}
use Rattle.ctr_clean.specs.Choosing.{passes_below}
use Rattle.ctr_clean.specs.declared.cutting.CutFound.{CutFound}
use Rattle.ctr_clean.specs.Cutting.{CutsBehind}
use Rattle.ctr_clean.proofs.cutting.cut_at.Goals as goal

-- a chain that is cut behind a version entry is a turn
cuts_turn : {D : Type 0} (first : Image) (g : Ghosts D) (at : Place) (a b : View D) (result : Result ⊤ StoreFault) → CutsEntry first g at a b result → Turns {T = ⊤} first g a b result
cuts_turn first g at a b (Ok t) (e, one, there) = LogsARecord (cut_record at e, one)
cuts_turn first g at a b (Err f) (inl read) = Reads read
cuts_turn first g at a b (Err f) (inr (e, one, there)) = LogsARecord (cut_record at e, one)

pub returns-in-Err-clause-turns : goal.returns-in-Err-clause-turns
returns-in-Err-clause-turns g c = Reads (reads_fault g.O.Origin.first g.D.Disk c.args.store.now c.cut_place.new.store CutFound Step c.in-Err.fault c.cut_place.result c.in-Err.is c.cut_place.ensures.leaves)

pub returns-in-Ok-Nowhere-clause-turns : goal.returns-in-Ok-Nowhere-clause-turns
returns-in-Ok-Nowhere-clause-turns g c = Reads (answers_ok g.O.Origin.first g.D.Disk c.in-Ok-Nowhere.field-0 Nothing c.args.store.now c.cut_place.new.store c.in-Ok-Nowhere.ensures.leaves)

pub returns-in-Ok-Nowhere-clause-cleans : goal.returns-in-Ok-Nowhere-clause-cleans
returns-in-Ok-Nowhere-clause-cleans g c = λ told sound database among live. (
  (c.in-Ok-Nowhere.ensures.leaves.logs told sound).now,
  subst (CutsBehind c.args.low c.args.locks.now c.args.entry c.args.place c.args.store.now.now) c.in-Ok-Nowhere.field-0-is (c.in-Ok-Nowhere.ensures.chooses told sound database among),
)

pub returns-in-Ok-Further-clause-turns : goal.returns-in-Ok-Further-clause-turns
returns-in-Ok-Further-clause-turns g c = Reads (answers_ok g.O.Origin.first g.D.Disk c.in-Ok-Further.field-0 _ c.args.store.now c.cut_place.new.store c.in-Ok-Further.ensures.leaves)

pub returns-in-Ok-Further-clause-cleans : goal.returns-in-Ok-Further-clause-cleans
returns-in-Ok-Further-clause-cleans g c = λ told sound database among live. (
  (c.in-Ok-Further.ensures.leaves.logs told sound).now,
  subst (CutsBehind c.args.low c.args.locks.now c.args.entry c.args.place c.args.store.now.now) c.in-Ok-Further.field-0-is (c.in-Ok-Further.ensures.chooses told sound database among),
)

pub returns-in-Err-cut_behind-clause-turns : goal.returns-in-Err-cut_behind-clause-turns
returns-in-Err-cut_behind-clause-turns g c =
    let first = g.O.Origin.first in
    let mid = c.cut_place.new.store in
    let new = c.cut_behind.new.store in
    let fault = c.in-Err-cut_behind.fault in
    c.a_turn_goes_on.ensures.behind first c.args.store.now mid new c.in-Ok-Behind.field-0 (Err fault) c.in-Ok-Behind.ensures.leaves
    (c.a_turn_goes_on-2.ensures.failed first mid new fault c.cut_behind.result (Err fault) (cuts_turn first g.D.Disk c.in-Ok-Behind.q mid new c.cut_behind.result c.cut_behind.ensures.one) c.in-Err-cut_behind.is refl)

pub returns-in-Err-cut_behind-clause-refused : goal.returns-in-Err-cut_behind-clause-refused
returns-in-Err-cut_behind-clause-refused g c = λ told sound database among live.
    let s = c.args.store.now.now in
    let e = c.args.entry in
    let at = c.args.place in
    let passes = passes_below c.args.low s.tables in
    let chosen = subst (CutsBehind c.args.low c.args.locks.now e at s) c.in-Ok-Behind.field-0-is (c.in-Ok-Behind.ensures.chooses told sound database among) in
    subst (λ (u : State). IsDatabaseState u → OwedByCut passes (area_in u) e at c.in-Ok-Behind.q → c.in-Err-cut_behind.fault ≡ Fault) (c.in-Ok-Behind.ensures.leaves.logs told sound).now
    (c.in-Err-cut_behind.ensures.refused e passes at told sound) database chosen.1

pub returns-in-Ok-clause-turns : goal.returns-in-Ok-clause-turns
returns-in-Ok-clause-turns g c =
    let first = g.O.Origin.first in
    let mid = c.cut_place.new.store in
    let new = c.cut_behind.new.store in
    c.a_turn_goes_on.ensures.behind first c.args.store.now mid new c.in-Ok-Behind.field-0 (Ok Cleaned) c.in-Ok-Behind.ensures.leaves
    (c.a_turn_goes_on-2.ensures.answered first mid new tt Cleaned (cuts_turn first g.D.Disk c.in-Ok-Behind.q mid new (Ok tt) c.in-Ok.ensures.one))

pub returns-in-Ok-clause-cleans : goal.returns-in-Ok-clause-cleans
returns-in-Ok-clause-cleans g c = λ told sound database among live.
    let s = c.args.store.now.now in
    let e = c.args.entry in
    let at = c.args.place in
    let q = c.in-Ok-Behind.q in
    let passes = passes_below c.args.low s.tables in
    let chosen = subst (CutsBehind c.args.low c.args.locks.now e at s) c.in-Ok-Behind.field-0-is (c.in-Ok-Behind.ensures.chooses told sound database among) in (
      record {
        action = Cuts passes e at q;
        cleaning = (refl, live);
        free = chosen.0;
        acts = subst (λ (u : State). IsDatabaseState u → OwedByCut passes (area_in u) e at q → ActsBy s.tables.next (Cuts passes e at q) u c.cut_behind.new.store.now)
            (c.in-Ok-Behind.ensures.leaves.logs told sound).now (c.in-Ok.ensures.acts s.tables.next e passes at told sound) database chosen.1;
      },
      (q, refl),
    )
