use Rattle.std.proofs.Common.{◌≡◌, inr, ◌+◌, ◌-◌, ◌<◌, ℕ, Ok, Err, sym, ◌∙◌, ap, subst}
use Rattle.std.specs.Prelude.{IfOk, ⊤, Result}
use Rattle.ctr_page.specs.Damage.{chain_entry}
use Rattle.ctr_page.specs.declared.rows.Place.{Place}
use Rattle.ctr_redo.specs.States.{State}
use Rattle.ctr_area.specs.Chains.{slot_places, places_on}
use Rattle.ctr_area.specs.Sound.{IsAmong}
use Rattle.ctr_walk.specs.record_effects_States.{pages_in, area_in}
use Rattle.ctr_walk.specs.record_effects_Standing.{IsDatabaseState}
use Rattle.ctr_walk.proofs.PagesRead.{still_goes, same_now}
use Rattle.ctr_views.specs.pvs_Table.{TableSaid}
use Rattle.ctr_views.specs.chain_ReadRefusal.{ReadRefusal}
use Rattle.ctr_reading.specs.Reading.{as_told, sight_sees, IsDiskOrMemory}
use Rattle.ctr_reading.specs.Gathering.{gathered_at, gathered, Gathers}
use Rattle.ctr_reading.proofs.Gathers.{refused_further, slots_step, slots_end}
use Rattle.ctr_reading.proofs.Places.{page_slot}
use Rattle.ctr_reading.proofs.Told.{same_counted, reads_further, reads_between, read_between, told_ok}
use Rattle.ctr_reading.proofs.gathering.gather_slots.Goals as goal

pub gather-requires-clause-going : goal.gather-requires-clause-going
gather-requires-clause-going g c = still_goes g.O.Origin.first g.D.Disk _ c.args.store.now c.loop-slot.store c.loop-slot.invariant.0 c.requires.going

pub gather-requires-clause-counted : goal.gather-requires-clause-counted
gather-requires-clause-counted g c = subst (λ (n : ℕ). c.args.slots.now.page < n) (sym (same_counted g.O.Origin.first g.D.Disk _ c.args.store.now c.loop-slot.store c.loop-slot.invariant.0)) c.requires.counted

pub returns-in-Err-clause-refused : goal.returns-in-Err-clause-refused
returns-in-Err-clause-refused g c = λ chain told sound slots page.
    let n = c.loop-slot.slot in
    let p = c.args.slots.now.page in
    let place : Place = record { page = p; slot = n } in
    let same = same_now g.O.Origin.first g.D.Disk _ c.args.store.now c.loop-slot.store c.loop-slot.invariant.0 told sound in
    subst (λ (t : State). IsDatabaseState t → IsAmong place (slot_places (area_in t) (chain_entry chain)) → TableSaid 1 t.counted (pages_in t) p (Ok c.args.slots.now.table) → IsDiskOrMemory c.in-Err.refusal) same
    (c.in-Err.ensures.refused (chain_entry chain) told sound) page.sound (page_slot chain p c.args.store.now.now n page (subst (λ m. n < m) slots.count c.loop-slot-test.true)) slots.table

pub returns-in-Err-clause-gathers : goal.returns-in-Err-clause-gathers
returns-in-Err-clause-gathers g c = λ told sound slots.
    let s = c.args.store.now.now in
    let n = c.loop-slot.slot in
    let p = c.args.slots.now.page in
    let count = c.args.slots.now.count in
    let place : Place = record { page = p; slot = n } in
    let test = sight_sees s.tables c.args.sight.now in
    let same = same_now g.O.Origin.first g.D.Disk _ c.args.store.now c.loop-slot.store c.loop-slot.invariant.0 told sound in
    let r : Result ⊤ ReadRefusal = Err c.in-Err.refusal in
    let here = subst (λ (t : State). TableSaid 1 t.counted (pages_in t) p (Ok c.args.slots.now.table) → IfOk (as_told r) (Gathers (gathered_at (sight_sees t.tables c.args.sight.now) (area_in t) place c.loop-slot.rows) c.gather.new.rows)) same (c.in-Err.ensures.gathers told sound) slots.table in
    refused_further test (area_in s) ⊤ ⊤ (places_on p (n + 1) (count - (n + 1))) (gathered_at test (area_in s) place c.loop-slot.rows) (gathered test (area_in s) (places_on p 0 count) c.args.rows.now) c.gather.new.rows c.gather.new.rows c.in-Err.refusal
    (sym (slots_step test (area_in s) p n count c.loop-slot.rows c.loop-slot-test.true) ∙ c.loop-slot.invariant.1 told sound slots) here

pub returns-in-Err-clause-leaves : goal.returns-in-Err-clause-leaves
returns-in-Err-clause-leaves g c = λ a read.
    reads_between g.O.Origin.first g.D.Disk _ tt (as_told (Err c.in-Err.refusal)) a c.args.store.now c.loop-slot.store c.gather.new.store read c.loop-slot.invariant.0 c.in-Err.ensures.leaves

pub loop-slot-preserved : goal.loop-slot-preserved
loop-slot-preserved g c = (
  inr (told_ok g.O.Origin.first g.D.Disk _ tt c.args.store.now c.gather.new.store
      (reads_further g.O.Origin.first g.D.Disk _ (Ok (Ok tt)) c.args.store.now c.loop-slot.store c.gather.new.store c.loop-slot.invariant.0 c.in-Ok.ensures.leaves)),
  λ told sound slots.
      let s = c.args.store.now.now in
      let n = c.loop-slot.slot in
      let p = c.args.slots.now.page in
      let count = c.args.slots.now.count in
      let place : Place = record { page = p; slot = n } in
      let test = sight_sees s.tables c.args.sight.now in
      let same = same_now g.O.Origin.first g.D.Disk _ c.args.store.now c.loop-slot.store c.loop-slot.invariant.0 told sound in
      let here = subst (λ (t : State). TableSaid 1 t.counted (pages_in t) p (Ok c.args.slots.now.table) → c.gather.new.rows ≡ gathered_at (sight_sees t.tables c.args.sight.now) (area_in t) place c.loop-slot.rows) same (c.in-Ok.ensures.gathers told sound) slots.table in
      ap (gathered test (area_in s) (places_on p (n + 1) (count - (n + 1)))) here ∙ sym (slots_step test (area_in s) p n count c.loop-slot.rows c.loop-slot-test.true) ∙ c.loop-slot.invariant.1 told sound slots,
)

pub returns-clause-gathers : goal.returns-clause-gathers
returns-clause-gathers g c = λ told sound slots.
    let s = c.args.store.now.now in
    sym (slots_end (sight_sees s.tables c.args.sight.now) (area_in s) c.args.slots.now.page c.loop-slot.slot c.args.slots.now.count c.loop-slot.rows c.loop-slot-test.false) ∙ c.loop-slot.invariant.1 told sound slots

pub returns-clause-leaves : goal.returns-clause-leaves
returns-clause-leaves g c = λ a read. read_between g.O.Origin.first g.D.Disk _ tt (Ok tt) a c.args.store.now c.loop-slot.store read c.loop-slot.invariant.0
