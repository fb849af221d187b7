use Rattle.std.proofs.Common.{◌≡◌, ◌+◌, ◌<◌, ◌≤◌, ℕ, Bool, true, false, Ok, Err, refl, sym, ◌∙◌, ap, subst}
use Rattle.ctr_disk.specs.declared.fault.StoreFault.TheVariants.{Fault}
use Rattle.ctr_page.specs.Damage.{chain_entry}
use Rattle.ctr_pvs.specs.redo_States.{State}
use Rattle.ctr_area.specs.Chains.{slot_places}
use Rattle.ctr_area.specs.Sound.{IsAmong}
use Rattle.ctr_pvs.specs.record_effects_States.{area_in}
use Rattle.ctr_pvs.specs.record_effects_Standing.{IsDatabaseState}
use Rattle.ctr_pvs.proofs.walk_Damages.{reads_err}
use Rattle.ctr_pvs.proofs.walk_Joins.{answers_ok}
use Rattle.ctr_cursor.specs.reading_PageSlots.{PageSlots}
use Rattle.ctr_cursor.proofs.reading_Places.{page_slot}
use Rattle.ctr_cursor.proofs.reading_Told.{reads_behind}
use Rattle.ctr_emptying.specs.Looking.{is_settled, place_at_slot}
use Rattle.ctr_emptying.proofs.Settled.{none_yet, one_more, all_settled}
use Rattle.ctr_emptying.proofs.heads.is_settled_page.Goals as goal

pub returns-in-Err-clause-leaves : goal.returns-in-Err-clause-leaves
returns-in-Err-clause-leaves g c = reads_err g.O.Origin.first g.D.Disk PageSlots Bool c.in-Err.fault c.args.store.now c.slots_on.new.store c.in-Err.ensures.leaves

pub loop-slot-init : goal.loop-slot-init
loop-slot-init g c = record {
  read = answers_ok g.O.Origin.first g.D.Disk c.in-Ok.slots tt c.args.store.now c.slots_on.new.store c.in-Ok.ensures.leaves;
  settled = λ told sound. none_yet c.args.store.now.now.tables (area_in c.args.store.now.now) c.args.p;
}

pub is_settled_at-requires-clause-going : goal.is_settled_at-requires-clause-going
is_settled_at-requires-clause-going g c = c.loop-slot.invariant.read.going

pub is_settled_at-requires-clause-counted : goal.is_settled_at-requires-clause-counted
is_settled_at-requires-clause-counted g c = subst (λ (n : ℕ). c.args.p < n) (sym c.loop-slot.invariant.read.keeps.counted) c.requires.counted

pub returns-in-Err-is_settled_at-clause-refused : goal.returns-in-Err-is_settled_at-clause-refused
returns-in-Err-is_settled_at-clause-refused g c = λ chain told sound page.
    let s = c.args.store.now.now in
    let n = c.loop-slot.slot in
    let p = c.args.p in
    let many = (c.in-Ok.ensures.are told sound).count ∙ ap (area_in s).room c.in-Ok.ensures.fits.1 in
    subst (λ (t : State). IsDatabaseState t → IsAmong (place_at_slot p n) (slot_places (area_in t) (chain_entry chain)) → c.in-Err-is_settled_at.fault ≡ Fault) (c.loop-slot.invariant.read.logs told sound).now
    (c.in-Err-is_settled_at.ensures.refused (chain_entry chain) told sound) page.sound (page_slot chain p s n page (subst (λ (m : ℕ). n < m) many c.loop-slot-test.true))

pub returns-in-Err-is_settled_at-clause-leaves : goal.returns-in-Err-is_settled_at-clause-leaves
returns-in-Err-is_settled_at-clause-leaves g c =
    reads_behind g.O.Origin.first g.D.Disk tt (Err c.in-Err-is_settled_at.fault) c.args.store.now c.loop-slot.store c.is_settled_at.new.store c.loop-slot.invariant.read c.in-Err-is_settled_at.ensures.leaves

pub returns-in-Ok-false-clause-tells : goal.returns-in-Ok-false-clause-tells
returns-in-Ok-false-clause-tells g c = λ told sound.
    let s = c.args.store.now.now in
    let n = c.loop-slot.slot in
    let p = c.args.p in
    let many = (c.in-Ok.ensures.are told sound).count ∙ ap (area_in s).room c.in-Ok.ensures.fits.1 in
    let is = subst (λ (t : State). c.in-Ok-false.field-0 ≡ is_settled t.tables ((area_in t).slot (place_at_slot p n))) (c.loop-slot.invariant.read.logs told sound).now (c.in-Ok-false.ensures.tells told sound) in
    (n, subst (λ (m : ℕ). n < m) many c.loop-slot-test.true, sym is ∙ c.in-Ok-false.field-0-test)

pub returns-in-Ok-false-clause-leaves : goal.returns-in-Ok-false-clause-leaves
returns-in-Ok-false-clause-leaves g c =
    answers_ok g.O.Origin.first g.D.Disk c.in-Ok-false.field-0 false c.args.store.now c.is_settled_at.new.store
    (reads_behind g.O.Origin.first g.D.Disk tt (Ok c.in-Ok-false.field-0) c.args.store.now c.loop-slot.store c.is_settled_at.new.store c.loop-slot.invariant.read c.in-Ok-false.ensures.leaves)

pub loop-slot-preserved : goal.loop-slot-preserved
loop-slot-preserved g c = record {
  read = answers_ok g.O.Origin.first g.D.Disk c.in-Ok-true.field-0 tt c.args.store.now c.is_settled_at.new.store
      (reads_behind g.O.Origin.first g.D.Disk tt (Ok c.in-Ok-true.field-0) c.args.store.now c.loop-slot.store c.is_settled_at.new.store c.loop-slot.invariant.read c.in-Ok-true.ensures.leaves);
  settled = λ told sound.
      let s = c.args.store.now.now in
      let n = c.loop-slot.slot in
      let p = c.args.p in
      let is = subst (λ (t : State). c.in-Ok-true.field-0 ≡ is_settled t.tables ((area_in t).slot (place_at_slot p n))) (c.loop-slot.invariant.read.logs told sound).now (c.in-Ok-true.ensures.tells told sound) in
      one_more s.tables (area_in s) p n (n + 1) refl (sym c.in-Ok-true.field-0-test ∙ is) (c.loop-slot.invariant.settled told sound);
}

pub returns-clause-tells : goal.returns-clause-tells
returns-clause-tells g c = λ told sound.
    let s = c.args.store.now.now in
    let n = c.loop-slot.slot in
    let p = c.args.p in
    let many = (c.in-Ok.ensures.are told sound).count ∙ ap (area_in s).room c.in-Ok.ensures.fits.1 in
    all_settled s.tables (area_in s) p n (subst (λ (m : ℕ). m ≤ n) many c.loop-slot-test.false) (c.loop-slot.invariant.settled told sound)

pub returns-clause-leaves : goal.returns-clause-leaves
returns-clause-leaves g c = answers_ok g.O.Origin.first g.D.Disk tt true c.args.store.now c.loop-slot.store c.loop-slot.invariant.read
