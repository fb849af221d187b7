use Rattle.std.proofs.Common.{◌≡◌, true, None, Some, Ok, Err, refl, sym, ◌∙◌, ap, subst}
use Rattle.std.specs.Prelude.{IfOk, IfErr}
use Rattle.ctr_disk.specs.declared.fault.StoreFault.{StoreFault}
use Rattle.ctr_disk.specs.declared.fault.StoreFault.TheVariants.{Fault}
use Rattle.ctr_area.specs.Images.{is_live}
use Rattle.ctr_walk.specs.redo_States.{State}
use Rattle.ctr_walk.specs.record_effects_States.{area_in}
use Rattle.ctr_walk.specs.record_effects_Standing.{IsDatabaseState}
use Rattle.ctr_emptying.specs.clean_Cutting.{CutsAt, HasNoCut}
use Rattle.ctr_emptying.specs.clean_Steps.{HasNoRevert, HasNoTrim}
use Rattle.ctr_emptying.specs.cursor_Position.TheVariants.{Slot}
use Rattle.ctr_cleaner.specs.Finding.{HasNothingInSlot}
use Rattle.ctr_cleaner.specs.Turning.{heeding}
use Rattle.ctr_cleaner.specs.Parts.{DidAt, IsOpenSlot, done_step}
use Rattle.ctr_cleaner.proofs.Joined.{part_told}
use Rattle.ctr_cleaner.proofs.Found.{everything, step_err, done_so, ok_told, cleans_slot, cuts_slot, nothing_live}
use Rattle.ctr_cleaner.proofs.rows.clean_live.Goals as goal

pub returns-in-Err-clause-tries : goal.returns-in-Err-clause-tries
returns-in-Err-clause-tries g c =
    let first = g.O.Origin.first in
    let old = c.args.store.now in
    let mid = c.clean_slot.new.store in
    let r = c.clean_slot.result in
    let is = c.clean_slot.ensures in
    part_told first g.D.Disk _ old mid (done_step r) c.stepped.result (Err c.in-Err.fault) c.stepped.ensures c.in-Err.is (c.a_step_is_a_part.ensures.step first old mid r is.turns is.numbers is.left is.counted)

pub returns-in-Ok-None-clause-tries : goal.returns-in-Ok-None-clause-tries
returns-in-Ok-None-clause-tries g c =
    let first = g.O.Origin.first in
    let old = c.args.store.now in
    let mid = c.clean_slot.new.store in
    let new = c.cut_at.new.store in
    let r = c.clean_slot.result in
    let is = c.clean_slot.ensures in
    let does = c.cut_at.ensures in
    let last = c.stepped-in-Ok-None in
    c.a_part_goes_on.ensures.behind _ first old mid new last.result
    (part_told first g.D.Disk _ old mid (done_step r) c.stepped.result (Ok None) c.stepped.ensures (c.in-Ok-None.is ∙ ap Ok c.in-Ok-None.field-0-is) (c.a_step_is_a_part.ensures.step first old mid r is.turns is.numbers is.left is.counted))
    (part_told first g.D.Disk _ mid new (done_step c.cut_at.result) last.result last.result last.ensures refl (c.a_step_is_a_part.ensures.step first mid new c.cut_at.result does.turns does.numbers does.left does.counted))

pub returns-in-Ok-None-clause-cleans : goal.returns-in-Ok-None-clause-cleans
returns-in-Ok-None-clause-cleans g c = λ b spared may told sound database slot live.
    let s = c.args.store.now.now in
    let mid = c.clean_slot.new.store.now in
    let new = c.cut_at.new.store.now in
    let low = c.args.low in
    let locks = c.args.locks.now in
    let e = c.args.entry in
    let at = c.args.place in
    let h = heeding low locks spared may in
    let x = Slot e b at in
    let one = ok_told (DidAt h x (HasNoRevert locks e at s × HasNoTrim low locks e at s) s mid) (done_step c.clean_slot.result) c.stepped.result None c.stepped.ensures (c.in-Ok-None.is ∙ ap Ok c.in-Ok-None.field-0-is)
    (cleans_slot low locks spared may e b at s mid slot.unlocked c.clean_slot.result (c.clean_slot.ensures.cleans told sound database slot.here live)) in
    let two : IfOk c.cut_at.result (CutsAt low locks e at s new) = subst (λ (u : State). IsDatabaseState u → IsOpenSlot locks e at u → is_live ((area_in u).title e) ≡ true → IfOk c.cut_at.result (CutsAt low locks e at u new)) one.0
    (λ db unlocked lives. c.cut_at.ensures.cleans told sound db unlocked.here lives) database slot live in
    subst (λ r. IfOk r (DidAt h x (HasNothingInSlot low e at s) s new)) (sym c.stepped-in-Ok-None.ensures)
    (done_so h x (HasNoCut low locks e at s) (HasNothingInSlot low e at s) s new (λ uncut. nothing_live low locks e at s slot.unlocked.0 one.1 uncut) (done_step c.cut_at.result)
    (cuts_slot low locks spared may e b at s new slot.unlocked live c.cut_at.result two))

pub returns-in-Ok-None-clause-refused : goal.returns-in-Ok-None-clause-refused
returns-in-Ok-None-clause-refused g c = λ told sound database slot live.
    let s = c.args.store.now.now in
    let mid = c.clean_slot.new.store.now in
    let low = c.args.low in
    let locks = c.args.locks.now in
    let e = c.args.entry in
    let at = c.args.place in
    let h = heeding low locks 0 everything in
    let x = Slot e 0 at in
    let one = ok_told (DidAt h x (HasNoRevert locks e at s × HasNoTrim low locks e at s) s mid) (done_step c.clean_slot.result) c.stepped.result None c.stepped.ensures (c.in-Ok-None.is ∙ ap Ok c.in-Ok-None.field-0-is)
    (cleans_slot low locks 0 everything e 0 at s mid slot.unlocked c.clean_slot.result (c.clean_slot.ensures.cleans told sound database slot.here live)) in
    subst (λ r. IfErr r (λ (f : StoreFault). f ≡ Fault)) (sym c.stepped-in-Ok-None.ensures)
    (step_err (λ (f : StoreFault). f ≡ Fault) c.cut_at.result
    (subst (λ (u : State). IsDatabaseState u → IsOpenSlot locks e at u → is_live ((area_in u).title e) ≡ true → IfErr c.cut_at.result (λ (f : StoreFault). f ≡ Fault)) one.0
    (λ db unlocked lives. c.cut_at.ensures.refused told sound db unlocked.here lives) database slot live))

pub returns-in-Ok-Some-clause-tries : goal.returns-in-Ok-Some-clause-tries
returns-in-Ok-Some-clause-tries g c =
    let first = g.O.Origin.first in
    let old = c.args.store.now in
    let mid = c.clean_slot.new.store in
    let r = c.clean_slot.result in
    let is = c.clean_slot.ensures in
    part_told first g.D.Disk _ old mid (done_step r) c.stepped.result (Ok (Some c.in-Ok-Some.dealt)) c.stepped.ensures (c.in-Ok-Some.is ∙ ap Ok c.in-Ok-Some.field-0-is) (c.a_step_is_a_part.ensures.step first old mid r is.turns is.numbers is.left is.counted)

pub returns-in-Ok-Some-clause-cleans : goal.returns-in-Ok-Some-clause-cleans
returns-in-Ok-Some-clause-cleans g c = λ b spared may told sound database slot live.
    let s = c.args.store.now.now in
    let mid = c.clean_slot.new.store.now in
    let low = c.args.low in
    let locks = c.args.locks.now in
    let e = c.args.entry in
    let at = c.args.place in
    let h = heeding low locks spared may in
    let x = Slot e b at in
    ok_told (DidAt h x (HasNoRevert locks e at s × HasNoTrim low locks e at s) s mid) (done_step c.clean_slot.result) c.stepped.result (Some c.in-Ok-Some.dealt) c.stepped.ensures (c.in-Ok-Some.is ∙ ap Ok c.in-Ok-Some.field-0-is)
    (cleans_slot low locks spared may e b at s mid slot.unlocked c.clean_slot.result (c.clean_slot.ensures.cleans told sound database slot.here live))
