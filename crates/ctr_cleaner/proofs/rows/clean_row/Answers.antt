use Rattle.std.proofs.Common.{◌≡◌, ◌≢◌, None, Ok, Err, ◌∙◌, subst}
use Rattle.std.specs.Prelude.{IfOk, IfErr}
use Rattle.ctr_disk.specs.declared.fault.StoreFault.{StoreFault}
use Rattle.ctr_disk.specs.declared.fault.StoreFault.TheVariants.{Fault}
use Rattle.ctr_area.specs.Chains.{slot_places}
use Rattle.ctr_area.specs.Images.{is_live}
use Rattle.ctr_area.specs.Sound.{IsAmong}
use Rattle.ctr_walk.specs.redo_States.{State}
use Rattle.ctr_walk.specs.record_effects_States.{area_in}
use Rattle.ctr_walk.specs.record_effects_Standing.{IsDatabaseState}
use Rattle.ctr_emptying.specs.cursor_Position.TheVariants.{Slot}
use Rattle.ctr_emptying.proofs.cursor_Leads.{slot_place}
use Rattle.ctr_cleaner.specs.Finding.{IsFreeRow, HasNothingAt, HasNothingInSlot}
use Rattle.ctr_cleaner.specs.Turning.{heeding}
use Rattle.ctr_cleaner.specs.Parts.{DidAt, OpenSaid, IsOpenSlot}
use Rattle.ctr_cleaner.proofs.Found.{done_so, nothing_closed, slot_taken}
use Rattle.ctr_cleaner.proofs.rows.clean_row.Goals as goal

pub returns-in-Err-clause-tries : goal.returns-in-Err-clause-tries
returns-in-Err-clause-tries g c = c.a_part_reads.ensures.unread _ g.O.Origin.first c.args.store.now c.title_at.new.store c.in-Err.fault c.title_at.result c.title_at.ensures.leaves c.in-Err.is

pub returns-in-Err-is_open-clause-tries : goal.returns-in-Err-is_open-clause-tries
returns-in-Err-is_open-clause-tries g c =
    let first = g.O.Origin.first in
    c.a_part_reads.ensures.behind _ first c.args.store.now c.title_at.new.store c.is_open.new.store c.in-Ok.title (Err c.in-Err-is_open.fault) c.in-Ok.ensures.leaves
    (c.a_part_reads-2.ensures.unread _ first c.title_at.new.store c.is_open.new.store c.in-Err-is_open.fault c.is_open.result c.is_open.ensures.leaves c.in-Err-is_open.is)

pub returns-in-Err-is_open-clause-refused : goal.returns-in-Err-is_open-clause-refused
returns-in-Err-is_open-clause-refused g c = λ b told sound database its.
    let s = c.args.store.now.now in
    let e = c.args.entry in
    let at = c.args.place in
    subst (λ (u : State). IsDatabaseState u → IsAmong at (slot_places (area_in u) e) → c.in-Err-is_open.fault ≡ Fault) (c.in-Ok.ensures.leaves.logs told sound).now (c.in-Err-is_open.ensures.refused told sound) database (slot_place (area_in s) e b at its.1)

pub returns-in-Ok-false-clause-tries : goal.returns-in-Ok-false-clause-tries
returns-in-Ok-false-clause-tries g c =
    let first = g.O.Origin.first in
    c.a_part_reads.ensures.behind _ first c.args.store.now c.title_at.new.store c.is_open.new.store c.in-Ok.title (Ok None) c.in-Ok.ensures.leaves
    (c.a_part_reads-2.ensures.nothing _ first c.title_at.new.store c.is_open.new.store c.in-Ok-false.field-0 c.in-Ok-false.ensures.leaves)

pub returns-in-Ok-false-clause-cleans : goal.returns-in-Ok-false-clause-cleans
returns-in-Ok-false-clause-cleans g c = λ b spared may told sound database its.
    let s = c.args.store.now.now in
    let e = c.args.entry in
    let at = c.args.place in
    let locks = c.args.locks.now in
    let same = (c.in-Ok.ensures.leaves.logs told sound).now in
    let said = subst (λ (u : State). ((area_in u).title e).state ≢ 0 → OpenSaid locks e at u c.in-Ok-false.field-0) same (c.in-Ok-false.ensures.tells told sound) (slot_taken s e b at its) in
    ((c.in-Ok-false.ensures.leaves.logs told sound).now ∙ same, λ free. nothing_closed c.args.low locks e at s (subst (OpenSaid locks e at s) c.in-Ok-false.field-0-test said) free)

pub returns-in-Ok-true-clause-tries : goal.returns-in-Ok-true-clause-tries
returns-in-Ok-true-clause-tries g c =
    let first = g.O.Origin.first in
    c.a_part_reads.ensures.behind _ first c.args.store.now c.title_at.new.store c.clean_open.new.store c.in-Ok.title c.clean_open.result c.in-Ok.ensures.leaves
    (c.a_part_reads-2.ensures.behind _ first c.title_at.new.store c.is_open.new.store c.clean_open.new.store c.in-Ok-true.field-0 c.clean_open.result c.in-Ok-true.ensures.leaves c.clean_open.ensures.tries)

pub returns-in-Ok-true-clause-cleans : goal.returns-in-Ok-true-clause-cleans
returns-in-Ok-true-clause-cleans g c = λ b spared may told sound database its.
    let s = c.args.store.now.now in
    let new = c.clean_open.new.store.now in
    let e = c.args.entry in
    let at = c.args.place in
    let low = c.args.low in
    let locks = c.args.locks.now in
    let h = heeding low locks spared may in
    let x = Slot e b at in
    let same = (c.in-Ok.ensures.leaves.logs told sound).now in
    let still = (c.in-Ok-true.ensures.leaves.logs told sound).now ∙ same in
    let said = subst (λ (u : State). ((area_in u).title e).state ≢ 0 → OpenSaid locks e at u c.in-Ok-true.field-0) same (c.in-Ok-true.ensures.tells told sound) (slot_taken s e b at its) in
    let slot : IsOpenSlot locks e at s = record { here = slot_place (area_in s) e b at its.1; unlocked = subst (OpenSaid locks e at s) c.in-Ok-true.field-0-test said } in
    done_so h x (HasNothingInSlot low e at s) (HasNothingAt (IsFreeRow locks s) low x s) s new (λ none free. none) c.clean_open.result
    (subst (λ (u : State). IsDatabaseState u → IsOpenSlot locks e at u → is_live ((area_in u).title e) ≡ c.is_live.result → IfOk c.clean_open.result (DidAt h x (HasNothingInSlot low e at u) u new)) still
    (c.clean_open.ensures.cleans b spared may told sound) database slot (c.is_live.ensures ((area_in s).title e) (c.in-Ok.ensures.tells told sound)))

pub returns-in-Ok-true-clause-refused : goal.returns-in-Ok-true-clause-refused
returns-in-Ok-true-clause-refused g c = λ b told sound database its.
    let s = c.args.store.now.now in
    let e = c.args.entry in
    let at = c.args.place in
    let locks = c.args.locks.now in
    let same = (c.in-Ok.ensures.leaves.logs told sound).now in
    let still = (c.in-Ok-true.ensures.leaves.logs told sound).now ∙ same in
    let said = subst (λ (u : State). ((area_in u).title e).state ≢ 0 → OpenSaid locks e at u c.in-Ok-true.field-0) same (c.in-Ok-true.ensures.tells told sound) (slot_taken s e b at its) in
    let slot : IsOpenSlot locks e at s = record { here = slot_place (area_in s) e b at its.1; unlocked = subst (OpenSaid locks e at s) c.in-Ok-true.field-0-test said } in
    subst (λ (u : State). IsDatabaseState u → IsOpenSlot locks e at u → is_live ((area_in u).title e) ≡ c.is_live.result → IfErr c.clean_open.result (λ (f : StoreFault). f ≡ Fault)) still
    (c.clean_open.ensures.refused told sound) database slot (c.is_live.ensures ((area_in s).title e) (c.in-Ok.ensures.tells told sound))
