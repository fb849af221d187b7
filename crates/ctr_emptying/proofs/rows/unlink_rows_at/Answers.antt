use Rattle.std.proofs.Common.{◌≡◌, ℕ, Option, Ok, Err, refl, subst}
use Rattle.ctr_disk.specs.declared.fault.StoreFault.TheVariants.{Fault}
use Rattle.ctr_page.specs.declared.checks.Chain.TheVariants.{Rows}
use Rattle.ctr_pvs.specs.redo_States.{State}
use Rattle.ctr_pvs.specs.record_effects_States.{area_in}
use Rattle.ctr_pvs.specs.record_effects_Standing.{IsDatabaseState}
use Rattle.ctr_record_laws.specs.Owed.{OwedByUnlink}
use Rattle.ctr_pvs.specs.actions_Actions.{Unlinks}
use Rattle.ctr_clean.specs.page_turns_Turns.{Reads}
use Rattle.ctr_clean.specs.page_turns_Acts.{ActsBy}
use Rattle.ctr_emptying.specs.declared.emptied.Emptied.{Emptied}
use Rattle.ctr_emptying.specs.declared.emptied.Emptied.TheVariants.{OneRecord, Nothing}
use Rattle.ctr_emptying.specs.Looking.{FrontSaid}
use Rattle.ctr_emptying.proofs.Reading.{reads_fault}
use Rattle.ctr_emptying.proofs.Settled.{settled_owes, none_owes, eight_there}
use Rattle.ctr_emptying.proofs.Turning.{leaving_turns}
use Rattle.ctr_pvs.proofs.walk_Joins.{answers_ok}
use Rattle.ctr_emptying.proofs.rows.unlink_rows_at.Goals as goal

pub returns-in-Err-clause-turns : goal.returns-in-Err-clause-turns
returns-in-Err-clause-turns g c = Reads (reads_fault g.O.Origin.first g.D.Disk c.args.store.now c.settled_front.new.store (Option ℕ) Emptied c.in-Err.fault c.settled_front.result c.in-Err.is c.settled_front.ensures.leaves)

pub returns-in-Ok-None-clause-cleans : goal.returns-in-Ok-None-clause-cleans
returns-in-Ok-None-clause-cleans g c = λ told sound database dead.
    let s = c.args.store.now.now in
    let e = c.args.entry in
    let b = c.args.bucket in
    ((c.in-Ok-None.ensures.leaves.logs told sound).now, none_owes s e b database (subst (FrontSaid s.tables (area_in s) e b) c.in-Ok-None.field-0-is (c.in-Ok-None.ensures.tells told sound)))

pub returns-in-Err-unlink-clause-turns : goal.returns-in-Err-unlink-clause-turns
returns-in-Err-unlink-clause-turns g c =
    let first = g.O.Origin.first in
    let mid = c.settled_front.new.store in
    let new = c.unlink.new.store in
    let fault = c.in-Err-unlink.fault in
    c.a_turn_goes_on.ensures.behind first c.args.store.now mid new c.in-Ok-Some.field-0 (Err fault) c.in-Ok-Some.ensures.leaves
    (c.a_turn_goes_on-2.ensures.failed first mid new fault c.unlink.result (Err fault) (leaving_turns first g.D.Disk c.in-Ok-Some.p (Rows c.args.entry c.args.bucket) mid new c.unlink.result c.unlink.ensures.one) c.in-Err-unlink.is refl)

pub returns-in-Err-unlink-clause-refused : goal.returns-in-Err-unlink-clause-refused
returns-in-Err-unlink-clause-refused g c = λ told sound database dead.
    let s = c.args.store.now.now in
    let e = c.args.entry in
    let b = c.args.bucket in
    let p = c.in-Ok-Some.p in
    let front = subst (FrontSaid s.tables (area_in s) e b) c.in-Ok-Some.field-0-is (c.in-Ok-Some.ensures.tells told sound) in
    subst (λ (u : State). IsDatabaseState u → OwedByUnlink u.tables (area_in u) p e b → c.in-Err-unlink.fault ≡ Fault) (c.in-Ok-Some.ensures.leaves.logs told sound).now
    (c.in-Err-unlink.ensures.refused told sound) database (settled_owes s.tables (area_in s) e b p dead (eight_there s e b dead (c.a_table_can_be_linked_to.ensures.eight s e) c.requires.there.1) front)

pub returns-in-Ok-clause-turns : goal.returns-in-Ok-clause-turns
returns-in-Ok-clause-turns g c =
    let first = g.O.Origin.first in
    let mid = c.settled_front.new.store in
    let new = c.unlink.new.store in
    c.a_turn_goes_on.ensures.behind first c.args.store.now mid new c.in-Ok-Some.field-0 (Ok OneRecord) c.in-Ok-Some.ensures.leaves
    (c.a_turn_goes_on-2.ensures.answered first mid new tt OneRecord (leaving_turns first g.D.Disk c.in-Ok-Some.p (Rows c.args.entry c.args.bucket) mid new (Ok tt) c.in-Ok.ensures.one))

pub returns-in-Ok-clause-cleans : goal.returns-in-Ok-clause-cleans
returns-in-Ok-clause-cleans g c = λ told sound database dead.
    let s = c.args.store.now.now in
    let e = c.args.entry in
    let b = c.args.bucket in
    let p = c.in-Ok-Some.p in
    let front = subst (FrontSaid s.tables (area_in s) e b) c.in-Ok-Some.field-0-is (c.in-Ok-Some.ensures.tells told sound) in (
      p,
      subst (λ (u : State). IsDatabaseState u → OwedByUnlink u.tables (area_in u) p e b → ActsBy s.tables.next (Unlinks p e b) u c.unlink.new.store.now)
          (c.in-Ok-Some.ensures.leaves.logs told sound).now (c.in-Ok.ensures.acts s.tables.next told sound) database (settled_owes s.tables (area_in s) e b p dead (eight_there s e b dead (c.a_table_can_be_linked_to.ensures.eight s e) c.requires.there.1) front),
    )

pub returns-in-Ok-None-clause-turns : goal.returns-in-Ok-None-clause-turns
returns-in-Ok-None-clause-turns g c = Reads (answers_ok g.O.Origin.first g.D.Disk c.in-Ok-None.field-0 Nothing c.args.store.now c.settled_front.new.store c.in-Ok-None.ensures.leaves)
