use Rattle.std.proofs.Common.{◌≡◌, Ok, Err, refl, subst}
use Rattle.ctr_disk.specs.declared.fault.StoreFault.TheVariants.{Fault}
use Rattle.ctr_page.specs.declared.checks.Chain.TheVariants as chain
use Rattle.ctr_pvs.specs.redo_States.{State}
use Rattle.ctr_pvs.specs.record_effects_States.{area_in}
use Rattle.ctr_pvs.specs.record_effects_Standing.{IsDatabaseState}
use Rattle.ctr_record_laws.specs.Owed.{OwedByOlderUnlink}
use Rattle.ctr_pvs.specs.actions_Actions.{UnlinksOlder}
use Rattle.ctr_clean.specs.page_turns_Turns.{Reads}
use Rattle.ctr_clean.specs.page_turns_Acts.{ActsBy}
use Rattle.ctr_emptying.specs.declared.emptied.Emptied.{Emptied}
use Rattle.ctr_emptying.specs.declared.emptied.Emptied.TheVariants.{OneRecord, Nothing}
use Rattle.ctr_emptying.specs.declared.left.Left.{Left}
use Rattle.ctr_emptying.specs.Looking.{LeftSaid}
use Rattle.ctr_emptying.proofs.Reading.{reads_fault}
use Rattle.ctr_emptying.proofs.Remaining.{versions_owe}
use Rattle.ctr_emptying.proofs.Turning.{leaving_turns}
use Rattle.ctr_pvs.proofs.walk_Joins.{answers_ok}
use Rattle.ctr_emptying.proofs.versions.unlink_versions_at.Goals as goal

pub returns-in-Err-clause-turns : goal.returns-in-Err-clause-turns
returns-in-Err-clause-turns g c = Reads (reads_fault g.O.Origin.first g.D.Disk c.args.store.now c.pages_left.new.store Left Emptied c.in-Err.fault c.pages_left.result c.in-Err.is c.pages_left.ensures.leaves)

pub returns-in-Err-unlink-clause-turns : goal.returns-in-Err-unlink-clause-turns
returns-in-Err-unlink-clause-turns g c =
    let first = g.O.Origin.first in
    let mid = c.pages_left.new.store in
    let new = c.unlink.new.store in
    let fault = c.in-Err-unlink.fault in
    c.a_turn_goes_on.ensures.behind first c.args.store.now mid new c.in-Ok-Versions.field-0 (Err fault) c.in-Ok-Versions.ensures.leaves
    (c.a_turn_goes_on-2.ensures.failed first mid new fault c.unlink.result (Err fault) (leaving_turns first g.D.Disk c.in-Ok-Versions.p (chain.Versions c.args.entry) mid new c.unlink.result c.unlink.ensures.one) c.in-Err-unlink.is refl)

pub returns-in-Err-unlink-clause-refused : goal.returns-in-Err-unlink-clause-refused
returns-in-Err-unlink-clause-refused g c = λ told sound database.
    let s = c.args.store.now.now in
    let e = c.args.entry in
    let p = c.in-Ok-Versions.p in
    let left = subst (LeftSaid (area_in s) e) c.in-Ok-Versions.field-0-is (c.in-Ok-Versions.ensures.tells told sound) in
    subst (λ (u : State). IsDatabaseState u → OwedByOlderUnlink (area_in u) p e → c.in-Err-unlink.fault ≡ Fault) (c.in-Ok-Versions.ensures.leaves.logs told sound).now
    (c.in-Err-unlink.ensures.refused told sound) database (versions_owe (area_in s) e p left.0 left.1 left.2)

pub returns-in-Ok-clause-turns : goal.returns-in-Ok-clause-turns
returns-in-Ok-clause-turns g c =
    let first = g.O.Origin.first in
    let mid = c.pages_left.new.store in
    let new = c.unlink.new.store in
    c.a_turn_goes_on.ensures.behind first c.args.store.now mid new c.in-Ok-Versions.field-0 (Ok OneRecord) c.in-Ok-Versions.ensures.leaves
    (c.a_turn_goes_on-2.ensures.answered first mid new tt OneRecord (leaving_turns first g.D.Disk c.in-Ok-Versions.p (chain.Versions c.args.entry) mid new (Ok tt) c.in-Ok.ensures.one))

pub returns-in-Ok-clause-cleans : goal.returns-in-Ok-clause-cleans
returns-in-Ok-clause-cleans g c = λ told sound database.
    let s = c.args.store.now.now in
    let e = c.args.entry in
    let p = c.in-Ok-Versions.p in
    let left = subst (LeftSaid (area_in s) e) c.in-Ok-Versions.field-0-is (c.in-Ok-Versions.ensures.tells told sound) in (
      p,
      left.0,
      subst (λ (u : State). IsDatabaseState u → OwedByOlderUnlink (area_in u) p e → ActsBy s.tables.next (UnlinksOlder p e) u c.unlink.new.store.now)
          (c.in-Ok-Versions.ensures.leaves.logs told sound).now (c.in-Ok.ensures.acts s.tables.next told sound) database (versions_owe (area_in s) e p left.0 left.1 left.2),
    )

pub returns-in-Ok-Rows-clause-turns : goal.returns-in-Ok-Rows-clause-turns
returns-in-Ok-Rows-clause-turns g c = Reads (answers_ok g.O.Origin.first g.D.Disk c.in-Ok-Rows.field-0 Nothing c.args.store.now c.pages_left.new.store c.in-Ok-Rows.ensures.leaves)

pub returns-in-Ok-NoPage-clause-turns : goal.returns-in-Ok-NoPage-clause-turns
returns-in-Ok-NoPage-clause-turns g c = Reads (answers_ok g.O.Origin.first g.D.Disk c.in-Ok-NoPage.field-0 Nothing c.args.store.now c.pages_left.new.store c.in-Ok-NoPage.ensures.leaves)
