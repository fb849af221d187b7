use Rattle.std.proofs.Common.{◌≡◌, ◌≢◌, ◌<◌, inr, ℕ, Bool, Option, Some, None, false, Ok, Err, sym, subst}
use Rattle.std.specs.Prelude.{IfSome}
use Rattle.ctr_disk.specs.declared.fault.StoreFault.TheVariants.{Fault}
use Rattle.ctr_page.specs.declared.checks.Chain.TheVariants.{Rows}
use Rattle.ctr_pvs.specs.redo_States.{State}
use Rattle.ctr_pvs.specs.record_effects_States.{area_in}
use Rattle.ctr_record_laws.specs.Owed.{first_page}
use Rattle.ctr_pvs.specs.walk_Tables.{IsFirstPage}
use Rattle.ctr_pvs.proofs.walk_Damages.{reads_err}
use Rattle.ctr_pvs.proofs.walk_Joins.{answers_ok}
use Rattle.ctr_cursor.specs.reading_Gathering.{IsBucketPage}
use Rattle.ctr_cursor.proofs.reading_Told.{reads_behind}
use Rattle.ctr_emptying.specs.Looking.{SettledSaid}
use Rattle.ctr_emptying.proofs.Settled.{front_page}
use Rattle.ctr_emptying.proofs.rows.settled_front.Goals as goal

pub returns-in-Err-is_settled_page-clause-leaves : goal.returns-in-Err-is_settled_page-clause-leaves
returns-in-Err-is_settled_page-clause-leaves g c =
    let fault = c.in-Err-is_settled_page.fault in
    reads_err g.O.Origin.first g.D.Disk Bool (Option ℕ) fault c.args.store.now c.is_settled_page.new.store
    (reads_behind g.O.Origin.first g.D.Disk c.in-Ok.found (Err fault) c.args.store.now c.first_page.new.store c.is_settled_page.new.store c.in-Ok.ensures.leaves c.in-Err-is_settled_page.ensures.leaves)

pub returns-in-Err-is_settled_page-clause-refused : goal.returns-in-Err-is_settled_page-clause-refused
returns-in-Err-is_settled_page-clause-refused g c = λ told sound database.
    let s = c.args.store.now.now in
    let e = c.args.entry in
    let b = c.args.bucket in
    let p = c.in-Some.p in
    let is = subst (IsFirstPage (first_page (area_in s) e b)) c.in-Some.is (c.in-Ok.ensures.ends told sound).1 in
    let some = (subst (λ found. IfSome found (λ p. (p ≢ 0) × (p < s.counted))) c.in-Some.is c.in-Ok.ensures.inside).0 in
    subst (λ (t : State). IsBucketPage (Rows e b) p t → c.in-Err-is_settled_page.fault ≡ Fault) (c.in-Ok.ensures.leaves.logs told sound).now (c.in-Err-is_settled_page.ensures.refused (Rows e b) told sound)
    (front_page s e b p database some (sym is.1))

pub returns-in-Ok-true-clause-tells : goal.returns-in-Ok-true-clause-tells
returns-in-Ok-true-clause-tells g c = λ told sound.
    let s = c.args.store.now.now in
    let p = c.in-Some.p in
    let is = subst (IsFirstPage (first_page (area_in s) c.args.entry c.args.bucket)) c.in-Some.is (c.in-Ok.ensures.ends told sound).1 in
    let some = (subst (λ found. IfSome found (λ p. (p ≢ 0) × (p < s.counted))) c.in-Some.is c.in-Ok.ensures.inside).0 in
    let said = subst (λ (t : State). SettledSaid t.tables (area_in t) p c.in-Ok-true.field-0) (c.in-Ok.ensures.leaves.logs told sound).now (c.in-Ok-true.ensures.tells told sound) in
    (some, sym is.1, subst (λ b. SettledSaid s.tables (area_in s) p b) c.in-Ok-true.field-0-test said)

pub returns-in-Ok-true-clause-leaves : goal.returns-in-Ok-true-clause-leaves
returns-in-Ok-true-clause-leaves g c =
    answers_ok g.O.Origin.first g.D.Disk c.in-Ok-true.field-0 (Some c.in-Some.p) c.args.store.now c.is_settled_page.new.store
    (reads_behind g.O.Origin.first g.D.Disk c.in-Ok.found (Ok c.in-Ok-true.field-0) c.args.store.now c.first_page.new.store c.is_settled_page.new.store c.in-Ok.ensures.leaves c.in-Ok-true.ensures.leaves)

pub returns-in-Ok-false-clause-tells : goal.returns-in-Ok-false-clause-tells
returns-in-Ok-false-clause-tells g c = λ told sound.
    let s = c.args.store.now.now in
    let p = c.in-Some.p in
    let is = subst (IsFirstPage (first_page (area_in s) c.args.entry c.args.bucket)) c.in-Some.is (c.in-Ok.ensures.ends told sound).1 in
    let said = subst (λ (t : State). SettledSaid t.tables (area_in t) p c.in-Ok-false.field-0) (c.in-Ok.ensures.leaves.logs told sound).now (c.in-Ok-false.ensures.tells told sound) in
    inr (is.0, subst (λ q. SettledSaid s.tables (area_in s) q false) is.1 (subst (λ b. SettledSaid s.tables (area_in s) p b) c.in-Ok-false.field-0-test said))

pub returns-in-Ok-false-clause-leaves : goal.returns-in-Ok-false-clause-leaves
returns-in-Ok-false-clause-leaves g c =
    answers_ok g.O.Origin.first g.D.Disk c.in-Ok-false.field-0 None c.args.store.now c.is_settled_page.new.store
    (reads_behind g.O.Origin.first g.D.Disk c.in-Ok.found (Ok c.in-Ok-false.field-0) c.args.store.now c.first_page.new.store c.is_settled_page.new.store c.in-Ok.ensures.leaves c.in-Ok-false.ensures.leaves)
