use Rattle.std.proofs.Common.{◌≡◌, ◌≢◌, ℕ, Bool, Option, Ok, Err, subst}
use Rattle.std.specs.Prelude.{IfOk, IfErr}
use Rattle.ctr_disk.specs.declared.fault.StoreFault.TheVariants.{Fault}
use Rattle.ctr_load.specs.Statements.{load_columns}
use Rattle.ctr_area.specs.Chains.{slot_places}
use Rattle.ctr_area.specs.Images.{is_committed_in}
use Rattle.ctr_record_laws.proofs.Bounds.{pages_bounded}
use Rattle.ctr_walk.specs.redo_States.{State}
use Rattle.ctr_record_effects.specs.States.{pages_in, area_in}
use Rattle.ctr_record_effects.specs.Standing.{IsDatabaseState}
use Rattle.ctr_walk.proofs.Damages.{reads_err}
use Rattle.ctr_walk.proofs.Joins.{answers_ok}
use Rattle.ctr_cursor.proofs.reading_Told.{reads_behind, ok_so}
use Rattle.ctr_stops.specs.Fronts.{rows_of_state}
use Rattle.ctr_totals.specs.declared.counting.Totals.{Totals}
use Rattle.ctr_totals.specs.Totals.{no_totals, AreTotals}
use Rattle.ctr_totals.specs.Counting.{AreCountedOf}
use Rattle.ctr_totals.specs.Finding.{FindsLoad, TellsColumns}
use Rattle.ctr_totals.proofs.Totalled.{not_free, none_named, other_columns, counted_table}
use Rattle.ctr_totals.proofs.load.totals_of_rows.Goals as goal

pub returns-in-Err-clause-leaves : goal.returns-in-Err-clause-leaves
returns-in-Err-clause-leaves g c = reads_err g.O.Origin.first g.D.Disk (Option ℕ) Totals c.in-Err.fault c.args.store.now c.find.new.store c.in-Err.ensures.leaves

pub returns-in_default-clause-counts : goal.returns-in_default-clause-counts
returns-in_default-clause-counts g c = λ told sound database.
    let s = c.args.store.now.now in
    none_named s.counted s.tables (area_in s) database.sound (pages_bounded (pages_in s)) (subst (FindsLoad (is_committed_in s.tables) (area_in s)) c.in_default.is (c.in-Ok.ensures.finds told sound))

pub returns-in-Err-fits-clause-leaves : goal.returns-in-Err-fits-clause-leaves
returns-in-Err-fits-clause-leaves g c = reads_err g.O.Origin.first g.D.Disk Bool Totals c.in-Err-fits.fault c.args.store.now c.fits.new.store
    (reads_behind g.O.Origin.first g.D.Disk c.in-Ok.found (Err c.in-Err-fits.fault) c.args.store.now c.find.new.store c.fits.new.store c.in-Ok.ensures.leaves c.in-Err-fits.ensures.leaves)

pub returns-in-Ok-false-clause-counts : goal.returns-in-Ok-false-clause-counts
returns-in-Ok-false-clause-counts g c = λ told sound database.
    let s = c.args.store.now.now in
    let e = c.in-Some.entry in
    let its = subst (FindsLoad (is_committed_in s.tables) (area_in s)) c.in-Some.is (c.in-Ok.ensures.finds told sound) in
    let columns = subst (λ (u : State). ((area_in u).title e).state ≢ 0 → TellsColumns ((area_in u).title e).columns c.in-Ok-false.field-0) (c.in-Ok.ensures.leaves.logs told sound).now (c.in-Ok-false.ensures.tells told sound) (not_free (is_committed_in s.tables) (area_in s) e its.1) in
    other_columns s.counted s.tables (area_in s) database.sound (pages_bounded (pages_in s)) e its.0 its.1 (subst (TellsColumns ((area_in s).title e).columns) c.in-Ok-false.field-0-test columns)

pub returns-in-Ok-false-clause-leaves : goal.returns-in-Ok-false-clause-leaves
returns-in-Ok-false-clause-leaves g c = answers_ok g.O.Origin.first g.D.Disk c.in-Ok-false.field-0 no_totals c.args.store.now c.fits.new.store
    (reads_behind g.O.Origin.first g.D.Disk c.in-Ok.found (Ok c.in-Ok-false.field-0) c.args.store.now c.find.new.store c.fits.new.store c.in-Ok.ensures.leaves c.in-Ok-false.ensures.leaves)

pub returns-in-Ok-true-clause-counts : goal.returns-in-Ok-true-clause-counts
returns-in-Ok-true-clause-counts g c = λ told sound database.
    let s = c.args.store.now.now in
    let e = c.in-Some.entry in
    let its = subst (FindsLoad (is_committed_in s.tables) (area_in s)) c.in-Some.is (c.in-Ok.ensures.finds told sound) in
    let first = (c.in-Ok.ensures.leaves.logs told sound).now in
    let columns = subst (TellsColumns ((area_in s).title e).columns) c.in-Ok-true.field-0-test
    (subst (λ (u : State). ((area_in u).title e).state ≢ 0 → TellsColumns ((area_in u).title e).columns c.in-Ok-true.field-0) first (c.in-Ok-true.ensures.tells told sound) (not_free (is_committed_in s.tables) (area_in s) e its.1)) in
    let counts = subst (λ (u : State). IsDatabaseState u → ((area_in u).title e).columns ≡ load_columns → IfOk c.count.result (AreCountedOf (is_committed_in u.tables) (area_in u) (slot_places (area_in u) e))) first
    (subst (λ (u : State). IsDatabaseState u → ((area_in u).title e).columns ≡ load_columns → IfOk c.count.result (AreCountedOf (is_committed_in u.tables) (area_in u) (slot_places (area_in u) e))) (c.in-Ok-true.ensures.leaves.logs told sound).now (c.count.ensures.counts told sound))
    database columns in
    ok_so (AreCountedOf (is_committed_in s.tables) (area_in s) (slot_places (area_in s) e)) (AreTotals (rows_of_state s)) c.count.result
    (λ t is. counted_table s.counted s.tables (area_in s) database.sound (pages_bounded (pages_in s)) e its.0 its.1 columns t is) counts

pub returns-in-Ok-true-clause-refused : goal.returns-in-Ok-true-clause-refused
returns-in-Ok-true-clause-refused g c = λ told sound database.
    let s = c.args.store.now.now in
    let e = c.in-Some.entry in
    let its = subst (FindsLoad (is_committed_in s.tables) (area_in s)) c.in-Some.is (c.in-Ok.ensures.finds told sound) in
    let first = (c.in-Ok.ensures.leaves.logs told sound).now in
    let columns = subst (TellsColumns ((area_in s).title e).columns) c.in-Ok-true.field-0-test
    (subst (λ (u : State). ((area_in u).title e).state ≢ 0 → TellsColumns ((area_in u).title e).columns c.in-Ok-true.field-0) first (c.in-Ok-true.ensures.tells told sound) (not_free (is_committed_in s.tables) (area_in s) e its.1)) in
    subst (λ (u : State). IsDatabaseState u → ((area_in u).title e).columns ≡ load_columns → IfErr c.count.result (λ f. f ≡ Fault)) first
    (subst (λ (u : State). IsDatabaseState u → ((area_in u).title e).columns ≡ load_columns → IfErr c.count.result (λ f. f ≡ Fault)) (c.in-Ok-true.ensures.leaves.logs told sound).now (c.count.ensures.refused told sound))
    database columns

pub returns-in-Ok-true-clause-leaves : goal.returns-in-Ok-true-clause-leaves
returns-in-Ok-true-clause-leaves g c =
    reads_behind g.O.Origin.first g.D.Disk c.in-Ok-true.field-0 c.count.result c.args.store.now c.fits.new.store c.count.new.store
    (reads_behind g.O.Origin.first g.D.Disk c.in-Ok.found (Ok c.in-Ok-true.field-0) c.args.store.now c.find.new.store c.fits.new.store c.in-Ok.ensures.leaves c.in-Ok-true.ensures.leaves) c.count.ensures.leaves
