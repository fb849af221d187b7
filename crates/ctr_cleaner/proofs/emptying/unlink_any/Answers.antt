use Rattle.std.proofs.Common.{◌≡◌, ℕ, true, [], None, Some, Ok, refl, sym, ◌∙◌, ap, subst}
use Rattle.std.specs.Prelude.{IfOk, IfErr}
use Rattle.ctr_disk.specs.declared.fault.StoreFault.{StoreFault}
use Rattle.ctr_disk.specs.declared.fault.StoreFault.TheVariants.{Fault}
use Rattle.ctr_walk.specs.redo_States.{State}
use Rattle.ctr_walk.specs.record_effects_States.{area_in}
use Rattle.ctr_walk.specs.record_effects_Standing.{IsDatabaseState}
use Rattle.ctr_record_laws.specs.Owed.{OwedByOlderUnlink}
use Rattle.ctr_emptying.specs.Emptying.{HasNoRows, UnlinksVersionsAt}
use Rattle.ctr_emptying.specs.cursor_Position.TheVariants.{Entry}
use Rattle.ctr_cleaner.specs.Turning.{heeding}
use Rattle.ctr_cleaner.specs.Parts.{DidAt, HasNoRowsToGo, HasNoPageToGo, done_unlinked}
use Rattle.ctr_cleaner.proofs.Joined.{part_told}
use Rattle.ctr_cleaner.proofs.Found.{unlinked_err, done_so, ok_told, everything, unlinks_versions}
use Rattle.ctr_cleaner.proofs.emptying.unlink_any.Goals as goal

pub returns-in-Ok-None-clause-tries : goal.returns-in-Ok-None-clause-tries
returns-in-Ok-None-clause-tries g c =
    let first = g.O.Origin.first in
    let old = c.args.store.now in
    let mid = c.unlink_rows.new.store in
    let new = c.unlink_versions_at.new.store in
    let r = c.unlink_versions_at.result in
    let does = c.unlink_versions_at.ensures in
    c.a_part_goes_on.ensures.behind true first old mid new c.unlinked.result
    (part_told first g.D.Disk true old mid c.unlink_rows.result c.unlink_rows.result (Ok None) refl (c.in-Ok-None.is ∙ ap Ok c.in-Ok-None.field-0-is) c.unlink_rows.ensures.tries)
    (part_told first g.D.Disk true mid new (done_unlinked r) c.unlinked.result c.unlinked.result c.unlinked.ensures refl (c.a_step_is_a_part.ensures.unlinked first mid new r does.turns does.numbers does.left does.counted))

pub returns-in-Ok-None-clause-cleans : goal.returns-in-Ok-None-clause-cleans
returns-in-Ok-None-clause-cleans g c = λ h told sound database dead.
    let s = c.args.store.now.now in
    let mid = c.unlink_rows.new.store.now in
    let new = c.unlink_versions_at.new.store.now in
    let e = c.args.entry in
    let r = c.unlink_versions_at.result in
    let x = Entry e in
    let one = ok_told (DidAt h x (HasNoRowsToGo e s) s mid) c.unlink_rows.result c.unlink_rows.result None refl (c.in-Ok-None.is ∙ ap Ok c.in-Ok-None.field-0-is) (c.unlink_rows.ensures.cleans h told sound database dead) in
    let two : IfOk r (UnlinksVersionsAt e s new) = subst (λ (u : State). IsDatabaseState u → IfOk r (UnlinksVersionsAt e u new)) one.0 (c.unlink_versions_at.ensures.cleans told sound) database in
    subst (λ a. IfOk a (DidAt h x (HasNoPageToGo e s) s new)) (sym c.unlinked.ensures)
    (done_so h x (HasNoRows (area_in s) e → (p : ℕ) → OwedByOlderUnlink (area_in s) p e → ⊥) (HasNoPageToGo e s) s new (λ none. (one.1, none)) (done_unlinked r) (unlinks_versions h e s new r dead two))

pub returns-in-Ok-None-clause-refused : goal.returns-in-Ok-None-clause-refused
returns-in-Ok-None-clause-refused g c = λ told sound database dead.
    let s = c.args.store.now.now in
    let mid = c.unlink_rows.new.store.now in
    let e = c.args.entry in
    let r = c.unlink_versions_at.result in
    let h = heeding 0 [] 0 everything in
    let one = ok_told (DidAt h (Entry e) (HasNoRowsToGo e s) s mid) c.unlink_rows.result c.unlink_rows.result None refl (c.in-Ok-None.is ∙ ap Ok c.in-Ok-None.field-0-is) (c.unlink_rows.ensures.cleans h told sound database dead) in
    subst (λ a. IfErr a (λ (f : StoreFault). f ≡ Fault)) (sym c.unlinked.ensures) (unlinked_err (λ (f : StoreFault). f ≡ Fault) r
    (subst (λ (u : State). IsDatabaseState u → IfErr r (λ (f : StoreFault). f ≡ Fault)) one.0 (c.unlink_versions_at.ensures.refused told sound) database))

pub returns-in-Ok-Some-clause-cleans : goal.returns-in-Ok-Some-clause-cleans
returns-in-Ok-Some-clause-cleans g c = λ h told sound database dead.
    let s = c.args.store.now.now in
    let e = c.args.entry in
    ok_told (DidAt h (Entry e) (HasNoRowsToGo e s) s c.unlink_rows.new.store.now) c.unlink_rows.result c.unlink_rows.result (Some c.in-Ok-Some.dealt) refl (c.in-Ok-Some.is ∙ ap Ok c.in-Ok-Some.field-0-is) (c.unlink_rows.ensures.cleans h told sound database dead)
