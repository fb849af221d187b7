use Rattle.std.proofs.Common.{◌≡◌, true, [], None, Some, Ok, refl, ◌∙◌, ap, subst}
use Rattle.std.specs.Prelude.{IfOk, IfErr}
use Rattle.ctr_disk.specs.declared.fault.StoreFault.{StoreFault}
use Rattle.ctr_disk.specs.declared.fault.StoreFault.TheVariants.{Fault}
use Rattle.ctr_walk.specs.redo_States.{State}
use Rattle.ctr_walk.specs.record_effects_Standing.{IsDatabaseState}
use Rattle.ctr_emptying.specs.cursor_Position.TheVariants.{Entry}
use Rattle.ctr_cleaner.specs.Finding.{HasNothingInDead}
use Rattle.ctr_cleaner.specs.Turning.{heeding}
use Rattle.ctr_cleaner.specs.Parts.{DidAt, HasNoPageToGo, HasNoEntryToFree}
use Rattle.ctr_cleaner.proofs.Joined.{part_told}
use Rattle.ctr_cleaner.proofs.Found.{done_so, ok_told, everything}
use Rattle.ctr_cleaner.proofs.emptying.unlink_or_free.Goals as goal

pub returns-in-Ok-None-clause-tries : goal.returns-in-Ok-None-clause-tries
returns-in-Ok-None-clause-tries g c =
    let first = g.O.Origin.first in
    let old = c.args.store.now in
    let mid = c.unlink_any.new.store in
    let new = c.free_where_it_may.new.store in
    let r = c.free_where_it_may.result in
    c.a_part_goes_on.ensures.behind true first old mid new r
    (part_told first g.D.Disk true old mid c.unlink_any.result c.unlink_any.result (Ok None) refl (c.in-Ok-None.is ∙ ap Ok c.in-Ok-None.field-0-is) c.unlink_any.ensures.tries)
    (c.a_part_goes_on.ensures.may true first mid new r c.free_where_it_may.ensures.tries)

pub returns-in-Ok-None-clause-cleans : goal.returns-in-Ok-None-clause-cleans
returns-in-Ok-None-clause-cleans g c = λ h lets told sound database dead.
    let s = c.args.store.now.now in
    let mid = c.unlink_any.new.store.now in
    let new = c.free_where_it_may.new.store.now in
    let e = c.args.entry in
    let may = c.args.may_free in
    let r = c.free_where_it_may.result in
    let x = Entry e in
    let one = ok_told (DidAt h x (HasNoPageToGo e s) s mid) c.unlink_any.result c.unlink_any.result None refl (c.in-Ok-None.is ∙ ap Ok c.in-Ok-None.field-0-is) (c.unlink_any.ensures.cleans h told sound database dead) in
    done_so h x (may ≡ true → HasNoEntryToFree e s) (may ≡ true → HasNothingInDead e s) s new (λ none is. record { rows = one.1.0; versions = one.1.1; entry = none is }) r
    (subst (λ (u : State). IsDatabaseState u → IfOk r (DidAt h x (may ≡ true → HasNoEntryToFree e u) u new)) one.0 (c.free_where_it_may.ensures.cleans h lets told sound) database)

pub returns-in-Ok-None-clause-refused : goal.returns-in-Ok-None-clause-refused
returns-in-Ok-None-clause-refused g c = λ told sound database dead.
    let s = c.args.store.now.now in
    let mid = c.unlink_any.new.store.now in
    let e = c.args.entry in
    let r = c.free_where_it_may.result in
    let h = heeding 0 [] 0 everything in
    let one = ok_told (DidAt h (Entry e) (HasNoPageToGo e s) s mid) c.unlink_any.result c.unlink_any.result None refl (c.in-Ok-None.is ∙ ap Ok c.in-Ok-None.field-0-is) (c.unlink_any.ensures.cleans h told sound database dead) in
    subst (λ (u : State). IsDatabaseState u → IfErr r (λ (f : StoreFault). f ≡ Fault)) one.0 (c.free_where_it_may.ensures.refused told sound) database

pub returns-in-Ok-Some-clause-cleans : goal.returns-in-Ok-Some-clause-cleans
returns-in-Ok-Some-clause-cleans g c = λ h lets told sound database dead.
    let s = c.args.store.now.now in
    let e = c.args.entry in
    ok_told (DidAt h (Entry e) (HasNoPageToGo e s) s c.unlink_any.new.store.now) c.unlink_any.result c.unlink_any.result (Some c.in-Ok-Some.dealt) refl (c.in-Ok-Some.is ∙ ap Ok c.in-Ok-Some.field-0-is) (c.unlink_any.ensures.cleans h told sound database dead)
