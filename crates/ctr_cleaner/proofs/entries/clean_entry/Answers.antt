use Rattle.std.proofs.Common.{◌≡◌, [], None, Some, Ok, Err, refl, ◌∙◌, ap, subst}
use Rattle.std.specs.Prelude.{IfOk, IfErr}
use Rattle.ctr_disk.specs.declared.fault.StoreFault.{StoreFault}
use Rattle.ctr_disk.specs.declared.fault.StoreFault.TheVariants.{Fault}
use Rattle.ctr_walk.specs.redo_States.{State}
use Rattle.ctr_walk.specs.record_effects_States.{area_in}
use Rattle.ctr_walk.specs.record_effects_Standing.{IsDatabaseState}
use Rattle.ctr_emptying.specs.clean_Tables.{OwesDying}
use Rattle.ctr_emptying.specs.cursor_Position.TheVariants.{Entry}
use Rattle.ctr_cleaner.specs.Finding.{IsFreeRow, HasNothingAt, HasNothingInDead}
use Rattle.ctr_cleaner.specs.Turning.{heeding, MayAll}
use Rattle.ctr_cleaner.specs.Parts.{DidAt, done_step}
use Rattle.ctr_cleaner.proofs.Joined.{part_told}
use Rattle.ctr_cleaner.proofs.Found.{done_so, ok_told, dies}
use Rattle.ctr_cleaner.proofs.entries.clean_entry.Goals as goal

pub returns-in-Err-clause-tries : goal.returns-in-Err-clause-tries
returns-in-Err-clause-tries g c =
    let first = g.O.Origin.first in
    let old = c.args.store.now in
    let mid = c.make_dead_at.new.store in
    let r = c.make_dead_at.result in
    let is = c.make_dead_at.ensures in
    c.a_part_goes_on.ensures.may c.args.may.unlink first old mid (Err c.in-Err.fault)
    (part_told first g.D.Disk _ old mid (done_step r) c.stepped.result (Err c.in-Err.fault) c.stepped.ensures c.in-Err.is (c.a_step_is_a_part.ensures.step first old mid r is.turns is.numbers is.left is.counted))

pub returns-in-Ok-None-clause-tries : goal.returns-in-Ok-None-clause-tries
returns-in-Ok-None-clause-tries g c =
    let first = g.O.Origin.first in
    let old = c.args.store.now in
    let mid = c.make_dead_at.new.store in
    let r = c.make_dead_at.result in
    let is = c.make_dead_at.ensures in
    c.a_part_goes_on.ensures.behind c.args.may.unlink first old mid c.clean_dead.new.store c.clean_dead.result
    (c.a_part_goes_on.ensures.may c.args.may.unlink first old mid (Ok None)
    (part_told first g.D.Disk _ old mid (done_step r) c.stepped.result (Ok None) c.stepped.ensures (c.in-Ok-None.is ∙ ap Ok c.in-Ok-None.field-0-is) (c.a_step_is_a_part.ensures.step first old mid r is.turns is.numbers is.left is.counted)))
    c.clean_dead.ensures.tries

pub returns-in-Ok-None-clause-cleans : goal.returns-in-Ok-None-clause-cleans
returns-in-Ok-None-clause-cleans g c = λ locks spared told sound database.
    let s = c.args.store.now.now in
    let mid = c.make_dead_at.new.store.now in
    let new = c.clean_dead.new.store.now in
    let e = c.args.entry in
    let low = c.args.low in
    let may = c.args.may in
    let r = c.make_dead_at.result in
    let h = heeding low locks spared may in
    let x = Entry e in
    let one = ok_told (DidAt h x (OwesDying low e s → ⊥) s mid) (done_step r) c.stepped.result None c.stepped.ensures (c.in-Ok-None.is ∙ ap Ok c.in-Ok-None.field-0-is) (dies low locks spared e may s mid r (c.make_dead_at.ensures.cleans locks told sound database)) in
    done_so h x (MayAll may → ((area_in s).title e).state ≡ 2 → HasNothingInDead e s) (MayAll may → HasNothingAt (IsFreeRow locks s) low x s) s new (λ none is. (one.1, none is)) c.clean_dead.result
    (subst (λ (u : State). IsDatabaseState u → IfOk c.clean_dead.result (DidAt h x (MayAll may → ((area_in u).title e).state ≡ 2 → HasNothingInDead e u) u new)) one.0 (c.clean_dead.ensures.cleans h refl told sound) database)

pub returns-in-Ok-None-clause-refused : goal.returns-in-Ok-None-clause-refused
returns-in-Ok-None-clause-refused g c = λ told sound database.
    let s = c.args.store.now.now in
    let mid = c.make_dead_at.new.store.now in
    let e = c.args.entry in
    let low = c.args.low in
    let r = c.make_dead_at.result in
    let one = ok_told (DidAt (heeding low [] 0 c.args.may) (Entry e) (OwesDying low e s → ⊥) s mid) (done_step r) c.stepped.result None c.stepped.ensures (c.in-Ok-None.is ∙ ap Ok c.in-Ok-None.field-0-is) (dies low [] 0 e c.args.may s mid r (c.make_dead_at.ensures.cleans [] told sound database)) in
    subst (λ (u : State). IsDatabaseState u → IfErr c.clean_dead.result (λ (f : StoreFault). f ≡ Fault)) one.0 (c.clean_dead.ensures.refused told sound) database

pub returns-in-Ok-Some-clause-tries : goal.returns-in-Ok-Some-clause-tries
returns-in-Ok-Some-clause-tries g c =
    let first = g.O.Origin.first in
    let old = c.args.store.now in
    let mid = c.make_dead_at.new.store in
    let r = c.make_dead_at.result in
    let is = c.make_dead_at.ensures in
    c.a_part_goes_on.ensures.may c.args.may.unlink first old mid (Ok (Some c.in-Ok-Some.dealt))
    (part_told first g.D.Disk _ old mid (done_step r) c.stepped.result (Ok (Some c.in-Ok-Some.dealt)) c.stepped.ensures (c.in-Ok-Some.is ∙ ap Ok c.in-Ok-Some.field-0-is) (c.a_step_is_a_part.ensures.step first old mid r is.turns is.numbers is.left is.counted))

pub returns-in-Ok-Some-clause-cleans : goal.returns-in-Ok-Some-clause-cleans
returns-in-Ok-Some-clause-cleans g c = λ locks spared told sound database.
    let s = c.args.store.now.now in
    let mid = c.make_dead_at.new.store.now in
    let e = c.args.entry in
    let low = c.args.low in
    let r = c.make_dead_at.result in
    ok_told (DidAt (heeding low locks spared c.args.may) (Entry e) (OwesDying low e s → ⊥) s mid) (done_step r) c.stepped.result (Some c.in-Ok-Some.dealt) c.stepped.ensures (c.in-Ok-Some.is ∙ ap Ok c.in-Ok-Some.field-0-is) (dies low locks spared e c.args.may s mid r (c.make_dead_at.ensures.cleans locks told sound database))
