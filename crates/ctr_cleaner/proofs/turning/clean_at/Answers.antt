use Rattle.std.proofs.Common.{◌≡◌, refl, sym, subst}
use Rattle.std.specs.Prelude.{IfOk, IfErr}
use Rattle.ctr_disk.specs.declared.fault.StoreFault.{StoreFault}
use Rattle.ctr_disk.specs.declared.fault.StoreFault.TheVariants.{Fault}
use Rattle.ctr_actions.specs.Sites.{site_of}
use Rattle.ctr_emptying.specs.clean_Lists.{HasNoForget}
use Rattle.ctr_emptying.specs.cursor_Position.{Position}
use Rattle.ctr_emptying.specs.cursor_Position.TheVariants.{Slot, Kept, Aborted}
use Rattle.ctr_emptying.specs.cursor_Standing.{IsPosition}
use Rattle.ctr_cleaner.specs.Finding.{IsFreeRow, HasNothingAt}
use Rattle.ctr_cleaner.specs.Turning.{heeding, MayAll}
use Rattle.ctr_cleaner.specs.Parts.{DidAt, done_step}
use Rattle.ctr_cleaner.proofs.Joined.{part_told}
use Rattle.ctr_cleaner.proofs.Found.{step_err, done_so, forgets}
use Rattle.ctr_cleaner.proofs.turning.clean_at.Goals as goal

pub returns-in-Slot-clause-tries : goal.returns-in-Slot-clause-tries
returns-in-Slot-clause-tries g c = c.a_part_goes_on.ensures.may c.args.may.unlink g.O.Origin.first c.args.store.now c.clean_row.new.store c.clean_row.result c.clean_row.ensures.tries

pub returns-in-Kept-clause-tries : goal.returns-in-Kept-clause-tries
returns-in-Kept-clause-tries g c = c.a_part_goes_on.ensures.may c.args.may.unlink g.O.Origin.first c.args.store.now c.clean_kept.new.store c.clean_kept.result c.clean_kept.ensures.tries

pub returns-in-Aborted-clause-tries : goal.returns-in-Aborted-clause-tries
returns-in-Aborted-clause-tries g c =
    let first = g.O.Origin.first in
    let old = c.args.store.now in
    let new = c.forget_at.new.store in
    let r = c.forget_at.result in
    let does = c.forget_at.ensures in
    c.a_part_goes_on.ensures.may c.args.may.unlink first old new c.stepped.result
    (part_told first g.D.Disk _ old new (done_step r) c.stepped.result c.stepped.result c.stepped.ensures refl (c.a_step_is_a_part.ensures.step first old new r does.turns does.numbers does.left does.counted))

pub returns-in-Entry-clause-cleans : goal.returns-in-Entry-clause-cleans
returns-in-Entry-clause-cleans g c = λ spared told sound database its.
    let s = c.args.store.now.now in
    let locks = c.args.locks.now in
    let low = c.args.low in
    let lets = c.args.may in
    subst (λ (y : Position). IfOk c.clean_entry.result (DidAt (heeding low locks spared lets) y (MayAll lets → HasNothingAt (IsFreeRow locks s) low y s) s c.clean_entry.new.store.now)) (sym c.in-Entry.is)
    (c.clean_entry.ensures.cleans locks spared told sound database)

pub returns-in-Slot-clause-cleans : goal.returns-in-Slot-clause-cleans
returns-in-Slot-clause-cleans g c = λ spared told sound database its.
    let s = c.args.store.now.now in
    let locks = c.args.locks.now in
    let low = c.args.low in
    let lets = c.args.may in
    let x = Slot c.in-Slot.entry c.in-Slot.bucket c.in-Slot.place in
    let h = heeding low locks spared lets in
    subst (λ (y : Position). IfOk c.clean_row.result (DidAt h y (MayAll lets → HasNothingAt (IsFreeRow locks s) low y s) s c.clean_row.new.store.now)) (sym c.in-Slot.is)
    (done_so h x (HasNothingAt (IsFreeRow locks s) low x s) (MayAll lets → HasNothingAt (IsFreeRow locks s) low x s) s c.clean_row.new.store.now (λ none is. none) c.clean_row.result
    (c.clean_row.ensures.cleans c.in-Slot.bucket spared lets told sound database (subst (λ (y : Position). IsPosition y (site_of s)) c.in-Slot.is its)))

pub returns-in-Slot-clause-refused : goal.returns-in-Slot-clause-refused
returns-in-Slot-clause-refused g c = λ told sound database its. c.clean_row.ensures.refused c.in-Slot.bucket told sound database (subst (λ (y : Position). IsPosition y (site_of c.args.store.now.now)) c.in-Slot.is its)

pub returns-in-Kept-clause-cleans : goal.returns-in-Kept-clause-cleans
returns-in-Kept-clause-cleans g c = λ spared told sound database its.
    let s = c.args.store.now.now in
    let locks = c.args.locks.now in
    let low = c.args.low in
    let lets = c.args.may in
    let x = Kept c.in-Kept.entry c.in-Kept.place in
    let h = heeding low locks spared lets in
    subst (λ (y : Position). IfOk c.clean_kept.result (DidAt h y (MayAll lets → HasNothingAt (IsFreeRow locks s) low y s) s c.clean_kept.new.store.now)) (sym c.in-Kept.is)
    (done_so h x (HasNothingAt (IsFreeRow locks s) low x s) (MayAll lets → HasNothingAt (IsFreeRow locks s) low x s) s c.clean_kept.new.store.now (λ none is. none) c.clean_kept.result
    (c.clean_kept.ensures.cleans spared lets told sound database (subst (λ (y : Position). IsPosition y (site_of s)) c.in-Kept.is its)))

pub returns-in-Kept-clause-refused : goal.returns-in-Kept-clause-refused
returns-in-Kept-clause-refused g c = λ told sound database its. c.clean_kept.ensures.refused told sound database (subst (λ (y : Position). IsPosition y (site_of c.args.store.now.now)) c.in-Kept.is its)

pub returns-in-Aborted-clause-cleans : goal.returns-in-Aborted-clause-cleans
returns-in-Aborted-clause-cleans g c = λ spared told sound database its.
    let s = c.args.store.now.now in
    let new = c.forget_at.new.store.now in
    let locks = c.args.locks.now in
    let low = c.args.low in
    let lets = c.args.may in
    let n = c.in-Aborted.nth in
    let x = Aborted n in
    let r = c.forget_at.result in
    let h = heeding low locks spared lets in
    subst (λ (y : Position). IfOk c.stepped.result (DidAt h y (MayAll lets → HasNothingAt (IsFreeRow locks s) low y s) s new)) (sym c.in-Aborted.is)
    (subst (λ a. IfOk a (DidAt h x (MayAll lets → HasNothingAt (IsFreeRow locks s) low x s) s new)) (sym c.stepped.ensures)
    (done_so h x (HasNoForget n s.tables) (MayAll lets → HasNothingAt (IsFreeRow locks s) low x s) s new (λ none is. none) (done_step r)
    (forgets low locks spared n lets s new r (c.forget_at.ensures.cleans low locks told sound))))

pub returns-in-Aborted-clause-refused : goal.returns-in-Aborted-clause-refused
returns-in-Aborted-clause-refused g c = λ told sound database its. subst (λ a. IfErr a (λ (f : StoreFault). f ≡ Fault)) (sym c.stepped.ensures) (step_err (λ (f : StoreFault). f ≡ Fault) c.forget_at.result (c.forget_at.ensures.refused told sound database))
