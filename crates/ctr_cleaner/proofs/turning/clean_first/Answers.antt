use Rattle.std.proofs.Common.{◌≡◌, None, Some, Ok, Err, ◌∙◌, ap, subst}
use Rattle.std.specs.Prelude.{IfOk, IfErr}
use Rattle.ctr_disk.specs.declared.fault.StoreFault.{StoreFault}
use Rattle.ctr_disk.specs.declared.fault.StoreFault.TheVariants.{Fault}
use Rattle.ctr_walk.specs.redo_States.{State}
use Rattle.ctr_walk.specs.record_effects_Standing.{IsDatabaseState}
use Rattle.ctr_actions.specs.Sites.{site_of}
use Rattle.ctr_emptying.specs.clean_Lists.{HasNoFree}
use Rattle.ctr_emptying.specs.cursor_Standing.{IsPosition}
use Rattle.ctr_cleaner.specs.Finding.{IsFreeRow, HasNothingAt}
use Rattle.ctr_cleaner.specs.Turning.{heeding, MayAll}
use Rattle.ctr_cleaner.specs.Parts.{DidAt, IsPassed, done_reclaim}
use Rattle.ctr_cleaner.proofs.Joined.{part_told}
use Rattle.ctr_cleaner.proofs.Found.{reclaim_err, err_told, done_so, ok_told, reclaims}
use Rattle.ctr_cleaner.proofs.turning.clean_first.Goals as goal

pub returns-in-Err-clause-tries : goal.returns-in-Err-clause-tries
returns-in-Err-clause-tries g c =
    let first = g.O.Origin.first in
    let old = c.args.store.now in
    let mid = c.reclaim.new.store in
    let r = c.reclaim.result in
    let is = c.reclaim.ensures in
    c.a_part_goes_on.ensures.may c.args.may.unlink first old mid (Err c.in-Err.fault)
    (part_told first g.D.Disk _ old mid (done_reclaim r) c.reclaimed.result (Err c.in-Err.fault) c.reclaimed.ensures c.in-Err.is (c.a_step_is_a_part.ensures.reclaimed first old mid r is.turns is.numbers is.left is.counted is.takes))

pub returns-in-Err-clause-refused : goal.returns-in-Err-clause-refused
returns-in-Err-clause-refused g c = λ told sound database its.
    err_told (λ (f : StoreFault). f ≡ Fault) (done_reclaim c.reclaim.result) c.reclaimed.result c.in-Err.fault c.reclaimed.ensures c.in-Err.is (reclaim_err (λ (f : StoreFault). f ≡ Fault) c.reclaim.result (c.reclaim.ensures.refused told sound database))

pub returns-in-Ok-None-clause-tries : goal.returns-in-Ok-None-clause-tries
returns-in-Ok-None-clause-tries g c =
    let first = g.O.Origin.first in
    let old = c.args.store.now in
    let mid = c.reclaim.new.store in
    let r = c.reclaim.result in
    let is = c.reclaim.ensures in
    c.a_part_goes_on.ensures.behind c.args.may.unlink first old mid c.clean_at.new.store c.clean_at.result
    (c.a_part_goes_on.ensures.may c.args.may.unlink first old mid (Ok None)
    (part_told first g.D.Disk _ old mid (done_reclaim r) c.reclaimed.result (Ok None) c.reclaimed.ensures (c.in-Ok-None.is ∙ ap Ok c.in-Ok-None.field-0-is) (c.a_step_is_a_part.ensures.reclaimed first old mid r is.turns is.numbers is.left is.counted is.takes)))
    c.clean_at.ensures.tries

pub returns-in-Ok-None-clause-cleans : goal.returns-in-Ok-None-clause-cleans
returns-in-Ok-None-clause-cleans g c = λ told sound database its.
    let s = c.args.store.now.now in
    let mid = c.reclaim.new.store.now in
    let new = c.clean_at.new.store.now in
    let low = c.args.low in
    let locks = c.args.locks.now in
    let spared = c.args.spared in
    let lets = c.args.may in
    let x = c.args.at in
    let r = c.reclaim.result in
    let h = heeding low locks spared lets in
    let one = ok_told (DidAt h x (HasNoFree spared s.tables) s mid) (done_reclaim r) c.reclaimed.result None c.reclaimed.ensures (c.in-Ok-None.is ∙ ap Ok c.in-Ok-None.field-0-is) (reclaims low locks spared lets x s mid r (c.reclaim.ensures.cleans low locks told sound database)) in
    done_so h x (MayAll lets → HasNothingAt (IsFreeRow locks s) low x s) (IsPassed h x s) s new (λ none. (one.1, none)) c.clean_at.result
    (subst (λ (u : State). IsDatabaseState u → IsPosition x (site_of u) → IfOk c.clean_at.result (DidAt h x (MayAll lets → HasNothingAt (IsFreeRow locks u) low x u) u new)) one.0 (c.clean_at.ensures.cleans spared told sound) database its)

pub returns-in-Ok-None-clause-refused : goal.returns-in-Ok-None-clause-refused
returns-in-Ok-None-clause-refused g c = λ told sound database its.
    let s = c.args.store.now.now in
    let mid = c.reclaim.new.store.now in
    let low = c.args.low in
    let locks = c.args.locks.now in
    let spared = c.args.spared in
    let lets = c.args.may in
    let x = c.args.at in
    let r = c.reclaim.result in
    let one = ok_told (DidAt (heeding low locks spared lets) x (HasNoFree spared s.tables) s mid) (done_reclaim r) c.reclaimed.result None c.reclaimed.ensures (c.in-Ok-None.is ∙ ap Ok c.in-Ok-None.field-0-is) (reclaims low locks spared lets x s mid r (c.reclaim.ensures.cleans low locks told sound database)) in
    subst (λ (u : State). IsDatabaseState u → IsPosition x (site_of u) → IfErr c.clean_at.result (λ (f : StoreFault). f ≡ Fault)) one.0 (c.clean_at.ensures.refused told sound) database its

pub returns-in-Ok-Some-clause-tries : goal.returns-in-Ok-Some-clause-tries
returns-in-Ok-Some-clause-tries g c =
    let first = g.O.Origin.first in
    let old = c.args.store.now in
    let mid = c.reclaim.new.store in
    let r = c.reclaim.result in
    let is = c.reclaim.ensures in
    c.a_part_goes_on.ensures.may c.args.may.unlink first old mid (Ok (Some c.in-Ok-Some.dealt))
    (part_told first g.D.Disk _ old mid (done_reclaim r) c.reclaimed.result (Ok (Some c.in-Ok-Some.dealt)) c.reclaimed.ensures (c.in-Ok-Some.is ∙ ap Ok c.in-Ok-Some.field-0-is) (c.a_step_is_a_part.ensures.reclaimed first old mid r is.turns is.numbers is.left is.counted is.takes))

pub returns-in-Ok-Some-clause-cleans : goal.returns-in-Ok-Some-clause-cleans
returns-in-Ok-Some-clause-cleans g c = λ told sound database its.
    let s = c.args.store.now.now in
    let mid = c.reclaim.new.store.now in
    let low = c.args.low in
    let locks = c.args.locks.now in
    let spared = c.args.spared in
    let lets = c.args.may in
    let x = c.args.at in
    let r = c.reclaim.result in
    ok_told (DidAt (heeding low locks spared lets) x (HasNoFree spared s.tables) s mid) (done_reclaim r) c.reclaimed.result (Some c.in-Ok-Some.dealt) c.reclaimed.ensures (c.in-Ok-Some.is ∙ ap Ok c.in-Ok-Some.field-0-is) (reclaims low locks spared lets x s mid r (c.reclaim.ensures.cleans low locks told sound database))
