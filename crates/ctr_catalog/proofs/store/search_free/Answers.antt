use Rattle.std.proofs.Common.{inl, inr, None, Some, Ok, refl, subst}
use Rattle.std.specs.Prelude.{IfOk}
use Rattle.std.proofs.lemmas.Result.{err_from_is_err_and}
use Rattle.ctr_alloc.specs.redo_States.{State}
use Rattle.ctr_alloc.specs.record_effects_States.{pages_in}
use Rattle.ctr_alloc.specs.walk_Damage.{searched, EndsOnPage}
use Rattle.ctr_alloc.proofs.walk_Joins.{answers_ok, pages_join}
use Rattle.ctr_alloc.proofs.walk_Searches.{without, passed, leaves_behind}
use Rattle.ctr_catalog.specs.Free.{EndsFreeEntry, EndsCatalog}
use Rattle.ctr_catalog.proofs.store.search_free.Goals as goal

pub returns-in_err-entry-clause-ends : goal.returns-in_err-entry-clause-ends
returns-in_err-entry-clause-ends g c =
    let p = err_from_is_err_and c.from_residual.result c.from_residual.ensures.1 in
    let n = c.args.store.now.now.counted in
    let pages = pages_in c.args.store.now.now in
    let e = c.in_err-entry.field-0.0 in
    rw (p.1, p.2) (λ told sound.
    passed _ _ e (EndsOnPage 1 (EndsFreeEntry n (pages 1))) (EndsCatalog n pages) (λ bad ends. inl ends)
    (subst (λ m. IfOk (searched (without _ e)) (EndsOnPage 1 (EndsFreeEntry m (pages 1)))) c.counted-counted.ensures (c.in_err-entry.ensures.ends told sound)))

pub returns-in-Some-clause-ends : goal.returns-in-Some-clause-ends
returns-in-Some-clause-ends g c = λ told sound.
    let page = pages_in c.args.store.now.now 1 in
    inl (subst (λ n. EndsFreeEntry n page (Ok (Some c.in-Some.entry))) c.counted-counted.ensures
    (subst (λ o. EndsFreeEntry c.counted-counted.result page (Ok o)) c.in-Some.is (c.in_ok-entry.ensures.ends told sound)))

pub returns-in_err-entry-2-clause-ends : goal.returns-in_err-entry-2-clause-ends
returns-in_err-entry-2-clause-ends g c =
    let p = err_from_is_err_and c.from_residual-in_err-entry-2.result c.from_residual-in_err-entry-2.ensures.1 in
    let n = c.args.store.now.now.counted in
    let pages = pages_in c.args.store.now.now in
    let e = c.in_err-entry-2.field-0.0 in
    rw (p.1, p.2) (λ told sound.
    let none = subst (λ m. EndsFreeEntry m (pages 1) (Ok None)) c.counted-counted.ensures (subst (λ o. EndsFreeEntry c.counted-counted.result (pages 1) (Ok o)) c.in_default.is (c.in_ok-entry.ensures.ends told sound)) in
    passed _ _ e (EndsOnPage 2 (EndsFreeEntry n (pages 2))) (EndsCatalog n pages) (λ bad ends. inr (none, ends))
    (subst (λ m. IfOk (searched (without _ e)) (EndsOnPage 2 (EndsFreeEntry m (pages 2)))) c.counted-counted.ensures
    (subst (λ (s : State). IfOk (searched (without _ e)) (EndsOnPage 2 (EndsFreeEntry c.counted-counted.result (pages_in s 2)))) (c.in_ok-entry.ensures.leaves.logs told sound).now (c.in_err-entry-2.ensures.ends told sound))))

pub returns-in_err-entry-2-clause-leaves : goal.returns-in_err-entry-2-clause-leaves
returns-in_err-entry-2-clause-leaves g c =
    let p = err_from_is_err_and c.from_residual-in_err-entry-2.result c.from_residual-in_err-entry-2.ensures.1 in
    rw (p.1, p.2) (leaves_behind g.O.Origin.first g.D.Disk _ _ _ c.in_err-entry-2.field-0.0 c.args.store.now c.free_on.new.store c.free_on-2.new.store c.in_ok-entry.ensures.leaves c.in_err-entry-2.ensures.leaves)

pub returns-in-Some-2-clause-ends : goal.returns-in-Some-2-clause-ends
returns-in-Some-2-clause-ends g c = λ told sound.
    let pages = pages_in c.args.store.now.now in
    let none = subst (λ m. EndsFreeEntry m (pages 1) (Ok None)) c.counted-counted.ensures (subst (λ o. EndsFreeEntry c.counted-counted.result (pages 1) (Ok o)) c.in_default.is (c.in_ok-entry.ensures.ends told sound)) in
    let found = subst (λ (s : State). EndsFreeEntry c.counted-counted.result (pages_in s 2) (Ok c.in_ok-entry-2.field-0)) (c.in_ok-entry.ensures.leaves.logs told sound).now (c.in_ok-entry-2.ensures.ends told sound) in
    inr (none, (c.in-Some-2.entry, refl, subst (λ m. EndsFreeEntry m (pages 2) (Ok (Some c.in-Some-2.entry))) c.counted-counted.ensures (subst (λ o. EndsFreeEntry c.counted-counted.result (pages 2) (Ok o)) c.in-Some-2.is found)))

pub returns-in-Some-2-clause-leaves : goal.returns-in-Some-2-clause-leaves
returns-in-Some-2-clause-leaves g c =
    answers_ok g.O.Origin.first g.D.Disk _ _ c.args.store.now c.free_on-2.new.store
    (pages_join g.D.Disk c.args.store.now c.free_on.new.store c.free_on-2.new.store g.O.Origin.first _ _ _ (searched (Ok c.in_ok-entry-2.field-0)) c.in_ok-entry.ensures.leaves c.in_ok-entry-2.ensures.leaves)

pub returns-in-None-clause-ends : goal.returns-in-None-clause-ends
returns-in-None-clause-ends g c = λ told sound.
    let pages = pages_in c.args.store.now.now in
    let none = subst (λ m. EndsFreeEntry m (pages 1) (Ok None)) c.counted-counted.ensures (subst (λ o. EndsFreeEntry c.counted-counted.result (pages 1) (Ok o)) c.in_default.is (c.in_ok-entry.ensures.ends told sound)) in
    let found = subst (λ (s : State). EndsFreeEntry c.counted-counted.result (pages_in s 2) (Ok c.in_ok-entry-2.field-0)) (c.in_ok-entry.ensures.leaves.logs told sound).now (c.in_ok-entry-2.ensures.ends told sound) in
    (none, subst (λ m. EndsFreeEntry m (pages 2) (Ok None)) c.counted-counted.ensures (subst (λ o. EndsFreeEntry c.counted-counted.result (pages 2) (Ok o)) c.in-None.is found))

pub returns-in-None-clause-leaves : goal.returns-in-None-clause-leaves
returns-in-None-clause-leaves g c =
    answers_ok g.O.Origin.first g.D.Disk _ _ c.args.store.now c.free_on-2.new.store
    (pages_join g.D.Disk c.args.store.now c.free_on.new.store c.free_on-2.new.store g.O.Origin.first _ _ _ (searched (Ok c.in_ok-entry-2.field-0)) c.in_ok-entry.ensures.leaves c.in_ok-entry-2.ensures.leaves)
