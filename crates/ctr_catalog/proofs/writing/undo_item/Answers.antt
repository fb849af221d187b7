use Rattle.std.proofs.Common.{◌≡◌, sym, subst}
use Rattle.std.specs.Prelude.{OnOk}
use Rattle.ctr_alloc.specs.record_effects_States.{area_in, IsWholePage}
use Rattle.ctr_alloc.specs.actions_Sites.{site_of}
use Rattle.ctr_alloc.specs.actions_Actions.{site_after, undoing}
use Rattle.ctr_catalog.specs.Writing.{undo_page, HasMade}
use Rattle.ctr_catalog.proofs.writing.undo_item.Goals as goal

pub returns-in-AllocOf-clause-leaves : goal.returns-in-AllocOf-clause-leaves
returns-in-AllocOf-clause-leaves g c = λ x told sound made.
    subst (λ i. OnOk c.free.result (site_of c.free.new.store.now ≡ site_after x (undoing i) (site_of c.args.store.now.now))) (sym c.in-AllocOf.is) (c.free.ensures.leaves x told sound)

pub returns-in-FreeOf-clause-leaves : goal.returns-in-FreeOf-clause-leaves
returns-in-FreeOf-clause-leaves g c = λ x told sound made.
    subst (λ i. OnOk c.free-in-FreeOf.result (site_of c.free-in-FreeOf.new.store.now ≡ site_after x (undoing i) (site_of c.args.store.now.now))) (sym c.in-FreeOf.is)
    (c.free-in-FreeOf.ensures.leaves x told sound)

pub returns-in-CreateOf-clause-leaves : goal.returns-in-CreateOf-clause-leaves
returns-in-CreateOf-clause-leaves g c = λ x told sound made.
    subst (λ i. OnOk c.uncreate.result (site_of c.uncreate.new.store.now ≡ site_after x (undoing i) (site_of c.args.store.now.now))) (sym c.in-CreateOf.is)
    (c.uncreate.ensures.leaves x told sound (subst (λ i. HasMade i (area_in c.args.store.now.now)) c.in-CreateOf.is made))

pub returns-in-DropOf-clause-leaves : goal.returns-in-DropOf-clause-leaves
returns-in-DropOf-clause-leaves g c = λ x told sound made.
    subst (λ i. OnOk c.undrop.result (site_of c.undrop.new.store.now ≡ site_after x (undoing i) (site_of c.args.store.now.now))) (sym c.in-DropOf.is) (c.undrop.ensures.leaves x told sound)

pub returns-in-AllocOf-clause-whole : goal.returns-in-AllocOf-clause-whole
returns-in-AllocOf-clause-whole g c told sound =
    subst (λ i. OnOk c.free.result (IsWholePage (undo_page i) c.args.store.now.now)) (sym c.in-AllocOf.is) (c.free.ensures.whole told sound)

pub returns-in-FreeOf-clause-whole : goal.returns-in-FreeOf-clause-whole
returns-in-FreeOf-clause-whole g c told sound =
    subst (λ i. OnOk c.free-in-FreeOf.result (IsWholePage (undo_page i) c.args.store.now.now)) (sym c.in-FreeOf.is) (c.free-in-FreeOf.ensures.whole told sound)

pub returns-in-CreateOf-clause-whole : goal.returns-in-CreateOf-clause-whole
returns-in-CreateOf-clause-whole g c told sound =
    subst (λ i. OnOk c.uncreate.result (IsWholePage (undo_page i) c.args.store.now.now)) (sym c.in-CreateOf.is) (c.uncreate.ensures.whole told sound)

pub returns-in-DropOf-clause-whole : goal.returns-in-DropOf-clause-whole
returns-in-DropOf-clause-whole g c told sound =
    subst (λ i. OnOk c.undrop.result (IsWholePage (undo_page i) c.args.store.now.now)) (sym c.in-DropOf.is) (c.undrop.ensures.whole told sound)
