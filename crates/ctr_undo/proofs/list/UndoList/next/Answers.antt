use Rattle.std.proofs.Common.{[], refl, sym, ◌∙◌, ap, reverse}
use Rattle.ctr_rec.specs.Members.{ItemFits}
use Rattle.ctr_undo.specs.Left.{UndoLeft}
use Rattle.ctr_undo.proofs.Lists.{nil_of, first_of_reversed, last_has}
use Rattle.ctr_undo.proofs.list.UndoList.next.Goals as goal

pub returns-in-Some-clause-next : goal.returns-in-Some-clause-next
returns-in-Some-clause-next c = (
  record { items = c.in-Some.field-0-1.now; orphans = c.args.self.now.orphans },
  (ap (λ (u : UndoLeft). u.items) (sym c.self.view_is) ∙ sym c.deref.ensures.value ∙ c.in-Some.ensures.cases.0, refl),
)

pub returns-in-Some-clause-fits : goal.returns-in-Some-clause-fits
returns-in-Some-clause-fits c = last_has ItemFits c.self.inside.items.items c.in-Some.field-0-1.now c.in-Some.item.now (sym c.deref.ensures.value ∙ c.in-Some.ensures.cases.0) c.self.invariant

pub returns-in-Some-split_last-clause-next : goal.returns-in-Some-split_last-clause-next
returns-in-Some-split_last-clause-next c = (
  record { items = []; orphans = reverse c.in-Some-split_last.field-0-1.now },
  (
    ap (λ (u : UndoLeft). u.items) (sym c.self.view_is) ∙ sym c.deref.ensures.value ∙ nil_of c.deref.result.now c.in-None.ensures.cases,
    refl,
    ap (λ (u : UndoLeft). u.orphans) (sym c.self.view_is) ∙ ap reverse (sym c.deref-in-None.ensures.value)
        ∙ first_of_reversed c.deref-in-None.result.now c.in-Some-split_last.field-0-1.now c.in-Some-split_last.x.now c.in-Some-split_last.ensures.cases.0,
  ),
)
