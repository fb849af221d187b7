use Rattle.std.proofs.Common.{refl, sym, ◌∙◌, ap, subst}
use Rattle.ctr_meta.specs.Tables.{Tables}
use Rattle.ctr_rollback.proofs.Records.{one_done, one_failed}
use Rattle.ctr_undo.specs.declared.turning.UndoTurn.TheVariants.{Undone}
use Rattle.ctr_undo.specs.Left.{UndoLeft, Goes}
use Rattle.ctr_undo.specs.Turns.{record_for}
use Rattle.ctr_undo.proofs.Lists.{not_over, steps_few}
use Rattle.ctr_undo.proofs.Owing.{owes_next, next_for, room_for_next}
use Rattle.ctr_undo.proofs.turning.turn.Goals as goal

pub returns-in-Ok-clause-one : goal.returns-in-Ok-clause-one
returns-in-Ok-clause-one g c =
    let next = c.in-Some.ensures.next in
    let one = c.in-Ok.ensures.one in
    (c.in-Some.next, next.0, one.0, next.1, one_done g.O.Origin.first g.D.Disk (record_for c.in-Some.next one.0) c.args.store.now c.undo_next.new.store tt Undone one.1)

pub returns-in-Err-clause-one : goal.returns-in-Err-clause-one
returns-in-Err-clause-one g c =
    let next = c.in-Some.ensures.next in
    let one = c.in-Err.ensures.one in
    (c.in-Some.next, next.0, one.0, next.1, one_failed g.O.Origin.first g.D.Disk (record_for c.in-Some.next one.0) c.args.store.now c.undo_next.new.store c.in-Err.fault one.1)

pub returns-in-Ok-clause-takes : goal.returns-in-Ok-clause-takes
returns-in-Ok-clause-takes g c =
    let next = c.in-Some.ensures.next in
    let item = c.in-Some.next in
    (item, subst (λ (v : UndoLeft). Goes item c.args.list.now v) (sym (c.go_on.ensures item next.0 next.1)) next.1)

pub returns-in-Err-clause-takes : goal.returns-in-Err-clause-takes
returns-in-Err-clause-takes g c = let next = c.in-Some.ensures.next in (refl, λ over. not_over c.in-Some.next c.args.list.now next.0 next.1 over)

pub returns-in-Ok-clause-undoes : goal.returns-in-Ok-clause-undoes
returns-in-Ok-clause-undoes g c = λ told sound may.
    let next = c.in-Some.ensures.next in
    let item = c.in-Some.next in
    let u = c.args.list.now in
    let s = c.args.store.now.now in
    record {
      item = item;
      goes = subst (λ (v : UndoLeft). Goes item u v) (sym (c.go_on.ensures item next.0 next.1)) next.1;
      acts = c.in-Ok.ensures.acts told sound may.sound (owes_next u next.0 s may c.the_latest_item_can_be_undone.ensures.owed item next.1);
    }

pub returns-in-Err-clause-undoes : goal.returns-in-Err-clause-undoes
returns-in-Err-clause-undoes g c = λ told sound may.
    let next = c.in-Some.ensures.next in
    let item = c.in-Some.next in
    let s = c.args.store.now.now in
    c.in-Err.ensures.refused told sound may.sound (owes_next c.args.list.now next.0 s may c.the_latest_item_can_be_undone.ensures.owed item next.1)

pub returns-in-Ok-clause-left : goal.returns-in-Ok-clause-left
returns-in-Ok-clause-left g c =
    let item = c.in-Some.next in
    let one = c.in-Ok.ensures.one in (
      room_for_next item one.0 c.args.store.now.meta c.undo_next.new.store.meta one.1.takes.left,
      ap (λ (t : Tables). t.next) one.1.takes.tables ∙ next_for item one.0 c.args.store.now.meta.tables,
    )

pub returns-in-Ok-clause-steps : goal.returns-in-Ok-clause-steps
returns-in-Ok-clause-steps g c = let next = c.in-Some.ensures.next in (c.in-Some.next, next.0, next.1, c.in-Ok.ensures.steps)

pub returns-in-Err-clause-steps : goal.returns-in-Err-clause-steps
returns-in-Err-clause-steps g c = steps_few c.in-Some.next c.args.steps.now c.undo_next.new.steps c.in-Err.ensures.steps
