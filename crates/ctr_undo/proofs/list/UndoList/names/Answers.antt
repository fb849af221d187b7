use Rattle.std.proofs.Common.{◌≡◌, Ok, arith, length, sym, ◌∙◌}
use Rattle.std.specs.Prelude.{⊤}
use Rattle.ctr_walk.proofs.Joins.{pages_join}
use Rattle.ctr_undo.proofs.Read.{refused_behind, read_on, fit_on, read_all}
use Rattle.ctr_undo.proofs.list.UndoList.names.Goals as goal

pub returns-in-Err-clause-leaves : goal.returns-in-Err-clause-leaves
returns-in-Err-clause-leaves g c = refused_behind g.O.Origin.first g.D.Disk ⊤ ⊤ c.in-Err.refused c.args.store.now c.loop-item.store c.add.new.store c.loop-item.invariant.read c.in-Err.ensures.leaves

pub loop-item-preserved : goal.loop-item-preserved
loop-item-preserved g c = record {
  read = pages_join g.D.Disk c.args.store.now c.loop-item.store c.add.new.store g.O.Origin.first ⊤ ⊤ tt (Ok tt) c.loop-item.invariant.read c.in-Ok.ensures.leaves;
  told = λ told sound.
      read_on c.args.store.now.now c.loop-item.store.now c.items-items.result.now c.loop-item.item-index _ c.loop-item.names.items c.add.new.names.items
      (c.loop-item.invariant.read.logs told sound).now c.loop-item-test.true (c.in-Ok.ensures.added told sound) (c.loop-item.invariant.told told sound);
  fit = fit_on c.items-items.result.now c.loop-item.item-index c.loop-item-test.true c.loop-item.invariant.fit;
}

pub returns-clause-names : goal.returns-clause-names
returns-clause-names g c = λ told sound db same.
    let items = c.items-items.result.now in
    let k = c.loop-item.item-index in
    let over : k ≡ length items = omega arith in
    rw (sym c.items-items.ensures.value) (read_all c.args.store.now.now items k c.loop-item.names.items over (c.loop-item.invariant.told told sound) db (same ∙ sym c.items-items.ensures.value))
