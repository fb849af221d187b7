use Rattle.std.proofs.Common.{◌≡◌, ◌++◌, Ok, drop}
use Rattle.std.specs.Prelude.{⊤}
use Rattle.std.specs.List.{AllByRecursion}
use Rattle.ctr_base.specs.Base.{WhereSound}
use Rattle.ctr_store.specs.Store.{LeavesPage}
use Rattle.ctr_rec.specs.Members.{ItemFits}
use Rattle.ctr_record_effects.specs.States.{area_in}
use Rattle.ctr_undo.proofs.Read.{all_read}
use Rattle.ctr_undo.proofs.list.UndoList.names.Given as goal

-- The pages were read alone; the names so far, and behind them those of the items that are left, are those of all.
abbrev pub invariant-loop-item : goal.invariant-loop-item
invariant-loop-item g l = record {
  read : LeavesPage {T = ⊤} g.O.Origin.first g.D.Disk l.fn.store l.store (Ok tt);
  told : WhereSound g.O.Origin.first g.D.Disk (l.names.items ++ all_read (area_in l.fn.store.now) (drop l.item-index l.items) ≡ all_read (area_in l.fn.store.now) l.items);
  fit : AllByRecursion ItemFits (drop l.item-index l.items);
}
