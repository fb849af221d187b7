-- Sessions over a store, behind a flush.
use Rattle.std.proofs.Common.{◌≡◌, false, sym, ◌∙◌, ap, subst}
use Rattle.ctr_store.specs.Store.{View, KeepsRoom}
use Rattle.ctr_meta.specs.Kept.{TablesKept}
use Rattle.ctr_exec.specs.txn_Rooms.{HasItemRoom}
use Rattle.ctr_exec.specs.declared.sessions.Sessions.{Sessions}
use Rattle.ctr_exec.specs.Sessions.{AreSeated, LeavesSeats}
use Rattle.ctr_suite_cases.specs.Over.{AreOver}

pub left_over : {D : Type 0} (h : Sessions) (a b : View D) → LeavesSeats h a b → AreOver h b
left_over h a b left = record { stand = left.stand; going = left.going; seats = left.seats }

pub kept_over : {D : Type 0} (h : Sessions) (a b : View D) → KeepsRoom a b → b.stopped ≡ false → AreOver h a → AreOver h b
kept_over h a b keeps going over = record {
  stand = record {
    next = over.stand.next ∙ ap (λ (k : TablesKept). k.tables.next) (sym keeps.meta);
    items = subst (HasItemRoom h.txns) (sym keeps.meta) over.stand.items;
  };
  going = going;
  seats = subst (AreSeated h) (sym keeps.counted) over.seats;
}
