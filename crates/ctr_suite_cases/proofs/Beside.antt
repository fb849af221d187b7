-- What a step beside sessions leaves.
use Rattle.std.proofs.Common.{◌≡◌, ◌≤◌, ℕ, ◌+◌, false, sym, ◌∙◌, ap, subst, arith}
use Rattle.ctr_store.specs.Store.{View, KeepsRoom}
use Rattle.ctr_meta.specs.Kept.{TablesKept, RoomLeft}
use Rattle.ctr_exec.specs.txn_Held.{TxnsHeld}
use Rattle.ctr_exec.specs.txn_Rooms.{HasItemRoom, items_kept}
use Rattle.ctr_exec.specs.declared.sessions.Sessions.{Sessions}
use Rattle.ctr_exec.specs.Sessions.{AreSeated}
use Rattle.ctr_suite_cases.specs.Over.{AreOver, LeavesBeside}

same_room : (n m : ℕ) → n ≡ m → n ≤ m
same_room n m same = omega (arith, same)

no_less : (n m : ℕ) → n ≤ m + 0 → n ≤ m
no_less n m more = omega (arith, more)

at_most : (k n m : ℕ) → n ≤ m → k ≤ n → k ≤ m
at_most k n m more few = omega (arith, more, few)

-- where no record was logged
pub kept_beside : {D : Type 0} (a b : View D) → KeepsRoom a b → b.stopped ≡ false → LeavesBeside a b
kept_beside a b keeps going = record {
  going = going;
  next = ap (λ (k : TablesKept). k.tables.next) keeps.meta;
  items = same_room a.meta.items_room b.meta.items_room (ap (λ (k : TablesKept). k.items_room) (sym keeps.meta));
  counted = keeps.counted;
}

-- where a record was logged that adds nothing to the tables
pub added_beside : {D : Type 0} (a b : View D) → RoomLeft 0 0 a.meta b.meta → b.meta.tables.next ≡ a.meta.tables.next → b.stopped ≡ false → b.now.counted ≡ a.now.counted → LeavesBeside a b
added_beside a b room next going counted = record { going = going; next = next; items = no_less a.meta.items_room b.meta.items_room room.1; counted = counted }

-- one step and another
pub beside_twice : {D : Type 0} (a b c : View D) → LeavesBeside a b → LeavesBeside b c → LeavesBeside a c
beside_twice a b c first second = record {
  going = second.going;
  next = second.next ∙ first.next;
  items = at_most a.meta.items_room b.meta.items_room c.meta.items_room second.items first.items;
  counted = second.counted ∙ first.counted;
}

-- sessions may take turns behind it
pub over_beside : {D : Type 0} (h : Sessions) (a b : View D) → LeavesBeside a b → AreOver h a → AreOver h b
over_beside h a b leaves over = record {
  stand = record {
    next = over.stand.next ∙ sym leaves.next;
    items = at_most (items_kept h.txns) a.meta.items_room b.meta.items_room leaves.items over.stand.items;
  };
  going = leaves.going;
  seats = subst (AreSeated h) (sym leaves.counted) over.seats;
}
