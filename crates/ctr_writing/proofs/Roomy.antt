-- Room for the items of the secondary log, and pages that are counted, behind a turn of a row's Write.
use Rattle.std.proofs.Common.{◌≡◌, ℕ, ◌+◌, ◌<◌, ◌≤◌, Bool, true, false, cond, Some, refl, sym, ◌∙◌, ap, subst, arith}
use Rattle.ctr_meta.specs.Kept.{RoomLeft, TablesKept}
use Rattle.ctr_versions.proofs.Keys.{known}
use Rattle.ctr_looks.specs.txn_Held.{TxnHeld, TxnsHeld, txn_of}
use Rattle.ctr_looks.specs.txn_Rooms.{GetsBack, HasItemRoom, SpendsOne, StaysRoom, item_kept, items_kept}
use Rattle.ctr_looks.specs.txn_Steps.{txn_room}
use Rattle.ctr_looks.specs.ctr_extend.declared.ways.OnWay.TheVariants.{Wanted, Taken, Made}
use Rattle.ctr_looks.specs.ctr_write.declared.stages.Stage.{Stage}
use Rattle.ctr_looks.specs.ctr_write.declared.stages.Stage.TheVariants.{Looking, Extending, Kept}
use Rattle.ctr_looks.specs.ctr_write.declared.stages.Written.{Written}
use Rattle.ctr_looks.specs.ctr_write.declared.stages.Written.TheVariants.{On, Done, Grown, Full}
use Rattle.ctr_looks.specs.ctr_write.Stages.{LeavesItem, stage_items}
use Rattle.ctr_writing.specs.Rows.{IsBetweenTurns}

-- ---- flags

is_true : (b : Bool) → ◌≡◌ {A = ℕ} (cond b 1 0) 1 → b ≡ true
is_true true is = refl
is_true false is = absurd (no 0 is)
  where
    no : (n : ℕ) → n ≡ n + 1 → ⊥
    no n is = omega (arith, is)

is_false : (b : Bool) → ◌≡◌ {A = ℕ} (cond b 1 0) 0 → b ≡ false
is_false true is = absurd (no 0 is)
  where
    no : (n : ℕ) → n + 1 ≡ n → ⊥
    no n is = omega (arith, is)
is_false false is = refl

at_most : (b : Bool) → cond b 1 0 ≤ 1
at_most true = omega arith
at_most false = omega arith

none_is_one : (n m : ℕ) → n ≡ 0 → n ≡ m → m ≡ 1 → ⊥
none_is_one n m none is one = omega (arith, none, is, one)

-- ---- a turn that goes on

module _ (s : ℕ) (old new : TxnsHeld) (t : TxnHeld) (b : Bool) (n : ℕ) (there : txn_of s old ≡ Some t) (kept : item_kept (Some t) ≡ n) (k l : TablesKept) (room : HasItemRoom old k)
    (spends : t.item ≡ true → b ≡ false → SpendsOne old new) (stays : b ≡ false → StaysRoom old new) (back : t.item ≡ false → b ≡ true → GetsBack old new)
    (changed : item_kept (Some (txn_room b t)) ≤ item_kept (txn_of s old) → StaysRoom old new) where
  -- it had room, and has it still
  had : t.item ≡ true → RoomLeft 0 0 k l → HasItemRoom new l
  had has left = changed (subst (λ m. item_kept (Some (txn_room b t)) ≤ m) (sym (ap item_kept there ∙ ap (λ x. cond x 1 0) has)) (at_most b)) k l left room

  pub room_on : (stage : Stage) → cond b 1 0 ≡ stage_items stage → LeavesItem n (On stage) k l → HasItemRoom new l
  room_on Looking wants left = known t.item
      (λ yes. had yes left.0.0)
      (λ no. back no (is_true b wants) k l left.0.0 left.1 room)
  room_on (Extending chain Wanted) wants left = absurd left
  room_on (Extending chain (Taken p)) wants left = known t.item
      (λ yes. spends yes (is_false b wants) k l (subst (λ m. RoomLeft 0 m k l) (sym kept ∙ ap (λ x. cond x 1 0) yes) left.0) room)
      (λ no. stays (is_false b wants) k l (subst (λ m. RoomLeft 0 m k l) (sym kept ∙ ap (λ x. cond x 1 0) no) left.0) room)
  room_on (Extending chain (Made p next)) wants left = stays (is_false b wants) k l left.0 room
  room_on (Kept q) wants left = known t.item
      (λ yes. had yes left.1.0)
      (λ no. absurd (none_is_one (item_kept (Some t)) n (ap (λ x. cond x 1 0) no) kept left.0))

-- where nothing is added the room is still there
pub room_still : (txns : TxnsHeld) (k l : TablesKept) → RoomLeft 0 0 k l → HasItemRoom txns k → HasItemRoom txns l
room_still txns k l left room = by (items_kept txns) k.items_room l.items_room room left.1
  where
    by : (n k l : ℕ) → n ≤ k → k ≤ l + 0 → n ≤ l
    by n k l room left = omega (arith, room, left)

-- no number is drawn
pub next_still : (n : ℕ) (w : Written) (k l : TablesKept) → LeavesItem n w k l → l.tables.next ≡ k.tables.next
next_still n (On Looking) k l left = left.0.1
next_still n (On (Extending chain Wanted)) k l left = absurd left
next_still n (On (Extending chain (Taken p))) k l left = left.1
next_still n (On (Extending chain (Made p next))) k l left = left.1
next_still n (On (Kept q)) k l left = left.1.1
next_still n Done k l left = left.1
next_still n Grown k l left = ap (λ (m : TablesKept). m.tables.next) left.1
next_still n Full k l left = ap (λ (m : TablesKept). m.tables.next) left

-- no page is wanted and not taken yet
pub between : (n : ℕ) (stage : Stage) (k l : TablesKept) → LeavesItem n (On stage) k l → IsBetweenTurns stage
between n Looking k l left = tt
between n (Extending chain Wanted) k l left = absurd left
between n (Extending chain (Taken p)) k l left = tt
between n (Extending chain (Made p next)) k l left = tt
between n (Kept q) k l left = tt

-- where more pages are counted, as many aren't
pub more_apart : (n m : ℕ) → n < m → m ≡ n → ⊥
more_apart n m more same = omega (arith, more, same)
