-- Room for items of the secondary log: what each session that is between its Lock and its Write may
-- still add, and the cleaner's one, is there at once.
use Rattle.std.specs.Prelude.{◌≡◌, ℕ, ◌+◌, ◌≤◌, Option, Some, None, length, if◌then◌else◌}
use Rattle.std.specs.List.{sum_by}
use Rattle.ctr_meta.specs.Kept.{TablesKept, RoomLeft}
use Rattle.ctr_txn.specs.Held.{TxnHeld, TxnsHeld}

-- how many items room is kept for, for a session
abbrev pub item_kept : Option TxnHeld → ℕ
item_kept None = 0
item_kept (Some t) = if t.item then 1 else 0

-- How many items room is kept for, for all sessions and the cleaner.
abbrev pub items_kept : TxnsHeld → ℕ
items_kept a = sum_by item_kept a.sessions + (if a.cleaner then 1 else 0)

-- the tables have that room
abbrev pub HasItemRoom : TxnsHeld → TablesKept → Type 0
HasItemRoom a k = items_kept a ≤ k.items_room

-- An item is added, for which room was kept: the room of all others is still there.
abbrev pub SpendsOne : TxnsHeld → TxnsHeld → Type 0
SpendsOne old new = (k l : TablesKept) → RoomLeft 0 1 k l → HasItemRoom old k → HasItemRoom new l

-- An item goes, whose room is kept again.
abbrev pub GetsBack : TxnsHeld → TxnsHeld → Type 0
GetsBack old new = (k l : TablesKept) → RoomLeft 0 0 k l
    → length l.tables.items + 1 ≡ length k.tables.items → HasItemRoom old k → HasItemRoom new l

-- nothing is added: the room of all is still there
abbrev pub StaysRoom : TxnsHeld → TxnsHeld → Type 0
StaysRoom old new = (k l : TablesKept) → RoomLeft 0 0 k l → HasItemRoom old k → HasItemRoom new l
