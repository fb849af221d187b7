-- What a turn takes of the room of the tables.
use Rattle.std.specs.Prelude.{◌≡◌, ℕ}
use Rattle.ctr_meta.specs.Kept.{TablesKept, RoomLeft}

-- At most so many items were added to the tables, no transaction, and no number was drawn.
abbrev pub AddsItems : ℕ → TablesKept → TablesKept → Type 0
AddsItems n k l = RoomLeft 0 n k l × (l.tables.next ≡ k.tables.next)
