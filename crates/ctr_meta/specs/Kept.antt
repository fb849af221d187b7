-- The tables as they are kept, and what may be asked of them.
use Rattle.std.specs.Prelude.{◌≡◌, ℕ, ◌+◌, ◌-◌, ◌^◌, ◌<◌, ◌≤◌, true, false, List, [], ◌∷◌, length, Ok}
use Rattle.ctr_rec.specs.declared.record.Record.{Record}
use Rattle.ctr_rec.specs.declared.record.Record.TheVariants.{Checkpoint, Begin, Alloc, Unlink, Create, Drop, Row}
use Rattle.ctr_rec.specs.Parts.{form_of}
use Rattle.ctr_rec.specs.Records.{IsRecord, ListsAreMembers}
use Rattle.ctr_rec.specs.Members.{opens_listed, aborted_listed, items_listed}
use Rattle.ctr_meta.specs.Tables.{Tables, is_in, heads_in}
use Rattle.ctr_meta.specs.Effects.{effect}
use Rattle.ctr_meta.specs.Needs.{needs}

-- The tables, and how many transactions and items can be added without memory.
pub record TablesKept : Type 0 where
  pub tables : Tables
  pub opens_room : ℕ
  pub items_room : ℕ

-- no transaction comes twice in a list
abbrev pub EachOnce : List (ℕ × ℕ) → Type 0
EachOnce [] = Unit {0}
EachOnce (p ∷ ps) = (is_in p.0 ps ≡ false) × EachOnce ps

-- Open and aborted transactions are from 1 to below the next, each once, and none is both.
pub record XidsFit (t : Tables) : Type 0 where
  pub some : 1 ≤ t.next
  pub opens : (x : ℕ) → is_in x t.opens ≡ true
      → (1 ≤ x) × (x < t.next) × (is_in x t.aborted ≡ false)
  pub aborted : (x : ℕ) → is_in x t.aborted ≡ true → (1 ≤ x) × (x < t.next)
  pub opens_once : EachOnce t.opens
  pub aborted_once : EachOnce t.aborted

-- a record of the log, whose lists are those of members where it is a Checkpoint
pub record IsLogged (r : Record) : Type 0 where
  pub record_is : IsRecord r
  pub members : ListsAreMembers (form_of r)

-- how many transactions a record may add, those of a Checkpoint counted all
abbrev pub opens_added : Record → ℕ
opens_added (Checkpoint next lists) = length (opens_listed lists) + length (aborted_listed lists)
opens_added (Begin x) = 1
opens_added r = 0

-- how many items it may add
abbrev pub items_added : Record → ℕ
items_added (Checkpoint next lists) = length (items_listed lists)
items_added (Alloc x p o) = 1
items_added (Unlink p o) = 1
items_added (Create x e o) = 1
items_added (Drop x e o) = 1
items_added r = 0

-- no number comes to its end: the next transaction, the heads of one that writes a row
abbrev pub NumbersFit : Record → Tables → Type 0
NumbersFit (Begin x) t = t.next < 2 ^ 64 - 1
NumbersFit (Row x over o) t = heads_in x t.opens < 2 ^ 64 - 1
NumbersFit r t = Unit {0}

-- The record's needs are met, there is room, and no number comes to its end.
pub record MayApply (r : Record) (k : TablesKept) : Type 0 where
  pub fits : needs r k.tables ≡ Ok tt
  pub opens_fit : opens_added r ≤ k.opens_room
  pub items_fit : items_added r ≤ k.items_room
  pub numbers_fit : NumbersFit r k.tables

-- The room that is left when so many transactions and items were added. The room of an item that
-- goes comes back.
abbrev pub RoomLeft : ℕ → ℕ → TablesKept → TablesKept → Type 0
RoomLeft opens items old new =
    (old.opens_room ≤ new.opens_room + opens) × (old.items_room ≤ new.items_room + items)
    × (length old.tables.items + old.items_room ≤ length new.tables.items + new.items_room)

-- What holds of transactions before a record whose needs are met holds after it.
abbrev pub XidsLast : Record → Tables → Type 0
XidsLast r t = IsLogged r → XidsFit t → needs r t ≡ Ok tt → XidsFit (effect r t)
