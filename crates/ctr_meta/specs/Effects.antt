-- What each record does to the tables.
use Rattle.std.specs.Prelude.{ℕ, ◌+◌, ◌-◌, not, List, [], ◌∷◌, ◌++◌, filter, fold, nat_eq, if◌then◌else◌}
use Rattle.ctr_rec.specs.declared.record.Record.{Record}
use Rattle.ctr_rec.specs.declared.record.Record.TheVariants.{Checkpoint, Begin, Commit, Abort, Forget, Alloc, Format, Link, Free, Unlink, Create, Uncreate, Drop, Undrop, Row, Keep, Revert, Trim}
use Rattle.ctr_rec.specs.declared.record.SlogItem.{SlogItem}
use Rattle.ctr_rec.specs.declared.record.SlogItem.TheVariants.{AllocOf, FreeOf, CreateOf, DropOf}
use Rattle.ctr_rec.specs.Members.{opens_listed, aborted_listed, items_listed}
use Rattle.ctr_meta.specs.declared.items.Wanted.{Wanted}
use Rattle.ctr_meta.specs.declared.items.Wanted.TheVariants.{Allocation, OfPage, Creation, Dropping}
use Rattle.ctr_meta.specs.Tables.{Tables, no_tables, is_in, heads_in, without_xid, with_heads}
use Rattle.ctr_meta.specs.Items.{is_schema_by, left_out}

-- the tables that a Checkpoint lists
abbrev pub listed : ℕ → List ℕ → Tables
listed next lists = record {
  next = next;
  opens = opens_listed lists;
  aborted = aborted_listed lists;
  items = items_listed lists;
}

-- the next transaction is open, without heads
abbrev pub opened_by : ℕ → Tables → Tables
opened_by x t = record t { next = t.next + 1; opens = t.opens ++ (x, 0) ∷ [] }

-- A commit's effect: the transaction isn't open any more, and nothing is left to undo of what it
-- created and dropped.
abbrev pub committed : ℕ → Tables → Tables
committed x t = record t {
  opens = without_xid x t.opens;
  items = filter (λ i. not (is_schema_by x i)) t.items;
}

-- a transaction that was rolled back is behind the others, unless it has no head
abbrev pub with_aborted : ℕ → ℕ → List (ℕ × ℕ) → List (ℕ × ℕ)
with_aborted x heads ps = if nat_eq heads 0 then ps else ps ++ (x, heads) ∷ []

-- An Abort's effect: the transaction isn't open any more, and the aborted transaction map has it.
abbrev pub rolled_back : ℕ → Tables → Tables
rolled_back x t = record t {
  opens = without_xid x t.opens;
  aborted = with_aborted x (heads_in x t.opens) t.aborted;
}

-- the aborted transaction map doesn't have it any more
abbrev pub forgotten_by : ℕ → Tables → Tables
forgotten_by x t = record t { aborted = without_xid x t.aborted }

-- The tables with an item more in the secondary log.
abbrev pub with_item : SlogItem → Tables → Tables
with_item i t = record t { items = t.items ++ i ∷ [] }

-- the earliest item that is wanted goes
abbrev pub without_item : Wanted → Tables → Tables
without_item w t = record t { items = left_out w t.items }

-- an open transaction has a head more
abbrev pub one_head_more : ℕ → Tables → Tables
one_head_more x t = record t { opens = with_heads x (heads_in x t.opens + 1) t.opens }

-- a transaction in the aborted transaction map has a head less
abbrev pub one_aborted_less : ℕ → Tables → Tables
one_aborted_less x t = record t { aborted = with_heads x (heads_in x t.aborted - 1) t.aborted }

-- one that is open or there has a head less; 0 is none
abbrev pub one_head_less : ℕ → Tables → Tables
one_head_less x t =
    if nat_eq x 0 then t else
    if is_in x t.opens
    then record t { opens = with_heads x (heads_in x t.opens - 1) t.opens }
    else one_aborted_less x t

-- the tables after a record
abbrev pub effect : Record → Tables → Tables
effect (Checkpoint next lists) t = listed next lists
effect (Begin x) t = opened_by x t
effect (Commit x) t = committed x t
effect (Abort x) t = rolled_back x t
effect (Forget x) t = forgotten_by x t
effect (Alloc x p o) t = with_item (AllocOf x p) t
effect (Format x p o) t = t
effect (Link x p o) t = without_item (Allocation x p) t
effect (Free p o) t = without_item (OfPage p) t
effect (Unlink p o) t = with_item (FreeOf p) t
effect (Create x e o) t = with_item (CreateOf x e) t
effect (Uncreate e o) t = without_item (Creation e) t
effect (Drop x e o) t = with_item (DropOf x e) t
effect (Undrop e o) t = without_item (Dropping e) t
effect (Row x over o) t = one_head_less over (one_head_more x t)
effect (Keep x o) t = t
effect (Revert x o) t = one_aborted_less x t
effect (Trim o) t = t

-- the tables of a log: its records, one after another
abbrev pub tables_of : List Record → Tables
tables_of rs = fold (λ t r. effect r t) no_tables rs
