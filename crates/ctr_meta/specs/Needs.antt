-- What the effect of a record needs: the first need that isn't met, with what is wanted and what is
-- there.
use Rattle.std.specs.Prelude.{ℕ, ◌+◌, Bool, true, false, List, Result, Ok, ⊤, count_by, nat_eq, nat_lt, if◌then◌else◌}
use Rattle.std.specs.List.{list_any}
use Rattle.ctr_rec.specs.declared.record.Record.{Record}
use Rattle.ctr_rec.specs.declared.record.Record.TheVariants.{Checkpoint, Begin, Commit, Abort, Forget, Alloc, Format, Link, Free, Unlink, Create, Uncreate, Drop, Undrop, Row, Keep, Revert, Trim}
use Rattle.ctr_rec.specs.declared.decoding.BadRecord.{BadRecord}
use Rattle.ctr_rec.specs.bytes_Following.{◌>>=◌}
use Rattle.ctr_rec.specs.Damage.{expect}
use Rattle.ctr_rec.specs.Spelling.{checkpoint_bytes}
use Rattle.ctr_rec.specs.Checkpoint.{each, opens_in, aborted_in, next_check, heads_check, xid_check}
use Rattle.ctr_meta.specs.declared.items.Wanted.{Wanted}
use Rattle.ctr_meta.specs.declared.items.Wanted.TheVariants.{Allocation, OfPage, Creation, Dropping}
use Rattle.ctr_meta.specs.Tables.{Tables, is_in, heads_in, heads_of}
use Rattle.ctr_meta.specs.Items.{is_alloc_by, is_item_by, is_wanted}
use Rattle.ctr_meta.specs.Effects.{one_head_more}

-- something is there: 1 is wanted
abbrev pub there : Bool → Result ⊤ BadRecord
there b = expect 0 1 (if b then 1 else 0)

-- A record needs its transaction to be open.
abbrev pub open_need : ℕ → Tables → Result ⊤ BadRecord
open_need x t = there (is_in x t.opens)

-- A record needs an item of the secondary log.
abbrev pub item_need : Wanted → Tables → Result ⊤ BadRecord
item_need w t = there (list_any (is_wanted w) t.items)

-- the aborted transaction map has a transaction, with no head
abbrev pub is_bare : ℕ → Tables → Bool
is_bare x t = if is_in x t.aborted then nat_eq (heads_in x t.aborted) 0 else false

-- a transaction is open or aborted, and has a head to lose; 0 is none and needs none
abbrev pub head_there : ℕ → Tables → Bool
head_there x t = if nat_eq x 0 then true else nat_lt 0 (heads_of x t)

-- The next transaction of a Checkpoint and the heads are in their bounds; each transaction is from
-- 1 to below the next, and comes once.
abbrev pub list_needs : ℕ → List ℕ → Result ⊤ BadRecord
list_needs next bytes = do
  fits ← next_check next
  heads ← each (heads_check (opens_in bytes) bytes) 0 (opens_in bytes + aborted_in bytes)
  each (xid_check (opens_in bytes) bytes) 0 (opens_in bytes + aborted_in bytes)

-- a transaction that commits is open, and each page that it allocated is linked
abbrev pub commit_needs : ℕ → Tables → Result ⊤ BadRecord
commit_needs x t = open_need x t >>= λ _. expect 0 0 (count_by (is_alloc_by x) t.items)

-- one that is rolled back is open, and has no items left
abbrev pub abort_needs : ℕ → Tables → Result ⊤ BadRecord
abort_needs x t = open_need x t >>= λ _. expect 0 0 (count_by (is_item_by x) t.items)

-- one that is forgotten is in the aborted transaction map, and has no head
abbrev pub forget_need : ℕ → Tables → Result ⊤ BadRecord
forget_need x t = there (is_bare x t)

-- one that writes a row is open; what it replaces has a head to lose, once the row counts for it
abbrev pub row_needs : ℕ → ℕ → Tables → Result ⊤ BadRecord
row_needs x over t = open_need x t >>= λ _. there (head_there over (one_head_more x t))

-- one whose head is reverted is in the aborted transaction map, and has one
abbrev pub revert_need : ℕ → Tables → Result ⊤ BadRecord
revert_need x t = there (nat_lt 0 (heads_in x t.aborted))

-- the needs of a record
abbrev pub needs : Record → Tables → Result ⊤ BadRecord
needs (Checkpoint next lists) t = list_needs next (checkpoint_bytes next lists)
needs (Begin x) t = expect 0 t.next x
needs (Commit x) t = commit_needs x t
needs (Abort x) t = abort_needs x t
needs (Forget x) t = forget_need x t
needs (Alloc x p o) t = open_need x t
needs (Format x p o) t = item_need (Allocation x p) t
needs (Link x p o) t = item_need (Allocation x p) t
needs (Free p o) t = item_need (OfPage p) t
needs (Unlink p o) t = Ok tt
needs (Create x e o) t = open_need x t
needs (Uncreate e o) t = item_need (Creation e) t
needs (Drop x e o) t = open_need x t
needs (Undrop e o) t = item_need (Dropping e) t
needs (Row x over o) t = row_needs x over t
needs (Keep x o) t = open_need x t
needs (Revert x o) t = revert_need x t
needs (Trim o) t = Ok tt
