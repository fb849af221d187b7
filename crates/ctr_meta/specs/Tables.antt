-- The tables of an image: what the records of its log leave of transactions.
use Rattle.std.specs.Prelude.{ℕ, Bool, List, [], Option, is_some, unwrap_or, nat_eq, nat_lt, if◌then◌else◌}
use Rattle.std.specs.Map.{lookup, remove_entry, set_value}
use Rattle.ctr_snap.specs.types_Fate.{Fate}
use Rattle.ctr_snap.specs.types_Fate.TheVariants.{Open, Aborted, Committed, Later}
use Rattle.ctr_rec.specs.declared.record.SlogItem.{SlogItem}

-- The next transaction; those that are open, and those in the aborted transaction map, each with
-- its heads; the items of the secondary log. A list has the order in which its members were added.
pub record Tables : Type 0 where
  pub next : ℕ
  pub opens : List (ℕ × ℕ)
  pub aborted : List (ℕ × ℕ)
  pub items : List SlogItem

-- the tables before any record
abbrev pub no_tables : Tables
no_tables = record { next = 1; opens = []; aborted = []; items = [] }

-- ---- one list of transactions

-- the heads of a transaction, where it is in the list
abbrev pub heads_at : ℕ → List (ℕ × ℕ) → Option ℕ
heads_at x ps = lookup (nat_eq x) ps

-- A list of transactions has the transaction.
abbrev pub is_in : ℕ → List (ℕ × ℕ) → Bool
is_in x ps = is_some (heads_at x ps)

-- its heads, 0 where it isn't in the list
abbrev pub heads_in : ℕ → List (ℕ × ℕ) → ℕ
heads_in x ps = unwrap_or (heads_at x ps) 0

-- A list of transactions without one of them.
abbrev pub without_xid : ℕ → List (ℕ × ℕ) → List (ℕ × ℕ)
without_xid x ps = remove_entry (nat_eq x) ps

-- the list with these heads of it, in its place
abbrev pub with_heads : ℕ → ℕ → List (ℕ × ℕ) → List (ℕ × ℕ)
with_heads x heads ps = set_value (nat_eq x) ps heads

-- ---- of the tables

-- the heads of a transaction that is open or aborted, 0 of any other
abbrev pub heads_of : ℕ → Tables → ℕ
heads_of x t = if is_in x t.opens then heads_in x t.opens else heads_in x t.aborted

-- how a transaction stands, from 1 on
abbrev pub fate_in : ℕ → Tables → Fate
fate_in x t =
    if is_in x t.opens then Open else
    if is_in x t.aborted then Aborted else
    if nat_lt x t.next then Committed else Later
