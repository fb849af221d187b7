-- What is wrong with the bytes of a Checkpoint: the first check that fails, in this order.
use Rattle.std.specs.Prelude.{ℕ, zero, suc, ◌+◌, ◌-◌, ◌*◌, ◌/◌, ◌^◌, min, Bool, true, false, List, length, Result, Ok, Err, nat_lt, ◌==◌, if◌then◌else◌, ⊤}
use Rattle.ctr_bytes.specs.Fields.{field}
use Rattle.ctr_rec.specs.declared.decoding.BadRecord.{BadRecord}
use Rattle.ctr_bytes.specs.Following.{◌>>=◌}
use Rattle.ctr_rec.specs.Damage.{wrong, expect, at_most}

-- ---- where the lists stand

-- a count; where the bytes don't reach behind it it is 0
unfoldable pub count_at : ℕ → List ℕ → ℕ
count_at at bytes = if nat_lt (length bytes) (at + 8) then 0 else field 8 at bytes

-- how many open transactions there are, in 16 bytes each
unfoldable pub opens_in : List ℕ → ℕ
opens_in bytes = count_at 9 bytes

-- how many aborted ones, in 16 bytes each
unfoldable pub aborted_in : List ℕ → ℕ
aborted_in bytes = count_at (17 + 16 * opens_in bytes) bytes

-- where the count of the secondary log's items stands
unfoldable pub items_at : List ℕ → ℕ
items_at bytes = 25 + 16 * (opens_in bytes + aborted_in bytes)

-- how many there are, in 13 bytes each
unfoldable pub items_in : List ℕ → ℕ
items_in bytes = count_at (items_at bytes) bytes

-- Where the flag stands at the end of a checkpoint's bytes.
unfoldable pub end_at : List ℕ → ℕ
end_at bytes = items_at bytes + 8 + 13 * items_in bytes

-- where a transaction stands, of both lists, counted from 0; its heads are 8 bytes behind
abbrev pub xid_at : ℕ → ℕ → ℕ
xid_at opens i = if nat_lt i opens then 17 + 16 * i else 25 + 16 * i

-- ---- the checks

-- a check of each number from i on, so many
abbrev pub each : (ℕ → Result ⊤ BadRecord) → ℕ → ℕ → Result ⊤ BadRecord
each f i zero = Ok tt
each f i (suc n) = f i >>= λ _. each f (i + 1) n

-- no overlay, where the bytes reach to the flag
unfoldable pub end_check : List ℕ → Result ⊤ BadRecord
end_check bytes =
    if nat_lt (end_at bytes) (length bytes) then
    expect (end_at bytes) 0 (field 1 (end_at bytes) bytes) else Ok tt

-- an item's kind is 1 to 4; base is where the first item stands
unfoldable pub kind_check : ℕ → List ℕ → ℕ → Result ⊤ BadRecord
kind_check base bytes i =
    if field 1 (base + 13 * i) bytes == 0 then Err (wrong (base + 13 * i) 4 0) else
    at_most (base + 13 * i) 4 (field 1 (base + 13 * i) bytes)

-- to how many kinds the bytes reach
unfoldable pub kinds_in : List ℕ → ℕ
kinds_in bytes = min (items_in bytes) ((length bytes + 12 - (items_at bytes + 8)) / 13)

-- the page of an AllocOf (1) or a FreeOf (2), the entry of a CreateOf (3) or a DropOf (4)
abbrev pub item_most : ℕ → ℕ
item_most kind = if nat_lt 2 kind then 31 else 29999

-- a FreeOf has no transaction; the page or the entry is one
unfoldable pub item_check : ℕ → List ℕ → ℕ → Result ⊤ BadRecord
item_check base bytes i = do
  free ← if field 1 (base + 13 * i) bytes == 2 then
      expect (base + 13 * i + 1) 0 (field 8 (base + 13 * i + 1) bytes) else Ok tt
  at_most (base + 13 * i + 9) (item_most (field 1 (base + 13 * i) bytes))
      (field 4 (base + 13 * i + 9) bytes)

-- the next transaction is 1 to 2^63 + 2^62
unfoldable pub next_check : ℕ → Result ⊤ BadRecord
next_check next =
    if next == 0 then Err (wrong 1 1 0) else at_most 1 (2 ^ 63 + 2 ^ 62) next

-- a transaction has at most 2^62 heads
unfoldable pub heads_check : ℕ → List ℕ → ℕ → Result ⊤ BadRecord
heads_check opens bytes i =
    at_most (xid_at opens i + 8) (2 ^ 62) (field 8 (xid_at opens i + 8) bytes)

-- a transaction is among the first n
abbrev pub is_among : ℕ → List ℕ → ℕ → ℕ → Bool
is_among opens bytes x zero = false
is_among opens bytes x (suc n) =
    if field 8 (xid_at opens n) bytes == x then true else is_among opens bytes x n

-- A transaction of a checkpoint's lists is from 1 to below the next one, and wasn't listed before.
abbrev pub is_new : ℕ → List ℕ → ℕ → ℕ → Bool
is_new opens bytes i x =
    if x == 0 then false else
    if nat_lt x (field 8 1 bytes) then
    (if is_among opens bytes x i then false else true) else false

-- The check of each transaction of a checkpoint's lists.
unfoldable pub xid_check : ℕ → List ℕ → ℕ → Result ⊤ BadRecord
xid_check opens bytes i =
    if is_new opens bytes i (field 8 (xid_at opens i) bytes) then Ok tt else
    Err (wrong (xid_at opens i) 1 0)

-- the checks of the lists: items, next transaction, heads, transactions
unfoldable pub list_checks : List ℕ → Result ⊤ BadRecord
list_checks bytes = do
  items ← each (item_check (items_at bytes + 8) bytes) 0 (items_in bytes)
  next ← next_check (field 8 1 bytes)
  heads ← each (heads_check (opens_in bytes) bytes) 0 (opens_in bytes + aborted_in bytes)
  each (xid_check (opens_in bytes) bytes) 0 (opens_in bytes + aborted_in bytes)

-- the checks of a Checkpoint: flag, kinds, length, lists
unfoldable pub checkpoint_checks : List ℕ → Result ⊤ BadRecord
checkpoint_checks bytes = do
  flag ← end_check bytes
  kinds ← each (kind_check (items_at bytes + 8) bytes) 0 (kinds_in bytes)
  whole ← expect 0 (end_at bytes + 1) (length bytes)
  list_checks bytes
