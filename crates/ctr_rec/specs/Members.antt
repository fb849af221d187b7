-- The lists of a Checkpoint by their members.
use Rattle.std.specs.Prelude.{◌≡◌, ℕ, zero, suc, ◌+◌, ◌*◌, ◌^◌, ◌<◌, ◌≤◌, Bool, true, false, List, [], ◌∷◌, ◌++◌, length, ◌==◌, if◌then◌else◌}
use Rattle.std.specs.List.{flat_map, AllByRecursion}
use Rattle.ctr_bytes.specs.Fields.{spelled, field}
use Rattle.ctr_rec.specs.declared.record.SlogItem.{SlogItem}
use Rattle.ctr_rec.specs.declared.record.SlogItem.TheVariants.{AllocOf, FreeOf, CreateOf, DropOf}
use Rattle.ctr_rec.specs.Checkpoint.{item_most}

-- ---- their bytes

-- a transaction and its heads
abbrev pub pair_bytes : ℕ × ℕ → List ℕ
pair_bytes p = spelled 8 p.0 ++ spelled 8 p.1

-- the kind of an item
abbrev pub item_kind : SlogItem → ℕ
item_kind (AllocOf x p) = 1
item_kind (FreeOf p) = 2
item_kind (CreateOf x e) = 3
item_kind (DropOf x e) = 4

-- its transaction, 0 where it has none
abbrev pub item_xid : SlogItem → ℕ
item_xid (AllocOf x p) = x
item_xid (FreeOf p) = 0
item_xid (CreateOf x e) = x
item_xid (DropOf x e) = x

-- The page or entry of the catalog that an item is about.
abbrev pub item_number : SlogItem → ℕ
item_number (AllocOf x p) = p
item_number (FreeOf p) = p
item_number (CreateOf x e) = e
item_number (DropOf x e) = e

-- an item of the secondary log
abbrev pub slog_item_bytes : SlogItem → List ℕ
slog_item_bytes i = spelled 1 (item_kind i) ++ spelled 8 (item_xid i) ++ spelled 4 (item_number i)

-- The bytes of a list: how many members, and then each of them.
abbrev pub list_bytes : {A : Type 0} → (A → List ℕ) → List A → List ℕ
list_bytes one xs = spelled 8 (length xs) ++ flat_map one xs

-- the open transactions, the aborted ones, the items
abbrev pub lists_bytes : List (ℕ × ℕ) → List (ℕ × ℕ) → List SlogItem → List ℕ
lists_bytes opens aborted items =
    list_bytes pair_bytes opens ++ list_bytes pair_bytes aborted ++ list_bytes slog_item_bytes items

-- ---- which members stand in lists

-- so many transactions with their heads, from a place on
unfoldable pub pairs_from : ℕ → ℕ → List ℕ → List (ℕ × ℕ)
pairs_from at zero bytes = []
pairs_from at (suc n) bytes =
    (field 8 at bytes, field 8 (at + 8) bytes) ∷ pairs_from (at + 16) n bytes

-- an item by its kind, its transaction, its page or entry
unfoldable pub slog_item : ℕ → ℕ → ℕ → SlogItem
slog_item kind x number =
    if kind == 1 then AllocOf x number else
    if kind == 2 then FreeOf number else
    if kind == 3 then CreateOf x number else DropOf x number

-- so many items, from a place on
unfoldable pub items_from : ℕ → ℕ → List ℕ → List SlogItem
items_from at zero bytes = []
items_from at (suc n) bytes =
    slog_item (field 1 at bytes) (field 8 (at + 1) bytes) (field 4 (at + 9) bytes)
    ∷ items_from (at + 13) n bytes

-- where the list behind one of transactions begins, whose count stands at a place
abbrev pub behind_pairs : ℕ → List ℕ → ℕ
behind_pairs at bytes = at + 8 + 16 * field 8 at bytes

-- the transactions of the list whose count stands at a place
abbrev pub pairs_at : ℕ → List ℕ → List (ℕ × ℕ)
pairs_at at bytes = pairs_from (at + 8) (field 8 at bytes) bytes

-- the open transactions in lists
abbrev pub opens_listed : List ℕ → List (ℕ × ℕ)
opens_listed bytes = pairs_at 0 bytes

-- The aborted transactions that a checkpoint's bytes list.
abbrev pub aborted_listed : List ℕ → List (ℕ × ℕ)
aborted_listed bytes = pairs_at (behind_pairs 0 bytes) bytes

-- where the count of the items stands
abbrev pub slog_at : List ℕ → ℕ
slog_at bytes = behind_pairs (behind_pairs 0 bytes) bytes

-- the items of the secondary log
abbrev pub items_listed : List ℕ → List SlogItem
items_listed bytes = items_from (slog_at bytes + 8) (field 8 (slog_at bytes) bytes) bytes

-- ---- which members there may be

-- a number is among these
abbrev pub among : ℕ → List ℕ → Bool
among x [] = false
among x (y ∷ ys) = if y == x then true else among x ys

-- each transaction is from 1 to below the next and comes once; seen are those before it, the last
-- first
abbrev pub AreNew : ℕ → List ℕ → List (ℕ × ℕ) → Type 0
AreNew next seen [] = Unit {0}
AreNew next seen (p ∷ ps) =
    (1 ≤ p.0) × (p.0 < next) × (among p.0 seen ≡ false) × AreNew next (p.0 ∷ seen) ps

-- a transaction has at most 2^62 heads
abbrev pub HeadsFit : ℕ × ℕ → Type 0
HeadsFit p = p.1 ≤ 2 ^ 62

-- a page or an entry is one
abbrev pub ItemFits : SlogItem → Type 0
ItemFits i = item_number i ≤ item_most (item_kind i)

-- the transaction of an item is a number of 8 bytes
abbrev pub XidFits : SlogItem → Type 0
XidFits i = item_xid i < 256 ^ 8

-- The next transaction is 1 to 2^63 + 2^62, and the members are in their bounds.
pub record MembersFit (next : ℕ) (opens aborted : List (ℕ × ℕ)) (items : List SlogItem) : Type 0
  where
    pub some : 1 ≤ next
    pub next_fits : next ≤ 2 ^ 63 + 2 ^ 62
    pub opens_fit : (length opens < 2 ^ 64) × AllByRecursion HeadsFit opens
    pub aborted_fit : (length aborted < 2 ^ 64) × AllByRecursion HeadsFit aborted
    pub once : AreNew next [] (opens ++ aborted)
    pub items_fit : (length items < 2 ^ 64) × AllByRecursion ItemFits items

-- Open and aborted transactions and items stand in these lists of a checkpoint, in their order.
abbrev pub AreListed : List (ℕ × ℕ) → List (ℕ × ℕ) → List SlogItem → List ℕ → Type 0
AreListed opens aborted items lists =
    (opens_listed lists ≡ opens) × (aborted_listed lists ≡ aborted) × (items_listed lists ≡ items)

-- the lists are those of members, in their bounds
abbrev pub HasMembers : ℕ → List ℕ → Type 0
HasMembers next lists =
    (opens : List (ℕ × ℕ)) × (aborted : List (ℕ × ℕ)) × (items : List SlogItem)
    × MembersFit next opens aborted items × (lists ≡ lists_bytes opens aborted items)
