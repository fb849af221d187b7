-- What each record owes: what holds of the tables and of the area before an engine logs it.
use Rattle.std.specs.Prelude.{◌≡◌, ℕ, ◌<◌, true, false, ℤ, Bool, ◌&&◌, not, Option, Some, None, is_some, if◌then◌else◌, ◌≢◌, unwrap_or, ◌⊎◌, List, [], ◌∷◌, ◌≤◌, length, slice_index, ◌++◌}
use Rattle.ctr_area.specs.meta_Tables.{Tables, is_in, heads_in}
use Rattle.ctr_area.specs.ctr_page.declared.rows.Place.{Place}
use Rattle.ctr_area.specs.Areas.{RowVersion, Slot, Older, Area, nowhere, free_slot, Title}
use Rattle.ctr_area.specs.Chains.{older_places, places_from, bucket_first}
use Rattle.ctr_area.specs.Sound.{IsAmong, IsUsedSlot, along, IsSchemaItem, stands_for}
use Rattle.ctr_area.specs.types_Row.{Row}
use Rattle.ctr_area.specs.versions_Chains.{Numbers}
use Rattle.ctr_area.specs.meta_Effects.{one_head_more, one_head_less}
use Rattle.ctr_area.specs.Images.{is_committed_in, is_live}
use Rattle.ctr_area.specs.Changes.{with_slot, with_older}
use Rattle.ctr_area.specs.versions_Changes.{cut, without_tombstone}
use Rattle.std.specs.List.{list_any, AllByRecursion, filter}
use Rattle.ctr_area.specs.meta_Wanted.{Wanted}
use Rattle.ctr_area.specs.meta_Wanted.TheVariants.{Allocation, OfPage}
use Rattle.ctr_area.specs.meta_Items.{is_wanted, is_item_by}
use Rattle.ctr_area.specs.ctr_page.declared.header.Header.{Header}
use Rattle.ctr_area.specs.rec_SlogItem.{SlogItem}
use Rattle.ctr_area.specs.rec_SlogItem.TheVariants.{CreateOf, DropOf, AllocOf}

-- What a Keep owes: the place is one of the table's versions and is free, and the version is by a
-- transaction that was drawn.
pub record OwedByKeep (tables : Tables) (area : Area) (e : ℕ) (at : Place) (older : Older) : Type 0
  where
    pub here : IsAmong at (older_places area e)
    pub free : (area.older at).used ≡ false
    pub drawn : older.version.0 < tables.next

-- the entry that keeps a version of a slot: it leads on as the slot does
abbrev pub older_copy : Slot → RowVersion → Older
older_copy slot version = record {
  used = true;
  key = slot.key;
  version = version;
  pointer = slot.pointer;
}

-- A version of a slot was kept at a place: it stands in an entry of the table's version store,
-- which leads on as the slot does, and is in no chain.
pub record IsSpareCopy (area : Area) (e : ℕ) (slot : Slot) (version : RowVersion) (q : Place)
    : Type 0 where
  pub here : IsAmong q (older_places area e)
  pub copy : area.older q ≡ older_copy slot version
  pub unlinked : (f : ℕ) (b : Place) → IsUsedSlot area f b → IsAmong q (along area b) → ⊥

-- The ways to write a slot: over a head that isn't committed; the head becomes the previous
-- version; it does, and the previous version was kept at a place; the head was kept at a place; the
-- first version of a free slot.
pub data Writing : Type 0 where
  OverHead : Writing
  HeadMoves : Writing
  PreviousKept : Place → Writing
  HeadKept : Place → Writing
  FirstVersion : Writing

-- the slot with a new head
abbrev pub written_slot : Writing → RowVersion → ℤ → Slot → Slot
written_slot OverHead head key old = record old { head = head }
written_slot HeadMoves head key old = record old { head = head; previous = Some old.head }
written_slot (PreviousKept q) head key old =
    record old { head = head; previous = Some old.head; pointer = q }
written_slot (HeadKept q) head key old = record old { head = head; pointer = q }
written_slot FirstVersion head key old =
    record { used = true; key = key; head = head; previous = None; pointer = nowhere }

-- what a Row does: the table and the slot, the key, the way, who writes, and the row or a tombstone
pub record RowMove : Type 0 where
  pub entry : ℕ
  pub at : Place
  pub key : ℤ
  pub writing : Writing
  pub xid : ℕ
  pub row : Option Row

-- the slot that it leaves
abbrev pub slot_by : RowMove → Area → Slot
slot_by m area = written_slot m.writing (m.xid, m.row) m.key (area.slot m.at)

-- the area that it leaves
abbrev pub row_moved : RowMove → Area → Area
row_moved m area = with_slot m.at (slot_by m area) area

-- the transaction that loses its head with a new one: the head's, where it isn't committed; 0 for
-- none
abbrev pub loses_head : Tables → Slot → ℕ
loses_head tables slot =
    if slot.used && not (is_committed_in tables slot.head.0) then slot.head.0 else 0

-- the tables that it leaves
abbrev pub row_counted : RowMove → Area → Tables → Tables
row_counted m area tables =
    one_head_less (loses_head tables (area.slot m.at)) (one_head_more m.xid tables)

-- a used slot of the table that has the key
abbrev pub IsSlotOfKey : Area → ℕ → ℤ → Place → Type 0
IsSlotOfKey area e key at = IsUsedSlot area e at × ((area.slot at).key ≡ key)

-- a free slot of the key's bucket, where the table has no slot of the key
pub record IsRoomFor (area : Area) (e : ℕ) (key : ℤ) (at : Place) : Type 0 where
  pub here : IsAmong at (places_from area (bucket_first area e key))
  pub free : (area.slot at).used ≡ false
  pub none : (b : Place) → IsSlotOfKey area e key b → ⊥

-- What each way owes beside. The head isn't committed, or it is: then the previous version's place
-- is free, or that version was kept; or there is none, and the head was kept.
abbrev pub FitsWriting : Writing → (ℕ → Bool) → Area → ℕ → ℤ → Place → Type 0
FitsWriting OverHead committed area e key at = IsSlotOfKey area e key at
    × (committed (area.slot at).head.0 ≡ false)
FitsWriting HeadMoves committed area e key at = IsSlotOfKey area e key at
    × (committed (area.slot at).head.0 ≡ true) × ((area.slot at).previous ≡ None)
FitsWriting (PreviousKept q) committed area e key at = IsSlotOfKey area e key at
    × (committed (area.slot at).head.0 ≡ true)
    × ((v : RowVersion) × ((area.slot at).previous ≡ Some v)
    × IsSpareCopy area e (area.slot at) v q)
FitsWriting (HeadKept q) committed area e key at = IsSlotOfKey area e key at
    × (committed (area.slot at).head.0 ≡ true) × ((area.slot at).previous ≡ None)
    × IsSpareCopy area e (area.slot at) (area.slot at).head q
FitsWriting FirstVersion committed area e key at = IsRoomFor area e key at

-- What a Row owes: who writes is open, and the way fits what stands in the slot.
pub record OwedByRow (tables : Tables) (area : Area) (m : RowMove) : Type 0 where
  pub is_open : is_in m.xid tables.opens ≡ true
  pub fits : FitsWriting m.writing (is_committed_in tables) area m.entry m.key m.at

-- a transaction has a commit number exactly where it is committed by the tables
abbrev pub AgreeOnCommits : Numbers → Tables → Type 0
AgreeOnCommits number tables = (x : ℕ) → is_some (number x) ≡ is_committed_in tables x

-- What comes in the head's place: the previous version; the one that is kept where the pointer
-- leads; nothing, so that the slot is free.
pub data Reverting : Type 0 where
  ToPrevious : Reverting
  ToKept : Reverting
  ToNothing : Reverting

-- the slot that is left
abbrev pub reverted_slot : Reverting → (Place → Older) → Slot → Slot
reverted_slot ToPrevious older old =
    record old { head = unwrap_or old.previous old.head; previous = None }
reverted_slot ToKept older old =
    record old { head = (older old.pointer).version; pointer = (older old.pointer).pointer }
reverted_slot ToNothing older old = free_slot

-- which of them it is: each slot has exactly one
abbrev pub FitsReverting : Reverting → Slot → Type 0
FitsReverting ToPrevious old = is_some old.previous ≡ true
FitsReverting ToKept old = (old.previous ≡ None) × (old.pointer.page ≢ 0)
FitsReverting ToNothing old = (old.previous ≡ None) × (old.pointer.page ≡ 0)

-- What a Revert owes: the slot is a used one of the table, and its head's transaction is aborted.
pub record OwedByRevert (tables : Tables) (area : Area) (e : ℕ) (at : Place) (way : Reverting)
    : Type 0 where
  pub used : IsUsedSlot area e at
  pub gone : is_in (area.slot at).head.0 tables.aborted ≡ true
  pub fits : FitsReverting way (area.slot at)

-- the area that it leaves
abbrev pub reverted_at : Place → Reverting → Area → Area
reverted_at at way area = with_slot at (reverted_slot way area.older (area.slot at)) area

-- What is trimmed of a slot: all behind the head; all behind the previous version; the slot itself,
-- whose head is a tombstone.
pub data Trimming : Type 0 where
  CutHead : Trimming
  CutPrevious : Trimming
  FreeTombstone : Trimming

-- the slot that is left
abbrev pub trimmed_slot : Trimming → Slot → Slot
trimmed_slot CutHead old = record old { previous = None; pointer = nowhere }
trimmed_slot CutPrevious old = record old { pointer = nowhere }
trimmed_slot FreeTombstone old = free_slot

-- what that is to the chain, by a test of which transactions everyone sees
abbrev pub trimmed_chain : Trimming → (ℕ → Bool) → List RowVersion → List RowVersion
trimmed_chain CutHead passes chain = cut passes chain
trimmed_chain CutPrevious passes chain = cut passes chain
trimmed_chain FreeTombstone passes chain = without_tombstone passes chain

-- The head passes; it doesn't, and the previous version does; the head passes, and is a tombstone.
abbrev pub FitsTrimming : Trimming → (ℕ → Bool) → Slot → Type 0
FitsTrimming CutHead passes old = passes old.head.0 ≡ true
FitsTrimming CutPrevious passes old = (passes old.head.0 ≡ false)
    × ((v : RowVersion) × (old.previous ≡ Some v) × (passes v.0 ≡ true))
FitsTrimming FreeTombstone passes old = (passes old.head.0 ≡ true) × (old.head.1 ≡ None)

-- a transaction that passes is committed
abbrev pub PassCommitted : (ℕ → Bool) → Tables → Type 0
PassCommitted passes tables = (x : ℕ) → passes x ≡ true → is_committed_in tables x ≡ true

-- Something of the chain goes: where it is cut, there is a version behind.
abbrev pub IsCut : Trimming → Slot → Type 0
IsCut CutHead old = (is_some old.previous ≡ true) ⊎ (old.pointer.page ≢ 0)
IsCut CutPrevious old = old.pointer.page ≢ 0
IsCut FreeTombstone old = Unit {0}

-- What a Trim of a slot owes: the slot is a used one of the table, who passes is committed, and the
-- Trim isn't in vain.
pub record OwedByTrim (passes : ℕ → Bool) (tables : Tables) (area : Area) (e : ℕ) (at : Place)
    (way : Trimming) : Type 0 where
  pub used : IsUsedSlot area e at
  pub old : PassCommitted passes tables
  pub fits : FitsTrimming way passes (area.slot at)
  pub some : IsCut way (area.slot at)

-- the area that it leaves
abbrev pub trimmed_at : Place → Trimming → Area → Area
trimmed_at at way area = with_slot at (trimmed_slot way (area.slot at)) area

-- ---- version entries

-- the previous version, where there is one, doesn't pass
abbrev pub PreviousStays : (ℕ → Bool) → Option RowVersion → Type 0
PreviousStays passes None = Unit {0}
PreviousStays passes (Some v) = passes v.0 ≡ false

-- of the entries at these places it is the first whose version passes
abbrev pub IsFirstPassing : (ℕ → Bool) → (Place → Older) → Place → List Place → Type 0
IsFirstPassing passes older q [] = ⊥
IsFirstPassing passes older q (p ∷ ps) =
    ((p ≡ q) × (passes (older p).version.0 ≡ true))
    ⊎ ((passes (older p).version.0 ≡ false) × IsFirstPassing passes older q ps)

-- What a cut behind a version entry owes: it is the first of the slot's chain whose version passes,
-- and another one is behind it.
pub record OwedByCut (passes : ℕ → Bool) (area : Area) (e : ℕ) (at : Place) (q : Place) : Type 0
  where
    pub used : IsUsedSlot area e at
    pub head : passes (area.slot at).head.0 ≡ false
    pub previous : PreviousStays passes (area.slot at).previous
    pub first : IsFirstPassing passes area.older q (along area at)
    pub some : (area.older q).pointer.page ≢ 0

-- the area that it leaves: the entry leads nowhere
abbrev pub cut_at : Place → Area → Area
cut_at q area = with_older q (record (area.older q) { pointer = nowhere }) area

-- What the freeing of a version entry owes: no chain has it.
abbrev pub IsInNoChain : Area → Place → Type 0
IsInNoChain area q = (e : ℕ) (at : Place) → IsUsedSlot area e at → IsAmong q (along area at) → ⊥

-- What an Alloc owes: who allocates is open, and the page is a counted one behind the catalog, and
-- free.
pub record OwedByAlloc (counted : ℕ) (tables : Tables) (area : Area) (x p : ℕ) : Type 0 where
  pub is_open : is_in x tables.opens ≡ true
  pub behind_catalog : 3 ≤ p
  pub inside : p < counted
  pub free : area.taken p ≡ false

-- the secondary log has such an item
abbrev pub IsListedItem : Wanted → Tables → Type 0
IsListedItem w tables = list_any (is_wanted w) tables.items ≡ true

-- What a Free owes: the page is that of an item.
abbrev pub OwedByFree : Tables → ℕ → Type 0
OwedByFree tables p = IsListedItem (OfPage p) tables

-- What a Format owes: the transaction has allocated the page, and not linked it.
abbrev pub OwedByFormat : Tables → ℕ → ℕ → Type 0
OwedByFormat tables x p = IsListedItem (Allocation x p) tables

-- nothing on the page is used
abbrev pub IsEmptyPage : Area → ℕ → Type 0
IsEmptyPage area p = (at : Place) → at.page ≡ p
    → ((area.slot at).used ≡ false) × ((area.older at).used ≡ false)

-- the header of a page of rows of an entry and a bucket, with the next page
abbrev pub rows_header : ℕ → ℕ → ℕ → Header
rows_header e bucket next = record { kind = 1; entry = e; bucket = bucket; next = next }

-- the header of a page of versions
abbrev pub versions_header : ℕ → ℕ → Header
versions_header e next = record { kind = 2; entry = e; bucket = 0; next = next }

-- the first page of a bucket, by its number
abbrev pub first_page : Area → ℕ → ℕ → ℕ
first_page area e bucket = slice_index (area.firsts e).buckets bucket

-- What a Link to a bucket owes: the transaction has allocated the page, which is empty and has the
-- header of the entry and bucket, and leads on to the bucket's first page.
pub record OwedByLink (tables : Tables) (area : Area) (x p e bucket : ℕ) : Type 0 where
  pub item : IsListedItem (Allocation x p) tables
  pub empty : IsEmptyPage area p
  pub header : area.header p ≡ rows_header e bucket (first_page area e bucket)
  pub there : bucket < length (area.firsts e).buckets

-- What a Link to a version chain owes, likewise.
pub record OwedByOlderLink (tables : Tables) (area : Area) (x p e : ℕ) : Type 0 where
  pub item : IsListedItem (Allocation x p) tables
  pub empty : IsEmptyPage area p
  pub header : area.header p ≡ versions_header e (area.firsts e).versions
  pub there : e < 32

-- What an Unlink from a bucket owes: the table isn't live, the page is its first one, and no used
-- slot on it has a head of an open or an aborted transaction.
pub record OwedByUnlink (tables : Tables) (area : Area) (p e bucket : ℕ) : Type 0 where
  pub dead : is_live (area.title e) ≡ false
  pub there : bucket < length (area.firsts e).buckets
  pub first : first_page area e bucket ≡ p
  pub some : 0 < p
  pub heads : (at : Place) → IsUsedSlot area e at → at.page ≡ p
      → is_committed_in tables (area.slot at).head.0 ≡ true

-- What an Unlink from a version chain owes: the page is its first one, and the table has no used
-- slot.
pub record OwedByOlderUnlink (area : Area) (p e : ℕ) : Type 0 where
  pub first : (area.firsts e).versions ≡ p
  pub some : 0 < p
  pub none : (at : Place) → IsUsedSlot area e at → ⊥

-- of a transaction's items this one is the latest
abbrev pub IsLastItem : ℕ → SlogItem → List SlogItem → Type 0
IsLastItem x i items =
    (earlier : List SlogItem) × (filter (is_item_by x) items ≡ earlier ++ i ∷ [])

-- What an Uncreate owes: its item is the latest of the transaction that created.
abbrev pub OwedByUncreate : Tables → ℕ → ℕ → Type 0
OwedByUncreate tables x e = IsLastItem x (CreateOf x e) tables.items

-- What an Undrop owes, likewise.
abbrev pub OwedByUndrop : Tables → ℕ → ℕ → Type 0
OwedByUndrop tables x e = IsLastItem x (DropOf x e) tables.items

-- whoever has created or dropped a table of the name, and is open, is this transaction
abbrev pub IsNameFreeFor : ℕ → List SlogItem → (ℕ → Title) → List ℕ → Type 0
IsNameFreeFor x items title name = (y f : ℕ) → IsSchemaItem y f items
    → (title f).name ≡ name → y ≡ x

-- What a Drop owes: who drops is open, and nobody else has the name; the table is there, and nobody
-- has dropped it.
pub record OwedByDrop (tables : Tables) (area : Area) (x e : ℕ) : Type 0 where
  pub is_open : is_in x tables.opens ≡ true
  pub inside : e < 32
  pub live : is_live (area.title e) ≡ true
  pub undropped : (area.title e).dropper ≡ 0
  pub alone : IsNameFreeFor x tables.items area.title (area.title e).name

-- What a Create owes: who creates is open, and nobody else has the name; the entry is free, and the
-- transaction sees no table of the name.
pub record OwedByCreate (tables : Tables) (area : Area) (x e : ℕ) (name : List ℕ) : Type 0 where
  pub is_open : is_in x tables.opens ≡ true
  pub inside : e < 32
  pub free : (area.title e).state ≡ 0
  pub unseen : (f : ℕ) → f < 32 → is_live (area.title f) ≡ true → (area.title f).name ≡ name
      → stands_for (is_committed_in tables) x (area.title f) ≡ false
  pub alone : IsNameFreeFor x tables.items area.title name

-- What a Trim that makes a dropped entry dead owes: it is live, who dropped it passes, and who
-- passes is committed.
pub record OwedByDying (passes : ℕ → Bool) (tables : Tables) (area : Area) (e : ℕ) : Type 0 where
  pub inside : e < 32
  pub live : is_live (area.title e) ≡ true
  pub old : PassCommitted passes tables
  pub dropped : passes (area.title e).dropper ≡ true

-- What a Trim that frees an entry owes: it is dead, and has no page.
pub record OwedByFreeing (area : Area) (e : ℕ) : Type 0 where
  pub inside : e < 32
  pub dead : (area.title e).state ≡ 2
  pub no_rows : AllByRecursion (λ p. p ≡ 0) (area.firsts e).buckets
  pub no_versions : (area.firsts e).versions ≡ 0

-- no item is the transaction's
abbrev pub HasNoItems : ℕ → List SlogItem → Type 0
HasNoItems x items = (i : SlogItem) → IsAmong i items → is_item_by x i ≡ false

-- What an Abort owes: the transaction is open, and all that it made or dropped is undone.
pub record OwedByAbort (tables : Tables) (x : ℕ) : Type 0 where
  pub is_open : is_in x tables.opens ≡ true
  pub none : HasNoItems x tables.items

-- What a Commit owes: the transaction is open, and each page that it allocated is linked.
pub record OwedByCommit (tables : Tables) (x : ℕ) : Type 0 where
  pub is_open : is_in x tables.opens ≡ true
  pub linked : (p : ℕ) → IsAmong (AllocOf x p) tables.items → ⊥

-- What a Begin owes: the transaction is the next, and a number.
pub record OwedByBegin (tables : Tables) (x : ℕ) : Type 0 where
  pub is_next : x ≡ tables.next
  pub some : 0 < x

-- What a Forget owes: the transaction is aborted, and has no head.
pub record OwedByForget (tables : Tables) (x : ℕ) : Type 0 where
  pub gone : is_in x tables.aborted ≡ true
  pub none : heads_in x tables.aborted ≡ 0
