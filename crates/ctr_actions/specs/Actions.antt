-- What one record does, by whom: its kinds by name, what each owes, and what it leaves. The number
-- is that of the transaction that acts: of a session, of one that is rolled back, or of an orphan
-- that undo undoes. The cleaner and the flusher act for nobody, with the next number, which is not
-- drawn yet: what their actions leave has no number in it.
use Rattle.std.specs.Prelude.{◌≡◌, ◌≢◌, ℕ, Bool, true, false, List, Ok}
use Rattle.ctr_types.specs.declared.value.Column.{Column}
use Rattle.ctr_record_laws.specs.rec_SlogItem.{SlogItem}
use Rattle.ctr_record_laws.specs.rec_SlogItem.TheVariants.{AllocOf, FreeOf, CreateOf, DropOf}
use Rattle.ctr_record_laws.specs.rec_Spelling.{checkpoint_bytes}
use Rattle.ctr_record_laws.specs.meta_Items.{is_item_by}
use Rattle.ctr_record_laws.specs.meta_Wanted.TheVariants.{Allocation, OfPage, Creation, Dropping}
use Rattle.ctr_record_laws.specs.meta_Tables.{Tables, is_in}
use Rattle.ctr_record_laws.specs.meta_Effects.{listed, opened_by, committed, rolled_back, forgotten_by, with_item, without_item, one_aborted_less}
use Rattle.ctr_record_laws.specs.meta_Needs.{list_needs}
use Rattle.ctr_record_laws.specs.page_Header.{Header}
use Rattle.ctr_record_laws.specs.page_Place.{Place}
use Rattle.ctr_record_laws.specs.area_Areas.{Title, Older, Area, no_pages, free_older}
use Rattle.ctr_record_laws.specs.area_Sound.{IsAmong, how_many}
use Rattle.ctr_record_laws.specs.area_Changes.{with_taken, with_blank, with_firsts, with_bucket, with_older, with_title, new_title, empty_chains, ChangesEntry}
use Rattle.ctr_record_laws.specs.Bounds.{IsInBounds}
use Rattle.ctr_record_laws.specs.Owed.{OwedByKeep, RowMove, row_moved, row_counted, OwedByRow, Reverting, OwedByRevert, reverted_at, Trimming, OwedByTrim, trimmed_at, OwedByCut, cut_at, OwedByAlloc, OwedByFormat, OwedByLink, OwedByOlderLink, OwedByUnlink, OwedByOlderUnlink, OwedByUncreate, OwedByUndrop, OwedByDrop, OwedByCreate, OwedByDying, OwedByFreeing, OwedByAbort, OwedByCommit, OwedByBegin, OwedByForget}
use Rattle.ctr_record_laws.specs.Loose.{IsLoose}
use Rattle.ctr_actions.specs.Sites.{Site}

-- What one record does. p is a page, e an entry of the catalog, b a bucket.
pub data Action : Type 0 where
  -- of a session: it begins; it allocates a page, makes it empty with a header, and links it to a
  -- bucket or to a version chain
  Begins : Action
  Allocates : ℕ → Action
  Formats : ℕ → Header → Action
  Links : ℕ → ℕ → ℕ → Action
  LinksOlder : ℕ → ℕ → Action
  -- it keeps a version of a table in a version entry; it writes a row
  Keeps : ℕ → Place → Older → Action
  Writes : RowMove → Action
  -- it creates a table, with this name and these columns, and this is the area that is left; it
  -- drops one; it commits
  Creates : ℕ → List ℕ → List Column → Area → Action
  Drops : ℕ → Action
  Commits : Action
  -- of one that is rolled back, or of an orphan: a page of its own is free again, a table is dead
  -- that it created, or isn't dropped by it; it is aborted
  Frees : ℕ → Action
  Uncreates : ℕ → Action
  Undrops : ℕ → Action
  Aborts : Action
  -- of the cleaner, and of undo: a page is free again that left its chain
  Reclaims : ℕ → Action
  -- of the cleaner: a slot loses its head; a slot's chain is cut, or goes with its tombstone,
  -- where a test says which transactions everyone sees; a chain is cut behind a version entry; a
  -- version entry is freed that no chain has
  Reverts : ℕ → Place → Reverting → Action
  Trims : (ℕ → Bool) → ℕ → Place → Trimming → Action
  Cuts : (ℕ → Bool) → ℕ → Place → Place → Action
  FreesOlder : ℕ → Place → Action
  -- a dropped table is dead from then on; a page leaves a bucket, or a version chain; a dead entry
  -- is freed, with this title, and this is the area that is left; an aborted transaction is
  -- forgotten
  MakesDead : (ℕ → Bool) → ℕ → Action
  Unlinks : ℕ → ℕ → ℕ → Action
  UnlinksOlder : ℕ → ℕ → Action
  FreesEntry : ℕ → Title → Area → Action
  Forgets : ℕ → Action
  -- of the flusher: the tables are listed at the front of a generation, in these bytes
  Checkpoints : List ℕ → Action

-- What whoever acts owes for it: what holds of a site before the record is logged.
abbrev pub Owes : ℕ → Action → Site → Type 0
Owes x Begins s = OwedByBegin s.tables x
Owes x (Allocates p) s = OwedByAlloc s.counted s.tables s.area x p
Owes x (Formats p h) s = OwedByFormat s.tables x p
Owes x (Links p e b) s = OwedByLink s.tables s.area x p e b
Owes x (LinksOlder p e) s = OwedByOlderLink s.tables s.area x p e
Owes x (Keeps e at older) s =
    (is_in x s.tables.opens ≡ true) × OwedByKeep s.tables s.area e at older
Owes x (Writes m) s = (m.xid ≡ x) × OwedByRow s.tables s.area m
Owes x (Creates e name columns left) s = OwedByCreate s.tables s.area x e name
    × ChangesEntry e (new_title x name columns) empty_chains s.area left
Owes x (Drops e) s = OwedByDrop s.tables s.area x e
Owes x Commits s = OwedByCommit s.tables x
Owes x (Frees p) s = OwedByFormat s.tables x p
Owes x (Uncreates e) s = OwedByUncreate s.tables x e
Owes x (Undrops e) s = OwedByUndrop s.tables x e
Owes x Aborts s = OwedByAbort s.tables x
Owes x (Reclaims p) s = IsAmong (FreeOf p) s.tables.items
Owes x (Reverts e at way) s = OwedByRevert s.tables s.area e at way
Owes x (Trims passes e at way) s = OwedByTrim passes s.tables s.area e at way
Owes x (Cuts passes e at q) s = OwedByCut passes s.area e at q
Owes x (FreesOlder e q) s = IsLoose s.area e q (s.area.older q)
Owes x (MakesDead passes e) s = OwedByDying passes s.tables s.area e
Owes x (Unlinks p e b) s = OwedByUnlink s.tables s.area p e b
Owes x (UnlinksOlder p e) s = OwedByOlderUnlink s.area p e
Owes x (FreesEntry e title left) s = OwedByFreeing s.area e × (title.state ≡ 0)
    × ChangesEntry e title no_pages s.area left
Owes x (Forgets y) s = OwedByForget s.tables y
Owes x (Checkpoints lists) s = (listed s.tables.next lists ≡ s.tables)
    × (list_needs s.tables.next (checkpoint_bytes s.tables.next lists) ≡ Ok tt)

-- the site that an action leaves
abbrev pub site_after : ℕ → Action → Site → Site
site_after x Begins s = record s { tables = opened_by x s.tables }
site_after x (Allocates p) s = record s {
  tables = with_item (AllocOf x p) s.tables;
  area = with_taken p true s.area;
}
site_after x (Formats p h) s = record s { area = with_blank p h s.area }
site_after x (Links p e b) s = record s {
  tables = without_item (Allocation x p) s.tables;
  area = with_firsts e (with_bucket b p (s.area.firsts e)) s.area;
}
site_after x (LinksOlder p e) s = record s {
  tables = without_item (Allocation x p) s.tables;
  area = with_firsts e (record (s.area.firsts e) { versions = p }) s.area;
}
site_after x (Keeps e at older) s = record s { area = with_older at older s.area }
site_after x (Writes m) s = record s {
  tables = row_counted m s.area s.tables;
  area = row_moved m s.area;
}
site_after x (Creates e name columns left) s = record s {
  tables = with_item (CreateOf x e) s.tables;
  area = left;
}
site_after x (Drops e) s = record s {
  tables = with_item (DropOf x e) s.tables;
  area = with_title e (record (s.area.title e) { dropper = x }) s.area;
}
site_after x Commits s = record s { tables = committed x s.tables }
site_after x (Frees p) s = record s {
  tables = without_item (OfPage p) s.tables;
  area = with_taken p false s.area;
}
site_after x (Uncreates e) s = record s {
  tables = without_item (Creation e) s.tables;
  area = with_title e (record (s.area.title e) { state = 2 }) s.area;
}
site_after x (Undrops e) s = record s {
  tables = without_item (Dropping e) s.tables;
  area = with_title e (record (s.area.title e) { dropper = 0 }) s.area;
}
site_after x Aborts s = record s { tables = rolled_back x s.tables }
site_after x (Reclaims p) s = record s {
  tables = without_item (OfPage p) s.tables;
  area = with_taken p false s.area;
}
site_after x (Reverts e at way) s = record s {
  tables = one_aborted_less (s.area.slot at).head.0 s.tables;
  area = reverted_at at way s.area;
}
site_after x (Trims passes e at way) s = record s { area = trimmed_at at way s.area }
site_after x (Cuts passes e at q) s = record s { area = cut_at q s.area }
site_after x (FreesOlder e q) s = record s { area = with_older q free_older s.area }
site_after x (MakesDead passes e) s = record s {
  area = with_title e (record (s.area.title e) { state = 2 }) s.area;
}
site_after x (Unlinks p e b) s = record s {
  tables = with_item (FreeOf p) s.tables;
  area = with_firsts e (with_bucket b (s.area.header p).next (s.area.firsts e)) s.area;
}
site_after x (UnlinksOlder p e) s = record s {
  tables = with_item (FreeOf p) s.tables;
  area = with_firsts e (record (s.area.firsts e) { versions = (s.area.header p).next }) s.area;
}
site_after x (FreesEntry e title left) s = record s { area = left }
site_after x (Forgets y) s = record s { tables = forgotten_by y s.tables }
site_after x (Checkpoints lists) s = s

-- An action is quiet: it is for room, or for a version that no chain has; the chains of names and
-- rows are what they were, and so are transactions with their heads.
abbrev pub IsQuietAction : Action → Type 0
IsQuietAction (Allocates p) = Unit {0}
IsQuietAction (Formats p h) = Unit {0}
IsQuietAction (Links p e b) = Unit {0}
IsQuietAction (LinksOlder p e) = Unit {0}
IsQuietAction (Keeps e at older) = Unit {0}
IsQuietAction (Frees p) = Unit {0}
IsQuietAction (Reclaims p) = Unit {0}
IsQuietAction (FreesOlder e q) = Unit {0}
IsQuietAction (UnlinksOlder p e) = Unit {0}
IsQuietAction (Checkpoints lists) = Unit {0}
IsQuietAction a = ⊥

-- what undoes an item of the secondary log
abbrev pub undoing : SlogItem → Action
undoing (AllocOf x p) = Frees p
undoing (FreeOf p) = Reclaims p
undoing (CreateOf x e) = Uncreates e
undoing (DropOf x e) = Undrops e

-- how many items are a transaction's
abbrev pub item_count : ℕ → Tables → ℕ
item_count x tables = how_many (is_item_by x) tables.items

-- What the area that is left isn't in its bounds without: an area that the action carries is; and a
-- free entry isn't linked to.
abbrev pub LeavesBounds : Action → Site → Type 0
LeavesBounds (Creates e name columns left) s = IsInBounds left
LeavesBounds (FreesEntry e title left) s = IsInBounds left
LeavesBounds (LinksOlder p e) s = (s.area.title e).state ≢ 0
LeavesBounds a s = Unit {0}
