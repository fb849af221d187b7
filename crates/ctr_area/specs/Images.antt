-- What the pages are: the versions of every name and every row, and the rows of an image.
use Rattle.std.specs.Prelude.{ℕ, zero, suc, ◌+◌, ◌==◌, nat_lt, ℤ, Bool, ◌&&◌, ◌||◌, not, List, [], ◌∷◌, map, Option, Some, None, length, replicate, if◌then◌else◌}
use Rattle.std.specs.List.{filter}
use Rattle.std.specs.Ordering.{int_cmp}
use Rattle.std.specs.FinMap.Entries.{put}
use Rattle.ctr_versions.specs.ctr_model.declared.database.Table.{Table}
use Rattle.ctr_versions.specs.ctr_model.Database.{Database, name_cmp}
use Rattle.ctr_versions.specs.ctr_model.State.{same_name}
use Rattle.ctr_versions.specs.Listing.{entries_seen}
use Rattle.ctr_versions.specs.Versions.{Made, Versions}
use Rattle.ctr_meta.specs.Tables.{Tables, is_in}
use Rattle.ctr_page.specs.declared.rows.Place.{Place}
use Rattle.ctr_page.specs.declared.table.TheConstants.{PAGE_SIZE}
use Rattle.ctr_area.specs.Areas.{Title, RowVersion, Slot, Older, Area}
use Rattle.ctr_area.specs.Chains.{chain_of, slot_places}

-- ---- transactions

-- a transaction is committed by the tables; 0 is none
abbrev pub is_committed_in : Tables → ℕ → Bool
is_committed_in tables x =
    nat_lt 0 x && (nat_lt x tables.next
    && (not (is_in x tables.opens) && not (is_in x tables.aborted)))

-- how much undo there is: the items of the secondary log, and the open transactions
abbrev pub undo_size : Tables → ℕ
undo_size tables = length tables.items + length tables.opens

-- the pages of a new database
abbrev pub new_pages : ℕ → List ℕ
new_pages p = replicate PAGE_SIZE 0

-- ---- rows

-- the used slots by key, each with its chain
abbrev pub rows_gathered : (Place → Older) → (Place → Slot) → List Place
    → List (ℤ × List RowVersion)
rows_gathered older slot [] = []
rows_gathered older slot (at ∷ places) =
    if (slot at).used then
    put int_cmp (slot at).key (chain_of older (slot at)) (rows_gathered older slot places)
    else rows_gathered older slot places

-- the rows of an entry of the catalog
abbrev pub rows_of_entry : Area → ℕ → List (ℤ × List RowVersion)
rows_of_entry area e = rows_gathered area.older area.slot (slot_places area e)

-- so many numbers, from one on
abbrev pub numbers : ℕ → ℕ → List ℕ
numbers k zero = []
numbers k (suc n) = k ∷ numbers (k + 1) n

-- the numbers of the catalog's entries
unfoldable pub entry_numbers : List ℕ
entry_numbers = numbers 0 32

-- ---- the rows of an image

-- an entry that is live: neither free nor dead
abbrev pub is_live : Title → Bool
is_live title = title.state == 1

-- the table is there: it is live, who made it is committed, and who dropped it, if anybody, isn't
abbrev pub is_standing : (ℕ → Bool) → Title → Bool
is_standing committed title =
    is_live title && (committed title.creator && not (committed title.dropper))

-- its columns, and of each row the first version that is committed
abbrev pub table_in : (ℕ → Bool) → Area → ℕ → Table
table_in committed area e = record {
  schema = record { columns = (area.title e).columns };
  rows = entries_seen committed (rows_of_entry area e);
}

-- the tables of these entries that are there, by their names
abbrev pub tables_standing : (ℕ → Bool) → Area → List ℕ → Database
tables_standing committed area [] = []
tables_standing committed area (e ∷ es) =
    if is_standing committed (area.title e) then
    put name_cmp (area.title e).name (table_in committed area e) (tables_standing committed area es)
    else tables_standing committed area es

-- the rows of an image, by who is committed
abbrev pub image_rows : (ℕ → Bool) → Area → Database
image_rows committed area = tables_standing committed area entry_numbers

-- ---- the versions of names

-- an entry of the catalog with its number
abbrev pub Numbered : Type 0
Numbered = ℕ × Title

-- the table that an entry is: its number is the entry's
abbrev pub made_by_entry : Numbered → Made
made_by_entry e = record { id = e.0; schema = record { columns = e.1.columns } }

-- The versions of a name that an entry has: the drop, and behind it the table. A transaction that
-- made the table and dropped it has one version, the drop.
abbrev pub versions_by_entry : Numbered → List (ℕ × Option Made)
versions_by_entry e =
    if e.1.dropper == 0 then (e.1.creator, Some (made_by_entry e)) ∷ [] else
    if e.1.dropper == e.1.creator then (e.1.dropper, None) ∷ [] else
    (e.1.dropper, None) ∷ (e.1.creator, Some (made_by_entry e)) ∷ []

-- an entry whose drop is committed
abbrev pub is_gone : (ℕ → Bool) → Title → Bool
is_gone committed title = committed title.dropper

-- One title wasn't dropped, or was dropped later than the other; or one transaction dropped both,
-- and made the first itself.
abbrev pub is_dropped_later : Title → Title → Bool
is_dropped_later a b =
    (a.dropper == 0) || (not (b.dropper == 0)
    && (nat_lt b.dropper a.dropper
    || ((a.dropper == b.dropper) && (a.creator == a.dropper))))

-- Of two entries of a name, one that isn't gone is newer than one that is; else the one that was
-- dropped later is.
abbrev pub is_newer : (ℕ → Bool) → Title → Title → Bool
is_newer committed a b =
    if is_gone committed a then (is_gone committed b && is_dropped_later a b)
    else (is_gone committed b || is_dropped_later a b)

-- an entry among others of its name, before the first that is no newer
abbrev pub placed : (ℕ → Bool) → Numbered → List Numbered → List Numbered
placed committed e [] = e ∷ []
placed committed e (f ∷ fs) =
    if is_newer committed e.1 f.1 then e ∷ f ∷ fs else f ∷ placed committed e fs

-- entries of one name, the newest first
abbrev pub newest_first : (ℕ → Bool) → List Numbered → List Numbered
newest_first committed [] = []
newest_first committed (e ∷ es) = placed committed e (newest_first committed es)

-- of two versions of one transaction next to each other the newer one counts
abbrev pub put_first : {V : Type 0} → ℕ × V → List (ℕ × V) → List (ℕ × V)
put_first v [] = v ∷ []
put_first v (w ∷ ws) = if v.0 == w.0 then v ∷ ws else v ∷ w ∷ ws

-- Several pairs put into a list, the first of them before all others.
abbrev pub all_put_first : {V : Type 0} → List (ℕ × V) → List (ℕ × V) → List (ℕ × V)
all_put_first [] ws = ws
all_put_first (v ∷ vs) ws = put_first v (all_put_first vs ws)

-- the versions of a name by its entries, the newest first
abbrev pub name_versions : List Numbered → List (ℕ × Option Made)
name_versions [] = []
name_versions (e ∷ es) = all_put_first (versions_by_entry e) (name_versions es)

-- all entries of the catalog, with their numbers
abbrev pub all_numbered : (ℕ → Title) → List Numbered
all_numbered title = map (λ e. (e, title e)) entry_numbers

-- a live entry of the name
abbrev pub is_named_so : List ℕ → Numbered → Bool
is_named_so name e = is_live e.1 && same_name name e.1.name

-- the chain of a name, the newest version first
abbrev pub name_chain : (ℕ → Bool) → (ℕ → Title) → List ℕ → List (ℕ × Option Made)
name_chain committed title name =
    name_versions (newest_first committed (filter (is_named_so name) (all_numbered title)))

-- the chains of the names that live entries have
abbrev pub names_gathered : (List ℕ → List (ℕ × Option Made)) → List Numbered
    → List (List ℕ × List (ℕ × Option Made))
names_gathered chain [] = []
names_gathered chain (e ∷ es) =
    if is_live e.1 then put name_cmp e.1.name (chain e.1.name) (names_gathered chain es)
    else names_gathered chain es

-- ---- all versions

-- what the pages are to an engine of versions: the number of an entry is that of its table
abbrev pub versions_in : (ℕ → Bool) → Area → Versions
versions_in committed area = record {
  names = names_gathered (name_chain committed area.title) (all_numbered area.title);
  slots = map (λ e. (e, rows_of_entry area e)) entry_numbers;
}
