-- The versions of a database: chains of tables by name and of rows by table and key, and the state
-- of the model that they stand for.
use Rattle.std.specs.Prelude.{◌≡◌, ℕ, ◌≤◌, ℤ, Bool, false, ◌==◌, ◌&&◌, T, List, [], map, Option, Some, None, unwrap_or}
use Rattle.std.specs.Option.{option_map}
use Rattle.std.specs.List.{AllByRecursion}
use Rattle.std.specs.Ordering.{nat_cmp, int_cmp, int_eq}
use Rattle.std.specs.FinMap.Entries.{find, is_sorted}
use Rattle.ctr_model.specs.types_Row.{Row}
use Rattle.ctr_snap.specs.types_Schema.{Schema}
use Rattle.ctr_model.specs.declared.database.Change.{Change}
use Rattle.ctr_model.specs.declared.database.Change.TheVariants as change
use Rattle.ctr_model.specs.declared.database.Table.{Table}
use Rattle.ctr_model.specs.Database.{Database, name_cmp, table_at}
use Rattle.ctr_model.specs.State.{same_name}
use Rattle.ctr_model.specs.Refusals.{row_of}
use Rattle.ctr_versions.specs.Chains.{Numbers, value_seen, by, written_by, ShowsKey}
use Rattle.ctr_versions.specs.Keys.{schema_change, row_change, left_by, schema_writes, row_writes, schema_named}
use Rattle.ctr_versions.specs.Listing.{chain_at, entries_seen}

-- A table that was made. Its rows stand under its number and not under its name, so that a table
-- that is dropped and made again has none of the old one's.
pub record Made : Type 0 where
  pub id : ℕ
  pub schema : Schema

-- For each name the chain of the tables that were made under it, with a tombstone where one was
-- dropped: a table's creator and dropper are the transactions of two versions next to each other.
-- For each table that was made a chain for each key that has a slot.
pub record Versions : Type 0 where
  pub names : List (List ℕ × List (ℕ × Option Made))
  pub slots : List (ℕ × List (ℤ × List (ℕ × Option Row)))

-- the chain of a name
abbrev pub names_at : Versions → List ℕ → List (ℕ × Option Made)
names_at versions name = chain_at name_cmp name versions.names

-- the slots of a table
abbrev pub slots_of : Versions → ℕ → List (ℤ × List (ℕ × Option Row))
slots_of versions id = unwrap_or (find nat_cmp id versions.slots) []

-- the chain of a key in a table
abbrev pub rows_of : Versions → ℕ → ℤ → List (ℕ × Option Row)
rows_of versions id key = chain_at int_cmp key (slots_of versions id)

-- a version of a schema
abbrev pub schema_version : ℕ × Option Made → ℕ × Option Schema
schema_version v = (v.0, option_map (λ (m : Made). m.schema) v.1)

-- The chain of the schemas that the versions of a name have.
abbrev pub schemas : List (ℕ × Option Made) → List (ℕ × Option Schema)
schemas chain = map schema_version chain

-- the change that a write of a name is: the table is made, or dropped where none is given
abbrev pub name_written : List ℕ → Option Made → Change
name_written name None = change.Drop name
name_written name (Some made) = change.Create name made.schema

-- ---- what is seen

-- what a test sees of a table
abbrev pub table_seen : (ℕ → Bool) → Versions → Made → Table
table_seen sees versions made =
    record { schema = made.schema; rows = entries_seen sees (slots_of versions made.id) }

-- what a test sees of all tables
abbrev pub database_seen : (ℕ → Bool) → Versions → Database
database_seen sees versions =
    map (λ (e : List ℕ × Made). (e.0, table_seen sees versions e.1))
    (entries_seen sees versions.names)

-- ---- the state that it stands for

-- at this number the name is that table
abbrev pub IsTableAt : ℕ → Numbers → Versions → List ℕ → Made → ℕ → Type 0
IsTableAt low number versions name made j =
    (low ≤ j) × (value_seen (by number j) (names_at versions name) ≡ Some made)

-- from this number on it is
abbrev pub IsTableSince : ℕ → Numbers → Versions → List ℕ → Made → ℕ → Type 0
IsTableSince low number versions name made n = (low ≤ n)
    × ((j : ℕ) → n ≤ j → value_seen (by number j) (names_at versions name) ≡ Some made)

-- from the low number on
abbrev pub IsFrom : ℕ → ℕ → Type 0
IsFrom low j = low ≤ j

-- From the low number on the chains show the model's rows, where these transactions asked: the
-- tables of each name, and each row of a table for as long as the name is that table.
pub record VersionsStand (low : ℕ) (number : Numbers) (base : Database) (asked : List (List Change))
    (versions : Versions) : Type 0 where
  pub sorted : T (is_sorted name_cmp versions.names)
  pub slots_sorted : (id : ℕ) → T (is_sorted int_cmp (slots_of versions id))
  pub tables : (name : List ℕ) → ShowsKey (IsFrom low) (IsFrom low) number (schema_named base name)
      (schema_writes name asked) (schemas (names_at versions name))
  pub rows : (name : List ℕ) (made : Made) (key : ℤ)
      → ShowsKey (IsTableAt low number versions name made)
      (IsTableSince low number versions name made) number
      (row_of (table_at base name) key) (row_writes name key asked) (rows_of versions made.id key)

-- the version is by this transaction
abbrev pub ByX : {V : Type 0} → ℕ → ℕ × Option V → Type 0
ByX x v = v.0 ≡ x

-- all are, and they show what the transaction's changes leave of the row
abbrev pub AreOwn : ℕ → List Change → List ℕ → ℤ → List (ℕ × Option Row) → Type 0
AreOwn me own name key chain = AllByRecursion (ByX me) chain
    × (left_by (row_change name key) own ≡ Some (value_seen (λ y. y == me) chain))

-- What an open transaction with a snapshot of n commits has written is its own changes: its own
-- heads stand where it changed something, at every table that stands under its name at n or later,
-- and at those that it made, which have no version of another.
pub record Wrote (number : Numbers) (versions : Versions) (me n : ℕ) (own : List Change)
    : Type 0 where
  pub is_open : number me ≡ None
  pub tables : (name : List ℕ)
      → written_by me (schemas (names_at versions name)) ≡ left_by (schema_change name) own
  pub rows : (name : List ℕ) (made : Made) (key : ℤ) (j : ℕ) → n ≤ j
      → written_by me (names_at versions name) ≡ None
      → value_seen (by number j) (names_at versions name) ≡ Some made
      → written_by me (rows_of versions made.id key) ≡ left_by (row_change name key) own
  pub created : (name : List ℕ) (made : Made) (key : ℤ)
      → written_by me (names_at versions name) ≡ Some (Some made)
      → AreOwn me own name key (rows_of versions made.id key)
  pub fresh : (name : List ℕ) (made : Made) (j : ℕ)
      → written_by me (names_at versions name) ≡ Some (Some made)
      → value_seen (by number j) (names_at versions name) ≡ Some made → ⊥

-- A database's tables stand in the order of their names, and their rows in that of their keys.
pub record IsOrdered (db : Database) : Type 0 where
  pub names : T (is_sorted name_cmp db)
  pub rows : (name : List ℕ) (t : Table) → table_at db name ≡ Some t → T (is_sorted int_cmp t.rows)

-- no two names share a table
abbrev pub HaveOwnTables : Versions → Type 0
HaveOwnTables versions = (name other : List ℕ) (made mine : Made) (test own : ℕ → Bool)
    → value_seen test (names_at versions name) ≡ Some made
    → value_seen own (names_at versions other) ≡ Some mine → made.id ≡ mine.id → name ≡ other

-- ---- one chain is changed

-- A place of the versions is the key of a table.
abbrev pub is_slot : ℕ → ℤ → ℕ → ℤ → Bool
is_slot id key i k = (i == id) && int_eq k key

-- The new versions are the old ones but for the chain of one key. How they are kept is left open: a
-- slot may be new, and a key with the empty chain may have one or not.
pub record RowsSet (old new : Versions) (id : ℕ) (key : ℤ) (chain : List (ℕ × Option Row))
    : Type 0 where
  pub names : new.names ≡ old.names
  pub sorted : (i : ℕ) → T (is_sorted int_cmp (slots_of new i))
  pub here : rows_of new id key ≡ chain
  pub others : (i : ℕ) (k : ℤ) → is_slot id key i k ≡ false → rows_of new i k ≡ rows_of old i k

-- the new versions are the old ones but for the chain of one name
pub record NamesSet (old new : Versions) (name : List ℕ) (chain : List (ℕ × Option Made))
    : Type 0 where
  pub slots : (id : ℕ) → slots_of new id ≡ slots_of old id
  pub sorted : T (is_sorted name_cmp new.names)
  pub here : names_at new name ≡ chain
  pub others : (other : List ℕ) → same_name name other ≡ false
      → names_at new other ≡ names_at old other

-- The number is that of the table which the session sees under the name, and will until it ends.
pub record IsTableOf (number : Numbers) (versions : Versions) (me n : ℕ) (table : List ℕ) (id : ℕ)
    : Type 0 where
  pub unique : (name : List ℕ) (made : Made) (test : ℕ → Bool)
      → value_seen test (names_at versions name) ≡ Some made → made.id ≡ id → name ≡ table
  pub shared : (made : Made) (j : ℕ) → n ≤ j → written_by me (names_at versions table) ≡ None
      → value_seen (by number j) (names_at versions table) ≡ Some made → made.id ≡ id
  pub own : (made : Made) → written_by me (names_at versions table) ≡ Some (Some made)
      → made.id ≡ id

-- no name is the table of this number, at whatever test
abbrev pub IsUnnamed : ℕ → Versions → Type 0
IsUnnamed id versions = (name : List ℕ) (made : Made) (test : ℕ → Bool)
    → value_seen test (names_at versions name) ≡ Some made → made.id ≡ id → ⊥

-- no table of this number was made
pub record IsUnmadeTable (id : ℕ) (versions : Versions) : Type 0 where
  pub rows : (key : ℤ) → rows_of versions id key ≡ []
  pub names : IsUnnamed id versions
