-- What speaks against an act, by pages, tables, transactions and locks: each cause by itself.
use Rattle.std.specs.Prelude.{◌≡◌, ℕ, zero, suc, ℤ, nat_lt, not, ◌&&◌, List, [], ◌∷◌, Option, Some, None, is_some, is_none, if◌then◌else◌, option_and_then}
use Rattle.ctr_types.specs.declared.statement.Statement.{Statement}
use Rattle.ctr_types.specs.declared.tape.Refusal.{Refusal}
use Rattle.ctr_types.specs.declared.tape.Refusal.TheVariants as refusal
use Rattle.ctr_snap.specs.Seeing.{SnapshotTaken}
use Rattle.ctr_model.specs.State.{has_name}
use Rattle.ctr_model.specs.Refusals.{when, creates, changes_schema}
use Rattle.ctr_meta.specs.Tables.{Tables}
use Rattle.ctr_meta.specs.Seen.{xid_is_changed}
use Rattle.ctr_page.specs.declared.rows.Place.{Place}
use Rattle.ctr_wishes.specs.actions_Sites.{Site}
use Rattle.ctr_wishes.specs.ctr_reading.catalog_Finding.{changed_in}
use Rattle.ctr_wishes.specs.ctr_reading.heap_Finding.{FindsKey}
use Rattle.ctr_wishes.specs.ctr_views.Viewing.{newest_in}
use Rattle.ctr_locks.specs.Held.{busy_among}
use Rattle.ctr_txn.specs.Numbered.{number_asked}
use Rattle.ctr_asking.specs.declared.asker.Asker.{Asker}

-- ---- the name

-- the table must be there, or for CREATE must not
abbrev pub presence_refused : Statement → Option ℕ → List (Option Refusal)
presence_refused statement found =
    when (is_none found && not (creates statement)) refusal.NoTable
    ∷ when (is_some found && creates statement) refusal.TableExists ∷ []

-- who keeps a session from the statement's table: recovery, whose number is 0, or the lowest other
-- session
abbrev pub busy_at : Asker → Statement → List ℕ → Option ℕ
busy_at asker statement name = if has_name name asker.stuck.now then Some 0 else
    busy_among (changes_schema statement) asker.s name asker.locks.now

-- the later of two commits
abbrev pub later : Option ℕ → Option ℕ → Option ℕ
later None b = b
later (Some i) None = Some i
later (Some i) (Some k) = if nat_lt i k then Some k else Some i

-- The commit by which the table of a name was made or dropped that an entry is, where a snapshot
-- doesn't see it. The first list has who asked for a commit in this run, in order.
abbrev pub change_number : List ℕ → Site → SnapshotTaken → List ℕ → ℕ → Option ℕ
change_number commits site snapshot name e =
    option_and_then (λ x. number_asked x commits) (changed_in site.tables snapshot name site.area e)

-- The last such commit, of so many entries.
unfoldable pub last_change : List ℕ → Site → SnapshotTaken → List ℕ → ℕ → Option ℕ
last_change commits site snapshot name zero = None
last_change commits site snapshot name (suc e) =
    later (last_change commits site snapshot name e) (change_number commits site snapshot name e)

-- ---- a key

-- the commit number of a transaction, where a snapshot doesn't see it
abbrev pub number_unseen : List ℕ → Tables → SnapshotTaken → ℕ → Option ℕ
number_unseen commits tables snapshot x =
    if xid_is_changed tables snapshot x then number_asked x commits else None

-- that of the newest committed version in a slot
abbrev pub newer_at : List ℕ → Site → SnapshotTaken → Place → Option ℕ
newer_at commits site snapshot at =
    option_and_then (number_unseen commits site.tables snapshot) (newest_in site at)

-- A number is that of the newest committed version in the key's slot, in the table of an entry,
-- where the snapshot doesn't see it; none where there is no such slot or version.
abbrev pub IsNewer : List ℕ → Site → SnapshotTaken → ℕ → ℤ → Option ℕ → Type 0
IsNewer commits site snapshot e key n = (found : Option Place) × FindsKey site.area e key found
    × (n ≡ option_and_then (newer_at commits site snapshot) found)
