-- The table of a name that a snapshot sees, and whether one was changed since it was taken.
use Rattle.std.specs.Prelude.{◌≡◌, ℕ, ◌+◌, ◌*◌, ◌/◌, ◌%◌, ◌<◌, ◌≤◌, Bool, false, not, ◌&&◌, List, ⊤, Option, None, Some, is_some, Result, Ok, Err, if◌then◌else◌}
use Rattle.ctr_model.specs.State.{same_name}
use Rattle.ctr_snap.specs.Seeing.{SnapshotTaken}
use Rattle.ctr_rec.specs.declared.decoding.BadRecord.{BadRecord}
use Rattle.ctr_names.specs.meta_Tables.{Tables}
use Rattle.ctr_names.specs.meta_Seen.{xid_is_seen, xid_is_changed}
use Rattle.ctr_names.specs.page_table_TheConstants.{ENTRY_SIZE}
use Rattle.ctr_names.specs.page_Columns.{entry_at}
use Rattle.ctr_names.specs.page_Damage.{entry_check}
use Rattle.ctr_names.specs.page_Searching.{PassesBy, EndsSearch}
use Rattle.ctr_names.specs.page_BadChain.{BadChain}
use Rattle.ctr_names.specs.page_BadChain.TheVariants.{OnPage, TooLong}
use Rattle.ctr_names.specs.area_Areas.{Title, Area}
use Rattle.ctr_alloc.specs.area_Reading.{title_of}
use Rattle.ctr_names.specs.area_Images.{is_live}
use Rattle.ctr_catalog.specs.declared.finding.MadeBy.{MadeBy}
use Rattle.ctr_catalog.specs.declared.finding.MadeAt.{MadeAt}
use Rattle.ctr_catalog.specs.declared.finding.ChangeAt.{ChangeAt}

-- ---- an entry

-- who made and dropped the live table of a name, where the title is that of one
abbrev pub made_by : List ℕ → Title → Option MadeBy
made_by name title =
    if is_live title && same_name title.name name then
    Some (record { creator = title.creator; dropper = title.dropper }) else None

-- an entry on a page fails its check; or it passes, and says who made and dropped the table
abbrev pub NamedSaid : ℕ → List ℕ → ℕ → List ℕ → Result (Option MadeBy) BadRecord → Type 0
NamedSaid counted name n page (Err bad) = entry_check counted (ENTRY_SIZE * n) page ≡ Err bad
NamedSaid counted name n page (Ok made) =
    (entry_check counted (ENTRY_SIZE * n) page ≡ Ok tt)
    × (made ≡ made_by name (title_of (entry_at n page)))

-- ---- several entries of a page

-- Entries of one page were looked at, from one on: all up to the last pass their checks, nothing is
-- said of those before it, and this of the last.
pub record LooksTo {A : Type 0} (check : ℕ → Result ⊤ BadRecord) (is : ℕ → Option A)
    (from last : ℕ) (said : Option A) : Type 0 where
  pub from_on : from ≤ last
  pub page : last / 16 ≡ from / 16
  pub before : PassesBy check (λ e. is_some (is e)) from last
  pub passes : check last ≡ Ok tt
  pub is_said : said ≡ is last

-- An entry is the first of its page, from a given one on, that fails its check; of those between
-- nothing is said.
pub record FailsAt {A : Type 0} (check : ℕ → Result ⊤ BadRecord) (is : ℕ → Option A)
    (from e : ℕ) (bad : BadRecord) : Type 0 where
  pub from_on : from ≤ e
  pub page : e / 16 ≡ from / 16
  pub before : PassesBy check (λ m. is_some (is m)) from e
  pub fails : check e ≡ Err bad

-- an entry of the catalog on a page fails its check
abbrev pub checks_on : ℕ → List ℕ → ℕ → Result ⊤ BadRecord
checks_on counted page e = entry_check counted (ENTRY_SIZE * (e % 16)) page

-- who made and dropped the live table of a name that it is
abbrev pub named_on : List ℕ → List ℕ → ℕ → Option MadeBy
named_on name page e = made_by name (title_of (entry_at (e % 16) page))

-- where a look at the entries of a page for a name ends
abbrev pub EndsNamed : ℕ → List ℕ → ℕ → List ℕ → Result MadeAt BadRecord → Type 0
EndsNamed counted name from page (Err bad) =
    (e : ℕ) × FailsAt (checks_on counted page) (named_on name page) from e bad
EndsNamed counted name from page (Ok at) =
    LooksTo (checks_on counted page) (named_on name page) from at.entry at.made

-- ---- what a snapshot sees

-- A session sees who made a table, and doesn't see who dropped it.
abbrev pub stands_seen : Tables → SnapshotTaken → Option ℕ → MadeBy → Bool
stands_seen tables s me made =
    xid_is_seen tables s me made.creator && not (xid_is_seen tables s me made.dropper)

-- who changed a table since the snapshot was taken: who dropped it, or else who made it
abbrev pub change_since : Tables → SnapshotTaken → MadeBy → Option ℕ
change_since tables s made =
    if xid_is_changed tables s made.dropper then Some made.dropper else
    if xid_is_changed tables s made.creator then Some made.creator else None

-- ---- in the area

-- where there is such a table, the test is met
abbrev pub is_made_so : (MadeBy → Bool) → Option MadeBy → Bool
is_made_so test None = false
is_made_so test (Some made) = test made

-- an entry is the live one of a name that a snapshot sees
abbrev pub entry_seen : Tables → SnapshotTaken → Option ℕ → List ℕ → Area → ℕ → Bool
entry_seen tables s me name area e =
    is_made_so (stands_seen tables s me) (made_by name (area.title e))

-- who changed it, where there is such a table
abbrev pub change_made : (MadeBy → Option ℕ) → Option MadeBy → Option ℕ
change_made change None = None
change_made change (Some made) = change made

-- who changed an entry, where it is a live one of the name
abbrev pub changed_in : Tables → SnapshotTaken → List ℕ → Area → ℕ → Option ℕ
changed_in tables s name area e = change_made (change_since tables s) (made_by name (area.title e))

-- what is wrong with an entry
abbrev pub checks_at : ℕ → (ℕ → List ℕ) → ℕ → Result ⊤ BadRecord
checks_at counted pages e = entry_check counted (ENTRY_SIZE * (e % 16)) (pages (1 + e / 16))

-- Where a search through all entries ends: at the first that is sought, or none is; or at the
-- damage of the first that fails its check, on its page.
abbrev pub EndsEntries : (ℕ → Result ⊤ BadRecord) → (ℕ → Bool) → Result (Option ℕ) BadChain → Type 0
EndsEntries check sought (Ok found) = EndsSearch check sought 0 32 (Ok found)
EndsEntries check sought (Err (OnPage q bad)) =
    (e : ℕ) × (e < 32) × PassesBy check sought 0 e × (check e ≡ Err bad) × (q ≡ 1 + e / 16)
EndsEntries check sought (Err (TooLong last most)) = ⊥

-- what is said of one entry: its damage, on its page; or it passes, and this is so
abbrev pub EndsEntry : {A : Type 0} → Result ⊤ BadRecord → A → ℕ → Result A BadChain → Type 0
EndsEntry check is e (Ok x) = (check ≡ Ok tt) × (x ≡ is)
EndsEntry check is e (Err (OnPage q bad)) = (check ≡ Err bad) × (q ≡ 1 + e / 16)
EndsEntry check is e (Err (TooLong last most)) = ⊥

-- Where a look at the entries of a page from one on ends: what is said of the last, and nothing of
-- those before it; or the damage of the first that fails its check, on its page.
abbrev pub EndsChange : (ℕ → Result ⊤ BadRecord) → (ℕ → Option ℕ) → ℕ → Result ChangeAt BadChain
    → Type 0
EndsChange check is from (Ok at) = LooksTo check is from at.entry at.who
EndsChange check is from (Err (OnPage q bad)) =
    (e : ℕ) × (e < 32) × FailsAt check is from e bad × (q ≡ 1 + e / 16)
EndsChange check is from (Err (TooLong last most)) = ⊥
