-- Which entries of the catalog have a table that stands, and what is counted of one.
use Rattle.std.specs.Prelude.{◌≡◌, ℕ, ◌+◌, ◌*◌, Bool, true, false, not, ◌&&◌, List, map, length, Option, None, Some, Result, Ok, Err, if◌then◌else◌}
use Rattle.ctr_snap.specs.Seeing.{SnapshotTaken}
use Rattle.ctr_rec.specs.declared.decoding.BadRecord.{BadRecord}
use Rattle.ctr_meta.specs.Tables.{Tables}
use Rattle.ctr_page.specs.declared.table.TheConstants.{ENTRY_SIZE}
use Rattle.ctr_page.specs.Columns.{entry_at}
use Rattle.ctr_page.specs.Damage.{entry_check}
use Rattle.ctr_versions.specs.Listing.{entries_seen}
use Rattle.ctr_area.specs.Areas.{Title, Area}
use Rattle.ctr_area.specs.Reading.{title_of}
use Rattle.ctr_area.specs.Images.{is_committed_in, is_live, is_standing, rows_of_entry, image_rows}
use Rattle.ctr_reading.specs.declared.sight.Sight.{Sight}
use Rattle.ctr_reading.specs.Reading.{sight_sees}
use Rattle.ctr_survey.specs.declared.entries.MadeBy.{MadeBy}
use Rattle.ctr_survey.specs.declared.counting.Counts.{Counts}
use Rattle.ctr_survey.specs.declared.noting.Noted.{Noted}
use Rattle.ctr_survey.specs.Surveying.{row_count, counted_to_end}

-- ---- an entry

-- who made and dropped the live table that a title is, where it is one
abbrev pub title_made_by : Title → Option MadeBy
title_made_by title =
    if is_live title then Some (record { creator = title.creator; dropper = title.dropper })
    else None

-- an entry on a page fails its check; or it passes, and says who made and dropped its live table
abbrev pub MadeSaid : ℕ → ℕ → List ℕ → Result (Option MadeBy) BadRecord → Type 0
MadeSaid counted n page (Err bad) = entry_check counted (ENTRY_SIZE * n) page ≡ Err bad
MadeSaid counted n page (Ok made) =
    (entry_check counted (ENTRY_SIZE * n) page ≡ Ok tt)
    × (made ≡ title_made_by (title_of (entry_at n page)))

-- where there is such a table, who made it passes the test, and who dropped it doesn't
abbrev pub stands_made : (ℕ → Bool) → Option MadeBy → Bool
stands_made test None = false
stands_made test (Some made) = test made.creator && not (test made.dropper)

-- ---- who is seen

-- Those are seen that are committed, and nobody else.
abbrev pub SeesCommitted : Tables → Sight → Type 0
SeesCommitted tables sight = (x : ℕ) → sight_sees tables sight x ≡ is_committed_in tables x

-- ---- what is counted

-- No table stands in an entry; or one does, and this is how many rows it has.
abbrev pub CountsEntry : (ℕ → Bool) → Area → ℕ → Option ℕ → Type 0
CountsEntry test area e None = is_standing test (area.title e) ≡ false
CountsEntry test area e (Some n) = (is_standing test (area.title e) ≡ true)
    × (n ≡ length (entries_seen test (rows_of_entry area e)))

-- the counts with those of one more entry
abbrev pub with_entry_counts : Option ℕ → Counts → Counts
with_entry_counts None counts = counts
with_entry_counts (Some n) counts = record {
  tables = counts.tables + 1;
  rows = counted_to_end (counts.rows + n);
}

-- the tables of an area and their rows are so many
pub record AreCounts (test : ℕ → Bool) (area : Area) (counts : Counts) : Type 0 where
  pub tables : counts.tables ≡ length (image_rows test area)
  pub rows : counts.rows ≡ counted_to_end (row_count (image_rows test area))

-- ---- what is noted of transactions

-- the snapshot of who opens these tables and begins nothing
abbrev pub snapshot_of : Tables → SnapshotTaken
snapshot_of tables = record {
  next = tables.next;
  listed = map (λ (p : ℕ × ℕ). p.0) tables.opens;
}

-- That snapshot is taken, and transactions and items are counted.
pub record IsNoted (tables : Tables) (noted : Noted) : Type 0 where
  pub snapshot : noted.snapshot ≡ snapshot_of tables
  pub orphans : noted.orphans ≡ length tables.opens
  pub aborted : noted.aborted ≡ length tables.aborted
  pub items : noted.items ≡ length tables.items
