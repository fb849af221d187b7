-- What is read of an entry of the catalog.
use Rattle.std.specs.Prelude.{◌≡◌, ◌≢◌, ℕ, ◌*◌, List, Result, Ok, Err}
use Rattle.ctr_rec.specs.declared.decoding.BadRecord.{BadRecord}
use Rattle.ctr_page.specs.declared.table.TheConstants.{ENTRY_SIZE}
use Rattle.ctr_page.specs.Columns.{entry_at}
use Rattle.ctr_page.specs.Damage.{entry_check}
use Rattle.ctr_area.specs.Areas.{Title}
use Rattle.ctr_area.specs.Reading.{title_of}
use Rattle.ctr_titles.specs.declared.reading.TitleRead.{TitleRead}

-- What was read is this title, whose name stands where the entry isn't free.
pub record IsTitle (title : Title) (r : TitleRead) : Type 0 where
  pub state : title.state ≡ r.state
  pub creator : title.creator ≡ r.creator
  pub dropper : title.dropper ≡ r.dropper
  pub name : title.state ≢ 0 → title.name ≡ r.name

-- an entry on a page fails its check; or it passes, and its title was read
abbrev pub TitleSaid : ℕ → ℕ → List ℕ → Result TitleRead BadRecord → Type 0
TitleSaid counted n page (Err bad) = entry_check counted (ENTRY_SIZE * n) page ≡ Err bad
TitleSaid counted n page (Ok r) =
    (entry_check counted (ENTRY_SIZE * n) page ≡ Ok tt) × IsTitle (title_of (entry_at n page)) r
