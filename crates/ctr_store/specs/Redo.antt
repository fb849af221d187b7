-- Bringing pages and tables forward by the records of a log.
use Rattle.std.specs.Prelude.{◌≡◌, ℕ, true, ◌+◌, List, [], length, take, Some, slice_get}
use Rattle.ctr_disk.specs.declared.disk.Disk.{Ghosts}
use Rattle.ctr_disk.specs.Image.{Image}
use Rattle.ctr_base.specs.log_Visit.{Visit}
use Rattle.ctr_base.specs.log_Kept.{kept_log}
use Rattle.ctr_base.specs.log_Visits.{visit_bytes, AreNumbered}
use Rattle.ctr_rec.specs.declared.record.Record.{Record}
use Rattle.ctr_base.specs.pool_Frames.{has_page, page_shown}
use Rattle.ctr_base.specs.pool_Over.{IsOver}
use Rattle.ctr_base.specs.redo_Overlaid.{overlay_of, overlaid}
use Rattle.ctr_base.specs.ctr_home.declared.block.Block.TheVariants.{Root as RootBlock}
use Rattle.ctr_base.specs.ctr_home.Blocks.{value_of}
use Rattle.ctr_base.specs.ctr_home.Roots.{SaysRoot}
use Rattle.ctr_base.specs.redo_States.{next_of}
use Rattle.ctr_base.specs.declared.base.Base.{Base}
use Rattle.ctr_base.specs.Homes.{PassesHome}
use Rattle.ctr_store.specs.PageChecks.{PagesPass}
use Rattle.ctr_base.specs.Base.{stored_of, home_of, IsSoundImage, StandsQuiet, IsQuiet, MovesIf, backing_of}
use Rattle.ctr_base.specs.redo_Fitting.{LiesInside}
use Rattle.ctr_store.specs.declared.parts.Parts.{Parts}
use Rattle.ctr_store.specs.RecordChecks.{AllPass, tables_seen}

-- Redo starts on the first image, whose root this is, and the writer is behind its log.
pub record StartsRedo {D O : Type 0} (first : Image) (g : Ghosts D) (start : Base D O) : Type 0
  where
    pub says : SaysRoot (value_of RootBlock first) start.root
    pub reads : g.reads start.disk ≡ first
    pub next : start.log.first ≡ next_of (stored_of g start)

-- The pool shows what the first n records make of what was held at the start. What is held now
-- doesn't matter: a page may have gone home on the way. The pages of these records have passed
-- their checks on the first image, and so has each page that has a frame.
pub record RedoesPages {D O : Type 0} (first : Image) (g : Ghosts D) (start : Base D O) (n : ℕ)
    (s : Parts D O) : Type 0 where
  pub over : IsOver (backing_of first g) s.pool.frames s.base
  pub root : s.base.root ≡ start.root
  pub moves : MovesIf first g start s.base
  pub sound : IsSoundImage first → IsQuiet g start
  pub none : start.log.buffered ≡ []
  pub next : s.base.log.first + length s.base.log.buffered ≡ start.log.first
  pub current : (p : ℕ) → page_shown s.pool.frames p (home_of g s.base p)
      ≡ overlaid p start.root.first (take n (stored_of g start).records) (home_of g start p)
  pub starts : StartsRedo first g start
  pub checked : PagesPass (next_of (stored_of g start)) first (take n (stored_of g start).records)
  pub seen : (p : ℕ) → has_page p s.pool.frames ≡ true
      → PassesHome (next_of (stored_of g start)) p first

-- the record behind the first n of the log
pub record IsNextRecord {D O : Type 0} (g : Ghosts D) (start : Base D O) (n : ℕ) (r : Record)
    : Type 0 where
  pub there : slice_get (stored_of g start).records n ≡ Some r
  pub counted : LiesInside start.root.pages (overlay_of r)

-- Before the first record: the records are those of the log, with their numbers, the tables are
-- theirs, and the pool has no page.
pub record Begins {D O : Type 0} (first : Image) (g : Ghosts D) (vs : List Visit) (s : Parts D O)
    : Type 0 where
  pub rests : StandsQuiet first g s.base
  pub starts : StartsRedo first g s.base
  pub empty : s.pool.frames ≡ []
  pub none : s.base.log.buffered ≡ []
  pub records : visit_bytes vs ≡ kept_log s.base.root.file s.base.root.first (g.reads s.base.disk)
  pub numbers : AreNumbered s.base.root.first vs
  pub tables : s.meta.tables ≡ tables_seen vs
  pub passed : AllPass s.base.root.pages vs
