-- Two generations of the log, below the pool: one begins, and the older one goes.
use Rattle.std.specs.Prelude.{◌≡◌, ℕ, false, ◌-◌, List, take, Result, OnOk, OnErr}
use Rattle.ctr_disk.specs.declared.disk.Disk.{Ghosts}
use Rattle.ctr_disk.specs.Image.{Image}
use Rattle.ctr_bytes.specs.Fields.{field}
use Rattle.ctr_disk.specs.declared.fault.StoreFault.{StoreFault}
use Rattle.ctr_redo.specs.log_Kept.{other_byte}
use Rattle.ctr_redo.specs.rec_Read.{record_in}
use Rattle.ctr_redo.specs.ctr_meta.Effects.{effect, tables_of}
use Rattle.ctr_redo.specs.ctr_pool.Below.{HoldsStill}
use Rattle.ctr_redo.specs.Overlaid.{overlaid}
use Rattle.ctr_redo.specs.States.{state_of, AreHome}
use Rattle.ctr_redo.specs.Fitting.{FitsBehind}
use Rattle.ctr_base.specs.declared.base.Base.{Base}
use Rattle.ctr_base.specs.Base.{stored_of, now_of, home_of, IsSoundImage, MayPut, StandsQuiet}

-- Bytes are a Checkpoint that can begin a generation behind what stands on the disk: they fit
-- there, and leave the tables as they are.
pub record IsCheckpoint {D O : Type 0} (g : Ghosts D) (b : Base D O) (bytes : List ℕ) : Type 0 where
  pub fits : FitsBehind b.root.pages (tables_of (stored_of g b).records) bytes
  pub number : field 1 0 bytes ≡ 1
  pub keeps : effect (record_in bytes) (tables_of (stored_of g b).records)
      ≡ tables_of (stored_of g b).records

-- Each page at home is as it was; and what is on the disk folds to the same state, and so with what
-- waits behind it: the same tables, and the same of each page.
pub record KeepsFold {D O : Type 0} (g : Ghosts D) (a b : Base D O) : Type 0 where
  pub homes : (q : ℕ) → home_of g b q ≡ home_of g a q
  pub hardened : state_of (stored_of g b) ≡ state_of (stored_of g a)
  pub now : state_of (now_of g b) ≡ state_of (now_of g a)
  pub tables : tables_of (now_of g b).records ≡ tables_of (now_of g a).records
  pub pages : (q : ℕ) → overlaid q b.root.first (now_of g b).records (home_of g b q)
      ≡ overlaid q a.root.first (now_of g a).records (home_of g a q)

-- So it is where the first image was sound; and it stands over the same pages, of which may be
-- saved what might be.
pub record SwitchesOver {D O : Type 0} (first : Image) (g : Ghosts D)
    (a b : Base D O) : Type 0 where
  pub base : IsSoundImage first → KeepsFold g a b
  pub rests : StandsQuiet first g b
  pub holds : HoldsStill (home_of g) (MayPut first g) a b

-- Each page's home has the records of the older generation: those below the first of the current
-- one.
abbrev pub OlderIsHome : {D O : Type 0} → Ghosts D → Base D O → Type 0
OlderIsHome g b =
    AreHome b.root.first (take (b.log.start - b.root.first) (now_of g b).records) (home_of g b)

-- Behind an Ok the root names the other file and the first record of the current generation, and no
-- older one is kept; behind an error all but the disk is as it was.
pub record NamesNewer {D O T : Type 0} (a b : Base D O)
    (result : Result T StoreFault) : Type 0 where
  pub file : OnOk result (b.root.file ≡ other_byte a.root.file)
  pub first : OnOk result (b.root.first ≡ a.log.start)
  pub pages : b.root.pages ≡ a.root.pages
  pub log : OnOk result (b.log ≡ record a.log { older = false })
  pub still : OnErr result (b ≡ record a { disk = b.disk })
