-- What callers see of an opening.
use Rattle.std.specs.Prelude.{◌≡◌, ◌+◌, ◌<◌, ◌^◌, false, [], length, None, Some, Result, Ok, Err}
use Rattle.ctr_disk.specs.Image.{Image}
use Rattle.ctr_base.specs.ctr_home.declared.root.Root.{Root}
use Rattle.ctr_base.specs.log_Kept.{kept_log}
use Rattle.ctr_base.specs.meta_Effects.{tables_of}
use Rattle.ctr_base.specs.redo_States.{state_of}
use Rattle.ctr_base.specs.redo_Images.{records_in, stored_in}
use Rattle.ctr_base.specs.Base.{IsSoundImage}
use Rattle.ctr_base.specs.log_OpenError.{OpenError}
use Rattle.ctr_store.specs.declared.opening.TheConstants.{BUFFER_BYTES}
use Rattle.ctr_store.specs.Parts.{MayCount}
use Rattle.ctr_store.specs.Store.{View}
use Rattle.ctr_base.specs.Opening.{FindsRoot}
use Rattle.ctr_store.specs.Opening.{LogPasses, OverlaidPass, RefusesAs, worn_in}

-- A store stands on an image that says a root and isn't worn. Nothing waits, the next record comes
-- behind the image's, and the tables are theirs. Where the image is sound, pages and tables are
-- what it folds to. All checks of the log pass, and those of the pages that its records are on.
pub record OpensStore {D : Type 0} (image : Image) (v : View D) : Type 0 where
  pub root : Root
  pub stands : FindsRoot image (Some root)
  pub fresh : worn_in root image ≡ None
  pub none : v.waiting ≡ []
  pub next : v.next ≡ root.first + length (kept_log root.file root.first image)
  pub tables : v.meta.tables ≡ tables_of (records_in (kept_log root.file root.first image))
  pub hardened : IsSoundImage image → v.hardened ≡ state_of (stored_in root image)
  pub now : IsSoundImage image → v.now ≡ state_of (stored_in root image)
  pub passes : LogPasses root image
  pub pages : OverlaidPass root image

-- Whatever the disk tells: what was opened can go on, nothing waits, the log's buffer is free, the
-- next LSN and the next transaction are below 2 ^ 62, and 64 to 30,000 pages are counted.
pub record IsOpened {D : Type 0} (v : View D) : Type 0 where
  pub going : v.stopped ≡ false
  pub none : v.waiting ≡ []
  pub room : v.room ≡ BUFFER_BYTES
  pub next : v.next < 2 ^ 62
  pub xid : v.meta.tables.next < 2 ^ 62
  pub counted : MayCount v.now.counted

-- an opening answers with it, or refuses the image
abbrev pub AnswersStore : {D : Type 0} → Image → Result (View D) (OpenError × D) → Type 0
AnswersStore image (Ok v) = OpensStore image v
AnswersStore image (Err e) = RefusesAs image e.0

-- the disk that it leaves
abbrev pub store_left : {D : Type 0} → Result (View D) (OpenError × D) → D
store_left (Ok v) = v.disk
store_left (Err e) = e.1
