-- What an opening finds, and how it is refused.
use Rattle.std.specs.Prelude.{◌≡◌, ◌≢◌, ◌⊎◌, ◌∷◌, ◌++◌, ◌+◌, ◌^◌, ◌≤◌, ◌<◌, List, [], ℕ, length, nat_lt, if◌then◌else◌, ⊤, Option, Some, None, Result, Ok, Err}
use Rattle.ctr_disk.specs.Image.{Image}
use Rattle.ctr_base.specs.ctr_home.declared.root.Root.{Root}
use Rattle.ctr_disk.specs.declared.fault.StoreFault.{StoreFault}
use Rattle.ctr_disk.specs.declared.fault.StoreFault.TheVariants as store
use Rattle.ctr_disk.specs.declared.disk.Disk.{Ghosts}
use Rattle.ctr_base.specs.ctr_home.declared.block.Block.TheVariants.{Root as RootBlock}
use Rattle.ctr_base.specs.ctr_home.Blocks.{value_of}
use Rattle.ctr_base.specs.ctr_home.Roots.{SaysRoot}
use Rattle.ctr_base.specs.redo_States.{state_of, next_of}
use Rattle.ctr_base.specs.redo_Images.{records_in, stored_in, FoldsFront}
use Rattle.ctr_base.specs.meta_Effects.{tables_of}
use Rattle.ctr_base.specs.Base.{stored_of, IsSoundImage}
use Rattle.ctr_store.specs.declared.parts.Parts.{Parts}
use Rattle.ctr_store.specs.declared.opening.TheConstants.{BUFFER_BYTES}
use Rattle.ctr_store.specs.Parts.{IsFold, MayCount}
use Rattle.ctr_store.specs.Numbers.{HeadsWithin}
use Rattle.ctr_base.specs.log_ReadError.{ReadError}
use Rattle.ctr_base.specs.log_ReadError.TheVariants as read
use Rattle.ctr_base.specs.log_Logs.{Log}
use Rattle.ctr_base.specs.log_Kept.{kept_log, OpensKept, HoldsLog, WritesBehind}
use Rattle.ctr_base.specs.log_LogChecks.{kept_damage, sound_kept_visits}
use Rattle.ctr_base.specs.log_Visits.{kept_visits}
use Rattle.ctr_base.specs.log_Visit.{Visit}
use Rattle.ctr_rec.specs.declared.decoding.BadRecord.{BadRecord}
use Rattle.ctr_base.specs.Opening.{FindsRoot, IsRootDamage}
use Rattle.ctr_base.specs.log_OpenError.{OpenError}
use Rattle.ctr_base.specs.log_OpenError.TheVariants as open_error
use Rattle.ctr_store.specs.declared.opening.Found.{Found}
use Rattle.ctr_store.specs.PageChecks.{PagesPass, FirstPageFails}
use Rattle.ctr_store.specs.RecordChecks.{record_damage, FailsAs, AllPass, tables_seen}

-- What the reading of the log of an image finds, by this root: the records in their places, which
-- pass, the tables that they leave, and the writer behind them, with nothing to flush.
pub record FindsLog (image : Image) (root : Root) (f : Found) : Type 0 where
  pub kept : OpensKept root.file root.first image f.log
  pub none : f.log.buffered ≡ []
  pub visits_are : f.visits ≡ kept_visits root.file root.first image
  pub passed : AllPass root.pages f.visits
  pub sound : kept_damage root.file root.first image ≡ Ok tt
  pub tables : f.meta.tables ≡ tables_seen f.visits
  pub goes_on : (rs : List (List ℕ)) → HoldsLog root.file root.first rs image
      → WritesBehind root.file root.first f.log image

-- the first check that fails is one of a record of the log, behind those that pass; the batches up
-- to and with its own have no damage
pub record IsRecordDamage (root : Root) (image : Image) (e : StoreFault) : Type 0 where
  pub given : List Visit
  pub v : Visit
  pub rest : List Visit
  pub all_are : sound_kept_visits root.file root.first image ≡ given ++ v ∷ rest
  pub passed : AllPass root.pages given
  pub bad : BadRecord
  pub fails : FailsAs root.pages v.at (tables_seen given) v.bytes bad
  pub told : e ≡ record_damage v.file v.at bad

-- Damage of a log: of a batch, where the records of the batches before it pass; or of a record of
-- these.
abbrev pub IsLogDamage : Root → Image → StoreFault → Type 0
IsLogDamage root image e = ((kept_damage root.file root.first image ≡ Err e)
    × AllPass root.pages (sound_kept_visits root.file root.first image))
    ⊎ IsRecordDamage root image e

-- the reading of a log was refused: where it is damage, by the first check that fails
abbrev pub RefusesLog : Root → Image → ReadError → Type 0
RefusesLog root image (read.Store store.Fault) = Unit {0}
RefusesLog root image (read.Store (store.Damaged d)) = IsLogDamage root image (store.Damaged d)
RefusesLog root image read.OutOfMemory = Unit {0}

-- all checks of the log pass
abbrev pub LogPasses : Root → Image → Type 0
LogPasses root image = (kept_damage root.file root.first image ≡ Ok tt)
    × AllPass root.pages (kept_visits root.file root.first image)

-- the pages that the log's records are on pass their checks
abbrev pub OverlaidPass : Root → Image → Type 0
OverlaidPass root image =
    let stored = stored_in root image in
    PagesPass (next_of stored) image stored.records

-- the first check that fails is one of these pages, in order of the records
abbrev pub IsPageDamage : Root → Image → StoreFault → Type 0
IsPageDamage root image e =
    let stored = stored_in root image in
    FirstPageFails (next_of stored) image stored.records e

-- Damage that an opening tells is of the root, or of the file of pages; where these pass it is of
-- the log; and where all checks of that pass, of a page that the log's records are on.
abbrev pub IsOpenDamage : Image → StoreFault → Type 0
IsOpenDamage image e = IsRootDamage image e ⊎ ((root : Root) × FindsRoot image (Some root)
    × (IsLogDamage root image e ⊎ (LogPasses root image × IsPageDamage root image e)))

-- What stands on an image that can be opened: a root whose file of pages has all that are counted,
-- and its log.
pub record FindsFront (image : Image) (root : Root) (f : Found) : Type 0 where
  pub stands : FindsRoot image (Some root)
  pub log : FindsLog image root f

-- What was opened stands over the pool, with this root; where the first image was sound it is the
-- fold of its records, and none waits.
pub record OpensParts {D O : Type 0} (first : Image) (g : Ghosts D) (root : Root)
    (s : Parts D O) : Type 0
  where
    pub root_is : s.base.root ≡ root
    pub none : s.base.log.buffered ≡ []
    pub fold : IsFold first g s
    pub state : IsSoundImage first → state_of (stored_of g s.base) ≡ state_of (stored_in root first)
    pub next : s.base.log.first + length s.base.log.buffered
        ≡ root.first + length (kept_log root.file root.first first)
    pub tables : s.meta.tables ≡ tables_of (records_in (kept_log root.file root.first first))
    pub passes : LogPasses root first
    pub pages : OverlaidPass root first

-- the disk that an opening leaves
abbrev pub disk_left : {D O : Type 0} → Result (Parts D O) (OpenError × D) → D
disk_left (Ok s) = s.base.disk
disk_left (Err e) = e.1

-- the answer of an opening, without what was opened or the disk
abbrev pub opening_told : {T D : Type 0} → Result T (OpenError × D) → Result ⊤ OpenError
opening_told (Ok t) = Ok tt
opening_told (Err e) = Err e.0

-- a number at which no more may be logged: 2 ^ 62
abbrev pub worn_at : ℕ
worn_at = 4611686018427387904

-- the next LSN where it is worn, or else the next transaction
abbrev pub worn_by : ℕ → ℕ → Option ℕ
worn_by next xid =
    if nat_lt next worn_at then (if nat_lt xid worn_at then None else Some xid) else Some next

-- An opening is refused as worn by a number; or isn't, where there is no such number.
abbrev pub IsWornBy : {T D : Type 0} → Option ℕ → Result T (OpenError × D) → Type 0
IsWornBy None (Ok t) = Unit {0}
IsWornBy None (Err e) = ⊥
IsWornBy (Some n) (Ok t) = ⊥
IsWornBy (Some n) (Err e) = e.0 ≡ open_error.Worn n

-- The number by which an image is worn whose root is given, if there is one.
abbrev pub worn_in : Root → Image → Option ℕ
worn_in root image =
    let kept = kept_log root.file root.first image in
    worn_by (root.first + length kept) (tables_of (records_in kept)).next

-- nothing waits in a log, and there is room for records
abbrev pub IsEmptyWithRoom : Log → Type 0
IsEmptyWithRoom log = (log.buffered ≡ []) × (BUFFER_BYTES ≤ log.room)

-- Whatever the disk tells, what was opened has nothing that waits, no number is worn, no
-- transaction has more than 2^63 heads, and it counts as many pages as a root may.
pub record IsNewlyOpened {D O : Type 0} (s : Parts D O) : Type 0 where
  pub room : IsEmptyWithRoom s.base.log
  pub next : s.base.log.first + length s.base.log.buffered < worn_at
  pub xid : s.meta.tables.next < worn_at
  pub heads : HeadsWithin (2 ^ 63) s.meta.tables
  pub pages : MayCount s.base.root.pages

-- an error that comes behind the log's: damage is of a page
abbrev pub IsLater : Root → Image → OpenError → Type 0
IsLater root image open_error.NoDatabase = ⊥
IsLater root image (open_error.Damaged d) = IsPageDamage root image (store.Damaged d)
IsLater root image (open_error.Worn n) = ⊥
IsLater root image open_error.Fault = Unit {0}
IsLater root image open_error.OutOfMemory = Unit {0}

-- an error that says of an image neither that it has no database nor that it is damaged
abbrev pub IsUndamaged : OpenError → Type 0
IsUndamaged open_error.NoDatabase = ⊥
IsUndamaged (open_error.Damaged d) = ⊥
IsUndamaged (open_error.Worn n) = Unit {0}
IsUndamaged open_error.Fault = Unit {0}
IsUndamaged open_error.OutOfMemory = Unit {0}

-- An image is refused so: as no database exactly where no root home is open, as damaged by the
-- first check that fails, as worn by its number where all checks pass.
abbrev pub RefusesAs : Image → OpenError → Type 0
RefusesAs image open_error.NoDatabase = value_of RootBlock image ≡ None
RefusesAs image (open_error.Damaged d) = (value_of RootBlock image ≢ None)
    × IsOpenDamage image (store.Damaged d)
RefusesAs image (open_error.Worn n) =
    (root : Root) × FindsRoot image (Some root) × LogPasses root image
    × OverlaidPass root image × (worn_in root image ≡ Some n)
RefusesAs image open_error.Fault = Unit {0}
RefusesAs image open_error.OutOfMemory = value_of RootBlock image ≢ None

-- An opening answers with what stands on the first image, which isn't worn; or it refuses that.
abbrev pub AnswersOpen : {D O : Type 0} → Image → Ghosts D → Result (Parts D O) (OpenError × D)
    → Type 0
AnswersOpen first g (Ok s) = FindsRoot first (Some s.base.root)
    × OpensParts first g s.base.root s × (worn_in s.base.root first ≡ None)
AnswersOpen first g (Err e) = RefusesAs first e.0

-- What a crash in an opening leaves: what it might have left as it began, or an image that folds
-- to the state of the first one.
abbrev pub LeavesFirst : Image → (Image → Type 0) → Image → Type 0
LeavesFirst first before c = before c
    ⊎ ((root : Root) × SaysRoot (value_of RootBlock first) root
    × FoldsFront (state_of (stored_in root first)) [] c)
