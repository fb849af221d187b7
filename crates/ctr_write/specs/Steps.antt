-- One turn of the Write of a row.
use Rattle.std.specs.Prelude.{◌≡◌, ◌≢◌, ◌⊎◌, ℕ, true, Option, None, Some, IfSome}
use Rattle.ctr_meta.specs.Tables.{is_in}
use Rattle.ctr_page.specs.declared.checks.Chain.TheVariants.{Rows, Versions}
use Rattle.ctr_page.specs.declared.rows.Place.{Place}
use Rattle.ctr_page.specs.declared.rows.RowSlot.{RowSlot}
use Rattle.ctr_page.specs.declared.rows.VersionEntry.{VersionEntry}
use Rattle.ctr_page.specs.Places.{bucket_of}
use Rattle.ctr_area.specs.Areas.{RowVersion}
use Rattle.ctr_area.specs.Reading.{slot_said}
use Rattle.ctr_redo.specs.States.{State}
use Rattle.ctr_extend.specs.record_effects_States.{area_in}
use Rattle.ctr_extend.specs.record_effects_Standing.{IsDatabaseState}
use Rattle.ctr_extend.specs.record_laws_Owed.{Writing, FirstVersion, IsSlotOfKey, IsRoomFor}
use Rattle.ctr_extend.specs.passed_Laid.{width_in}
use Rattle.ctr_extend.specs.passed_Logged.{IsSlotOf}
use Rattle.ctr_extend.specs.heap_Finding.{FindsFree}
use Rattle.ctr_extend.specs.pvs_Along.{FindsFreeEntry}
use Rattle.ctr_extend.specs.declared.ways.OnWay.TheVariants.{Wanted}
use Rattle.ctr_write.specs.declared.stages.Stage.{Stage}
use Rattle.ctr_write.specs.declared.stages.Stage.TheVariants.{Looking, Extending, Kept}
use Rattle.ctr_write.specs.declared.stages.Written.{Written}
use Rattle.ctr_write.specs.declared.stages.Written.TheVariants.{On, Done}
use Rattle.ctr_write.specs.Stages.{HasNoPage, HasKept, IsToKeep, IsAtStage}
use Rattle.ctr_write.specs.Extending.{ExtendsFor}
use Rattle.ctr_write.specs.Keeping.{IsCopyFor, Off, off, KeepsOff}
use Rattle.ctr_write.specs.Laying.{Wish, MayLay, LaysHead}

-- ---- no slot has the key

-- The row may be written, by a transaction that has no page to link, its table is there, and no
-- slot of it has the key.
pub record MayPlace (wish : Wish) (s : State) : Type 0 where
  pub lay : MayLay wish s
  pub there : ((area_in s).title wish.entry).state ≢ 0
  pub no_page : HasNoPage wish.x s
  pub none : (at : Place) → IsSlotOfKey (area_in s) wish.entry wish.key at → ⊥

-- The head is laid in a free slot of the key's bucket.
pub record LaysFirst (wish : Wish) (s t : State) (w : Written) : Type 0 where
  pub done : w ≡ Done
  pub at : Place
  pub free : IsRoomFor (area_in s) wish.entry wish.key at
  pub lays : LaysHead wish at FirstVersion s t

-- No slot of the key's bucket is free, so a page more is wanted there.
pub record WantsRows (wish : Wish) (s t : State) (w : Written) : Type 0 where
  pub none : FindsFree (area_in s) wish.entry (bucket_of wish.key) None
  pub extends : ExtendsFor wish.x (Rows wish.entry (bucket_of wish.key)) Wanted s t w

-- The first row of a key is laid in a free slot, or a page of rows is wanted.
abbrev pub EndsPlacing : Wish → State → State → Written → Type 0
EndsPlacing wish s t w = LaysFirst wish s t w ⊎ WantsRows wish s t w

-- ---- a version is kept first

-- The version may be kept, by a transaction that has no page to link, and its table is there.
pub record MayKeepFirst (x e : ℕ) (at : Place) (v : RowVersion) (entry : VersionEntry) (s : State)
    : Type 0 where
  pub sound : IsDatabaseState s
  pub is_open : is_in x s.tables.opens ≡ true
  pub there : ((area_in s).title e).state ≢ 0
  pub no_page : HasNoPage x s
  pub copy : IsCopyFor e at v entry s

-- A version of a slot is kept at a place.
pub record KeepsFirst (o : Off) (s t : State) (w : Written) : Type 0 where
  pub q : Place
  pub is : w ≡ On (Kept q)
  pub keeps : KeepsOff o q s t

-- No version entry of the table is free, so a page more is wanted there.
pub record WantsVersions (x e : ℕ) (s t : State) (w : Written) : Type 0 where
  pub none : FindsFreeEntry (area_in s) e None
  pub extends : ExtendsFor x (Versions e) Wanted s t w

-- A version is kept in a free entry, or a page of versions is wanted.
abbrev pub EndsKeeping : Off → State → State → Written → Type 0
EndsKeeping o s t w = KeepsFirst o s t w ⊎ WantsVersions o.x o.e s t w

-- ---- a slot has the key

-- The row may be written over the slot at a place, as it was read, by a transaction that has no
-- page to link, and its table is there. A version of it was kept at a place, or none yet.
pub record MayWriteOver (wish : Wish) (at : Place) (slot : RowSlot) (kept : Option Place)
    (s : State) : Type 0 where
  pub lay : MayLay wish s
  pub there : ((area_in s).title wish.entry).state ≢ 0
  pub no_page : HasNoPage wish.x s
  pub of_key : IsSlotOfKey (area_in s) wish.entry wish.key at
  pub said : slot_said ((area_in s).title wish.entry).columns slot ≡ (area_in s).slot at
  pub made : IsSlotOf s.counted ((area_in s).title wish.entry).columns slot
  pub copy : IfSome kept (λ q. HasKept wish.x wish.entry wish.key q s)

-- The head is laid in the slot, in a way that fits it.
pub record LaysOver (wish : Wish) (at : Place) (s t : State) (w : Written) : Type 0 where
  pub done : w ≡ Done
  pub way : Writing
  pub lays : LaysHead wish at way s t

-- None was kept yet, and the version that has to be is kept; or a page more is wanted for it.
pub record KeepsOne (wish : Wish) (at : Place) (kept : Option Place) (s t : State) (w : Written)
    : Type 0 where
  pub new : kept ≡ None
  pub version : RowVersion
  pub is : IsToKeep (width_in (area_in s) wish.entry) ((area_in s).slot at) version
  pub ends : EndsKeeping (off wish.x wish.entry at version) s t w

-- A row is laid over its slot, or the version that leaves is kept first.
abbrev pub EndsOver : Wish → Place → Option Place → State → State → Written → Type 0
EndsOver wish at kept s t w = LaysOver wish at s t w ⊎ KeepsOne wish at kept s t w

-- ---- a turn

-- The row may be looked for, and be written, by a transaction that has no page to link, and its
-- table is there. A version was kept at a place, or none yet.
pub record MayLook (wish : Wish) (kept : Option Place) (s : State) : Type 0 where
  pub lay : MayLay wish s
  pub there : ((area_in s).title wish.entry).state ≢ 0
  pub no_page : HasNoPage wish.x s
  pub copy : IfSome kept (λ q. HasKept wish.x wish.entry wish.key q s)

-- A slot of the table has the key, and it is written over.
pub record FindsOne (wish : Wish) (kept : Option Place) (s t : State) (w : Written) : Type 0 where
  pub at : Place
  pub of_key : IsSlotOfKey (area_in s) wish.entry wish.key at
  pub ends : EndsOver wish at kept s t w

-- Where none has it, the head is laid in a free slot; else in that one.
abbrev pub EndsLooking : Wish → Option Place → State → State → Written → Type 0
EndsLooking wish kept s t w =
    (((at : Place) → IsSlotOfKey (area_in s) wish.entry wish.key at → ⊥) × EndsPlacing wish s t w)
    ⊎ FindsOne wish kept s t w

-- The row may be written, so far as it is, and its table is there.
pub record MayTakeTurn (wish : Wish) (stage : Stage) (s : State) : Type 0 where
  pub lay : MayLay wish s
  pub there : ((area_in s).title wish.entry).state ≢ 0
  pub at_stage : IsAtStage wish.x wish.entry wish.key stage s

-- What a turn does: it is one for a page of a chain of the table, or looks for the row's slot.
abbrev pub EndsWrite : Wish → Stage → State → State → Written → Type 0
EndsWrite wish Looking s t w = EndsLooking wish None s t w
EndsWrite wish (Extending chain way) s t w = ExtendsFor wish.x chain way s t w
EndsWrite wish (Kept q) s t w = EndsLooking wish (Some q) s t w
