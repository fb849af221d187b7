-- The Write of a row in a World: how far it is, and what a turn of it leaves.
use Rattle.std.specs.Prelude.{◌≡◌, ◌⊎◌, ℕ, ◌+◌, ◌<◌, ℤ, List, Some}
use Rattle.ctr_disk.specs.declared.disk.Disk.{Ghosts}
use Rattle.ctr_types.specs.declared.statement.Statement.{Statement}
use Rattle.ctr_types.specs.declared.tape.Act.TheVariants as act
use Rattle.ctr_area.specs.Areas.{Title}
use Rattle.ctr_looks.specs.actions_Facts.{Fact}
use Rattle.ctr_store.specs.Store.{View}
use Rattle.ctr_looks.specs.kept_Tables.{AreTables}
use Rattle.ctr_looks.specs.kept_Walk.{Mind}
use Rattle.ctr_looks.specs.kept_Turns.{Start}
use Rattle.ctr_looks.specs.txn_Held.{TxnHeld, TxnsHeld, txn_of}
use Rattle.ctr_looks.specs.txn_Rooms.{item_kept}
use Rattle.ctr_looks.specs.ctr_extend.declared.ways.OnWay.TheVariants.{Wanted, Taken, Made}
use Rattle.ctr_looks.specs.ctr_write.declared.stages.Stage.{Stage}
use Rattle.ctr_looks.specs.ctr_write.declared.stages.Stage.TheVariants.{Looking, Extending, Kept}
use Rattle.ctr_looks.specs.ctr_write.Stages.{IsCountedStage, stage_items}
use Rattle.ctr_looks.specs.ctr_write.Carrying.{AreOfStage}
use Rattle.ctr_looks.specs.ctr_write.Laying.{Wish}
use Rattle.ctr_looks.specs.ctr_wishes.HeadMade.{HeadMade}
use Rattle.ctr_looks.specs.ctr_wishes.Heads.{version_by}
use Rattle.ctr_looks.specs.ctr_wishes.declared.making.Prepared.{Prepared}
use Rattle.ctr_looks.specs.ctr_wishes.declared.making.Prepared.TheVariants.{Refused, Lays}
use Rattle.ctr_looks.specs.ctr_session_world.World.{SessionsHeld}
use Rattle.ctr_looks.specs.ctr_session_world.Told.{CountsOnTables, IsNextOf, IsActTold, IsKeptOn}
use Rattle.ctr_looks.specs.Locking.{MayWriteRow}
use Rattle.ctr_writing.specs.Wants.{HasRoomCause}
use Rattle.ctr_writing.specs.declared.rows.Wrote.{Wrote}
use Rattle.ctr_writing.specs.declared.rows.Wrote.TheVariants.{On, Told}

-- the facts are those of a stage, with tables more
abbrev pub AreAtStage : Title → ℕ → ℤ → Stage → List Fact → Type 0
AreAtStage title e key stage facts =
    (more : List Fact) × AreTables more × AreOfStage title e key stage more facts

-- What a session counts on at a stage of its Write: before its first turn, and wherever the row is
-- looked for again, on tables; a page on its way, or a version that was kept, beside that. Between
-- two turns no page is wanted and not taken yet. A Write that is to be refused has no other stage.
abbrev pub CountsAt : Title → ℕ → ℤ → Prepared → Stage → List Fact → Type 0
CountsAt title e key p Looking facts = CountsOnTables facts
CountsAt title e key (Refused why) (Extending chain way) facts = ⊥
CountsAt title e key (Lays h) (Extending chain Wanted) facts = ⊥
CountsAt title e key (Lays h) (Extending chain (Taken p)) facts =
    AreAtStage title e key (Extending chain (Taken p)) facts
CountsAt title e key (Lays h) (Extending chain (Made p next)) facts =
    AreAtStage title e key (Extending chain (Made p next)) facts
CountsAt title e key (Refused why) (Kept q) facts = ⊥
CountsAt title e key (Lays h) (Kept q) facts = AreAtStage title e key (Kept q) facts

-- between two turns no page is wanted and not taken yet
abbrev pub IsBetweenTurns : Stage → Type 0
IsBetweenTurns Looking = Unit {0}
IsBetweenTurns (Extending chain Wanted) = ⊥
IsBetweenTurns (Extending chain (Taken p)) = Unit {0}
IsBetweenTurns (Extending chain (Made p next)) = Unit {0}
IsBetweenTurns (Kept q) = Unit {0}

-- what is to be written of a row, by whom: a head that was made for it
abbrev pub wish_by : ℕ → ℕ → ℤ → HeadMade → Wish
wish_by x e key head = record { x = x; entry = e; key = key; head = version_by x head }

-- A session writes the row of its statement in the table of an entry, as it was prepared, and so
-- far it is.
pub record IsAtRow (c : Start) (s : ℕ) (statement : Statement) (w : Mind) (e : ℕ)
    (prepared : Prepared) (stage : Stage) : Type 0 where
  pub may : MayWriteRow c s statement w e prepared
  pub so_far : CountsAt may.title e may.key prepared stage (w.facts s)

-- Something was done: one record was logged; or none was, and more pages are counted.
abbrev pub WentOn : {D : Type 0} → View D → View D → Type 0
WentOn a b = (b.next ≡ a.next + 1) ⊎ ((b.next ≡ a.next) × (a.now.counted < b.now.counted))

-- that, where the Write goes on
abbrev pub WentBy : {D : Type 0} → View D → View D → Wrote → Type 0
WentBy a b (On stage) = WentOn a b
WentBy a b (Told r) = Unit {0}

-- What a turn of the Write leaves, by what it answers: it goes on, and nothing is told; or its
-- reply is told, and from then on its session counts on tables. It wants room where there is none.
abbrev pub TurnOfRow : {D : Type 0} {g : Ghosts D} {c : Start} {opened : D} {a b : View D}
    {h : SessionsHeld} {s : ℕ} {statement : Statement}
    → IsNextOf g c opened a b h s statement 1 → SessionsHeld → ℕ → Prepared → Wrote → Type 0
TurnOfRow {c = c} {s = s} {statement = statement} next now e p (On stage) =
    (kept : IsKeptOn next now) × IsAtRow c s statement kept.mind e p stage
TurnOfRow {a = a} {b = b} {s = s} next now e p (Told r) =
    (told : IsActTold next now act.Write r) × CountsOnTables (told.mind.facts s)
    × HasRoomCause r a.now b.now

-- ---- whatever the disk tells

-- A session is in a transaction, for which room is kept for as many items of the secondary log as
-- the next turn may add.
pub record HasStageRoom (s : ℕ) (txns : TxnsHeld) (stage : Stage) : Type 0 where
  pub t : TxnHeld
  pub there : txn_of s txns ≡ Some t
  pub room : item_kept (Some t) ≡ stage_items stage

-- The next turn may be taken.
abbrev pub MayGoOn : ℕ → TxnsHeld → ℕ → Stage → Type 0
MayGoOn s txns counted stage = IsCountedStage stage counted × HasStageRoom s txns stage

-- so it is where it goes on
abbrev pub LeavesStage : ℕ → TxnsHeld → ℕ → Wrote → Type 0
LeavesStage s txns counted (On stage) = MayGoOn s txns counted stage
LeavesStage s txns counted (Told r) = Unit {0}
