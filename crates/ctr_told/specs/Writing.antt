-- The Write of a row, as the statement has it.
use Rattle.std.specs.Prelude.{◌≡◌, ◌<◌, [], ◌∷◌, Some}
use Rattle.ctr_disk.specs.declared.disk.Disk.{Ghosts}
use Rattle.ctr_model.specs.Reply.{changes_of}
use Rattle.ctr_model.specs.Refusals.{table_of, key_written}
use Rattle.ctr_model.specs.State.{view}
use Rattle.ctr_versions.specs.Keys.{row_written}
use Rattle.ctr_area.specs.Reading.{version_said}
use Rattle.ctr_rollback.specs.store_Store.{View}
use Rattle.ctr_rollback.specs.kept_Walk.{Mind}
use Rattle.ctr_rollback.specs.kept_Turns.{Start, Telling, state_now}
use Rattle.ctr_write.specs.Carrying.{IsAtWrite}

-- The statement writes the row of the key, in the table of the title: its one change is the row of
-- the head that is laid.
pub record IsOfStatement {D : Type 0} {g : Ghosts D} {c : Start} {opened : D} {a : View D}
    {w : Mind} (writes : IsAtWrite g c opened a w) (e : Telling c (g.moment_of a.disk) writes.s)
    : Type 0 where
  pub entry : writes.entry < 32
  pub table : table_of e.statement ≡ Some writes.title.name
  pub key : key_written e.statement ≡ Some writes.key
  pub change : changes_of (view (state_now c w) writes.seat.t) e.statement
      ≡ row_written writes.title.name writes.key
      (version_said writes.title.columns writes.key writes.head).1 ∷ []
