-- A record of a transaction that is on no page.
use Rattle.std.specs.Prelude.{ℕ}
use Rattle.ctr_disk.specs.declared.disk.Disk.{Ghosts}
use Rattle.ctr_actions.specs.Actions.{Action}
use Rattle.ctr_store.specs.Store.{View}
use Rattle.ctr_writing.specs.ctr_session_world.page_turns_Acts.{ActsBy}
use Rattle.ctr_writing.specs.ctr_session_world.page_turns_Turns.{LogsAtRest}

-- A record was logged, which is an action of a transaction that owes nothing more.
pub record IsMarkedBy {D : Type 0} (g : Ghosts D) (x : ℕ) (a : Action) (v w : View D) : Type 0 where
  pub acts : ActsBy x a v.now w.now
  pub logs : LogsAtRest g v w
