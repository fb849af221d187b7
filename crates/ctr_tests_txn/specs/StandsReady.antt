-- What a step behind the locks of sessions counts on.
use Rattle.std.specs.Prelude.{◌≡◌, false}
use Rattle.ctr_store.specs.Store.{View}
use Rattle.ctr_txn.specs.Held.{TxnsHeld}
use Rattle.ctr_txn.specs.Rooms.{HasItemRoom}

-- The store goes on, and the room that is kept for all sessions and the cleaner is there.
pub record StandsReady {D : Type 0} (a : TxnsHeld) (v : View D) : Type 0 where
  pub going : v.stopped ≡ false
  pub room : HasItemRoom a v.meta
