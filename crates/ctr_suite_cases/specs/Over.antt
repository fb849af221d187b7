-- Sessions that may take turns over a store, and what a step beside them leaves.
use Rattle.std.specs.Prelude.{◌≡◌, ◌≤◌, false}
use Rattle.ctr_store.specs.Store.{View}
use Rattle.ctr_exec.specs.ctr_session_world.Ready.{StandOver}
use Rattle.ctr_exec.specs.declared.sessions.Sessions.{Sessions}
use Rattle.ctr_exec.specs.Sessions.{AreSeated}

-- Their transactions stand over the store, which isn't stopped, and each may take its next turn.
pub record AreOver {D : Type 0} (h : Sessions) (v : View D) : Type 0 where
  pub stand : StandOver h.txns v
  pub going : v.stopped ≡ false
  pub seats : AreSeated h v.now.counted

-- A step beside sessions leaves what they stand on: the store goes on, no number is drawn, there is
-- as much room for items, and as many pages are counted.
pub record LeavesBeside {D : Type 0} (a b : View D) : Type 0 where
  pub going : b.stopped ≡ false
  pub next : b.meta.tables.next ≡ a.meta.tables.next
  pub items : a.meta.items_room ≤ b.meta.items_room
  pub counted : b.now.counted ≡ a.now.counted
