use Rattle.std.proofs.Common.{◌≡◌, ◌≤◌, ◌<◌, ◌+◌, ℕ, Ok}
use Rattle.std.specs.Prelude.{⊤, IsTrue}
use Rattle.ctr_base.specs.Base.{IsSoundImage}
use Rattle.ctr_redo.specs.States.{State}
use Rattle.ctr_store.specs.Store.{LeavesPage}
use Rattle.ctr_pass.specs.session_world_Ready.{LeavesDisk}
use Rattle.ctr_world.specs.Cleaning.{CleansAlong}
use Rattle.ctr_world.specs.Held.{running}
use Rattle.ctr_world.specs.World.{IsWorldReady, KeepsPassIn, Shows}
use Rattle.ctr_world.proofs.engine.Engine.clean_onward.Given as goal

abbrev pub invariant-loop-taken : goal.invariant-loop-taken
invariant-loop-taken g l =
    let old = running l.fn.self in
    let now = running l.self in
    IsWorldReady g.B.Opening g.D.Disk now
    × ((s : State) → IsTrue g.D.Disk.tells → IsSoundImage g.B.Origin.first → Shows g.B.Opening g.B.Origin.first g.D.Disk s old → KeepsPassIn g.B.Opening s old
    → Shows g.B.Opening g.B.Origin.first g.D.Disk s now × KeepsPassIn g.B.Opening s now)
    × ((n : ℕ) × (n < l.taken) × CleansAlong n old now)
    × (now.store.next ≤ old.store.next + 1)
    × (l.self ≡ record l.fn.self { store = l.self.store; sessions = record l.fn.self.sessions { txns = l.self.sessions.txns }; pass = l.self.pass; read = l.self.read })
    × LeavesDisk {T = ⊤} g.B.Origin.first g.D.Disk old.store now.store (Ok tt)
    × (now.store.next ≡ old.store.next → LeavesPage {T = ⊤} g.B.Origin.first g.D.Disk old.store now.store (Ok tt))
    × (now.read ≡ 0)
