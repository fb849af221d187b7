-- What contracts see of a World on pages.
use Rattle.std.specs.Prelude.{ℕ, List, Option}
use Rattle.ctr_disk.specs.declared.fault.Stop.{Stop}
use Rattle.ctr_store.specs.Store.{View}
use Rattle.ctr_pass.specs.declared.pass.Pass.{Pass}
use Rattle.ctr_undo.specs.Left.{UndoLeft}
use Rattle.ctr_pass.specs.exec_sessions_Sessions.{Sessions}
use Rattle.ctr_world.specs.declared.engine.Engine.{Engine}
use Rattle.ctr_world.specs.declared.parts.Parts.{Parts}

-- The store, the sessions at the script's statements with the tape, what is left of undo with the
-- names of its tables, how large the undo of the start was, and the cleaner's pass, with how many
-- pages were read for the position that it is at, since it came there.
pub record Running (D : Type 0) : Type 0 where
  pub store : View D
  pub sessions : Sessions
  pub undo : UndoLeft
  pub names : List (List ℕ)
  pub size : ℕ
  pub pass : Pass
  pub read : ℕ

-- that, and why the World stopped, if it did
pub record Held (D : Type 0) : Type 0 where
  pub running : Running D
  pub stop : Option Stop

-- what an engine and a World hold, by the fields of the code
abbrev pub running : {D B : Type 0} → Engine D B → Running D
running e = record {
  store = e.store;
  sessions = e.sessions;
  undo = e.undo;
  names = e.names.items;
  size = e.size;
  pass = e.pass;
  read = e.read;
}

-- a World, with why it stopped
abbrev pub held : {D B : Type 0} → Parts D B → Held D
held p = record { running = running p.engine; stop = p.stop }
