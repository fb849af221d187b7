use Rattle.std.specs.Prelude.{◌≡◌, ◌≢◌, List, None}
use Rattle.ctr_pass.specs.exec_Sessions.{turns_left}
use Rattle.ctr_world.specs.Held.{Held, held}
use Rattle.ctr_world.specs.Turns.{GoesByTurns}
use Rattle.ctr_world.specs.World.{Kept}
use Rattle.ctr_world.proofs.parts.Parts.run.Given as goal

-- a World that was stopped is as it was; turns led from the first one to this
abbrev pub invariant-loop : goal.invariant-loop
invariant-loop g l = Kept g.B.Opening g.B.Origin.first g.D.Disk (held l.self) × (l.initial.self.stop ≢ None → l.self ≡ l.initial.self)
    × ((between : List (Held _)) × GoesByTurns g.D.Disk between (held l.initial.self) (held l.self))

abbrev pub decreases-loop : goal.decreases-loop
decreases-loop g l = turns_left l.self.engine.sessions l.self.engine.store
