use Rattle.std.proofs.Common.{◌≤◌, sym, subst}
use Rattle.ctr_undo.specs.Left.{left_in}
use Rattle.ctr_world.specs.declared.engine.Engine.{Engine}
use Rattle.ctr_world.specs.Held.{held, running}
use Rattle.ctr_world.proofs.Keeping.{kept_on, none_more, stopped_as}
use Rattle.ctr_world.proofs.parts.Parts.clean.Goals as goal

pub returns-in-Ok-clause-kept : goal.returns-in-Ok-clause-kept
returns-in-Ok-clause-kept g c =
    let e = c.in-Ok.ensures in
    let p = held c.args.self.now in
    kept_on g.B.Opening g.B.Origin.first g.D.Disk p (running c.clean.new.self) c.requires.kept c.requires.going e.adds.script (λ i. (e.same i).size) e.disk.later e.ready e.kept
    (none_more c.in-Ok.turn (g.D.Disk.faults_of p.running.store.disk) (g.D.Disk.faults_of c.clean.new.self.store.disk) e.disk.faults)

pub returns-in-Err-clause-kept : goal.returns-in-Err-clause-kept
returns-in-Err-clause-kept g c =
    let e = c.in-Err.ensures in
    stopped_as g.B.Opening g.B.Origin.first g.D.Disk (held c.args.self.now) (running c.clean.new.self) c.requires.kept c.requires.going e.adds.1 (λ i. (e.same i).size) e.disk.later c.in-Err.fault e.kept e.adds.0
    (subst (λ (x : Engine g.row.D.Denot g.row.B.Denot). left_in x.undo ≤ x.size) (sym e.same) c.requires.kept.count) c.a_turn_that_ends_leaves_a_prefix.ensures e.disk c.stop_by.result c.stop_by.ensures
