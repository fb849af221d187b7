use Rattle.ctr_undo.specs.Left.{left_in}
use Rattle.ctr_world.specs.Held.{held, running}
use Rattle.ctr_world.proofs.Keeping.{kept_on, less_left, none_more, stopped_as}
use Rattle.ctr_world.proofs.Passes.{pass_beside}
use Rattle.ctr_world.proofs.parts.Parts.undo.Goals as goal

pub returns-in-Ok-clause-kept : goal.returns-in-Ok-clause-kept
returns-in-Ok-clause-kept g c =
    let e = c.in-Ok.ensures in
    let p = held c.args.self.now in
    kept_on g.B.Opening g.B.Origin.first g.D.Disk p (running c.undo.new.self) c.requires.kept c.requires.going e.adds.script e.left.0 e.disk.later e.ready
    (λ s tells sound shows pass. (e.shows s tells sound shows, pass_beside g.B.Opening s p.running (running c.undo.new.self) c.a_pass_is_kept_beside_others.ensures (e.disk.goes tells sound) e.pass e.adds.entries e.adds.tape pass))
    (none_more tt (g.D.Disk.faults_of p.running.store.disk) (g.D.Disk.faults_of c.undo.new.self.store.disk) e.disk.faults)

pub returns-in-Err-clause-kept : goal.returns-in-Err-clause-kept
returns-in-Err-clause-kept g c =
    let e = c.in-Err.ensures in
    let old = running c.args.self.now.engine in
    let new = running c.undo.new.self in
    stopped_as g.B.Opening g.B.Origin.first g.D.Disk (held c.args.self.now) new c.requires.kept c.requires.going e.adds.1 e.left.0 e.disk.later c.in-Err.fault (λ s tells sound shows pass. e.shows s tells sound shows) e.adds.0
    (less_left (left_in new.undo) (left_in old.undo) old.size new.size e.left.1 c.requires.kept.count e.left.0) c.a_turn_that_ends_leaves_a_prefix.ensures e.disk c.stop_by.result c.stop_by.ensures
