use Rattle.std.proofs.Common.{inl, ◌≤◌, sym, subst}
use Rattle.ctr_undo.specs.Left.{left_in}
use Rattle.ctr_world.specs.declared.engine.Engine.{Engine}
use Rattle.ctr_world.specs.Held.{held, running}
use Rattle.ctr_world.proofs.Keeping.{kept_on, none_is, none_more, stopped_as}
use Rattle.ctr_world.proofs.Passes.{pass_still}
use Rattle.ctr_world.proofs.parts.Parts.settle.Goals as goal

pub returns-in-Ok-clause-kept : goal.returns-in-Ok-clause-kept
returns-in-Ok-clause-kept g c =
    let e = c.in-Ok.ensures in
    let p = held c.args.self.now in
    kept_on g.B.Opening g.B.Origin.first g.D.Disk p (running c.settle.new.self) c.requires.kept (none_is p.stop c.if-is_some.ensures) (λ i. (e.same i).sessions.script) (λ i. (e.same i).size) e.disk.later e.ready
    (λ s tells sound shows pass. (e.shows s tells sound shows, pass_still g.B.Opening s p.running (running c.settle.new.self) c.a_pass_is_kept_beside_others.ensures (e.disk.goes tells sound) (record { pass = λ i. (e.same i).pass; read = λ i. (e.same i).read; undo = inl (λ i. (e.same i).undo) }) (λ i. (e.same i).sessions.tape.items) pass))
    (none_more tt (g.D.Disk.faults_of p.running.store.disk) (g.D.Disk.faults_of c.settle.new.self.store.disk) e.disk.faults)

pub returns-in-Err-clause-kept : goal.returns-in-Err-clause-kept
returns-in-Err-clause-kept g c =
    let e = c.in-Err.ensures in
    let p = held c.args.self.now in
    stopped_as g.B.Opening g.B.Origin.first g.D.Disk p (running c.settle.new.self) c.requires.kept (none_is p.stop c.if-is_some.ensures) (λ i. (e.same i).sessions.script) (λ i. (e.same i).size) e.disk.later c.in-Err.fault (λ s tells sound shows pass. e.shows s tells sound shows) (λ i. (e.same i).sessions.tape.items)
    (subst (λ (x : Engine g.row.D.Denot g.row.B.Denot). left_in x.undo ≤ x.size) (sym e.same) c.requires.kept.count) c.a_turn_that_ends_leaves_a_prefix.ensures e.disk c.stop_by.result c.stop_by.ensures
