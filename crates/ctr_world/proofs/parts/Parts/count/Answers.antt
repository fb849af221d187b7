use Rattle.std.proofs.Common.{inl, ◌≤◌, List, sym, subst}
use Rattle.ctr_types.specs.declared.tape.Entry.{Entry}
use Rattle.ctr_totals.specs.Totals.{AreTotals}
use Rattle.ctr_undo.specs.Left.{left_in}
use Rattle.ctr_world.specs.declared.engine.Engine.{Engine}
use Rattle.ctr_world.specs.Held.{held, running}
use Rattle.ctr_world.specs.World.{rows_asked}
use Rattle.ctr_world.proofs.Keeping.{kept_on, none_is, none_more, sound_of, stopped_as}
use Rattle.ctr_world.proofs.Passes.{pass_still}
use Rattle.ctr_world.proofs.parts.Parts.count.Goals as goal

pub returns-in-Ok-clause-kept : goal.returns-in-Ok-clause-kept
returns-in-Ok-clause-kept g c =
    let e = c.in-Ok.ensures in
    let p = held c.args.self.now in
    kept_on g.B.Opening g.B.Origin.first g.D.Disk p (running c.count.new.self) c.requires.kept (none_is p.stop c.if-is_some.ensures) (λ i. (e.same i).sessions.script) (λ i. (e.same i).size) e.disk.later e.ready
    (λ s tells sound shows pass. (e.shows s tells sound shows, pass_still g.B.Opening s p.running (running c.count.new.self) c.a_pass_is_kept_beside_others.ensures (e.disk.goes tells sound) (record { pass = λ i. (e.same i).pass; read = λ i. (e.same i).read; undo = inl (λ i. (e.same i).undo) }) (λ i. (e.same i).sessions.tape.items) pass))
    (none_more c.in-Ok.totals (g.D.Disk.faults_of p.running.store.disk) (g.D.Disk.faults_of c.count.new.self.store.disk) e.disk.faults)

pub returns-in-Ok-clause-counts : goal.returns-in-Ok-clause-counts
returns-in-Ok-clause-counts g c =
    let e = c.in-Ok.ensures in
    let p = held c.args.self.now in
    let going = none_is p.stop c.if-is_some.ensures in
    record {
      counted = λ s tells stands asked none.
          subst (λ (es : List Entry). AreTotals (rows_asked g.B.Opening s es) c.in-Ok.totals) (λ i. (sym e.same i).sessions.tape.items)
          (e.counts s tells (sound_of g.B.Origin.first s stands) (c.requires.kept.shows s tells stands going));
      unasked = λ is. absurd cc;
      stopped = λ some. absurd (some going);
    }

pub returns-in-Err-clause-kept : goal.returns-in-Err-clause-kept
returns-in-Err-clause-kept g c =
    let e = c.in-Err.ensures in
    let p = held c.args.self.now in
    stopped_as g.B.Opening g.B.Origin.first g.D.Disk p (running c.count.new.self) c.requires.kept (none_is p.stop c.if-is_some.ensures) (λ i. (e.same i).sessions.script) (λ i. (e.same i).size) e.disk.later c.in-Err.fault (λ s tells sound shows pass. e.shows s tells sound shows) (λ i. (e.same i).sessions.tape.items)
    (subst (λ (x : Engine g.row.D.Denot g.row.B.Denot). left_in x.undo ≤ x.size) (sym e.same) c.requires.kept.count) c.a_turn_that_ends_leaves_a_prefix.ensures e.disk c.stop_by.result c.stop_by.ensures
