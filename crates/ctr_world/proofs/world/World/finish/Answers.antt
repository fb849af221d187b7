use Rattle.std.proofs.Common.{List, sym, ◌∙◌, subst}
use Rattle.ctr_types.specs.declared.tape.Entry.{Entry}
use Rattle.ctr_totals.specs.Totals.{AreTotals}
use Rattle.ctr_world.specs.World.{rows_asked}
use Rattle.ctr_world.specs.Held.{Held, held}
use Rattle.ctr_world.specs.Turns.{GoesByTurns}
use Rattle.ctr_world.proofs.Ending.{ended_as, in_order_as}
use Rattle.ctr_world.proofs.Keeping.{sound_of}
use Rattle.ctr_world.proofs.world.World.finish.Goals as goal

pub returns-clause-ends : goal.returns-clause-ends
returns-clause-ends g c = λ s tells stands.
    ended_as g.B.Opening g.B.Origin.first g.D.Disk (held c.finish-totals.new.self) c.finish-totals.ensures.kept c.finish-totals.ensures.over s tells stands c.a_call_that_ends_leaves_a_prefix.ensures.end
    (c.finish-totals.ensures.none tells (sound_of g.B.Origin.first s stands))
    c.from_vec.result c.len.result c.into_disk.result c.from_vec.ensures c.len.ensures c.into_disk.ensures

pub returns-clause-order : goal.returns-clause-order
returns-clause-order g c =
    in_order_as g.B.Opening g.B.Origin.first g.D.Disk (held c.finish-totals.new.self) c.finish-totals.ensures.kept c.finish-totals.ensures.over
    c.from_vec.result c.into_disk.result c.from_vec.ensures c.into_disk.ensures

pub returns-clause-turns : goal.returns-clause-turns
returns-clause-turns g c =
    let by = c.finish-totals.ensures.turns in
    record { between = by.between; last = by.last; turns = subst (λ (h : Held _). GoesByTurns g.D.Disk by.between h by.last) c.self.view_is by.turns; tape_is = c.from_vec.ensures ∙ by.tape_is }

pub returns-clause-counts : goal.returns-clause-counts
returns-clause-counts g c =
    let counts = c.finish-totals.ensures.counts in
    record {
      counted = λ s tells stands asked none. subst (λ (es : List Entry). AreTotals (rows_asked g.B.Opening s es) c.finish-totals.result) (sym c.from_vec.ensures) (counts.counted s tells stands asked none);
      unasked = counts.unasked;
      stopped = counts.stopped;
    }
