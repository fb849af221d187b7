use Rattle.std.proofs.Common.{◌+◌, ◌-◌, ◌++◌, List, ap, ◌∙◌, length}
use Rattle.std.proofs.Math.ListN.{length-set}
use Rattle.ctr_types.specs.declared.statement.Line.{Line}
use Rattle.ctr_load.proofs.Rounds.{rounds_more, rounds_left, rounds_over}
use Rattle.ctr_load.proofs.making.make.Goals as goal

pub loop-done-preserved : goal.loop-done-preserved
loop-done-preserved c =
    let was = c.loop-done.making in
    let done = c.in_ok-add_round.ensures in
    record {
      lines = c.loop-done.invariant.lines
          ∙ rounds_more c.args.count c.loop-done.done was.draws.state was.marked.items was.lines c.add_round.new.self.lines c.loop-done-test.true done.lines
          ∙ ap (λ (rest : List Line). c.add_round.new.self.lines ++ rest)
          (rounds_left (c.args.count - (c.loop-done.done + 1)) (c.loop-done.done + 1 + 1) _ c.add_round.new.self.draws.state _ c.add_round.new.self.marked.items done.state done.marks);
      marks = ap length done.marks ∙ length-set was.marked.items _ _ ∙ c.loop-done.invariant.marks;
    }

pub returns : goal.returns
returns c =
    let was = c.loop-done.making in
    rounds_over c.args.count c.loop-done.done _ was.draws.state was.marked.items c.deref.result.now _ was.lines c.commit_all.new.lines c.loop-done-test.false c.loop-done.invariant.lines c.deref.ensures.value c.in_ok-commit_all.ensures
