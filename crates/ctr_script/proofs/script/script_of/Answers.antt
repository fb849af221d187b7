use Rattle.std.proofs.Common.{arith}
use Rattle.ctr_script.proofs.LineLemmas.{reads_none, reads_on}
use Rattle.ctr_script.proofs.script.script_of.Goals as goal

pub loop-rest-init : goal.loop-rest-init
loop-rest-init c = (reads_none c.args.bytes.now c.new-lines.result c.new-lines.ensures, omega arith)

pub loop-rest-preserved : goal.loop-rest-preserved
loop-rest-preserved c = (
  reads_on c.args.bytes.now c.loop-rest.rest.now c.first_line.result.1.now c.first_line.result.0.now c.loop-rest.lines c.add.new.lines c.loop-rest.number c.loop-rest.invariant.0
      c.first_line.ensures.lines c.in_ok-add.ensures.found,
  omega (arith, c.loop-rest.invariant.1, c.first_line.ensures.less),
)
