use Rattle.std.proofs.Common.{◌-◌, arith}
use Rattle.ctr_pool.proofs.AgeLaws.{below_at, above_at}
use Rattle.ctr_pool.proofs.ages.place.Goals as goal

pub returns-then-before-since-clause-below : goal.returns-then-before-since-clause-below
returns-then-before-since-clause-below c k d lt =
    below_at c.args.entries.now (c.loop-at.at - 1) c.args.since (0, 0) c.requires (omega (arith, c.loop-at-test.true, c.loop-at.invariant.inside)) c.if-before-since.true k d (omega (arith, lt))

pub loop-at-preserved : goal.loop-at-preserved
loop-at-preserved c = record {
  inside = omega (arith, c.loop-at.invariant.inside);
  above = above_at c.args.entries.now (c.loop-at.at - 1) c.args.since (0, 0) c.requires (omega (arith, c.loop-at-test.true, c.loop-at.invariant.inside)) c.if-before-since.false;
}
