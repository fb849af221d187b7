use Rattle.std.proofs.Common.{arith}
use Rattle.std.proofs.lemmas.Result.{err_from_is_err_and}
use Rattle.ctr_log.proofs.VisitLemmas.{given_start, frame_left, given_more, given_refused}
use Rattle.ctr_log.proofs.batches.give.Goals as goal

pub loop-lsn-init : goal.loop-lsn-init
loop-lsn-init g c = given_start g.V.Visitor.has_seen c.args.file c.args.first c.args.at c.args.count c.args.frames.now c.args.visitor.now c.requires.counted

pub unreachable-requires : goal.unreachable-requires
unreachable-requires g c = c.in_default.ensures.found.1 (frame_left g.V.Visitor.has_seen c.args.file c.args.first c.args.at c.args.count c.args.frames.now c.loop-lsn.rest.now c.loop-lsn.lsn c.args.visitor.now c.loop-lsn.visitor c.loop-lsn.invariant c.loop-lsn-test.true (omega (arith, c.requires.place)))

pub returns-in_err-visit : goal.returns-in_err-visit
returns-in_err-visit g c =
    let p = err_from_is_err_and c.from_residual.result c.from_residual.ensures.1 in
    rw (p.1, p.2) (given_refused g.V.Visitor.has_seen c.args.file c.args.first c.args.at c.args.count c.args.frames.now c.loop-lsn.rest.now c.loop-lsn.lsn c.args.visitor.now c.loop-lsn.visitor c.loop-lsn.invariant c.loop-lsn-test.true (omega (arith, c.requires.place)) c.in-Ok.record.now c.in-Ok.behind.now c.in-Ok.ensures.found
    g.V.Visitor.refuses c.in_err-visit.field-0.0 c.in_err-visit.ensures.because)

pub loop-lsn-preserved : goal.loop-lsn-preserved
loop-lsn-preserved g c =
    given_more g.V.Visitor.has_seen c.args.file c.args.first c.args.at c.args.count c.args.frames.now c.loop-lsn.rest.now c.loop-lsn.lsn c.args.visitor.now c.loop-lsn.visitor c.loop-lsn.invariant c.loop-lsn-test.true (omega (arith, c.requires.place)) c.in-Ok.record.now c.in-Ok.behind.now c.in-Ok.ensures.found
    c.visit.new.self c.in_ok-visit.ensures.given
