use Rattle.std.proofs.Common.{◌≡◌, ◌∙◌, ◌<◌, ◌≤◌, ◌+◌, ◌∷◌, [], ◌++◌, ◌^◌, length, ap, sym, arith, length-append}
use Rattle.std.proofs.lemmas.Result.{err_from_is_err_and}
use Rattle.std.proofs.lemmas.Bool.Decides.{nat_tests}
use Rattle.ctr_log.specs.Logs.{frame, frames}
use Rattle.ctr_log.proofs.LogLemmas.{length-frame, length-push}
use Rattle.ctr_log.proofs.ReadLemmas.{first_frame, frame_same, frames_more}
use Rattle.ctr_log.proofs.DamageLaws.{left_less, left_fails, left_counts, left_passes}
use Rattle.ctr_log.proofs.batches.count_frames.Goals as goal

pub returns-in_err-behind-clause-found : goal.returns-in_err-behind-clause-found
returns-in_err-behind-clause-found c =
    let p = err_from_is_err_and c.from_residual.result c.from_residual.ensures.1 in
    let fails = c.in_err-behind.ensures.found in
    let empty = c.is_empty.ensures in
    let test = c.loop-rest-test.true in
    let some : 0 < length c.loop-rest.rest.now = grind (arith, nat_tests) in
    rw (p.1, p.2) (fails.0, λ all. let left = c.loop-rest.invariant.left all in let one = first_frame left.0 c.loop-rest.rest.now left.1 some in fails.1 (one.0, frames one.1, one.2))

pub loop-rest-smaller : goal.loop-rest-smaller
loop-rest-smaller c =
    let record_ = c.in_ok-behind.field-0-0.now in
    let behind = c.in_ok-behind.behind.now in
    let read : c.loop-rest.rest.now ≡ frame record_ ++ behind = c.in_ok-behind.ensures.found in
    let long : length c.loop-rest.rest.now ≡ length (frame record_) + length behind = ap length read ∙ length-append (frame record_) behind in
    let one = length-frame record_ in
    omega arith

pub loop-rest-preserved : goal.loop-rest-preserved
loop-rest-preserved c =
    let rest = c.loop-rest.rest.now in
    let record_ = c.in_ok-behind.field-0-0.now in
    let behind = c.in_ok-behind.behind.now in
    let done = c.loop-rest.invariant.done in
    let read : rest ≡ frame record_ ++ behind = c.in_ok-behind.ensures.found in
    let long : length rest ≡ length (frame record_) + length behind = ap length read ∙ length-append (frame record_) behind in
    let one = length-frame record_ in
    let some : 0 < length rest = omega arith in
    let few = c.loop-rest.invariant.few in
    let fits : length (frame record_ ++ behind) < 2 ^ 64 = omega (arith, length-append (frame record_) behind) in
    let count : c.loop-rest.count ≡ length done.0 = done.2 in
    record {
      done = (done.0 ++ record_ ∷ [], frames_more done.0 c.args.bytes.now rest record_ behind done.1 read, omega (arith, count, length-push done.0 record_));
      left = λ all. let left = c.loop-rest.invariant.left all in let first = first_frame left.0 rest left.1 some in (first.1, (frame_same record_ behind first.0 (frames first.1) (sym read ∙ first.2) fits).1);
      few = omega arith;
      checks = left_less c.args.file c.args.at c.args.bytes.now rest c.loop-rest.count c.loop-rest.invariant.checks some record_ behind read (omega arith) (omega (arith, long, one)) c.in_ok-behind.ensures.damage;
    }

pub returns-in_err-behind-clause-damage : goal.returns-in_err-behind-clause-damage
returns-in_err-behind-clause-damage c =
    let p = err_from_is_err_and c.from_residual.result c.from_residual.ensures.1 in
    let empty = c.is_empty.ensures in
    let test = c.loop-rest-test.true in
    let some : 0 < length c.loop-rest.rest.now = grind (arith, nat_tests) in
    rw (p.1, p.2) (left_fails c.args.file c.args.at c.args.bytes.now c.loop-rest.rest.now c.loop-rest.count c.loop-rest.invariant.checks some c.in_err-behind.field-0.0 c.in_err-behind.ensures.damage)

pub returns-clause-count : goal.returns-clause-count
returns-clause-count c =
    let empty = c.is_empty.ensures in
    let none : length c.loop-rest.rest.now ≤ 0 = grind (arith, nat_tests) in
    left_counts c.args.file c.args.at c.args.bytes.now c.loop-rest.rest.now c.loop-rest.count c.loop-rest.invariant.checks none

pub returns-clause-damage : goal.returns-clause-damage
returns-clause-damage c =
    let empty = c.is_empty.ensures in
    let none : length c.loop-rest.rest.now ≤ 0 = grind (arith, nat_tests) in
    left_passes c.args.file c.args.at c.args.bytes.now c.loop-rest.rest.now c.loop-rest.count c.loop-rest.invariant.checks none
