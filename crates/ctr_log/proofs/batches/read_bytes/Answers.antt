use Rattle.std.proofs.Common.{length, rules}
use Rattle.std.proofs.lemmas.Result.{err_from_is_err_and}
use Rattle.ctr_log.proofs.BatchLemmas.{range_low}
use Rattle.ctr_log.proofs.batches.read_bytes.Goals as goal

pub returns-in_err-read-clause-counts : goal.returns-in_err-read-clause-counts
returns-in_err-read-clause-counts g c =
    let p = err_from_is_err_and c.from_residual-in_err-read.result c.from_residual-in_err-read.ensures.1 in
    let place = range_low c.args.at (length c.deref_mut.result.now) c.in_ok-bytes.bytes.len c.args.len c.deref_mut.ensures.len c.in_ok-bytes.ensures.len c.requires c.if-len-ge-FAR.false in
    rw (p.1, p.2) (record {
      later = search rules;
      faults = search rules;
      stray = c.in_err-read.ensures.stray.below place;
    })
