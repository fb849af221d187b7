use Rattle.std.proofs.Common.{length, drop, ap, arith}
use Rattle.ctr_log.proofs.LogLemmas.{length-unframed}
use Rattle.ctr_log.proofs.log.LogFile.waiting.Goals as goal

pub returns : goal.returns
returns c =
    let buffered = ap (λ v. length v.buffered) c.self.view_is in
    let n = length-unframed c.self.inside.count (drop 20 c.self.inside.buffer.items) in
    omega arith
