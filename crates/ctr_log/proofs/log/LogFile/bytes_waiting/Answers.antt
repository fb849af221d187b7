use Rattle.std.proofs.Common.{length, ap, arith, length-drop}
use Rattle.ctr_log.specs.Logs.{frames}
use Rattle.ctr_log.proofs.log.LogFile.bytes_waiting.Goals as goal

pub returns : goal.returns
returns c =
    let a = c.self.inside in
    let keeps = c.self.invariant in
    omega (arith, ap (λ v. length (frames v.buffered)) c.self.view_is, ap length keeps.frames_are, length-drop 20 a.buffer.items, a.buffer.ok.0, keeps.head)
