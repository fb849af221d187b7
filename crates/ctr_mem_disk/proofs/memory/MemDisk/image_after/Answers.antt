use Rattle.std.proofs.Common.{◌<◌, take, length, arith}
use Rattle.ctr_mem_disk.proofs.Kept.{replay-reads, replay-left}
use Rattle.ctr_mem_disk.proofs.memory.MemDisk.image_after.Goals as goal

pub loop-recorded-preserved : goal.loop-recorded-preserved
loop-recorded-preserved c =
    let l = take c.min.result c.deref.result.now in
    let first = c.args.self.now.first in
    let k = c.loop-recorded.recorded-index in
    let r = c.recorded-item.result in
    let was = c.loop-recorded.invariant in
    let low : k < length l = omega arith in
    record {
      reads = replay-reads first l k r c.loop-recorded.replay.reads c.step.new.self.reads low c.recorded-item.is was.reads c.in_ok-step.ensures.reads;
      left = replay-left first l k r c.loop-recorded.replay.reads c.loop-recorded.replay.left c.step.new.self.left low c.recorded-item.is was.reads was.left c.in_ok-step.ensures.left;
    }
