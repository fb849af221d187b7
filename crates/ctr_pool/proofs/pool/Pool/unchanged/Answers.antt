use Rattle.std.proofs.Common.{arith}
use Rattle.ctr_pool.proofs.FrameLaws.{count_most}
use Rattle.ctr_pool.proofs.pool.Pool.unchanged.Goals as goal

pub overflow_sub-result : goal.overflow_sub-result
overflow_sub-result c = let n = count_most c.self.inside.frames.frames in omega (arith, n, c.self.invariant.count, c.len.ensures, c.most.ensures)
