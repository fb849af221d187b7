use Rattle.std.proofs.Common.{◌≡◌, ◌+◌, arith, subst}
use Rattle.ctr_store.specs.Store.{View, waiting_bytes}
use Rattle.ctr_store.proofs.StoreLaws.{buffer_seen}
use Rattle.ctr_store.proofs.store.Store.is_short.Goals as goal

pub overflow_sub-result : goal.overflow_sub-result
overflow_sub-result g c = let most = c.self.invariant.buffer.most in omega (arith, most)

pub returns-clause-buffer : goal.returns-clause-buffer
returns-clause-buffer g c = subst (λ (v : View g.row.D.Denot). waiting_bytes v.waiting + v.room ≡ 65536) c.self.view_is (buffer_seen g.D.Disk c.self.inside.parts c.self.invariant.buffer)
