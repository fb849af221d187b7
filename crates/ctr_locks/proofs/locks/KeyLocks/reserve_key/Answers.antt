use Rattle.std.proofs.Common.{sym, subst}
use Rattle.ctr_locks.specs.Held.{SameHeld, OfSession}
use Rattle.ctr_locks.proofs.One.{same_both}
use Rattle.ctr_locks.proofs.Sessions.{then_same}
use Rattle.ctr_locks.proofs.locks.KeyLocks.reserve_key.Goals as goal

pub returns-clause-same : goal.returns-clause-same
returns-clause-same c = then_same SameHeld SameHeld SameHeld c.args.s c.args.self.now c.give_back_all.new.self c.take_key_room-2.new.self same_both
    (subst (λ old. OfSession c.args.s SameHeld old c.give_back_all.new.self) c.give_back.ensures (subst (OfSession c.args.s SameHeld c.give_back.new.self) (sym c.give_back_all.ensures) c.take_key_room.ensures.same))
    c.take_key_room-2.ensures.same
