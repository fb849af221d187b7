use Rattle.std.proofs.Common.{None, refl}
use Rattle.ctr_locks.specs.Held.{FreesAll}
use Rattle.ctr_locks.proofs.Sessions.{taken, frees_one, kept_of}
use Rattle.ctr_locks.proofs.locks.KeyLocks.release_all.Goals as goal

pub invariant_of-self : goal.invariant_of-self
invariant_of-self c = kept_of c.self.inside.sessions c.args.self.now c.self.view_is c.args.s c.self.invariant.1 c.remove-locks.new.self FreesAll frees_one (taken c.self.inside.sessions c.args.self.now c.self.view_is c.args.s c.remove-locks.new.self None c.remove-locks.ensures.updates refl) c.remove-locks.ensures.ordered

pub returns : goal.returns
returns c = taken c.self.inside.sessions c.args.self.now c.self.view_is c.args.s c.remove-locks.new.self None c.remove-locks.ensures.updates refl
