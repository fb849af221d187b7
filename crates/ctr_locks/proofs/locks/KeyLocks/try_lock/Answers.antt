use Rattle.std.proofs.Common.{Some, sym, ◌∙◌, subst}
use Rattle.ctr_locks.specs.Held.{LocksEntryKey, HasRoomForKey}
use Rattle.ctr_locks.proofs.Sessions.{by_is, no_key_room, through_session, kept_locked}
use Rattle.ctr_locks.proofs.locks.KeyLocks.try_lock.Goals as goal

pub returns-in_default-get_mut-clause-locks : goal.returns-in_default-get_mut-clause-locks
returns-in_default-get_mut-clause-locks c = no_key_room c.self.inside.sessions c.args.self.now c.self.view_is c.args.s c.args.entry c.args.key c.in_default-get_mut.ensures.value c.requires

pub lock-requires : goal.lock-requires
lock-requires c = subst (HasRoomForKey c.args.entry c.args.key) (by_is c.self.inside.sessions c.args.self.now c.self.view_is c.args.s (Some c.in-Some-get_mut.locks.now) c.in-Some-get_mut.ensures.value) c.requires

pub invariant_of-self-2 : goal.invariant_of-self-2
invariant_of-self-2 c = kept_locked c.self.inside.sessions c.args.self.now c.self.view_is c.args.s c.self.invariant.1 (c.get_mut.follows.lender c.lock.new.self) c.in-Some-get_mut.locks.now c.lock.new.self c.in-Some-get_mut.ensures.value (c.get_mut.follows.holds c.lock.new.self) c.args.entry c.args.key (sym c.locked_to.ensures ∙ c.in_default.is) c.lock.ensures

pub returns-clause-locks : goal.returns-clause-locks
returns-clause-locks c = through_session c.self.inside.sessions c.args.self.now c.self.view_is c.args.s (c.get_mut.follows.lender c.lock.new.self) c.in-Some-get_mut.locks.now c.lock.new.self c.in-Some-get_mut.ensures.value (c.get_mut.follows.holds c.lock.new.self) (LocksEntryKey c.args.entry c.args.key) c.lock.ensures
