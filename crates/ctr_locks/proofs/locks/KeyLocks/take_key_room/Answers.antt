use Rattle.std.proofs.Common.{sym, subst}
use Rattle.ctr_locks.specs.Held.{SameHeld, HasRoomForKey}
use Rattle.ctr_locks.proofs.One.{same_both}
use Rattle.ctr_locks.proofs.Sessions.{not_there, through_session, through_is, then_same, same_one, kept_through}
use Rattle.ctr_locks.proofs.locks.KeyLocks.take_key_room.Goals as goal

pub returns-in_default-clause-room : goal.returns-in_default-clause-room
returns-in_default-clause-room c = not_there c.self.inside.sessions c.make_session.new.self c.self.view_is c.args.s c.in_default.ensures.value c.in_ok-make_session.ensures.there

pub invariant_of-self-in_err-make_key_room : goal.invariant_of-self-in_err-make_key_room
invariant_of-self-in_err-make_key_room c = kept_through c.self.inside.sessions c.make_session.new.self c.self.view_is c.args.s c.self.invariant.1 (c.get_mut.follows.lender c.make_key_room.new.self) c.in-Some.locks.now c.make_key_room.new.self c.in-Some.ensures.value (c.get_mut.follows.holds c.make_key_room.new.self) SameHeld same_one c.make_key_room.ensures.same

pub returns-in_err-make_key_room-clause-same : goal.returns-in_err-make_key_room-clause-same
returns-in_err-make_key_room-clause-same c = then_same SameHeld SameHeld SameHeld c.args.s c.args.self.now c.make_session.new.self (c.get_mut.follows.lender c.make_key_room.new.self).entries same_both c.make_session.ensures.same
    (through_session c.self.inside.sessions c.make_session.new.self c.self.view_is c.args.s (c.get_mut.follows.lender c.make_key_room.new.self) c.in-Some.locks.now c.make_key_room.new.self c.in-Some.ensures.value (c.get_mut.follows.holds c.make_key_room.new.self) SameHeld c.make_key_room.ensures.same)

pub invariant_of-self-2 : goal.invariant_of-self-2
invariant_of-self-2 c = kept_through c.self.inside.sessions c.make_session.new.self c.self.view_is c.args.s c.self.invariant.1 (c.get_mut.follows.lender c.make_key_room.new.self) c.in-Some.locks.now c.make_key_room.new.self c.in-Some.ensures.value (c.get_mut.follows.holds c.make_key_room.new.self) SameHeld same_one c.make_key_room.ensures.same

pub returns-clause-same : goal.returns-clause-same
returns-clause-same c = then_same SameHeld SameHeld SameHeld c.args.s c.args.self.now c.make_session.new.self (c.get_mut.follows.lender c.make_key_room.new.self).entries same_both c.make_session.ensures.same
    (through_session c.self.inside.sessions c.make_session.new.self c.self.view_is c.args.s (c.get_mut.follows.lender c.make_key_room.new.self) c.in-Some.locks.now c.make_key_room.new.self c.in-Some.ensures.value (c.get_mut.follows.holds c.make_key_room.new.self) SameHeld c.make_key_room.ensures.same)

pub returns-clause-room : goal.returns-clause-room
returns-clause-room c = subst (HasRoomForKey c.args.entry c.args.key) (sym (through_is c.self.inside.sessions c.make_session.new.self c.self.view_is c.args.s (c.get_mut.follows.lender c.make_key_room.new.self) c.in-Some.locks.now c.make_key_room.new.self c.in-Some.ensures.value (c.get_mut.follows.holds c.make_key_room.new.self))) c.in_ok-make_key_room.ensures.room
