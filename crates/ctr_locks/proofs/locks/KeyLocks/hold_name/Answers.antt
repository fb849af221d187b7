use Rattle.std.proofs.Common.{Some, subst}
use Rattle.ctr_locks.specs.Held.{HoldsName, HasRoomForName}
use Rattle.ctr_locks.proofs.Sessions.{by_is, no_name_room, through_session, holds_one, kept_through}
use Rattle.ctr_locks.proofs.locks.KeyLocks.hold_name.Goals as goal

pub returns-in_default-get_mut-clause-holds : goal.returns-in_default-get_mut-clause-holds
returns-in_default-get_mut-clause-holds c = no_name_room c.self.inside.sessions c.args.self.now c.self.view_is c.args.s c.args.name.now c.in_default-get_mut.ensures.value c.requires

pub hold_name-requires : goal.hold_name-requires
hold_name-requires c = subst (HasRoomForName c.args.name.now) (by_is c.self.inside.sessions c.args.self.now c.self.view_is c.args.s (Some c.in-Some-get_mut.locks.now) c.in-Some-get_mut.ensures.value) c.requires

pub invariant_of-self-2 : goal.invariant_of-self-2
invariant_of-self-2 c = kept_through c.self.inside.sessions c.args.self.now c.self.view_is c.args.s c.self.invariant.1 (c.get_mut.follows.lender c.hold_name.new.self) c.in-Some-get_mut.locks.now c.hold_name.new.self c.in-Some-get_mut.ensures.value (c.get_mut.follows.holds c.hold_name.new.self) (HoldsName c.args.name.now) (holds_one c.args.name.now) c.hold_name.ensures

pub returns-clause-holds : goal.returns-clause-holds
returns-clause-holds c = through_session c.self.inside.sessions c.args.self.now c.self.view_is c.args.s (c.get_mut.follows.lender c.hold_name.new.self) c.in-Some-get_mut.locks.now c.hold_name.new.self c.in-Some-get_mut.ensures.value (c.get_mut.follows.holds c.hold_name.new.self) (HoldsName c.args.name.now) c.hold_name.ensures
