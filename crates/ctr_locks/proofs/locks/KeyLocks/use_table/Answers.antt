use Rattle.std.proofs.Common.{Some, subst}
use Rattle.ctr_locks.specs.Held.{UsesName, HasRoomForName}
use Rattle.ctr_locks.proofs.Sessions.{by_is, no_name_room, through_session, uses_one, kept_through}
use Rattle.ctr_locks.proofs.locks.KeyLocks.use_table.Goals as goal

pub returns-in_default-get_mut-clause-uses : goal.returns-in_default-get_mut-clause-uses
returns-in_default-get_mut-clause-uses c = no_name_room c.self.inside.sessions c.args.self.now c.self.view_is c.args.s c.args.name.now c.in_default-get_mut.ensures.value c.requires

pub use_name-requires : goal.use_name-requires
use_name-requires c = subst (HasRoomForName c.args.name.now) (by_is c.self.inside.sessions c.args.self.now c.self.view_is c.args.s (Some c.in-Some-get_mut.locks.now) c.in-Some-get_mut.ensures.value) c.requires

pub invariant_of-self-2 : goal.invariant_of-self-2
invariant_of-self-2 c = kept_through c.self.inside.sessions c.args.self.now c.self.view_is c.args.s c.self.invariant.1 (c.get_mut.follows.lender c.use_name.new.self) c.in-Some-get_mut.locks.now c.use_name.new.self c.in-Some-get_mut.ensures.value (c.get_mut.follows.holds c.use_name.new.self) (UsesName c.args.name.now) (uses_one c.args.name.now) c.use_name.ensures

pub returns-clause-uses : goal.returns-clause-uses
returns-clause-uses c = through_session c.self.inside.sessions c.args.self.now c.self.view_is c.args.s (c.get_mut.follows.lender c.use_name.new.self) c.in-Some-get_mut.locks.now c.use_name.new.self c.in-Some-get_mut.ensures.value (c.get_mut.follows.holds c.use_name.new.self) (UsesName c.args.name.now) c.use_name.ensures
