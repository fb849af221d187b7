use Rattle.ctr_locks.proofs.One.{same_both}
use Rattle.ctr_locks.proofs.Looks.{inside, no_entry, through_same, through_room}
use Rattle.ctr_locks.proofs.session.SessionLocks.make_key_room.Goals as goal

pub returns-in_default-clause-room : goal.returns-in_default-clause-room
returns-in_default-clause-room c = no_entry c.self.inside.entries c.self.inside.names c.make_entry.new.self c.self.view_is c.args.entry c.in_default.ensures.value c.in_ok-make_entry.ensures.room

pub returns-in_err-make_room-clause-same : goal.returns-in_err-make_room-clause-same
returns-in_err-make_room-clause-same c = same_both c.args.self.now c.make_entry.new.self (inside (c.get_mut.follows.lender c.make_room.new.self) c.self.inside.names) c.make_entry.ensures.same
    (through_same c.self.inside.entries c.self.inside.names c.make_entry.new.self c.self.view_is c.args.entry (c.get_mut.follows.lender c.make_room.new.self) c.in-Some.keys.now c.make_room.new.self c.in-Some.ensures.value (c.get_mut.follows.holds c.make_room.new.self) c.make_room.ensures.same)

pub returns-clause-same : goal.returns-clause-same
returns-clause-same c = same_both c.args.self.now c.make_entry.new.self (inside (c.get_mut.follows.lender c.make_room.new.self) c.self.inside.names) c.make_entry.ensures.same
    (through_same c.self.inside.entries c.self.inside.names c.make_entry.new.self c.self.view_is c.args.entry (c.get_mut.follows.lender c.make_room.new.self) c.in-Some.keys.now c.make_room.new.self c.in-Some.ensures.value (c.get_mut.follows.holds c.make_room.new.self) c.make_room.ensures.same)

pub returns-clause-room : goal.returns-clause-room
returns-clause-room c = through_room c.self.inside.entries c.self.inside.names c.make_entry.new.self c.self.view_is c.args.entry (c.get_mut.follows.lender c.make_room.new.self) c.in-Some.keys.now c.make_room.new.self c.in-Some.ensures.value (c.get_mut.follows.holds c.make_room.new.self) c.args.key c.in_ok-make_room.ensures.room
