use Rattle.std.proofs.Common.{◌≡◌, true, Some, subst}
use Rattle.std.specs.Prelude.{is_some}
use Rattle.std.specs.Ordering.{int_cmp}
use Rattle.std.specs.FinMap.Entries.{find}
use Rattle.ctr_locks.proofs.Looks.{no_room, keys_are, through_locked}
use Rattle.ctr_locks.proofs.session.SessionLocks.lock.Goals as goal

pub returns-in_default : goal.returns-in_default
returns-in_default c = no_room c.self.inside.entries c.self.inside.names c.args.self.now c.self.view_is c.args.entry c.args.key c.in_default.ensures.value c.requires

pub lock-requires : goal.lock-requires
lock-requires c = subst (λ keys. is_some (find int_cmp c.args.key keys) ≡ true) (keys_are c.self.inside.entries c.self.inside.names c.args.self.now c.self.view_is c.args.entry (Some c.in-Some.keys.now) c.in-Some.ensures.value) c.requires

pub returns : goal.returns
returns c = through_locked c.self.inside.entries c.self.inside.names c.args.self.now c.self.view_is c.args.entry (c.get_mut.follows.lender c.lock.new.self) c.in-Some.keys.now c.lock.new.self c.in-Some.ensures.value (c.get_mut.follows.holds c.lock.new.self) c.args.key c.lock.ensures
