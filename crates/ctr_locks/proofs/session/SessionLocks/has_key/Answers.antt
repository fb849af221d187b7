use Rattle.std.proofs.Common.{Some, None, sym, ◌∙◌, ap}
use Rattle.ctr_locks.specs.Held.{is_key_locked}
use Rattle.ctr_locks.proofs.Looks.{keys_are}
use Rattle.ctr_locks.proofs.session.SessionLocks.has_key.Goals as goal

pub returns-in-Some : goal.returns-in-Some
returns-in-Some c = c.is_locked.ensures ∙ sym (ap (is_key_locked c.args.key) (keys_are c.self.inside.entries c.self.inside.names c.args.self.now c.self.view_is c.args.entry (Some c.in-Some.keys.now) c.in-Some.ensures.value))

pub returns-in-None : goal.returns-in-None
returns-in-None c = sym (ap (is_key_locked c.args.key) (keys_are c.self.inside.entries c.self.inside.names c.args.self.now c.self.view_is c.args.entry None c.in-None.ensures.value))
