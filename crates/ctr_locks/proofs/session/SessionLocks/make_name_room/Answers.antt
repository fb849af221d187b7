use Rattle.std.proofs.Common.{sym, ◌∙◌, ap}
use Rattle.std.specs.Prelude.{not}
use Rattle.ctr_locks.proofs.Maps.{uncopied, copied}
use Rattle.ctr_locks.proofs.Looks.{name_is, name_put}
use Rattle.ctr_locks.proofs.session.SessionLocks.make_name_room.Goals as goal

pub returns-in_ok-insert-clause-same : goal.returns-in_ok-insert-clause-same
returns-in_ok-insert-clause-same c = (name_put c.self.inside.entries c.self.inside.names c.args.self.now c.self.view_is c.args.name.now c.insert.new.self c.in_ok-copy.field-0 c.in_ok-copy.ensures (sym (uncopied c.get.result (c.is_none.ensures ∙ ap not c.if-is_none.true)) ∙ c.get.ensures.value) c.in_ok-insert.ensures.updates).0

pub returns-in_ok-insert-clause-room : goal.returns-in_ok-insert-clause-room
returns-in_ok-insert-clause-room c = (name_put c.self.inside.entries c.self.inside.names c.args.self.now c.self.view_is c.args.name.now c.insert.new.self c.in_ok-copy.field-0 c.in_ok-copy.ensures (sym (uncopied c.get.result (c.is_none.ensures ∙ ap not c.if-is_none.true)) ∙ c.get.ensures.value) c.in_ok-insert.ensures.updates).1

pub returns-else-is_none-clause-room : goal.returns-else-is_none-clause-room
returns-else-is_none-clause-room c = name_is c.self.inside.entries c.self.inside.names c.args.self.now c.self.view_is c.args.name.now _ c.get.ensures.value ∙ copied c.get.result (c.is_none.ensures ∙ ap not c.if-is_none.false)
