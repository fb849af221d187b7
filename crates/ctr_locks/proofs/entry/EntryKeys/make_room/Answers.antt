use Rattle.std.proofs.Common.{false, Some, None, sym, ◌∙◌, ap, subst}
use Rattle.std.specs.Prelude.{is_some, not}
use Rattle.std.specs.Ordering.{int_cmp}
use Rattle.std.specs.FinMap.Entries.{find}
use Rattle.ctr_locks.specs.Held.{SameKeys}
use Rattle.ctr_locks.proofs.Maps.{found, uncopied, copied, updated}
use Rattle.ctr_locks.proofs.One.{key_room}
use Rattle.ctr_locks.proofs.entry.EntryKeys.make_room.Goals as goal

pub returns-in_ok-insert-clause-same : goal.returns-in_ok-insert-clause-same
returns-in_ok-insert-clause-same c =
    subst (λ t. SameKeys t c.insert.new.self.entries) c.self.view_is
    (key_room c.self.inside.keys.entries c.insert.new.self.entries c.args.key (found int_cmp c.self.inside.keys c.args.key None (sym (uncopied c.get.result (c.is_none.ensures ∙ ap not c.if-is_none.true)) ∙ c.get.ensures.value)) (updated int_cmp c.self.inside.keys c.insert.new.self c.args.key (Some false) c.in_ok-insert.ensures.updates))

pub returns-else-is_none-clause-room : goal.returns-else-is_none-clause-room
returns-else-is_none-clause-room c = ap (λ t. is_some (find int_cmp c.args.key t)) (sym c.self.view_is) ∙ ap is_some (found int_cmp c.self.inside.keys c.args.key _ c.get.ensures.value) ∙ copied c.get.result (c.is_none.ensures ∙ ap not c.if-is_none.false)
