use Rattle.std.proofs.Common.{sym, ◌∙◌, ap, subst}
use Rattle.std.specs.Prelude.{not}
use Rattle.ctr_locks.specs.Held.{SameHeld, HasEntry}
use Rattle.ctr_locks.proofs.Maps.{uncopied, copied}
use Rattle.ctr_locks.proofs.Looks.{entry_is, entry_put}
use Rattle.ctr_locks.proofs.session.SessionLocks.make_entry.Goals.{in-Some-1, in-None-1}
use Rattle.ctr_locks.proofs.session.SessionLocks.make_entry.Goals as goal

pub returns-in_ok-insert-clause-same : goal.returns-in_ok-insert-clause-same
returns-in_ok-insert-clause-same c =
    let put = (entry_put c.self.inside.entries c.self.inside.names c.args.self.now c.self.view_is c.args.entry c.insert.new.self c.new.result c.new.ensures (sym (uncopied c.get.result (c.is_none.ensures ∙ ap not c.if-is_none.true)) ∙ c.get.ensures.value) c.in_ok-insert.ensures.updates).0 in
    elim c.match-branch-2.branch [
      | in-Some-1 w ↦ subst (SameHeld c.args.self.now) (sym w.self-is) put
      | in-None-1 w ↦ subst (SameHeld c.args.self.now) (sym w.self-is) put
    ]

pub returns-in_ok-insert-clause-room : goal.returns-in_ok-insert-clause-room
returns-in_ok-insert-clause-room c =
    let put = (entry_put c.self.inside.entries c.self.inside.names c.args.self.now c.self.view_is c.args.entry c.insert.new.self c.new.result c.new.ensures (sym (uncopied c.get.result (c.is_none.ensures ∙ ap not c.if-is_none.true)) ∙ c.get.ensures.value) c.in_ok-insert.ensures.updates).1 in
    elim c.match-branch-2.branch [
      | in-Some-1 w ↦ subst (HasEntry c.args.entry) (sym w.self-is) put
      | in-None-1 w ↦ subst (HasEntry c.args.entry) (sym w.self-is) put
    ]

pub returns-else-is_none-clause-room : goal.returns-else-is_none-clause-room
returns-else-is_none-clause-room c = entry_is c.self.inside.entries c.self.inside.names c.args.self.now c.self.view_is c.args.entry _ c.get.ensures.value ∙ copied c.get.result (c.is_none.ensures ∙ ap not c.if-is_none.false)
