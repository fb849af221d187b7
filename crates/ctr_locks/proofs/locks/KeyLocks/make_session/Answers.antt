use Rattle.std.proofs.Common.{Some, sym, ◌∙◌, ap, subst}
use Rattle.std.specs.Prelude.{is_some, not}
use Rattle.ctr_locks.specs.Held.{OfSession, SameHeld, IsSessionThere}
use Rattle.ctr_locks.proofs.Maps.{uncopied, copied}
use Rattle.ctr_locks.proofs.Sessions.{session_is, put_same, put_there, same_one, kept_of}
use Rattle.ctr_locks.proofs.locks.KeyLocks.make_session.Goals.{in-Some-1, in-None-1}
use Rattle.ctr_locks.proofs.locks.KeyLocks.make_session.Goals as goal

pub invariant_of-self-in_ok-insert-2 : goal.invariant_of-self-in_ok-insert-2
invariant_of-self-in_ok-insert-2 c = kept_of c.self.inside.sessions c.args.self.now c.self.view_is c.args.s c.self.invariant.1 c.insert.new.self SameHeld same_one (put_same c.self.inside.sessions c.args.self.now c.self.view_is c.args.s c.insert.new.self (Some c.new.result) c.in_ok-insert.ensures.updates (sym (uncopied c.get.result (c.is_none.ensures ∙ ap not c.if-is_none.true)) ∙ c.get.ensures.value) (ap (λ h. Some h) c.new.ensures)) c.insert.ensures.ordered

pub returns-in_ok-insert-clause-same : goal.returns-in_ok-insert-clause-same
returns-in_ok-insert-clause-same c =
    let put = put_same c.self.inside.sessions c.args.self.now c.self.view_is c.args.s c.insert.new.self (Some c.new.result) c.in_ok-insert.ensures.updates (sym (uncopied c.get.result (c.is_none.ensures ∙ ap not c.if-is_none.true)) ∙ c.get.ensures.value) (ap (λ h. Some h) c.new.ensures) in
    elim c.match-branch-2.branch [
      | in-Some-1 w ↦ subst (OfSession c.args.s SameHeld c.args.self.now) (sym w.self-is) put
      | in-None-1 w ↦ subst (OfSession c.args.s SameHeld c.args.self.now) (sym w.self-is) put
    ]

pub returns-in_ok-insert-clause-there : goal.returns-in_ok-insert-clause-there
returns-in_ok-insert-clause-there c =
    let put = put_there c.self.inside.sessions c.args.self.now c.self.view_is c.args.s c.insert.new.self (Some c.new.result) c.in_ok-insert.ensures.updates (ap (λ h. Some h) c.new.ensures) in
    elim c.match-branch-2.branch [
      | in-Some-1 w ↦ subst (IsSessionThere c.args.s) (sym w.self-is) put
      | in-None-1 w ↦ subst (IsSessionThere c.args.s) (sym w.self-is) put
    ]

pub returns-else-is_none-clause-there : goal.returns-else-is_none-clause-there
returns-else-is_none-clause-there c = ap is_some (session_is c.self.inside.sessions c.args.self.now c.self.view_is c.args.s _ c.get.ensures.value) ∙ copied c.get.result (c.is_none.ensures ∙ ap not c.if-is_none.false)
