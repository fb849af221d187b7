use Rattle.std.proofs.Common.{Some, None, sym, ◌∙◌, ap}
use Rattle.std.specs.Prelude.{◌&&◌, ◌||◌}
use Rattle.ctr_locks.specs.declared.held.NameHeld.{NameHeld}
use Rattle.ctr_locks.proofs.Looks.{held_is, held_first, used_next, off_alone, none_kept}
use Rattle.ctr_locks.proofs.session.SessionLocks.keeps_off.Goals as goal

pub returns-then-name : goal.returns-then-name
returns-then-name c = held_first c.in-Some.name.now c.args.schema c.if-name.true ∙ sym (ap (λ (t : NameHeld). t.held || (c.args.schema && t.used)) (held_is c.self.inside.entries c.self.inside.names c.args.self.now c.self.view_is c.args.name.now (Some c.in-Some.name.now) c.in-Some.ensures.value))

pub returns-then-schema : goal.returns-then-schema
returns-then-schema c = used_next c.in-Some.name.now c.args.schema c.if-name.false c.if-schema.true ∙ sym (ap (λ (t : NameHeld). t.held || (c.args.schema && t.used)) (held_is c.self.inside.entries c.self.inside.names c.args.self.now c.self.view_is c.args.name.now (Some c.in-Some.name.now) c.in-Some.ensures.value))

pub returns-else-schema : goal.returns-else-schema
returns-else-schema c = off_alone c.in-Some.name.now c.args.schema c.if-name.false c.if-schema.false ∙ sym (ap (λ (t : NameHeld). t.held || (c.args.schema && t.used)) (held_is c.self.inside.entries c.self.inside.names c.args.self.now c.self.view_is c.args.name.now (Some c.in-Some.name.now) c.in-Some.ensures.value))

pub returns-in-None : goal.returns-in-None
returns-in-None c = none_kept c.args.schema ∙ sym (ap (λ (t : NameHeld). t.held || (c.args.schema && t.used)) (held_is c.self.inside.entries c.self.inside.names c.args.self.now c.self.view_is c.args.name.now None c.in-None.ensures.value))
