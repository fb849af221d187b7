use Rattle.std.proofs.Common.{Option, sym, ◌∙◌, ap}
use Rattle.ctr_types.specs.declared.tape.Refusal.{Refusal}
use Rattle.ctr_model.specs.Refusals.{first_of, key_refusals}
use Rattle.ctr_asking.specs.declared.asker.Answer.{Answer}
use Rattle.ctr_asking.proofs.Reading.{read_answered, read_failed}
use Rattle.ctr_asking.proofs.found.ask_row.Goals as goal

pub returns-clause-model : goal.returns-clause-model
returns-clause-model g c = λ told sound k statement name passed.
    c.answer.ensures.told ∙ c.in-Ok.ensures.model told sound k statement name passed
    ∙ ap (λ o. first_of (key_refusals k.state c.args.asker.now.s k.t name o)) (sym c.in-Some.is)

pub returns-clause-leaves : goal.returns-clause-leaves
returns-clause-leaves g c = λ a one. read_answered g.O.Origin.first g.D.Disk (Option Refusal) Answer c.in-Ok.why c.answer.result a c.ask_key.new.store (c.in-Ok.ensures.leaves a one)

pub returns-in-Err-clause-leaves : goal.returns-in-Err-clause-leaves
returns-in-Err-clause-leaves g c = λ a one. read_failed g.O.Origin.first g.D.Disk (Option Refusal) Answer c.in-Err.fault a c.ask_key.new.store (c.in-Err.ensures.leaves a one)
