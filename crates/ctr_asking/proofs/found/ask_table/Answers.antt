use Rattle.std.proofs.Common.{◌≡◌, ℕ, Option, [], ◌∷◌, sym, ◌∙◌, ap, subst}
use Rattle.std.specs.Prelude.{IfOk, IfErr}
use Rattle.std.specs.Option.{option_map}
use Rattle.ctr_types.specs.declared.tape.Refusal.TheVariants as refusal
use Rattle.ctr_disk.specs.declared.fault.StoreFault.TheVariants.{Fault}
use Rattle.ctr_redo.specs.States.{State}
use Rattle.ctr_record_effects.specs.Standing.{IsDatabaseState}
use Rattle.ctr_model.specs.Database.{table_at}
use Rattle.ctr_model.specs.State.{view}
use Rattle.ctr_model.specs.Refusals.{first_of, key_refusals, value_refusals}
use Rattle.ctr_wishes.specs.actions_Sites.{site_of}
use Rattle.ctr_asking.specs.declared.asker.Answer.{Answer}
use Rattle.ctr_asking.specs.declared.asker.Answer.TheVariants.{Refused}
use Rattle.ctr_asking.specs.Asking.{Asking, HasPassed, refusal_told}
use Rattle.ctr_asking.proofs.Firsts.{found_first}
use Rattle.ctr_asking.proofs.Reading.{behind_answered, behind_failed, read_so_far}
use Rattle.ctr_asking.proofs.Going.{by_first}
use Rattle.ctr_asking.proofs.found.ask_table.Goals as goal

pub returns-in-Some-clause-model : goal.returns-in-Some-clause-model
returns-in-Some-clause-model g c = λ told sound k name passed.
    let site = site_of c.args.store.now.now in
    let law = c.what_tells_of_a_row_is_the_models.ensures.values c.args.asker.now site k c.args.statement.now name c.args.entry passed in
    let is = sym c.in-Some.is ∙ c.in-Ok.ensures.tells told sound in
    found_first (value_refusals c.args.statement.now (table_at (view k.state k.t) name)) (key_refusals k.state c.args.asker.now.s k.t name c.args.key) (refusal.BadValue c.in-Some.at)
    (ap (λ o. first_of (option_map (λ n. refusal.BadValue n) o ∷ [])) is ∙ sym (ap first_of law))

pub returns-in-None-clause-model : goal.returns-in-None-clause-model
returns-in-None-clause-model g c = λ told sound k name passed.
    let asker = c.args.asker.now in
    let statement = c.args.statement.now in
    let s = c.args.store.now.now in
    let law = c.what_tells_of_a_row_is_the_models.ensures.values asker (site_of s) k statement name c.args.entry passed in
    let is = sym c.in-None.is ∙ c.in-Ok.ensures.tells told sound in
    let none = ap (λ o. first_of (option_map (λ n. refusal.BadValue n) o ∷ [])) is ∙ sym (ap first_of law) in
    let model = subst (λ (u : State). (k : Asking asker (site_of u)) → HasPassed k statement name c.args.entry → IfOk c.ask_row.result (λ a. refusal_told a ≡ first_of (key_refusals k.state asker.s k.t name c.args.key)))
    (c.in-Ok.ensures.leaves.logs told sound).now (λ k passed. c.ask_row.ensures.model told sound k statement name passed) in
    by_first c.ask_row.result (value_refusals statement (table_at (view k.state k.t) name)) (key_refusals k.state asker.s k.t name c.args.key) none (model k passed)

pub returns-in-None-clause-refused : goal.returns-in-None-clause-refused
returns-in-None-clause-refused g c = λ told sound.
    subst (λ (u : State). IsDatabaseState u → IfErr c.ask_row.result (λ e. e ≡ Fault)) (c.in-Ok.ensures.leaves.logs told sound).now (c.ask_row.ensures.refused told sound)

pub returns-in-Some-clause-leaves : goal.returns-in-Some-clause-leaves
returns-in-Some-clause-leaves g c = λ a one. behind_answered g.O.Origin.first g.D.Disk (Option ℕ) Answer c.in-Ok.bad (Refused (refusal.BadValue c.in-Some.at)) a c.args.store.now c.bad_value_in.new.store one c.in-Ok.ensures.leaves

pub returns-in-None-clause-leaves : goal.returns-in-None-clause-leaves
returns-in-None-clause-leaves g c = λ a one. c.ask_row.ensures.leaves a (read_so_far g.O.Origin.first g.D.Disk (Option ℕ) c.in-Ok.bad a c.args.store.now c.bad_value_in.new.store one c.in-Ok.ensures.leaves)

pub returns-in-Err-clause-leaves : goal.returns-in-Err-clause-leaves
returns-in-Err-clause-leaves g c = λ a one. behind_failed g.O.Origin.first g.D.Disk (Option ℕ) Answer c.in-Err.fault a c.args.store.now c.bad_value_in.new.store one c.in-Err.ensures.leaves
