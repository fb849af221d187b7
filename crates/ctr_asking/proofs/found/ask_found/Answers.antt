use Rattle.std.proofs.Common.{◌≡◌, ◌<◌, ℕ, ℤ, None, Option, ◌++◌, sym, subst}
use Rattle.std.specs.Prelude.{IfOk, IfSome}
use Rattle.ctr_model.specs.Database.{table_at}
use Rattle.ctr_model.specs.State.{view}
use Rattle.ctr_model.specs.Refusals.{first_of, key_refusals, name_refusals, presence_refusals, value_refusals}
use Rattle.ctr_wishes.specs.actions_Sites.{site_of}
use Rattle.ctr_asking.specs.declared.asker.Answer.{Answer}
use Rattle.ctr_asking.specs.declared.asker.Answer.TheVariants.{Free}
use Rattle.ctr_asking.specs.Asking.{FindsFor, AnswersEntry, refusal_told}
use Rattle.ctr_asking.specs.Causes.{presence_refused}
use Rattle.ctr_asking.proofs.Firsts.{parts_none}
use Rattle.ctr_asking.proofs.Presence.{nothing_else}
use Rattle.ctr_asking.proofs.Reading.{unread_answered}
use Rattle.ctr_asking.proofs.found.ask_found.Goals as goal

pub ask_table-requires-clause-there : goal.ask_table-requires-clause-there
ask_table-requires-clause-there g c = subst (λ (o : Option ℕ). IfSome o (λ e. e < 32)) c.in-Some.is c.requires.there

pub returns-in-None-clause-of : goal.returns-in-None-clause-of
returns-in-None-clause-of g c = sym c.in-None.is

pub returns-in-Some-clause-of : goal.returns-in-Some-clause-of
returns-in-Some-clause-of g c = subst (λ (o : Option ℕ). IfOk c.ask_table.result (AnswersEntry o)) (sym c.in-Some.is) c.ask_table.ensures.of

pub returns-in-None-clause-model : goal.returns-in-None-clause-model
returns-in-None-clause-model g c = λ told sound k name finds clear.
    let asker = c.args.asker.now in
    let statement = c.args.statement.now in
    let table = table_at (view k.state k.t) name in
    let there = c.what_tells_of_a_name_is_the_models.ensures.there asker (site_of c.args.store.now.now) k statement name c.args.found finds in
    let same = subst (λ (o : Option ℕ). presence_refused statement o ≡ presence_refusals statement table) c.in-None.is there in
    nothing_else k.state asker.s k.t c.args.act.now statement name table same (sym (parts_none (presence_refusals statement table) (name_refusals k.state asker.s k.t statement name) clear).0)

pub returns-in-Some-clause-model : goal.returns-in-Some-clause-model
returns-in-Some-clause-model g c = λ told sound k name finds clear.
    let asker = c.args.asker.now in
    let site = site_of c.args.store.now.now in
    let statement = c.args.statement.now in
    let table = table_at (view k.state k.t) name in
    subst (λ (o : Option ℤ). IfOk c.ask_table.result (λ a. refusal_told a ≡ first_of (value_refusals statement table ++ key_refusals k.state asker.s k.t name o))) c.key_locked-key.ensures
    (c.ask_table.ensures.model told sound k name (record {
      finds = subst (λ (o : Option ℕ). FindsFor site k.txn name o) c.in-Some.is finds;
      free = (parts_none (presence_refusals statement table) (name_refusals k.state asker.s k.t statement name) clear).1;
    }))

pub returns-in-None-clause-leaves : goal.returns-in-None-clause-leaves
returns-in-None-clause-leaves g c = λ a one. unread_answered g.O.Origin.first g.D.Disk Answer (Free None) a c.args.store.now one
