use Rattle.std.proofs.Common.{◌≡◌, ℕ, List, Option, ◌∙◌, subst}
use Rattle.std.specs.Prelude.{IfOk, option_and_then}
use Rattle.ctr_model.specs.Refusals.{first_of, table_refusals}
use Rattle.ctr_versions.proofs.Keys.{some_is}
use Rattle.ctr_wishes.specs.actions_Sites.{site_of}
use Rattle.ctr_asking.specs.Asking.{FindsTable, refusal_told}
use Rattle.ctr_asking.proofs.asking.ask.Goals as goal

pub returns-clause-model : goal.returns-clause-model
returns-clause-model g c = λ told sound k.
    let asker = c.args.asker.now in
    let a = c.args.act.now in
    let statement = c.args.statement.now in
    subst (λ (o : Option (List ℕ)). IfOk c.ask_named.result (λ answer. refusal_told answer ≡ option_and_then (λ name. first_of (table_refusals k.state asker.s k.t a statement name)) o)) c.in-Some.ensures
    (c.ask_named.ensures.model told sound k)

pub returns-clause-found : goal.returns-clause-found
returns-clause-found g c = λ name told sound k named.
    let same = some_is _ name (c.in-Some.ensures ∙ named) in
    subst (λ (n : List ℕ). IfOk c.ask_named.result (FindsTable (site_of c.args.store.now.now) k.txn c.args.statement.now n)) same (c.ask_named.ensures.found told sound k)
