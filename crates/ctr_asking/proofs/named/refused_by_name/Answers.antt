use Rattle.std.proofs.Common.{ℕ, Some, Option, sym, ◌∙◌, ap}
use Rattle.std.specs.Option.{option_map}
use Rattle.ctr_types.specs.declared.tape.Refusal.{Refusal}
use Rattle.ctr_types.specs.declared.tape.Refusal.TheVariants as refusal
use Rattle.ctr_snap.specs.Seeing.{SnapshotTaken}
use Rattle.ctr_model.specs.Database.{table_at}
use Rattle.ctr_model.specs.State.{view}
use Rattle.ctr_model.specs.Refusals.{busy_by, first_of, name_refusals, presence_refusals, schema_changed_by}
use Rattle.ctr_versions.proofs.Keys.{some_is}
use Rattle.ctr_wishes.specs.actions_Sites.{site_of}
use Rattle.ctr_txn.specs.Held.{TxnHeld}
use Rattle.ctr_asking.specs.Causes.{last_change}
use Rattle.ctr_asking.proofs.Firsts.{found_first, passed_first, first_of_two, second_of_two}
use Rattle.ctr_asking.proofs.Reading.{behind_answered, behind_failed, unread_answered}
use Rattle.ctr_asking.proofs.named.refused_by_name.Goals as goal

pub returns-in-Some-clause-model : goal.returns-in-Some-clause-model
returns-in-Some-clause-model g c = λ told sound k finds.
    let asker = c.args.asker.now in
    let statement = c.args.statement.now in
    let name = c.args.name.now in
    let there = c.what_tells_of_a_name_is_the_models.ensures.there asker (site_of c.args.store.now.now) k statement name c.args.found finds in
    found_first (presence_refusals statement (table_at (view k.state k.t) name)) (name_refusals k.state asker.s k.t statement name) c.in-Some.why (c.in-Some.ensures ∙ ap first_of there)

pub returns-in-Some-busy-clause-model : goal.returns-in-Some-busy-clause-model
returns-in-Some-busy-clause-model g c = λ told sound k finds.
    let asker = c.args.asker.now in
    let site = site_of c.args.store.now.now in
    let statement = c.args.statement.now in
    let name = c.args.name.now in
    let laws = c.what_tells_of_a_name_is_the_models.ensures in
    let there = laws.there asker site k statement name c.args.found finds in
    let busy = laws.busy asker site k statement name c.stands_in_order.ensures in
    first_of_two (λ n. refusal.TableBusy n) (λ n. refusal.SchemaChanged n) (busy_by k.state asker.s statement name) (schema_changed_by k.state k.t name) c.in-Some-busy.by (c.in-Some-busy.ensures ∙ busy)
    ∙ passed_first (presence_refusals statement (table_at (view k.state k.t) name)) (name_refusals k.state asker.s k.t statement name) (c.in_default.ensures ∙ ap first_of there)

pub returns-clause-model : goal.returns-clause-model
returns-clause-model g c = λ told sound k finds.
    let asker = c.args.asker.now in
    let site = site_of c.args.store.now.now in
    let statement = c.args.statement.now in
    let name = c.args.name.now in
    let commits = asker.txns.now.numbers.commits in
    let laws = c.what_tells_of_a_name_is_the_models.ensures in
    let there = laws.there asker site k statement name c.args.found finds in
    let free = c.in_default-busy.ensures ∙ laws.busy asker site k statement name c.stands_in_order.ensures in
    let snapshot = ap (λ (t : TxnHeld). t.session.snapshot) (c.txn.view_is ∙ some_is c.args.txn.now k.txn (sym c.requires.in_it ∙ k.in_it)) in
    let last = c.in-Ok.ensures.tells told sound ∙ ap (λ (t : SnapshotTaken). last_change commits site t name 32) snapshot ∙ laws.changed asker site k statement name (sym free) in
    c.name_refusal.ensures ∙ ap (option_map (λ n. refusal.SchemaChanged n)) last
    ∙ second_of_two (λ n. refusal.TableBusy n) (λ n. refusal.SchemaChanged n) (busy_by k.state asker.s statement name) (schema_changed_by k.state k.t name) free
    ∙ passed_first (presence_refusals statement (table_at (view k.state k.t) name)) (name_refusals k.state asker.s k.t statement name) (c.in_default.ensures ∙ ap first_of there)

pub returns-in-Some-clause-leaves : goal.returns-in-Some-clause-leaves
returns-in-Some-clause-leaves g c = λ a one. unread_answered g.O.Origin.first g.D.Disk (Option Refusal) (Some c.in-Some.why) a c.args.store.now one

pub returns-in-Some-busy-clause-leaves : goal.returns-in-Some-busy-clause-leaves
returns-in-Some-busy-clause-leaves g c = λ a one. unread_answered g.O.Origin.first g.D.Disk (Option Refusal) (Some (refusal.TableBusy c.in-Some-busy.by)) a c.args.store.now one

pub returns-clause-leaves : goal.returns-clause-leaves
returns-clause-leaves g c = λ a one. behind_answered g.O.Origin.first g.D.Disk (Option ℕ) (Option Refusal) c.in-Ok.last c.name_refusal.result a c.args.store.now c.last_change.new.store one c.in-Ok.ensures.leaves

pub returns-in-Err-clause-leaves : goal.returns-in-Err-clause-leaves
returns-in-Err-clause-leaves g c = λ a one. behind_failed g.O.Origin.first g.D.Disk (Option ℕ) (Option Refusal) c.in-Err.fault a c.args.store.now c.last_change.new.store one c.in-Err.ensures.leaves
