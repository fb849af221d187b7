use Rattle.std.proofs.Common.{◌≡◌, ℕ, cond, List, Option, Some, None, sym, ◌∙◌}
use Rattle.ctr_types.specs.declared.statement.Statement.{Statement}
use Rattle.ctr_model.specs.Database.{table_at}
use Rattle.ctr_model.specs.State.{has_name, view}
use Rattle.ctr_model.specs.Refusals.{changes_schema, presence_refusals}
use Rattle.ctr_versions.specs.Chains.{changed_since}
use Rattle.ctr_versions.specs.Keys.{schema_writes}
use Rattle.ctr_area.specs.Images.{made_by_entry}
use Rattle.ctr_wishes.specs.actions_Sites.{Site}
use Rattle.ctr_asking.specs.declared.asker.Asker.{Asker}
use Rattle.ctr_asking.specs.Causes.{presence_refused}
use Rattle.ctr_asking.specs.Asking.{Asking, FindsFor}
use Rattle.ctr_asking.proofs.Passing.{scene, viewer, firm, quiet}
use Rattle.ctr_asking.proofs.Last.{last_is_the_models}
use Rattle.ctr_asking.proofs.Tables.{there_same, none_same, none_found}
use Rattle.ctr_asking.proofs.laws.what_tells_of_a_name_is_the_models.Goals as goal

pub returns-clause-there : goal.returns-clause-there
returns-clause-there c = λ asker site k statement name found finds. by_found asker site k statement name found finds
  where
    by_found : (asker : Asker) (site : Site) (k : Asking asker site) (statement : Statement) (name : List ℕ) (found : Option ℕ) → FindsFor site k.txn name found
        → presence_refused statement found ≡ presence_refusals statement (table_at (view k.state k.t) name)
    by_found asker site k statement name None finds =
        none_same statement (table_at (view k.state k.t) name)
        (c.what_find_answers_is_in_the_view.ensures.none k.low site (scene asker site k) (viewer asker site k) name k.shown (firm asker site k) finds)
    by_found asker site k statement name (Some e) finds =
        there_same statement e (made_by_entry (e, site.area.title e)).schema (table_at (view k.state k.t) name)
        (c.what_find_answers_is_in_the_view.ensures.found k.low site (scene asker site k) (viewer asker site k) name e k.shown (firm asker site k) finds).1

pub returns-clause-found : goal.returns-clause-found
returns-clause-found c = λ asker site k name e finds.
    (c.what_find_answers_is_in_the_view.ensures.found k.low site (scene asker site k) (viewer asker site k) name e k.shown (firm asker site k) finds).0

pub returns-clause-none : goal.returns-clause-none
returns-clause-none c = λ asker site k name finds. none_found site k.txn name finds

pub returns-clause-busy : goal.returns-clause-busy
returns-clause-busy c = λ asker site k statement name ordered.
    let law = c.key_locks_are_the_models.ensures.busy (λ e. (site.area.title e).name) asker.s (changes_schema statement) name asker.locks.now k.state ordered k.sorted k.locks in
    (λ i. cond (has_name name (k.stuck i)) (Some 0) (law i))

pub returns-clause-changed : goal.returns-clause-changed
returns-clause-changed c = λ asker site k statement name unbusy.
    let sc = scene asker site k in
    let v = viewer asker site k in
    let laws = c.the_newest_change_of_a_name_is_told.ensures in
    last_is_the_models asker.txns.now.numbers.commits site k.txn.session.snapshot name k.t.snapshot (changed_since k.t.snapshot (schema_writes name k.state.asked))
    (λ n is. laws.newest k.low site sc v name n k.shown is)
    (λ e x lt is. laws.most k.low site sc v name e x k.shown lt is)
    (λ e x lt is. c.what_changed_answers_is_in_the_model.ensures.changed k.low site sc v name e x k.shown lt is)
    ∙ sym (laws.refused k.low site sc v name k.shown (quiet asker site k statement name unbusy))
