use Rattle.std.proofs.Common.{◌≡◌, ℤ, sym, ◌∙◌, ap, subst}
use Rattle.std.specs.Prelude.{drop, is_some}
use Rattle.std.specs.List.{AllByRecursion}
use Rattle.std.proofs.lemmas.Bool.{false≢true}
use Rattle.ctr_model.specs.Database.{table_at}
use Rattle.ctr_model.specs.State.{view}
use Rattle.ctr_model.specs.Refusals.{changes_schema, locked_by, row_changed_by}
use Rattle.ctr_versions.specs.Chains.{IsUnwritten}
use Rattle.ctr_versions.specs.Keys.{row_writes}
use Rattle.ctr_legal.proofs.Cover.{quiet_key}
use Rattle.ctr_names.proofs.Entries.{name_of}
use Rattle.ctr_wishes.specs.ctr_views.Viewing.{newest_in, number_since}
use Rattle.ctr_asking.proofs.Passing.{scene, viewer, firm, idle, quiet, unbusy, unchanged}
use Rattle.ctr_asking.proofs.Only.{only_entry}
use Rattle.ctr_asking.proofs.Rows.{newer_is}
use Rattle.ctr_asking.proofs.Tables.{found_live, values_are}
use Rattle.ctr_asking.specs.Asking.{sees_for}
use Rattle.ctr_asking.proofs.laws.what_tells_of_a_row_is_the_models.Goals as goal

pub returns-clause-values : goal.returns-clause-values
returns-clause-values c = λ asker site k statement name e passed.
    let its = c.what_find_answers_is_in_the_view.ensures.found k.low site (scene asker site k) (viewer asker site k) name e k.shown (firm asker site k) passed.finds in
    values_are statement site.area e (table_at (view k.state k.t) name) (found_live (sees_for site k.txn) name site.area e its.0) its.1

pub returns-clause-locked : goal.returns-clause-locked
returns-clause-locked c = λ asker site k statement name e key passed ordered.
    let sc = scene asker site k in
    let v = viewer asker site k in
    let free = unbusy asker site k statement name passed.free in
    let same = unchanged asker site k statement name passed.free in
    let laws = c.the_newest_change_of_a_name_is_told.ensures in
    let steady = sym (laws.refused k.low site sc v name k.shown (quiet asker site k statement name free)) ∙ same in
    let found = c.what_tells_of_a_name_is_the_models.ensures.found asker site k name e passed.finds in
    let only = only_entry asker site k statement name free
    (λ f x lt is. false≢true (sym (ap is_some steady) ∙ c.what_changed_answers_is_in_the_model.ensures.changed k.low site sc v name f x k.shown lt is))
    e key found in
    c.key_locks_are_the_models.ensures.locked (λ e. (site.area.title e).name) asker.s e key asker.locks.now k.state ordered k.sorted only k.locks
    ∙ ap (λ n. locked_by k.state asker.s n key) (name_of site.area.title name e found.1).1

pub returns-clause-newer : goal.returns-clause-newer
returns-clause-newer c = λ asker site k statement name e key n passed unlocked newer.
    let sc = scene asker site k in
    let v = viewer asker site k in
    let its = firm asker site k in
    let free = unbusy asker site k statement name passed.free in
    let same = unchanged asker site k statement name passed.free in
    let steady = sym (c.the_newest_change_of_a_name_is_told.ensures.refused k.low site sc v name k.shown (quiet asker site k statement name free)) ∙ same in
    let found = c.what_tells_of_a_name_is_the_models.ensures.found asker site k name e passed.finds in
    let settled = (quiet_key k.state asker.s k.t k.is_t k.calm.0 k.kept.pending k.kept.covered (changes_schema statement) name key unlocked (idle asker site k statement name free)).1 in
    let laws = c.what_newest_answers_is_in_the_model.ensures in
    newer_is site sc v e key (row_changed_by k.state k.t name key) k.shown.paged.sound.keys
    (λ at used. laws.told k.low site sc v e at k.shown used)
    (λ at used is. subst (λ (z : ℤ). AllByRecursion IsUnwritten (drop k.state.answered (row_writes name z k.state.asked)) → number_since site v (newest_in site at) ≡ row_changed_by k.state k.t name z) is
    (laws.refused k.low site sc v name e at k.shown its found used steady) settled)
    (λ none. sym (laws.unrefused k.low site sc v name e key k.shown its found none steady settled))
    n newer
