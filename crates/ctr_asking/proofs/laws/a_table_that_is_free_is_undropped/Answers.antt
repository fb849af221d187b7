use Rattle.std.proofs.Common.{sym, ◌∙◌, ap}
use Rattle.std.specs.Prelude.{is_some}
use Rattle.std.proofs.lemmas.Bool.{false≢true}
use Rattle.ctr_asking.proofs.Only.{only_entry}
use Rattle.ctr_asking.proofs.Passing.{quiet, scene, viewer}
use Rattle.ctr_asking.proofs.Undropped.{granted, unbusy, undropped}
use Rattle.ctr_asking.proofs.laws.a_table_that_is_free_is_undropped.Goals as goal

pub returns-clause-undropped : goal.returns-clause-undropped
returns-clause-undropped c = λ asker site k act statement name e is free found. undropped asker site k act statement name is free e found

pub returns-clause-only : goal.returns-clause-only
returns-clause-only c = λ asker site k act statement name e key is free found.
    let sc = scene asker site k in
    let v = viewer asker site k in
    let busy = unbusy asker site k act statement name is free in
    let laws = c.the_newest_change_of_a_name_is_told.ensures in
    let steady = sym (laws.refused k.low site sc v name k.shown (quiet asker site k statement name busy)) ∙ (granted asker site k act statement name is free).unchanged in
    only_entry asker site k statement name busy
    (λ f x lt told. false≢true (sym (ap is_some steady) ∙ c.what_changed_answers_is_in_the_model.ensures.changed k.low site sc v name f x k.shown lt told))
    e key found
