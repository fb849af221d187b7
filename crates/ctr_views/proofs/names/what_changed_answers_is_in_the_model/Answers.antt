use Rattle.std.proofs.Common.{◌∙◌, ap}
use Rattle.std.specs.Prelude.{is_some}
use Rattle.ctr_views.proofs.Answered.{schema_settled, schema_unchanged}
use Rattle.ctr_views.proofs.Looking.{session_shown}
use Rattle.ctr_views.proofs.LastChange.{none_is_told, told_at_most}
use Rattle.ctr_views.proofs.names.what_changed_answers_is_in_the_model.Goals as goal

pub returns-clause-changed : goal.returns-clause-changed
returns-clause-changed c = λ low site scene v name e x shown lt is. (told_at_most low site scene shown v name e x lt is).0

pub returns-clause-steady : goal.returns-clause-steady
returns-clause-steady c = λ low site scene v name shown none. none_is_told low site scene shown v name none

pub returns-clause-refused : goal.returns-clause-refused
returns-clause-refused c = λ low site scene v name e x shown lt is all.
    ap is_some (schema_settled scene.state v.t name (session_shown low site scene shown v).to shown.paged.shows.answered all)
    ∙ (told_at_most low site scene shown v name e x lt is).0

pub returns-clause-unrefused : goal.returns-clause-unrefused
returns-clause-unrefused c = λ low site scene v name shown none. schema_unchanged scene.state v.t name (none_is_told low site scene shown v name none)
