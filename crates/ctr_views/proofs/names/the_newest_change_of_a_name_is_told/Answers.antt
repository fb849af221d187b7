use Rattle.ctr_views.proofs.Answered.{schema_settled}
use Rattle.ctr_views.proofs.Looking.{session_shown}
use Rattle.ctr_views.proofs.LastChange.{newest_is_told, told_at_most}
use Rattle.ctr_views.proofs.names.the_newest_change_of_a_name_is_told.Goals as goal

pub returns-clause-newest : goal.returns-clause-newest
returns-clause-newest c = λ low site scene v name k shown is. newest_is_told low site scene shown v name k is

pub returns-clause-most : goal.returns-clause-most
returns-clause-most c = λ low site scene v name e x shown lt is. let its = told_at_most low site scene shown v name e x lt is in (its.1, its.2, its.3)

pub returns-clause-refused : goal.returns-clause-refused
returns-clause-refused c = λ low site scene v name shown all. schema_settled scene.state v.t name (session_shown low site scene shown v).to shown.paged.shows.answered all
