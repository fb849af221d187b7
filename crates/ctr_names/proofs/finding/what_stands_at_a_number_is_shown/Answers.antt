use Rattle.std.proofs.Common.{◌∙◌, ap}
use Rattle.ctr_record_laws.specs.versions_Chains.{value_seen, by}
use Rattle.ctr_record_laws.specs.area_Images.{is_committed_in}
use Rattle.ctr_names.proofs.Names.{names_here}
use Rattle.ctr_names.proofs.Ranked.{found_shows, none_shows}
use Rattle.ctr_names.proofs.finding.what_stands_at_a_number_is_shown.Goals as goal

pub returns-clause-found : goal.returns-clause-found
returns-clause-found c = λ low tables area number j name f agree names from found. ap (value_seen (by number j)) (names_here (is_committed_in tables) area name)
    ∙ found_shows low tables area number agree names j from name f found.0 found.1 found.2

pub returns-clause-none : goal.returns-clause-none
returns-clause-none c = λ low tables area number j name agree names from none. ap (value_seen (by number j)) (names_here (is_committed_in tables) area name)
    ∙ none_shows low tables area number agree names j from name none
