use Rattle.ctr_record_laws.proofs.Shown.{taken_shows, format_shows, link_shows, older_shows}
use Rattle.ctr_record_laws.proofs.shows.records_on_pages_show_the_same.Goals as goal

pub returns-clause-taken : goal.returns-clause-taken
returns-clause-taken c = taken_shows

pub returns-clause-format : goal.returns-clause-format
returns-clause-format c = format_shows

pub returns-clause-link : goal.returns-clause-link
returns-clause-link c = link_shows

pub returns-clause-versions : goal.returns-clause-versions
returns-clause-versions c = older_shows
