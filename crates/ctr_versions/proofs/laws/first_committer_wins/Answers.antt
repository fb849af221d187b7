use Rattle.ctr_versions.specs.Xids.{number_of}
use Rattle.ctr_versions.proofs.Conflicts.{schema_conflict, row_conflict}
use Rattle.ctr_versions.proofs.laws.first_committer_wins.Goals as goal

pub returns-clause-schemas : goal.returns-clause-schemas
returns-clause-schemas c low engine state me name shows here past quiet = schema_conflict low (number_of engine.xids) state engine.versions shows.stands me here past shows.answered name quiet

pub returns-clause-rows : goal.returns-clause-rows
returns-clause-rows c low engine state me name made key shows here past uncreated unchanged since quiet = row_conflict low (number_of engine.xids) state engine.versions shows.stands me here past shows.answered name made key uncreated unchanged since quiet
