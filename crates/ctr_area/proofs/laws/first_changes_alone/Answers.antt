use Rattle.ctr_area.proofs.InEntry.{bucket_written, versions_written}
use Rattle.ctr_area.proofs.laws.first_changes_alone.Goals as goal

pub returns-clause-bucket : goal.returns-clause-bucket
returns-clause-bucket c = λ pages e b p few whole few_buckets small used fit. bucket_written pages e few whole b p few_buckets small used fit

pub returns-clause-versions : goal.returns-clause-versions
returns-clause-versions c = λ pages e p few whole small used fit. versions_written pages e few whole p small used fit
