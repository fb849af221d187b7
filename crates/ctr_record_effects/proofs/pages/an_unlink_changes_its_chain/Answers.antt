use Rattle.std.proofs.Common.{refl}
use Rattle.ctr_record_effects.specs.Changing.{unlink_record, unlink_older_record}
use Rattle.ctr_record_effects.proofs.Chains.{first_of_bucket, first_of_versions}
use Rattle.ctr_record_effects.proofs.pages.an_unlink_changes_its_chain.Goals as goal

pub returns-clause-bucket : goal.returns-clause-bucket
returns-clause-bucket c = λ s p next e b whole few few_buckets small used fit. first_of_bucket s (unlink_record p next e b) e next whole few small used fit b few_buckets refl

pub returns-clause-versions : goal.returns-clause-versions
returns-clause-versions c = λ s p next e whole few small used fit. first_of_versions s (unlink_older_record p next e) e next whole few small used fit refl
