use Rattle.std.proofs.Common.{refl}
use Rattle.ctr_record_effects.specs.Changing.{link_record, link_older_record}
use Rattle.ctr_record_effects.proofs.Chains.{first_of_bucket, first_of_versions}
use Rattle.ctr_record_effects.proofs.pages.a_link_changes_its_chain.Goals as goal

pub returns-clause-bucket : goal.returns-clause-bucket
returns-clause-bucket c = λ s x p e b whole few few_buckets small used fit. first_of_bucket s (link_record x p e b) e p whole few small used fit b few_buckets refl

pub returns-clause-versions : goal.returns-clause-versions
returns-clause-versions c = λ s x p e whole few small used fit. first_of_versions s (link_older_record x p e) e p whole few small used fit refl
