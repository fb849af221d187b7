use Rattle.std.proofs.Common.{◌+◌, ◌*◌, refl, arith}
use Rattle.ctr_bytes.specs.Fields.{spelled}
use Rattle.ctr_bytes.proofs.FieldLaws.{length-spelled}
use Rattle.ctr_actions.specs.ctr_record_effects.Changing.{link_record, link_older_record, unlink_record, unlink_older_record}
use Rattle.ctr_passed.proofs.Apart.{entry_lies}
use Rattle.ctr_passed.proofs.lying.chains_lie_as_their_actions.Goals as goal

pub returns-clause-links : goal.returns-clause-links
returns-clause-links c = λ s x p e b whole few few_buckets.
    entry_lies s (link_record x p e b) e (179 + 4 * b) (spelled 4 p) refl whole few (omega (arith, few_buckets, length-spelled 4 p))

pub returns-clause-links_older : goal.returns-clause-links_older
returns-clause-links_older c = λ s x p e whole few.
    entry_lies s (link_older_record x p e) e 211 (spelled 4 p) refl whole few (omega (arith, length-spelled 4 p))

pub returns-clause-unlinks : goal.returns-clause-unlinks
returns-clause-unlinks c = λ s p next e b whole few few_buckets.
    entry_lies s (unlink_record p next e b) e (179 + 4 * b) (spelled 4 next) refl whole few (omega (arith, few_buckets, length-spelled 4 next))

pub returns-clause-unlinks_older : goal.returns-clause-unlinks_older
returns-clause-unlinks_older c = λ s p next e whole few.
    entry_lies s (unlink_older_record p next e) e 211 (spelled 4 next) refl whole few (omega (arith, length-spelled 4 next))
