use Rattle.std.proofs.Common.{◌+◌, ◌*◌, refl, ◌∙◌, arith}
use Rattle.ctr_bytes.specs.Fields.{spelled}
use Rattle.ctr_bytes.proofs.FieldLaws.{length-spelled}
use Rattle.ctr_actions.specs.ctr_redo.States.{step}
use Rattle.ctr_actions.specs.ctr_record_effects.States.{pages_in, area_in}
use Rattle.ctr_actions.specs.ctr_record_effects.Changing.{link_record, link_older_record, unlink_record, unlink_older_record}
use Rattle.ctr_passed.proofs.Apart.{entry_lies}
use Rattle.ctr_passed.proofs.Entries.{first_laid, four_bytes}
use Rattle.ctr_passed.proofs.Blank.{blank_rows, blank_versions}
use Rattle.ctr_passed.proofs.checks.chains_pass_their_checks.Goals as goal

pub returns-clause-links : goal.returns-clause-links
returns-clause-links c = λ s x p e b next sound whole few few_buckets third lt counted blank.
    let r = link_record x p e b in (
      first_laid s r e sound few whole b p (omega (arith, few_buckets)) lt refl,
      blank_rows s.counted (area_in (step r s)) (pages_in (step r s)) e b p next (omega (arith, few)) (omega (arith, few_buckets)) (four_bytes s r e sound few whole next counted) (omega (arith, counted))
          ((entry_lies s r e (179 + 4 * b) (spelled 4 p) refl whole few (omega (arith, few_buckets, length-spelled 4 p))).pages p third ∙ blank),
    )

pub returns-clause-links_older : goal.returns-clause-links_older
returns-clause-links_older c = λ s x p e next sound whole few third lt counted blank.
    let r = link_older_record x p e in (
      first_laid s r e sound few whole 8 p (omega arith) lt refl,
      blank_versions s.counted (area_in (step r s)) (pages_in (step r s)) e p next (omega (arith, few)) (four_bytes s r e sound few whole next counted) (omega (arith, counted))
          ((entry_lies s r e 211 (spelled 4 p) refl whole few (omega (arith, length-spelled 4 p))).pages p third ∙ blank),
    )

pub returns-clause-unlinks : goal.returns-clause-unlinks
returns-clause-unlinks c = λ s p next e b sound whole few few_buckets counted. first_laid s (unlink_record p next e b) e sound few whole b next (omega (arith, few_buckets)) counted refl

pub returns-clause-unlinks_older : goal.returns-clause-unlinks_older
returns-clause-unlinks_older c = λ s p next e sound whole few counted. first_laid s (unlink_older_record p next e) e sound few whole 8 next (omega arith) counted refl
