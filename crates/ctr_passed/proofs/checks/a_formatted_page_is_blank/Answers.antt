use Rattle.std.proofs.Common.{◌∙◌, ap, refl, replicate, ℕ, List}
use Rattle.ctr_actions.specs.page_Making.{header_bytes}
use Rattle.ctr_actions.specs.page_Reading.{put_over}
use Rattle.ctr_actions.specs.ctr_record_effects.States.{pages_in}
use Rattle.ctr_actions.specs.ctr_record_effects.Changing.{format_record}
use Rattle.ctr_actions.proofs.record_effects_Laid.{clear_laid}
use Rattle.ctr_passed.proofs.Apart.{page_there}
use Rattle.ctr_passed.proofs.Apart.{page_apart}
use Rattle.ctr_passed.proofs.checks.a_formatted_page_is_blank.Goals as goal

pub returns-clause-made : goal.returns-clause-made
returns-clause-made c = λ s x p h whole.
    ap (λ (f : ℕ → List ℕ). f p) (clear_laid s (format_record x p h) p (header_bytes h) refl whole)
    ∙ page_there p (put_over 0 (header_bytes h) (replicate 4096 0)) (pages_in s)

pub returns-clause-stays : goal.returns-clause-stays
returns-clause-stays c = λ s r p h off blank. page_apart s r p off ∙ blank
