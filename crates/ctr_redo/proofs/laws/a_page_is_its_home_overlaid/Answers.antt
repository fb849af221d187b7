use Rattle.std.proofs.Common.{◌∙◌}
use Rattle.ctr_redo.proofs.StateLaws.{page_is, as_said}
use Rattle.ctr_redo.proofs.laws.a_page_is_its_home_overlaid.Goals as goal

pub returns : goal.returns
returns c p i inside = page_is p i inside ∙ as_said p i.first i.records (i.homes p)
