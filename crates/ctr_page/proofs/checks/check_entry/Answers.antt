use Rattle.std.proofs.Common.{◌∙◌, sym}
use Rattle.ctr_page.proofs.Holding.{entry_parts, entry_firsts}
use Rattle.ctr_page.proofs.checks.check_entry.Goals as goal

pub returns-clause-parts : goal.returns-clause-parts
returns-clause-parts c = λ ok. entry_parts c.args.counted c.args.at c.args.page.now c.requires.inside (sym c.check_entry_at.ensures ∙ ok)

pub returns-clause-firsts : goal.returns-clause-firsts
returns-clause-firsts c = λ ok. entry_firsts c.args.counted c.args.at c.args.page.now c.requires.some c.requires.inside (sym c.check_entry_at.ensures ∙ ok)
