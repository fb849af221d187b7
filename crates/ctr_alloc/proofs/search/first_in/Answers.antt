use Rattle.ctr_alloc.proofs.BitLaws.{lowest_zero}
use Rattle.ctr_alloc.specs.Free.{marks_in}
use Rattle.ctr_alloc.proofs.search.first_in.Goals as goal

pub returns-clause-zero : goal.returns-clause-zero
returns-clause-zero c = (lowest_zero c.args.at (marks_in c.args.page.now c.args.at) c.marks.result c.trailing_ones.result c.marks.ensures c.trailing_ones.ensures c.requires.some).0

pub returns-clause-first : goal.returns-clause-first
returns-clause-first c = (lowest_zero c.args.at (marks_in c.args.page.now c.args.at) c.marks.result c.trailing_ones.result c.marks.ensures c.trailing_ones.ensures c.requires.some).1
