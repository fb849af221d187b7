use Rattle.ctr_suite_pages.proofs.writes.write_over.Goals as goal

pub keep_first-requires-clause-fits : goal.keep_first-requires-clause-fits
keep_first-requires-clause-fits c = c.in-Some.ensures.fits c.args.row.width c.read_slot-slot.ensures.fits
