use Rattle.ctr_suite_pages.proofs.writes.put_over.Goals as goal

pub lay_slot-requires-clause-slot : goal.lay_slot-requires-clause-slot
lay_slot-requires-clause-slot c = c.written-slot.ensures.fits c.args.row.width c.requires.way.0 c.requires.slot.0 c.requires.slot.1
    c.requires.way.1 c.version_by.ensures
