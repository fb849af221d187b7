use Rattle.ctr_suite_pages.proofs.versions.lay.Goals as goal

pub lay_slot-requires-clause-slot : goal.lay_slot-requires-clause-slot
lay_slot-requires-clause-slot c = c.slot_of-slot.ensures.fits c.args.row.width
    c.version_of-head.ensures.fits c.previous_of-previous.ensures
