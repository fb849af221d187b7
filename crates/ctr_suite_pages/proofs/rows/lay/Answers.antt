use Rattle.std.proofs.Common.{rules}
use Rattle.ctr_suite_pages.proofs.rows.lay.Goals as goal

pub lay_slot-requires-clause-slot : goal.lay_slot-requires-clause-slot
lay_slot-requires-clause-slot c = c.slot_of-slot.ensures.fits c.args.width
    c.version_of.ensures.fits (search rules)
