use Rattle.ctr_pvs.proofs.walk_Limits.{below_limit}
use Rattle.ctr_trim.proofs.trimming.lay.Goals as goal

pub log_on_page-requires-clause-there : goal.log_on_page-requires-clause-there
log_on_page-requires-clause-there g c = below_limit c.args.place.page c.args.store.now.now.counted c.requires.counted c.counts_pages.ensures.1
