use Rattle.ctr_catalog.proofs.Lowest.{lowest_free}
use Rattle.ctr_catalog.proofs.store.a_free_entry_is_the_lowest.Goals as goal

pub returns : goal.returns
returns c = λ pages counted found ends. lowest_free pages counted found ends
