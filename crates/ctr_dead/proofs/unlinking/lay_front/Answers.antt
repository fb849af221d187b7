use Rattle.std.proofs.Common.{ℕ, ◌<◌, sym, subst}
use Rattle.ctr_walk.specs.redo_States.{page_limit}
use Rattle.ctr_walk.proofs.Limits.{catalog_in_limit}
use Rattle.ctr_dead.proofs.unlinking.lay_front.Goals as goal

pub log_on_page-requires-clause-there : goal.log_on_page-requires-clause-there
log_on_page-requires-clause-there g c = subst (λ (p : ℕ). p < page_limit) (sym c.catalog_page.ensures) (catalog_in_limit c.front_of-entry.result.0 c.front_of-entry.ensures.small.0)
