use Rattle.ctr_actions.specs.Actions.{Reclaims}
use Rattle.ctr_actions.proofs.Bare.{bare}
use Rattle.ctr_actions.proofs.cleaning.a_site_with_nothing_to_clean_is_bare.Goals as goal

pub returns-clause-bare : goal.returns-clause-bare
returns-clause-bare c = bare

pub returns-clause-pages : goal.returns-clause-pages
returns-clause-pages c passes s p nothing left = nothing (Reclaims p) tt left
