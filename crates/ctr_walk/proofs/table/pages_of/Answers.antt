use Rattle.std.proofs.Common.{◌≡◌, ◌∙◌, ◌+◌, ◌/◌, ℕ, ◌<◌, sym, ap, subst}
use Rattle.std.specs.Prelude.{IfOk}
use Rattle.ctr_record_effects.specs.page_Damage.{chain_entry}
use Rattle.ctr_record_effects.specs.ctr_redo.States.{page_limit}
use Rattle.ctr_record_effects.specs.States.{pages_in}
use Rattle.ctr_walk.specs.Damage.{searched, EndsOnPage}
use Rattle.ctr_walk.specs.Tables.{ChainSaid}
use Rattle.ctr_walk.proofs.Limits.{catalog_in_limit}
use Rattle.ctr_walk.proofs.Said.{entry_few}
use Rattle.ctr_walk.proofs.Searches.{ends_there}
use Rattle.ctr_walk.proofs.table.pages_of.Goals as goal

pub returns-clause-said : goal.returns-clause-said
returns-clause-said g c = λ told sound.
    let chain = c.args.chain in
    let at = c.catalog_page-at.result in
    let there : at ≡ 1 + chain_entry chain / 16 = c.catalog_page-at.ensures ∙ ap (λ e. 1 + e / 16) c.entry_of.ensures in
    let limit = subst (λ (p : ℕ). p < page_limit) (sym there) (catalog_in_limit (chain_entry chain) (entry_few chain c.requires.there)) in
    subst (λ (p : ℕ). IfOk (searched c.found_on.result) (EndsOnPage p (ChainSaid c.args.counted chain (pages_in c.args.store.now.now p)))) there
    (ends_there at (ChainSaid c.args.counted chain) c.pages_said.result c.found_on.result _ _ c.found_on.ensures (c.in_ok-page.ensures.shown told sound limit) c.pages_said.ensures.said)
