use Rattle.std.proofs.Common.{◌≡◌, ◌∙◌, ◌+◌, ◌/◌, ℕ, ◌<◌, sym, ap, subst}
use Rattle.std.specs.Prelude.{IfOk}
use Rattle.ctr_record_effects.specs.page_Damage.{chain_entry}
use Rattle.ctr_record_effects.specs.ctr_redo.States.{page_limit}
use Rattle.ctr_record_effects.specs.States.{pages_in}
use Rattle.ctr_walk.specs.Damage.{searched, EndsOnPage}
use Rattle.ctr_walk.specs.Tables.{first_said, chain_table_check, FirstSaid, EndsFirst}
use Rattle.ctr_walk.proofs.Limits.{catalog_in_limit}
use Rattle.ctr_walk.proofs.Said.{entry_few, first_here}
use Rattle.ctr_walk.proofs.Searches.{ends_there}
use Rattle.ctr_walk.proofs.table.first_of_store.Goals as goal

pub returns-clause-ends : goal.returns-clause-ends
returns-clause-ends g c = λ told sound.
    let chain = c.args.chain in
    let pages = pages_in c.args.store.now.now in
    let p = 1 + chain_entry chain / 16 in
    let n = c.counted-counted.result in
    let at = c.catalog_page-at.result in
    let there : at ≡ p = c.catalog_page-at.ensures ∙ ap (λ e. 1 + e / 16) c.entry_of.ensures in
    let limit = subst (λ (q : ℕ). q < page_limit) (sym there) (catalog_in_limit (chain_entry chain) (entry_few chain c.requires.there)) in
    let said = subst (λ (q : ℕ). IfOk (searched c.found_on.result) (EndsOnPage q (λ r. FirstSaid (chain_table_check n chain (pages q)) (first_said chain (pages q)) r))) there
    (ends_there at (λ l r. FirstSaid (chain_table_check n chain l) (first_said chain l) r) c.first_said.result c.found_on.result _ _ c.found_on.ensures (c.in_ok-page.ensures.shown told sound limit) c.first_said.ensures.said) in
    subst (λ m. IfOk (searched c.found_on.result) (EndsFirst m pages chain)) c.counted-counted.ensures
    (subst (λ f. IfOk (searched c.found_on.result) (EndsOnPage p (FirstSaid (chain_table_check n chain (pages p)) f))) (sym (first_here pages chain c.requires.there)) said)
