use Rattle.std.proofs.Common.{◌≡◌, refl, sym, ◌∙◌, ap}
use Rattle.std.proofs.lemmas.Result.{err_from_is_err_and}
use Rattle.ctr_names.specs.area_Images.{is_committed_in}
use Rattle.ctr_pvs.specs.record_effects_States.{pages_in, area_in}
use Rattle.ctr_pvs.proofs.walk_Searches.{passed}
use Rattle.ctr_chain.specs.Seeking.{sought_at, xids_found}
use Rattle.ctr_chain.proofs.Chain.{row_found, xid_is_found}
use Rattle.ctr_chain.proofs.committed.newest_found.Goals as goal

pub returns-in_err-found-clause-ends : goal.returns-in_err-found-clause-ends
returns-in_err-found-clause-ends g c =
    let p = err_from_is_err_and c.from_residual.result c.from_residual.ensures.1 in
    let a = c.args.store.now in
    let ends = sought_at (is_committed_in a.meta.tables) a.now.counted (pages_in a.now) c.args.place in
    rw (p.1, p.2) (λ told sound.
    passed _ _ c.in_err-found.field-0.0 (λ r. r ≡ ends) (λ r. r ≡ xids_found ends)
    (λ bad said. ap xids_found said) (c.in_err-found.ensures.ends told sound))

pub returns-clause-finds : goal.returns-clause-finds
returns-clause-finds g c = λ told sound.
    let a = c.args.store.now in
    let test = is_committed_in a.meta.tables in
    let found = c.in_ok-found.found in
    c.xid_found.ensures ∙ xid_is_found test (area_in a.now) c.args.place found (row_found test a.now.counted (pages_in a.now) c.args.place found refl c.counts_pages.ensures.1 (sym (c.in_ok-found.ensures.ends told sound)))
