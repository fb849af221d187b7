use Rattle.std.proofs.Common.{◌+◌, ◌/◌, sym, ◌∙◌, ap, subst}
use Rattle.std.specs.Prelude.{IfOk}
use Rattle.std.proofs.lemmas.Result.{err_from_is_err_and}
use Rattle.ctr_names.specs.meta_Kept.{TablesKept}
use Rattle.ctr_alloc.specs.record_effects_States.{pages_in, area_in}
use Rattle.ctr_alloc.specs.walk_Damage.{searched, EndsOnPage}
use Rattle.ctr_alloc.proofs.walk_Searches.{without, passed_page}
use Rattle.ctr_catalog.specs.Finding.{EndsNamed, LooksTo, change_since, change_made, checks_at, changed_in, EndsChange}
use Rattle.ctr_catalog.proofs.Changes.{looks_here, fails_here}
use Rattle.ctr_catalog.proofs.finding.change_behind.Goals as goal

pub returns-in_err-found-clause-ends : goal.returns-in_err-found-clause-ends
returns-in_err-found-clause-ends g c =
    let p = err_from_is_err_and c.from_residual.result c.from_residual.ensures.1 in
    let n = c.args.store.now.now.counted in
    let k = c.args.from in
    let e = c.in_err-found.field-0.0 in
    let pages = pages_in c.args.store.now.now in
    let name = c.args.name.now in
    let tables = c.args.store.now.meta.tables in
    rw (p.1, p.2) (λ told sound.
    passed_page _ _ e (1 + k / 16) (EndsNamed n name k (pages (1 + k / 16))) (EndsChange (checks_at n pages) (changed_in tables c.args.snapshot.now name (area_in c.args.store.now.now)) k)
    (λ bad said. fails_here pages n tables c.args.snapshot.now name k c.requires.there bad said)
    (subst (λ m. IfOk (searched (without _ e)) (EndsOnPage (1 + k / 16) (EndsNamed m name k (pages (1 + k / 16))))) c.counted-counted.ensures (c.in_err-found.ensures.said told sound)))

pub returns-clause-ends : goal.returns-clause-ends
returns-clause-ends g c = λ told sound.
    let n = c.counted-counted.result in
    let k = c.args.from in
    let pages = pages_in c.args.store.now.now in
    let name = c.args.name.now in
    let tables = c.args.store.now.meta.tables in
    let s = c.args.snapshot.now in
    let at = c.in_ok-found.found in
    let meta = c.meta.ensures.tables ∙ c.in_ok-found.ensures.leaves.keeps.meta in
    let who = c.change_found.ensures ∙ ap (λ (m : TablesKept). change_made (change_since m.tables s) at.made) meta in
    let looks = looks_here pages n tables s name k c.requires.there at (c.in_ok-found.ensures.said told sound) in
    subst (λ w. LooksTo (checks_at c.args.store.now.now.counted pages) (changed_in tables s name (area_in c.args.store.now.now)) k at.entry w) (sym who)
    (subst (λ m. LooksTo (checks_at m pages) (changed_in tables s name (area_in c.args.store.now.now)) k at.entry (change_made (change_since tables s) at.made)) c.counted-counted.ensures looks)
