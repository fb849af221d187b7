use Rattle.std.proofs.Common.{◌+◌, ◌/◌, ◌%◌, refl, subst}
use Rattle.std.specs.Prelude.{IfOk}
use Rattle.std.proofs.lemmas.Result.{err_from_is_err_and}
use Rattle.ctr_alloc.specs.record_effects_States.{pages_in, area_in}
use Rattle.ctr_alloc.specs.walk_Damage.{searched, EndsOnPage}
use Rattle.ctr_alloc.proofs.walk_Searches.{without, passed_page}
use Rattle.ctr_catalog.specs.Finding.{NamedSaid, checks_at, changed_in, EndsEntry}
use Rattle.ctr_catalog.proofs.finding.change_of.Goals as goal

pub returns-in_err-found-clause-ends : goal.returns-in_err-found-clause-ends
returns-in_err-found-clause-ends g c =
    let p = err_from_is_err_and c.from_residual.result c.from_residual.ensures.1 in
    let n = c.args.store.now.now.counted in
    let k = c.args.entry in
    let e = c.in_err-found.field-0.0 in
    let pages = pages_in c.args.store.now.now in
    let name = c.args.name.now in
    rw (p.1, p.2) (λ told sound.
    passed_page _ _ e (1 + k / 16) (NamedSaid n name (k % 16) (pages (1 + k / 16))) (EndsEntry (checks_at n pages k) (changed_in c.args.store.now.meta.tables c.args.snapshot.now name (area_in c.args.store.now.now) k) k)
    (λ bad said. (said, refl))
    (subst (λ m. IfOk (searched (without _ e)) (EndsOnPage (1 + k / 16) (NamedSaid m name (k % 16) (pages (1 + k / 16))))) c.counted-counted.ensures (c.in_err-found.ensures.said told sound)))
