use Rattle.std.proofs.Common.{◌≡◌, Err, refl, sym, ◌∙◌, ap, subst, arith}
use Rattle.std.specs.Prelude.{IfOk, ⊤}
use Rattle.std.proofs.lemmas.Result.{err_from_is_err_and}
use Rattle.ctr_page.specs.Places.{kept_size}
use Rattle.ctr_page.specs.Columns.{kinds_width}
use Rattle.ctr_passed.specs.record_effects_States.{pages_in}
use Rattle.ctr_walk.specs.store_Store.{LeavesPage}
use Rattle.ctr_walk.specs.Damage.{searched, EndsOnPage}
use Rattle.ctr_walk.proofs.Searches.{ends_on, found_ok, passed, passed_page, leaves_on, leaves_without}
use Rattle.ctr_pvs.specs.Table.{TableSaid}
use Rattle.ctr_walk.specs.Tables.{kinds_said}
use Rattle.ctr_pvs.specs.Reading.{lies_check, EndsAt}
use Rattle.ctr_pvs.specs.Writing.{drop_check}
use Rattle.ctr_pvs.proofs.Told.{no_table_first, by_table, lies_there}
use Rattle.ctr_pvs.proofs.Freeing.{freeing_passes}
use Rattle.ctr_pvs.proofs.writing.width_to_free.Goals as goal

pub returns-in_err-table-clause-ends : goal.returns-in_err-table-clause-ends
returns-in_err-table-clause-ends g c =
    let p = err_from_is_err_and c.from_residual.result c.from_residual.ensures.1 in
    let s = c.args.store.now.now in
    let page = c.args.place.page in
    let ends = EndsAt (drop_check s.counted (pages_in s) c.args.place) (pages_in s) c.args.place in
    rw (p.1, p.2) (λ told sound.
    passed _ _ c.in_err-table.field-0.0 (TableSaid 2 s.counted (pages_in s) page) ends
    (no_table_first 2 s.counted (pages_in s) page (λ _ ks. lies_check (kept_size (kinds_width ks)) c.args.place.slot)) (c.in_err-table.ensures.said told sound))

pub returns-in_err-found_on-clause-ends : goal.returns-in_err-found_on-clause-ends
returns-in_err-found_on-clause-ends g c =
    let p = err_from_is_err_and c.from_residual-in_err-found_on.result c.from_residual-in_err-found_on.ensures.1 in
    let t = c.in_ok-table.table in
    let n = c.args.store.now.now.counted in
    let pages = pages_in c.args.store.now.now in
    let at = c.args.place in
    let wide : kinds_width (kinds_said t) ≡ c.kinds_width-w.result = sym (c.kinds_width-w.ensures.value ∙ ap kinds_width c.kinds.ensures.value) in
    rw (p.1, p.2) (λ told sound.
    passed_page ⊤ _ c.in_err-found_on.field-0.0 at.page (λ r. r ≡ lies_check c.kept_size.result at.slot) (EndsAt (drop_check n pages at) pages at)
    (λ bad is. by_table 2 n pages at.page t (λ _ ks. lies_check (kept_size (kinds_width ks)) at.slot) (Err bad) (c.in_ok-table.ensures.said told sound)
    (ap (λ v. lies_check (kept_size v) at.slot) wide ∙ ap (λ k. lies_check k at.slot) (sym c.kept_size.ensures.value) ∙ sym is))
    (subst (λ r. IfOk (searched r) (EndsOnPage at.page (λ x. x ≡ lies_check c.kept_size.result at.slot))) (sym c.found_on.ensures ∙ c.in_err-found_on.was)
    (ends_on at.page (λ x. x ≡ lies_check c.kept_size.result at.slot) c.check_lies.result c.check_lies.ensures)))

pub returns-in_err-found_on-clause-leaves : goal.returns-in_err-found_on-clause-leaves
returns-in_err-found_on-clause-leaves g c =
    let p = err_from_is_err_and c.from_residual-in_err-found_on.result c.from_residual-in_err-found_on.ensures.1 in
    let o = g.O.Origin.first in
    let d = g.D.Disk in
    rw (p.1, p.2) (leaves_without o d ⊤ _ c.in_err-found_on.field-0.0 c.args.store.now c.table_on.new.store
    (subst (λ r. LeavesPage o d c.args.store.now c.table_on.new.store (searched r)) (sym c.found_on.ensures ∙ c.in_err-found_on.was)
    (leaves_on o d c.args.place.page _ c.check_lies.result c.args.store.now c.table_on.new.store c.in_ok-table.ensures.leaves)))

pub returns-clause-ends : goal.returns-clause-ends
returns-clause-ends g c = λ told sound.
    let at = c.args.place in
    let lies = found_ok at.page tt c.check_lies.result (sym c.found_on.ensures ∙ c.in_ok-found_on.was) in
    freeing_passes c.args.store.now.now.counted (pages_in c.args.store.now.now) at c.in_ok-table.table c.kinds_width-w.result (c.in_ok-table.ensures.said told sound) (c.kinds_width-w.ensures.value ∙ ap kinds_width c.kinds.ensures.value)
    (ap (λ k. lies_check k at.slot) (sym c.kept_size.ensures.value) ∙ sym c.check_lies.ensures ∙ lies)

pub returns-clause-fits : goal.returns-clause-fits
returns-clause-fits g c =
    let small = c.kinds_width-w.ensures.small in
    let few = c.kinds.ensures.few in
    let size = c.kept_size.ensures.value in
    let lies = found_ok c.args.place.page tt c.check_lies.result (sym c.found_on.ensures ∙ c.in_ok-found_on.was) in (
      omega (arith, small, few),
      lies_there c.kept_size.result (kept_size c.kinds_width-w.result) c.args.place.slot 4096 size c.kept_size.ensures.some (omega (arith, small, few, size)) (sym c.check_lies.ensures ∙ lies) refl,
    )
