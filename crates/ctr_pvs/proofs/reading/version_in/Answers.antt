use Rattle.std.proofs.Common.{◌≡◌, ◌+◌, ◌≤◌, Ok, length, sym, ◌∙◌, ap, subst, arith}
use Rattle.ctr_page.specs.Places.{kept_size}
use Rattle.ctr_page.specs.Columns.{kinds_of, kinds_width, kept_start}
use Rattle.ctr_page.specs.Damage.{kept_check}
use Rattle.ctr_page.specs.Making.{IsEntry}
use Rattle.ctr_page.specs.Reading.{older_at}
use Rattle.ctr_passed.specs.Logged.{IsOlderOf}
use Rattle.ctr_pvs.proofs.Made.{older_made}
use Rattle.ctr_pvs.proofs.Told.{entry_there}
use Rattle.ctr_pvs.proofs.reading.version_in.Goals as goal

pub check_version-requires-clause-inside : goal.check_version-requires-clause-inside
check_version-requires-clause-inside c =
    entry_there c.kinds_width.result c.kept_size.result (kept_size (kinds_width c.kinds-kinds.result.now)) c.args.number (length c.args.page.now) (omega (arith, c.kinds_width.ensures.small, c.kinds-kinds.ensures.few))
    c.kept_size.ensures.value (ap kept_size c.kinds_width.ensures.value) c.kept_size.ensures.some (sym c.check_lies.ensures ∙ c.in_ok-check_lies.was) c.requires.whole

pub read_version-requires-clause-inside : goal.read_version-requires-clause-inside
read_version-requires-clause-inside c =
    entry_there c.kinds_width.result c.kept_size.result (kept_size c.kinds_width-2.result) c.args.number (length c.args.page.now) (omega (arith, c.kinds_width.ensures.small, c.kinds-kinds.ensures.few))
    c.kept_size.ensures.value (ap kept_size (c.kinds_width.ensures.value ∙ sym c.kinds_width-2.ensures.value)) c.kept_size.ensures.some (sym c.check_lies.ensures ∙ c.in_ok-check_lies.was) c.requires.whole

pub returns-clause-made : goal.returns-clause-made
returns-clause-made c = λ columns keyed are.
    let n = c.args.number in
    let page = c.args.page.now in
    let w = kinds_width (kinds_of columns) in
    let same : kinds_of columns ≡ c.kinds-kinds.result.now = are ∙ sym c.kinds-kinds.ensures.value in
    let wide : c.kinds_width-2.result ≡ w = c.kinds_width-2.ensures.value ∙ ap kinds_width (sym same) in
    let small = c.kinds_width-2.ensures.small in
    let few = c.kinds-kinds.ensures.few in
    let passes : kept_check (kinds_of columns) c.args.counted (kept_start (kinds_of columns) n) page ≡ Ok tt =
    subst (λ ks. kept_check ks c.args.counted (kept_start ks n) page ≡ Ok tt) (sym same) (sym c.check_version.ensures.checked ∙ c.in_ok-check_version.was) in
    let inside : kept_start (kinds_of columns) n + kept_size w ≤ length page =
    entry_there c.kinds_width.result c.kept_size.result (kept_size w) n (length page) (omega (arith, c.kinds_width.ensures.small, few)) c.kept_size.ensures.value (ap kept_size (c.kinds_width.ensures.value ∙ ap kinds_width (sym same)))
    c.kept_size.ensures.some (sym c.check_lies.ensures ∙ c.in_ok-check_lies.was) c.requires.whole in
    let is : IsEntry w (older_at w n page) = subst (λ v. IsEntry v (older_at v n page)) wide (subst (IsEntry c.kinds_width-2.result) c.read_version.ensures.read c.read_version.ensures.fits) in
    subst (IsOlderOf c.args.counted columns) (sym (c.read_version.ensures.read ∙ ap (λ v. older_at v n page) wide))
    (older_made columns keyed c.args.counted n c.requires.some (omega (arith, wide, small, few)) page (λ k. (c.type_inv.page k).fits) inside is passes)
