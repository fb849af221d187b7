use Rattle.std.proofs.Common.{rules, ◌≡◌, sym, ◌∙◌, ap, subst}
use Rattle.std.specs.Int.{w64}
use Rattle.std.proofs.lemmas.Int.{to_z-of_z}
use Rattle.std.proofs.lemmas.Result.{err_from_is_err_and}
use Rattle.ctr_page.specs.Columns.{kinds_width}
use Rattle.ctr_pvs.specs.walk_Tables.{kinds_said}
use Rattle.ctr_revert.specs.Reverting.{if_used, MadeByEntry}
use Rattle.ctr_revert.proofs.Passed.{entry_said_by, entry_bad_by}
use Rattle.ctr_revert.proofs.revert.behind_on.Goals as goal

pub returns-in_err-entry : goal.returns-in_err-entry
returns-in_err-entry c =
    let p = err_from_is_err_and c.from_residual-in_err-entry.result c.from_residual-in_err-entry.ensures.1 in
    rw (p.1, p.2) (entry_bad_by c.args.counted c.args.table.now c.args.from.now c.args.page.now c.in_err-entry.field-0.0 (sym c.check_versions_there.ensures ∙ c.in_ok-check_versions_there.was) c.in_err-entry.ensures.said)

pub returns : goal.returns
returns c =
    let t = c.args.table.now in
    let f = c.args.from.now in
    let wide : c.kinds_width.result ≡ kinds_width (kinds_said t) = c.kinds_width.ensures.value ∙ ap kinds_width c.kinds.ensures.value in
    entry_said_by c.args.counted t f c.args.page.now c.in_ok-entry.entry c.kinds_width.result c.from_entry.result (sym c.check_versions_there.ensures ∙ c.in_ok-check_versions_there.was) c.in_ok-entry.ensures.said c.in_ok-entry.ensures.fits wide
    (subst (λ k. MadeByEntry c.kinds_width.result f.used k (if_used c.in_ok-entry.entry) c.from_entry.result) (to_z-of_z w64 f.key (search rules)) c.from_entry.ensures)
