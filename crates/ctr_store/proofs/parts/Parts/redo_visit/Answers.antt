use Rattle.std.proofs.Common.{◌≡◌, ◌∙◌, None, Some, sym, ap, subst}
use Rattle.std.proofs.lemmas.Result.{err_from_is_err_and}
use Rattle.ctr_base.specs.redo_States.{next_of}
use Rattle.ctr_base.specs.Base.{stored_of}
use Rattle.ctr_store.specs.PageChecks.{PagePasses}
use Rattle.ctr_base.specs.redo_Overlaid.{overlay_of}
use Rattle.ctr_base.specs.BaseLaws.{rests_leaves}
use Rattle.ctr_store.proofs.RecordLaws.{off_all, same_record}
use Rattle.ctr_store.proofs.RedoLaws.{redo_off}
use Rattle.ctr_store.proofs.parts.Parts.redo_visit.Goals as goal

pub returns-in_default-overlay_of-clause-goes : goal.returns-in_default-overlay_of-clause-goes
returns-in_default-overlay_of-clause-goes g c told = rests_leaves g.D.Disk g.O.Origin.first g.met.D.Disk.only_now c.args.self.now.base (c.requires.over told).at_rest

pub returns-in_default-overlay_of-clause-redone : goal.returns-in_default-overlay_of-clause-redone
returns-in_default-overlay_of-clause-redone g c start n r told doing next is bytes at =
    let d = g.D.Disk in
    let o = g.O.Origin.first in
    let s = c.args.self.now in
    let found = c.in-Ok.ensures.found in
    let same : c.in-Ok.rec ≡ r = same_record c.in-Ok.rec r found.0 is (found.1 ∙ c.as_slice.ensures ∙ sym bytes) in
    let none : overlay_of r ≡ None = ap overlay_of (sym same) ∙ sym c.overlay_of.ensures ∙ c.in_default-overlay_of.is in
    let passes = subst (PagePasses (next_of (stored_of d start)) o) (sym none) tt in
    redo_off o d start n r next s doing passes (λ q on. let off = off_all r none q in absurd (cc (off, on)))

pub returns-clause-redone : goal.returns-clause-redone
returns-clause-redone g c start n r told doing next is bytes at =
    let found = c.in-Ok.ensures.found in
    let same : c.in-Ok.rec ≡ r = same_record c.in-Ok.rec r found.0 is (found.1 ∙ c.as_slice.ensures ∙ sym bytes) in
    let some : overlay_of r ≡ Some c.in-Some.overlay = ap overlay_of (sym same) ∙ sym c.overlay_of.ensures ∙ c.in-Some.is in
    c.in_ok-redo_page.ensures.redone start n r told doing next some at

pub returns-in_err-redo_page-clause-fails : goal.returns-in_err-redo_page-clause-fails
returns-in_err-redo_page-clause-fails g c start n r told doing next is bytes =
    let p = err_from_is_err_and c.from_residual.result c.from_residual.ensures.1 in
    let found = c.in-Ok.ensures.found in
    let same : c.in-Ok.rec ≡ r = same_record c.in-Ok.rec r found.0 is (found.1 ∙ c.as_slice.ensures ∙ sym bytes) in
    let some : overlay_of r ≡ Some c.in-Some.overlay = ap overlay_of (sym same) ∙ sym c.overlay_of.ensures ∙ c.in-Some.is in
    rw (p.1, p.2) (c.in_err-redo_page.ensures.fails start n r told doing next some)
