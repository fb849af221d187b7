use Rattle.std.proofs.Common.{◌≡◌, ◌∙◌, Ok, ap, sym, subst, arith}
use Rattle.std.proofs.lemmas.Bool.{false≢true}
use Rattle.std.proofs.lemmas.Result.{err_from_is_err_and}
use Rattle.ctr_rec.specs.declared.record.Parts.{Parts}
use Rattle.ctr_rec.specs.declared.table.Layout.{Layout}
use Rattle.ctr_rec.specs.declared.table.Tag.{Tag}
use Rattle.ctr_rec.specs.Table.{layout}
use Rattle.ctr_rec.specs.Damage.{checks}
use Rattle.ctr_rec.proofs.Forms.{begins_so, one_tag, parts_pass, one_parts, err_no_ok, differs}
use Rattle.ctr_rec.proofs.fields.decode_fields.Goals as goal

pub returns-in_default-clause-only : goal.returns-in_default-clause-only
returns-in_default-clause-only c = λ p fits e.
    let n = begins_so p c.args.bytes.now fits e in
    absurd (false≢true (c.in_default.ensures.some.1 (omega (arith, c.requires, n.0), omega (arith, c.requires, n.1))))

pub returns-in_default-clause-differs : goal.returns-in_default-clause-differs
returns-in_default-clause-differs c =
    λ same. false≢true (c.in_default.ensures.some.1 (omega (arith, same), omega (arith, same)))

pub returns-in_err-check-clause-only : goal.returns-in_err-check-clause-only
returns-in_err-check-clause-only c = λ p fits e.
    let bytes = c.args.bytes.now in
    absurd (err_no_ok c.in_err-check.field-0.0 (checks (layout c.in-Some.tag) bytes)
    (c.in_err-check.ensures ∙ ap (λ (l : Layout). checks l bytes) c.layout.ensures)
    (parts_pass p c.in-Some.tag bytes fits e (c.in-Some.ensures.found ∙ c.requires)))

pub returns-in_err-check-clause-differs : goal.returns-in_err-check-clause-differs
returns-in_err-check-clause-differs c =
    let bytes = c.args.bytes.now in
    let p = err_from_is_err_and c.from_residual.result c.from_residual.ensures.1 in
    let failed = c.in_err-check.ensures ∙ ap (λ (l : Layout). checks l bytes) c.layout.ensures in
    rw (p.1, p.2) (differs (layout c.in-Some.tag) bytes c.in_err-check.field-0.0 (sym failed))

pub returns-clause-only : goal.returns-clause-only
returns-clause-only c = λ p fits e.
    ap (λ (x : Parts). Ok x) (one_parts c.parts_in.result p c.parts_in.ensures.fits fits (c.parts_in.ensures.bytes ∙ sym e))

pub returns-clause-exact : goal.returns-clause-exact
returns-clause-exact c = λ t number.
    let bytes = c.args.bytes.now in
    let same : c.in-Some.tag ≡ t = one_tag c.in-Some.tag t (c.in-Some.ensures.found ∙ sym number) in
    let passed = sym (c.in_ok-check.ensures ∙ ap (λ (l : Layout). checks l bytes) c.layout.ensures) in
    subst (λ (x : Tag). checks (layout x) bytes ≡ Ok tt) same passed
