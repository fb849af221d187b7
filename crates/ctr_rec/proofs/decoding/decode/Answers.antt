use Rattle.std.proofs.Common.{◌≡◌, ◌∙◌, ◌≢◌, Ok, ap, sym, subst}
use Rattle.std.proofs.lemmas.Result.{err_from_is_err_and}
use Rattle.ctr_bytes.specs.Fields.{field}
use Rattle.ctr_rec.specs.declared.record.Record.{Record}
use Rattle.ctr_rec.specs.Parts.{form_of}
use Rattle.ctr_rec.specs.Spelling.{form_bytes}
use Rattle.ctr_rec.specs.Checkpoint.{checkpoint_checks}
use Rattle.ctr_rec.specs.Records.{FormFits, ListsAreMembers}
use Rattle.ctr_rec.proofs.Forms.{err_no_ok}
use Rattle.ctr_rec.proofs.ListLaws.{passes, checkpoint_differs}
use Rattle.ctr_rec.proofs.RecordForms.{is_checkpoint, is_fields, one_record, err_no_parts}
use Rattle.ctr_rec.proofs.decoding.decode.Goals as goal

pub checkpoint_in-requires-clause-long : goal.checkpoint_in-requires-clause-long
checkpoint_in-requires-clause-long c = (passes c.args.bytes.now (sym c.in_ok-check_checkpoint.ensures)).long

pub returns-in_err-check_checkpoint-clause-only : goal.returns-in_err-check_checkpoint-clause-only
returns-in_err-check_checkpoint-clause-only c = λ r fits e.
    let bytes = c.args.bytes.now in
    let one : field 1 0 bytes ≡ 1 = sym c.first_byte-first.ensures ∙ c.if-first-eq1.true in
    absurd (err_no_ok c.in_err-check_checkpoint.field-0.0 (checkpoint_checks bytes) c.in_err-check_checkpoint.ensures (is_checkpoint (form_of r) bytes fits e one))

pub returns-in_err-check_checkpoint-clause-refused : goal.returns-in_err-check_checkpoint-clause-refused
returns-in_err-check_checkpoint-clause-refused c =
    let bytes = c.args.bytes.now in
    let one : field 1 0 bytes ≡ 1 = sym c.first_byte-first.ensures ∙ c.if-first-eq1.true in
    let p = err_from_is_err_and c.from_residual.result c.from_residual.ensures.1 in
    rw (p.1, p.2) (
      checkpoint_differs bytes c.in_err-check_checkpoint.field-0.0 (sym c.in_err-check_checkpoint.ensures),
      λ r fits e. absurd (err_no_ok c.in_err-check_checkpoint.field-0.0 (checkpoint_checks bytes) c.in_err-check_checkpoint.ensures (is_checkpoint (form_of r) bytes fits e one)),
    )

pub returns-then-first-eq1-clause-only : goal.returns-then-first-eq1-clause-only
returns-then-first-eq1-clause-only c = λ r fits e.
    ap (λ (x : Record). Ok x) (one_record c.checkpoint_in.result r c.checkpoint_in.ensures.fits fits (c.checkpoint_in.ensures.bytes ∙ sym e))

pub returns-in_err-decode_fields-clause-only : goal.returns-in_err-decode_fields-clause-only
returns-in_err-decode_fields-clause-only c = λ r fits e.
    let bytes = c.args.bytes.now in
    let other : c.first_byte-first.result ≢ 1 = c.if-first-eq1.false in
    let p = is_fields (form_of r) bytes fits e (λ one. other (c.first_byte-first.ensures ∙ one)) in
    absurd (err_no_parts c.in_err-decode_fields.field-0.0 p.0 (c.in_err-decode_fields.ensures.only p.0 p.1 p.2))

pub returns-in_err-decode_fields-clause-refused : goal.returns-in_err-decode_fields-clause-refused
returns-in_err-decode_fields-clause-refused c =
    let bytes = c.args.bytes.now in
    let other : c.first_byte-first.result ≢ 1 = c.if-first-eq1.false in
    let q = err_from_is_err_and c.from_residual-in_err-decode_fields.result c.from_residual-in_err-decode_fields.ensures.1 in
    rw (q.1, q.2) (
      c.in_err-decode_fields.ensures.differs,
      λ r fits e.
          let p = is_fields (form_of r) bytes fits e (λ one. other (c.first_byte-first.ensures ∙ one)) in
          absurd (err_no_parts c.in_err-decode_fields.field-0.0 p.0 (c.in_err-decode_fields.ensures.only p.0 p.1 p.2)),
    )

pub returns-clause-only : goal.returns-clause-only
returns-clause-only c = λ r fits e.
    let is = c.record_of.ensures in
    let found = c.in_ok-decode_fields.ensures.found in
    ap (λ (x : Record). Ok x) (one_record c.record_of.result r (subst FormFits (sym is) found.0) fits (ap form_bytes is ∙ found.1 ∙ sym e))

pub returns-clause-members : goal.returns-clause-members
returns-clause-members c = subst ListsAreMembers (sym c.record_of.ensures) tt
