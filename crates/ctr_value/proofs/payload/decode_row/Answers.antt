use Rattle.std.proofs.Common.{◌≡◌, ◌∙◌, ◌∷◌, ap, sym, subst, drop, arith, w64}
use Rattle.std.proofs.lemmas.Int.{to_z-of_z}
use Rattle.std.proofs.lemmas.Result.{err_from_is_err_and}
use Rattle.ctr_print.specs.types_Value.TheVariants as value
use Rattle.ctr_value.specs.Payload.{AreOf, kinds_width, width, IsPayload, HasBadField, IsRowOf, IsNoPayload}
use Rattle.ctr_value.specs.Values.{row_values}
use Rattle.ctr_value.proofs.PayloadLaws.{kinds_wide}
use Rattle.ctr_value.proofs.PayloadLoops.{row_len, only_memory, row_read}
use Rattle.ctr_value.proofs.ValueLaws.{row_said, by_kinds}
use Rattle.ctr_value.proofs.payload.decode_row.Goals as goal

pub returns-then-payload-want-clause-only : goal.returns-then-payload-want-clause-only
returns-then-payload-want-clause-only c = λ vs row.
    let columns : c.behind_key-columns.result.now ≡ drop 1 c.args.schema.now.columns = c.behind_key-columns.ensures ∙ ap (drop 1) c.as_slice.ensures in
    absurd (c.if-payload-want.true (row_len c.args.schema.now.columns c.args.key c.args.payload.now vs row ∙ ap width (sym columns) ∙ sym c.fields_width-want.ensures.value))

pub returns-in_err-check_fields-clause-only : goal.returns-in_err-check_fields-clause-only
returns-in_err-check_fields-clause-only c = λ vs row.
    let columns : c.behind_key-columns.result.now ≡ drop 1 c.args.schema.now.columns = c.behind_key-columns.ensures ∙ ap (drop 1) c.as_slice.ensures in
    let p = err_from_is_err_and c.from_residual.result c.from_residual.ensures.1 in
    let e = c.in_err-check_fields.field-0.0 in
    rw (p.1, p.2) (only_memory c.args.schema.now.columns c.args.key c.args.payload.now vs e row (subst (λ l. IsNoPayload (HasBadField l 0 c.args.payload.now) e) columns c.in_err-check_fields.ensures.refused))

pub row_by_kinds-requires-clause-room : goal.row_by_kinds-requires-clause-room
row_by_kinds-requires-clause-room c =
    omega (arith, ap kinds_width c.kinds_of-kinds.ensures, kinds_wide c.behind_key-columns.result.now, c.fields_width-want.ensures.value, c.if-payload-want.false)

pub returns-clause-found : goal.returns-clause-found
returns-clause-found c =
    let cs = c.args.schema.now.columns in
    let key = c.args.key in
    let bytes = c.args.payload.now in
    let columns : c.behind_key-columns.result.now ≡ drop 1 cs = c.behind_key-columns.ensures ∙ ap (drop 1) c.as_slice.ensures in
    let passed = c.in_ok-check_fields.ensures.passed in
    let read = row_read cs key passed.0 bytes c.requires.keyed c.ranges.key (subst (λ l. AreOf l passed.0) columns passed.1) (subst (λ l. IsPayload l passed.0 bytes) columns passed.2) in
    let is : c.in_ok-row.row.values ≡ row_values cs key bytes = by_kinds cs c.behind_key-columns.result.now _ key _ bytes c.in_ok-row.row columns c.kinds_of-kinds.ensures (to_z-of_z w64 key c.ranges.key) c.in_ok-row.ensures in
    subst (λ l. IsRowOf cs key bytes l) (row_said cs key bytes (value.Int key ∷ passed.0) read ∙ sym is) read

pub returns-clause-only : goal.returns-clause-only
returns-clause-only c = λ vs row.
    let cs = c.args.schema.now.columns in
    let columns : c.behind_key-columns.result.now ≡ drop 1 cs = c.behind_key-columns.ensures ∙ ap (drop 1) c.as_slice.ensures in
    by_kinds cs c.behind_key-columns.result.now _ c.args.key _ c.args.payload.now c.in_ok-row.row columns c.kinds_of-kinds.ensures (to_z-of_z w64 c.args.key c.ranges.key) c.in_ok-row.ensures
    ∙ sym (row_said cs c.args.key c.args.payload.now vs row)
