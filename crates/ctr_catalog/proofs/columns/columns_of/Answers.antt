use Rattle.std.proofs.Common.{◌≡◌, ◌∙◌, ◌+◌, ◌-◌, ◌*◌, ℕ, List, [], ◌∷◌, ◌++◌, append_assoc, sym, ap, arith}
use Rattle.ctr_types.specs.declared.value.Column.{Column}
use Rattle.ctr_names.specs.page_Columns.{columns_from, name_in, kind_said, column_kind_at}
use Rattle.ctr_bytes.specs.Fields.{field}
use Rattle.ctr_catalog.proofs.Schemas.{columns_next}
use Rattle.ctr_catalog.proofs.columns.columns_of.Goals as goal

pub loop-i-preserved : goal.loop-i-preserved
loop-i-preserved c =
    let n = c.count-count.result in
    let i = c.loop-i.i in
    let bytes = c.args.entry.now.bytes in
    let columns = c.loop-i.columns in
    let at = 35 + 18 * i in
    let rest = columns_from (n - (i + 1)) (35 + 18 * (i + 1)) bytes in
    let less = c.loop-i-test.true in
    let read : Column = record { name = c.in_ok-name.name; kind = c.kind-kind.result } in
    let said : Column = record { name = name_in at bytes; kind = kind_said (field 1 (column_kind_at at) bytes) } in
    let name = c.in_ok-name.ensures ∙ ap (λ (l : List ℕ). name_in at l) c.as_slice.ensures in
    let same : read ≡ said = λ j. record { name = name j; kind = c.kind-kind.ensures j } in
    record {
      at_most = omega (arith, less);
      told = ap (λ (l : List Column). l ++ rest) c.in_ok-push.ensures.ok ∙ append_assoc columns (read ∷ []) rest ∙ ap (λ (x : Column). columns ++ x ∷ rest) same
          ∙ sym (ap (λ (l : List Column). columns ++ l) (columns_next n i bytes less)) ∙ c.loop-i.invariant.told;
    }
