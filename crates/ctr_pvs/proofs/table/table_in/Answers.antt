use Rattle.std.proofs.Common.{◌≡◌, ◌*◌, ◌%◌, ◌-◌, ◌≤◌, cond, take, Result, Ok, Err, refl, sym, ◌∙◌, ap, subst}
use Rattle.std.specs.Prelude.{◌==◌, ⊤}
use Rattle.std.proofs.lemmas.Bool.{eq-eqb, ne_eqb, eqb-true, eqb-false}
use Rattle.ctr_bytes.specs.Fields.{field}
use Rattle.ctr_bytes.specs.Following.{◌>>=◌}
use Rattle.ctr_rec.specs.declared.decoding.BadRecord.{BadRecord}
use Rattle.ctr_rec.specs.Damage.{wrong}
use Rattle.ctr_page.specs.declared.entry.CatalogEntry.{CatalogEntry}
use Rattle.ctr_page.specs.Columns.{entry_at, kinds_of, columns_in}
use Rattle.ctr_pvs.proofs.table.table_in.Goals as goal

pub returns-then-eq-clause-said : goal.returns-then-eq-clause-said
returns-then-eq-clause-said c =
    let n = c.args.entry % 16 in
    let state : (entry_at n c.args.page.now).state ≡ 0 = ap (λ (t : CatalogEntry). t.state) (sym c.read_entry-table.ensures.read) ∙ eqb-true c.read_entry-table.result.state 0 (sym c.if-eq.ensures) in
    let f : ⊤ → Result ⊤ BadRecord = λ _. cond ((entry_at n c.args.page.now).state == 0) (Err (wrong (256 * n) 1 0)) (Ok tt) in
    ap (λ (r : Result ⊤ BadRecord). r >>= f) (sym c.in_ok-check_entry.ensures.checked)
    ∙ ap (λ b. cond b (Err (wrong (256 * n) 1 0)) (Ok tt)) (eq-eqb (entry_at n c.args.page.now).state 0 state)

pub returns-clause-said : goal.returns-clause-said
returns-clause-said c =
    let n = c.args.entry % 16 in
    let same = ap (λ (t : CatalogEntry). t.state) (sym c.read_entry-table.ensures.read) in
    let used : (entry_at n c.args.page.now).state ≡ 0 → ⊥ = λ is. eqb-false c.read_entry-table.result.state 0 (sym c.if-eq.ensures) (sym same ∙ is) in
    let f : ⊤ → Result ⊤ BadRecord = λ _. cond ((entry_at n c.args.page.now).state == 0) (Err (wrong (256 * n) 1 0)) (Ok tt) in
    let parts = c.in_ok-check_entry.ensures.parts refl used in (
      ap (λ (r : Result ⊤ BadRecord). r >>= f) (sym c.in_ok-check_entry.ensures.checked) ∙ ap (λ b. cond b (Err (wrong (256 * n) 1 0)) (Ok tt)) (ne_eqb (entry_at n c.args.page.now).state 0 used),
      ap (λ m. take (m - 1) c.kinds.result) c.count.ensures ∙ c.kinds.ensures (subst (λ (t : CatalogEntry). 1 ≤ field 1 34 t.bytes) (sym c.read_entry-table.ensures.read) parts.keyed)
          (subst (λ (t : CatalogEntry). field 1 34 t.bytes ≤ 8) (sym c.read_entry-table.ensures.read) parts.few)
          ∙ ap (λ (t : CatalogEntry). kinds_of (columns_in t.bytes)) c.read_entry-table.ensures.read,
    )
