use Rattle.std.proofs.Common.{◌≡◌, ◌-◌, ◌*◌, ◌%◌, ◌<◌, ◌≤◌, ℕ, refl, sym, ◌∙◌, ap, subst, arith}
use Rattle.std.proofs.lemmas.Bool.{eqb-false}
use Rattle.ctr_record_effects.specs.page_CatalogEntry.{CatalogEntry}
use Rattle.ctr_record_effects.specs.page_Columns.{entry_at}
use Rattle.ctr_record_effects.specs.page_Damage.{entry_check}
use Rattle.ctr_record_effects.specs.page_Readable.{HasParts}
use Rattle.ctr_bytes.specs.Fields.{field}
use Rattle.ctr_walk.specs.Tables.{first_at, entry_number}
use Rattle.ctr_walk.proofs.Firsts.{first_counted}
use Rattle.ctr_walk.proofs.table.pages_said.Goals as goal

pub returns-clause-fits : goal.returns-clause-fits
returns-clause-fits c =
    let chain = c.args.chain in
    let page = c.args.page.now in
    let entry = entry_at (entry_number chain) page in
    let read : c.read_entry-table.result ≡ entry = c.read_entry-table.ensures.read ∙ ap (λ e. entry_at (e % 16) page) c.entry_of-entry.ensures in
    let used : entry.state ≡ 0 → ⊥ = λ is. eqb-false c.read_entry-table.result.state 0 (sym c.if-eq.ensures) (ap (λ (t : CatalogEntry). t.state) read ∙ is) in
    let bytes : first_at chain entry.bytes ≡ c.first_of-first.result = ap (λ (t : CatalogEntry). first_at chain t.bytes) (sym read) ∙ sym c.first_of-first.ensures in
    let passes = sym (c.in_ok-check_entry.ensures.checked ∙ ap (λ e. entry_check c.args.counted (256 * (e % 16)) page) c.entry_of-entry.ensures) in
    let parts = subst (λ e. HasParts (entry_at (e % 16) page)) c.entry_of-entry.ensures (c.in_ok-check_entry.ensures.parts refl) used in
    let count : c.count.result ≡ field 1 34 entry.bytes = c.count.ensures ∙ ap (λ (t : CatalogEntry). field 1 34 t.bytes) read in (
      c.if-first-eq0.false,
      subst (λ x. x < c.args.counted) bytes (first_counted c.args.counted page c.requires.some c.requires.whole chain c.requires.there passes used),
      few c.count.result (field 1 34 entry.bytes) count parts.few,
    )
  where
    few : (m k : ℕ) → m ≡ k → k ≤ 8 → m - 1 ≤ 7
    few m k same le = omega (arith, same, le)
