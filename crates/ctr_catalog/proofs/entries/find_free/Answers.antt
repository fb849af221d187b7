use Rattle.std.proofs.Common.{◌≡◌, false, sym, ap, ◌∙◌}
use Rattle.std.specs.Prelude.{◌==◌}
use Rattle.ctr_names.specs.page_CatalogEntry.{CatalogEntry}
use Rattle.ctr_names.specs.page_Columns.{entry_at}
use Rattle.ctr_names.proofs.page_Searches.{passes_one}
use Rattle.ctr_catalog.specs.Entries.{is_unused, checks_entry}
use Rattle.ctr_catalog.proofs.entries.find_free.Goals as goal

pub loop-entry-preserved : goal.loop-entry-preserved
loop-entry-preserved c =
    let read : c.read_entry.result ≡ entry_at c.loop-entry.entry c.args.page.now = c.read_entry.ensures.read in
    let isnt : is_unused (entry_at c.loop-entry.entry c.args.page.now) ≡ false =
    ap (λ (e : CatalogEntry). e.state == 0) (sym read) ∙ sym c.if-eq.ensures in
    passes_one (checks_entry c.args.counted c.args.page.now) (λ n. is_unused (entry_at n c.args.page.now)) 0 c.loop-entry.entry c.loop-entry.invariant (sym c.in_ok-check_entry.ensures.checked) isnt
