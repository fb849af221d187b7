use Rattle.std.proofs.Common.{◌≡◌, false, sym, ◌∙◌, ap, arith, Option}
use Rattle.std.specs.Prelude.{is_some}
use Rattle.ctr_names.proofs.page_Searches.{passes_one}
use Rattle.ctr_catalog.specs.declared.finding.MadeBy.{MadeBy}
use Rattle.ctr_catalog.specs.Finding.{checks_on, named_on}
use Rattle.ctr_catalog.proofs.finding.named_from.Goals as goal

pub loop-entry-preserved : goal.loop-entry-preserved
loop-entry-preserved c =
    let said = c.in_ok-made.ensures in
    let isnt : is_some (named_on c.args.name.now c.args.page.now c.loop-entry.entry) ≡ false =
    ap (λ (m : Option MadeBy). is_some m) (sym said.1) ∙ sym c.if-is_some.ensures in
    let from_on = c.loop-entry.invariant.0 in
    (omega (arith, from_on), passes_one (checks_on c.args.counted c.args.page.now) (λ e. is_some (named_on c.args.name.now c.args.page.now e)) c.args.from c.loop-entry.entry c.loop-entry.invariant.1 said.0 isnt)
