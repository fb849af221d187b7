use Rattle.std.proofs.Common.{subst}
use Rattle.std.specs.Prelude.{IfOk}
use Rattle.ctr_actions.specs.Sites.{site_of}
use Rattle.ctr_totals.specs.Totals.{AreTotals}
use Rattle.ctr_totals.proofs.load.totals.Goals as goal

pub returns-clause-shown : goal.returns-clause-shown
returns-clause-shown g c = λ low a told sound database shown.
    subst (λ rows. IfOk c.totals_of_rows.result (AreTotals rows)) (c.the_image_is_what_asked.ensures.rows low (site_of c.args.store.now.now) a shown) (c.totals_of_rows.ensures.counts told sound database)
