use Rattle.std.proofs.Common.{refl, sym, ◌∙◌, ap, subst}
use Rattle.ctr_page.specs.Making.{IsEntry}
use Rattle.ctr_page.specs.Reading.{older_at}
use Rattle.ctr_pvs.specs.Lending.{entry_lent}
use Rattle.ctr_walk.proofs.Limits.{in_limit}
use Rattle.ctr_walk.specs.store_Store.{LeavesPage}
use Rattle.ctr_walk.proofs.Joins.{answers_ok}
use Rattle.ctr_pvs.proofs.lending.lend.Goals as goal

pub returns : goal.returns
returns g c =
    let said = c.lent.ensures ∙ c.read_version.ensures.read in
    let fits : IsEntry c.args.w (entry_lent c.lent.result) = subst (IsEntry c.args.w) (sym c.lent.ensures) c.read_version.ensures.fits in (
      (
        refl,
        (λ _. tt),
        answers_ok g.O.Origin.first g.D.Disk c.in_ok-page.page c.lent.result c.args.store.now c.page.follows.lender-at-none
            (subst (λ r. LeavesPage g.O.Origin.first g.D.Disk c.args.store.now c.page.follows.lender-at-none r) c.in_ok-page.was c.page.follows.holds-at-none),
      ),
      record {
        said = λ told sound. said ∙ ap (older_at c.args.w c.args.place.slot) (c.in_ok-page.ensures.shown told sound (in_limit c.args.place.page c.requires.there));
        fits = subst (λ n. IsEntry n (entry_lent c.lent.result)) (sym fits.version.2) fits;
        wide = fits.version.2;
        after = tt;
      },
    )
