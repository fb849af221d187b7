use Rattle.std.proofs.Common.{refl, sym, ◌∙◌, ap, subst}
use Rattle.ctr_page.specs.Making.{IsSlot}
use Rattle.ctr_page.specs.Reading.{slot_at}
use Rattle.ctr_pvs.specs.Slots.{slot_lent}
use Rattle.ctr_walk.proofs.Limits.{in_limit}
use Rattle.ctr_walk.specs.store_Store.{LeavesPage}
use Rattle.ctr_walk.proofs.Joins.{answers_ok}
use Rattle.ctr_pvs.proofs.slot.lend_row.Goals as goal

pub returns : goal.returns
returns g c =
    let said = c.lent_slot.ensures ∙ c.read_slot.ensures.read in
    let fits : IsSlot c.args.w (slot_lent c.lent_slot.result) = subst (IsSlot c.args.w) (sym c.lent_slot.ensures) c.read_slot.ensures.fits in (
      (
        refl,
        (λ _. tt),
        answers_ok g.O.Origin.first g.D.Disk c.in_ok-page.page c.lent_slot.result c.args.store.now c.page.follows.lender-at-none
            (subst (λ r. LeavesPage g.O.Origin.first g.D.Disk c.args.store.now c.page.follows.lender-at-none r) c.in_ok-page.was c.page.follows.holds-at-none),
      ),
      record {
        said = λ told sound. said ∙ ap (slot_at c.args.w c.args.place.slot) (c.in_ok-page.ensures.shown told sound (in_limit c.args.place.page c.requires.there));
        fits = subst (λ n. IsSlot n (slot_lent c.lent_slot.result)) (sym fits.head.2) fits;
        wide = fits.head.2;
        after = tt;
      },
    )
