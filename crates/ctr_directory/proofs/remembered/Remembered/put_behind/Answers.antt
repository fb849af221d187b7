use Rattle.std.proofs.Common.{◌≡◌, refl, sym, ◌∙◌, ap, subst}
use Rattle.ctr_page.specs.Reading.{header_in}
use Rattle.ctr_directory.specs.Chains.{RowPagePasses, checks_of}
use Rattle.ctr_directory.proofs.Buckets.{behind_others}
use Rattle.ctr_directory.proofs.remembered.Remembered.put_behind.Goals as goal

pub returns-in-Some : goal.returns-in-Some
returns-in-Some c = λ pages is yes old.
    let s = c.args.self.now in
    let e = c.in-Some.ensures in
    let to : c.in-Some.next ≡ (header_in (pages s.rest)).next = e.next ∙ ap (λ page. (header_in page).next) (sym is) in
    let x = behind_others c.args.counted pages s c.take_page.new.self s.rest c.requires.rest old c.take_page.ensures.same
    (subst (λ page. RowPagePasses (checks_of c.args.counted s) page) (sym is) e.passes) e.added e.long (e.leads pages is old.leads) (e.spares pages is old.spares) c.in-Some.next refl to in
    record { said = x.said; chain = x.chain; runs = x.runs; few = x.few; long = x.long; there = x.there; leads = x.leads; spares = x.spares }
