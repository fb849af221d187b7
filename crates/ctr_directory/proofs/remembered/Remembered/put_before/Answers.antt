use Rattle.std.proofs.Common.{◌≡◌, refl, sym, ◌∙◌, ap, subst}
use Rattle.ctr_page.specs.Reading.{header_in}
use Rattle.ctr_directory.specs.Chains.{RowPagePasses, checks_of}
use Rattle.ctr_directory.proofs.Buckets.{before_others}
use Rattle.ctr_directory.proofs.remembered.Remembered.put_before.Goals as goal

pub returns-in-Some : goal.returns-in-Some
returns-in-Some c = λ pages is yes old.
    let s = c.args.self.now in
    let e = c.in-Some.ensures in
    let to : (header_in (pages s.first)).next ≡ s.head = ap (λ page. (header_in page).next) is ∙ sym e.next ∙ c.if-next-self.true ∙ ap (λ r. r.head) c.take_page.ensures.same in
    let x = before_others c.args.counted pages s c.take_page.new.self s.first c.requires.first old c.take_page.ensures.same
    (subst (λ page. RowPagePasses (checks_of c.args.counted s) page) (sym is) e.passes) e.added e.long (e.leads pages is old.leads) (e.spares pages is old.spares) refl to in
    record { said = x.said; chain = x.chain; runs = x.runs; few = x.few; long = x.long; there = x.there; leads = x.leads; spares = x.spares }
