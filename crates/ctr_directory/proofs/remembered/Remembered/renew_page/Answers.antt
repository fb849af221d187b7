use Rattle.std.proofs.Common.{◌≡◌, refl, sym, ◌∙◌, ap}
use Rattle.ctr_page.specs.declared.checks.Chain.{Chain}
use Rattle.ctr_page.specs.declared.header.Header.{Header}
use Rattle.ctr_page.specs.Reading.{header_in}
use Rattle.ctr_page.specs.Damage.{header_check}
use Rattle.ctr_directory.specs.declared.remembered.Remembered.{Remembered}
use Rattle.ctr_directory.specs.Chains.{keys_in, kinds_kept}
use Rattle.ctr_directory.proofs.Buckets.{was_there, slots_stay, page_renewed}
use Rattle.ctr_directory.proofs.remembered.Remembered.renew_page.Goals as goal

pub returns-in-Ok-note : goal.returns-in-Ok-note
returns-in-Ok-note c = λ a b first changes yes said old.
    let s : Remembered = record c.args.self.now { first = first } in
    let t : Remembered = record c.args.self.now { places = c.renew.new.places; spare = c.note.new.spare } in
    let was = was_there c.args.counted c.args.number c.args.span c.args.before.now c.args.page.now a b changes s old c.requires.whole.0 c.requires.there in
    let stay = slots_stay c.args.counted c.args.number c.args.span c.args.before.now c.args.page.now a b changes s old c.requires.whole.0 c.requires.whole.1 c.requires.there in
    let next : (header_in c.args.page.now).next ≡ (header_in c.args.before.now).next =
    sym (ap (λ (h : Header). h.next) c.read_header.ensures.read) ∙ c.if-read_header.false ∙ ap (λ (h : Header). h.next) c.read_header-2.ensures.read in
    let passes = sym (c.in-Ok.ensures ∙ ap (λ (k : Chain). header_check k c.args.counted c.args.page.now) c.chain.ensures) in
    let x = page_renewed c.args.counted c.args.number c.args.span c.args.before.now c.args.page.now a b changes s old t said refl c.requires.there (passes, c.in-Ok-renew.ensures.checked stay) next
    (c.in-Ok-renew.ensures.leads stay (keys_in s.pages (kinds_kept s) a) old.leads was) c.in-Ok-note.ensures.full c.in-Ok-note.ensures.others in
    record { said = x.said; chain = x.chain; runs = x.runs; few = x.few; long = x.long; there = x.there; leads = x.leads; spares = x.spares }
