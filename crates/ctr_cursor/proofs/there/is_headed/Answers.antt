use Rattle.std.proofs.Common.{sym, ◌∙◌, ap, subst}
use Rattle.ctr_page.specs.Reading.{header_in}
use Rattle.ctr_walk.proofs.Limits.{in_limit}
use Rattle.ctr_walk.specs.record_effects_States.{pages_in}
use Rattle.ctr_reading.proofs.pvs_Told.{header_here}
use Rattle.ctr_cursor.specs.Standing.{IsOfChain}
use Rattle.ctr_cursor.proofs.there.is_headed.Goals as goal

pub returns-clause-yes : goal.returns-clause-yes
returns-clause-yes g c = λ told sound behind is.
    let p = c.args.p in
    let pages = pages_in c.args.store.now.now in
    subst (IsOfChain c.args.chain) (c.read_header.ensures.read ∙ ap header_in (c.in_ok-page.ensures.shown told sound (in_limit p c.requires.there)) ∙ sym (header_here pages p behind)) (c.is_of_chain.ensures.yes is)

pub returns-clause-no : goal.returns-clause-no
returns-clause-no g c = λ told sound behind isnt headed.
    let p = c.args.p in
    let pages = pages_in c.args.store.now.now in
    c.is_of_chain.ensures.no isnt
    (subst (IsOfChain c.args.chain) (sym (c.read_header.ensures.read ∙ ap header_in (c.in_ok-page.ensures.shown told sound (in_limit p c.requires.there)) ∙ sym (header_here pages p behind))) headed)
