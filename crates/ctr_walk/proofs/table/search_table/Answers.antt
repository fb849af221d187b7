use Rattle.std.proofs.Common.{◌+◌, ◌/◌, None, Ok, subst}
use Rattle.ctr_record_effects.specs.page_Damage.{chain_entry}
use Rattle.ctr_record_effects.specs.States.{pages_in}
use Rattle.ctr_walk.proofs.Joins.{pages_join}
use Rattle.ctr_walk.specs.Damage.{searched}
use Rattle.ctr_walk.specs.Tables.{ChainSaid, EndsChain}
use Rattle.ctr_walk.proofs.Said.{no_page}
use Rattle.ctr_walk.proofs.table.search_table.Goals as goal

pub returns-in_default-clause-ends : goal.returns-in_default-clause-ends
returns-in_default-clause-ends g c = λ told sound.
    let chain = c.args.chain in
    let pages = pages_in c.args.store.now.now in
    let page = pages (1 + chain_entry chain / 16) in
    subst (λ n. EndsChain n pages chain (g.S.PageSought.ends c.args.sought.now) (Ok None)) c.counted-counted.ensures
    (no_page c.counted-counted.result pages chain (g.S.PageSought.ends c.args.sought.now) c.requires.there
    (subst (λ o. ChainSaid c.counted-counted.result chain page (Ok o)) c.in_default.is (c.in_ok-pages.ensures.said told sound)))

pub returns-clause-leaves : goal.returns-clause-leaves
returns-clause-leaves g c =
    pages_join g.D.Disk c.args.store.now c.pages_of.new.store c.search_pages.new.store g.O.Origin.first _ _ _ (searched c.search_pages.result) c.in_ok-pages.ensures.leaves c.search_pages.ensures.leaves
