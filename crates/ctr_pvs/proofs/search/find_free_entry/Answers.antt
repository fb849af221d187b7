use Rattle.std.proofs.Common.{◌<◌}
use Rattle.ctr_page.specs.declared.checks.Chain.TheVariants.{Versions}
use Rattle.ctr_passed.specs.record_effects_States.{pages_in, area_in}
use Rattle.ctr_walk.specs.Damage.{damage_told}
use Rattle.ctr_walk.proofs.Ends.{told_there}
use Rattle.ctr_walk.proofs.Said.{told_finds}
use Rattle.ctr_walk.proofs.Telling.{bounded}
use Rattle.ctr_pvs.specs.Entries.{EndsFree}
use Rattle.ctr_pvs.specs.Along.{FindsFreeEntry, entries_on_page}
use Rattle.ctr_pvs.proofs.Telling.{entry_told}
use Rattle.ctr_pvs.proofs.search.find_free_entry.Goals as goal

pub returns-clause-finds : goal.returns-clause-finds
returns-clause-finds g c = λ told sound readable.
    let s = c.args.store.now.now in
    told_finds s.counted (pages_in s) (Versions c.args.entry) EndsFree (damage_told g.D.Disk c.search_chain.new.store) (FindsFreeEntry (area_in s) c.args.entry) c.search_chain.result
    (entry_told (pages_in s) c.args.entry s.counted readable (bounded s.counted c.counts_pages.ensures.1)) (c.search_chain.ensures.ends told sound)

pub returns-clause-on_page : goal.returns-clause-on_page
returns-clause-on_page g c = λ told sound.
    let s = c.args.store.now.now in
    told_there (damage_told g.D.Disk c.search_chain.new.store) s.counted (pages_in s) (Versions c.args.entry) EndsFree (λ at. at.slot < entries_on_page (area_in s) c.args.entry)
    (λ at ends. ends.1) c.search_chain.result (c.search_chain.ensures.ends told sound)
