use Rattle.std.proofs.Common.{◌≡◌}
use Rattle.std.specs.Prelude.{IsTrue}
use Rattle.ctr_alloc.specs.base_Base.{IsSoundImage}
use Rattle.ctr_names.specs.page_Searching.{PassesBy}
use Rattle.ctr_alloc.specs.record_effects_States.{pages_in, area_in}
use Rattle.ctr_alloc.proofs.walk_PagesRead.{HasRead}
use Rattle.ctr_catalog.specs.Finding.{checks_at, entry_seen}
use Rattle.ctr_catalog.proofs.finding.search_entries.Given as goal

abbrev pub invariant-loop-entry : goal.invariant-loop-entry
invariant-loop-entry g l =
    HasRead g.O.Origin.first g.D.Disk (l.entry ≡ 0) l.fn.store l.store
    × (IsTrue g.D.Disk.tells → IsSoundImage g.O.Origin.first
    → PassesBy (checks_at l.counted (pages_in l.fn.store.now)) (entry_seen l.fn.store.meta.tables l.snapshot l.me l.name (area_in l.fn.store.now)) 0 l.entry)
