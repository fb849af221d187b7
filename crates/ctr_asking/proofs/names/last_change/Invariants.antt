use Rattle.std.proofs.Common.{◌≡◌, ◌≤◌, ◌-◌}
use Rattle.std.specs.Prelude.{IsTrue}
use Rattle.ctr_base.specs.Base.{IsSoundImage}
use Rattle.ctr_walk.proofs.PagesRead.{HasRead}
use Rattle.ctr_wishes.specs.actions_Sites.{site_of}
use Rattle.ctr_asking.specs.Causes.{last_change}
use Rattle.ctr_asking.proofs.names.last_change.Given as goal

-- the pages of the entries before were read, and this is the last of their changes
abbrev pub invariant-loop-entry : goal.invariant-loop-entry
invariant-loop-entry g l =
    HasRead g.O.Origin.first g.D.Disk (l.entry ≡ 0) l.fn.store l.store
    × (l.entry ≤ 32)
    × (IsTrue g.D.Disk.tells → IsSoundImage g.O.Origin.first
    → l.last ≡ last_change l.txns.numbers.commits (site_of l.fn.store.now) l.snapshot l.name l.entry)

abbrev pub decreases-loop-entry : goal.decreases-loop-entry
decreases-loop-entry g l = 32 - l.entry
