use Rattle.std.proofs.Common.{◌≡◌, ◌≢◌}
use Rattle.std.specs.Prelude.{IsTrue}
use Rattle.ctr_base.specs.Base.{IsSoundImage}
use Rattle.ctr_record_effects.specs.States.{area_in}
use Rattle.ctr_walk.proofs.PagesRead.{HasRead}
use Rattle.ctr_locking.proofs.Locked.{AreUnlockedTo}
use Rattle.ctr_locking.proofs.locking.is_locked.Given as goal

-- pages may have been read, and in the entries before that have the name the key isn't locked
abbrev pub invariant-loop-other : goal.invariant-loop-other
invariant-loop-other g l = record {
  read : HasRead g.O.Origin.first g.D.Disk (l.other ≡ 0) l.fn.store l.store;
  unlocked : IsTrue g.D.Disk.tells → IsSoundImage g.O.Origin.first → ((area_in l.fn.store.now).title l.fn.entry).state ≢ 0 → AreUnlockedTo l.fn.locks (area_in l.fn.store.now) l.fn.entry l.fn.key l.other;
}
