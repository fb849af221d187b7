use Rattle.std.proofs.Common.{◌≡◌, ◌<◌, ℕ}
use Rattle.std.specs.Prelude.{IsTrue}
use Rattle.ctr_base.specs.Base.{IsSoundImage}
use Rattle.ctr_area.specs.Images.{is_committed_in}
use Rattle.ctr_record_effects.specs.States.{area_in}
use Rattle.ctr_walk.proofs.PagesRead.{HasRead}
use Rattle.ctr_totals.specs.Finding.{IsLoad}
use Rattle.ctr_totals.proofs.finding.find.Given as goal

-- pages of the entries before were read, and none of these has the table
abbrev pub invariant-loop-entry : goal.invariant-loop-entry
invariant-loop-entry g l = record {
  read : HasRead g.O.Origin.first g.D.Disk (l.entry ≡ 0) l.fn.store l.store;
  none : IsTrue g.D.Disk.tells → IsSoundImage g.O.Origin.first → (e : ℕ) → e < l.entry → IsLoad (is_committed_in l.fn.store.now.tables) ((area_in l.fn.store.now).title e) → ⊥;
}
