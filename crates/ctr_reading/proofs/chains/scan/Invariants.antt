use Rattle.std.proofs.Common.{◌≡◌, drop}
use Rattle.std.specs.Prelude.{IsTrue}
use Rattle.ctr_base.specs.Base.{IsSoundImage}
use Rattle.ctr_area.specs.Chains.{slot_places}
use Rattle.ctr_walk.specs.record_effects_States.{area_in}
use Rattle.ctr_walk.proofs.PagesRead.{HasRead}
use Rattle.ctr_reading.specs.Reading.{sight_sees}
use Rattle.ctr_reading.specs.Gathering.{gathered}
use Rattle.ctr_reading.proofs.Gathers.{buckets_places}
use Rattle.ctr_reading.proofs.chains.scan.Given as goal

-- pages of the buckets before were read, and with those of the others the rows are those of all
abbrev pub invariant-loop-bucket : goal.invariant-loop-bucket
invariant-loop-bucket g l =
    HasRead g.O.Origin.first g.D.Disk (l.bucket ≡ 0) l.fn.store l.store
    × (IsTrue g.D.Disk.tells → IsSoundImage g.O.Origin.first
    → gathered (sight_sees l.fn.store.now.tables l.sight) (area_in l.fn.store.now) (buckets_places (sight_sees l.fn.store.now.tables l.sight) (area_in l.fn.store.now) (drop l.bucket ((area_in l.fn.store.now).firsts l.entry).buckets)) l.rows
    ≡ gathered (sight_sees l.fn.store.now.tables l.sight) (area_in l.fn.store.now) (slot_places (area_in l.fn.store.now) l.entry) l.fn.rows)
