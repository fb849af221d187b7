use Rattle.std.proofs.Common.{◌≡◌, ◌-◌}
use Rattle.std.specs.Prelude.{IsTrue, ⊤}
use Rattle.ctr_base.specs.Base.{IsSoundImage}
use Rattle.ctr_area.specs.Chains.{places_on}
use Rattle.ctr_walk.specs.record_effects_States.{area_in}
use Rattle.ctr_walk.proofs.PagesRead.{HasRead}
use Rattle.ctr_reading.specs.Reading.{sight_sees}
use Rattle.ctr_reading.specs.Gathering.{gathered, ArePageSlots}
use Rattle.ctr_reading.proofs.gathering.gather_slots.Given as goal

abbrev pub invariant-loop-slot : goal.invariant-loop-slot
invariant-loop-slot g l =
    HasRead g.O.Origin.first g.D.Disk ⊤ l.fn.store l.store
    × (IsTrue g.D.Disk.tells → IsSoundImage g.O.Origin.first → ArePageSlots l.fn.store.now l.slots
    → gathered (sight_sees l.fn.store.now.tables l.sight) (area_in l.fn.store.now) (places_on l.slots.page l.slot (l.slots.count - l.slot)) l.rows
    ≡ gathered (sight_sees l.fn.store.now.tables l.sight) (area_in l.fn.store.now) (places_on l.slots.page 0 l.slots.count) l.fn.rows)
