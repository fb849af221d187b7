-- What the call leaves, by what its steps leave.
use Rattle.std.proofs.Common.{inr, Result, Ok, Err}
use Rattle.std.specs.Prelude.{⊤, IsTrue, IfErr}
use Rattle.ctr_disk.specs.declared.disk.Disk.{Ghosts}
use Rattle.ctr_disk.specs.Image.{Image}
use Rattle.ctr_disk.specs.declared.fault.StoreFault.{StoreFault}
use Rattle.ctr_page.specs.declared.walk.BadChain.{BadChain}
use Rattle.ctr_page.specs.declared.rows.Place.{Place}
use Rattle.ctr_pvs.specs.base_Base.{IsSoundImage}
use Rattle.ctr_pvs.specs.store_Store.{View}
use Rattle.ctr_pvs.specs.walk_OneRecord.{WhyNotLogged, LogsOne}
use Rattle.ctr_pvs.specs.record_effects_States.{pages_in}
use Rattle.ctr_revert.specs.declared.slots.SlotLaid.{SlotLaid}
use Rattle.ctr_revert.specs.Reverting.{lost_record, bytes_laid, RevertsHead, PassesRow, EndsReverting, RevertsRow}

-- what is laid was given to the log
pub reverts : {D : Type 0} (first : Image) (g : Ghosts D) (at : Place) (l : SlotLaid) (a b : View D) (result : Result ⊤ StoreFault) → LogsOne {T = ⊤} first g (lost_record l.x at l.w (bytes_laid l)) a b result
    → (IsTrue g.tells → IsSoundImage first → RevertsHead (pages_in a.now) at l.x l.w (bytes_laid l)) → RevertsRow first g at a b result
reverts first g at l a b (Ok t) one head = (l.x, l.w, bytes_laid l, one, head)
reverts first g at l a b (Err e) one head = inr (l.x, l.w, bytes_laid l, one)

-- where all passes
pub ends_laid : {D : Type 0} (told : BadChain → StoreFault) (at : Place) (l : SlotLaid) (a b : View D) (result : Result ⊤ StoreFault) → PassesRow a.now.counted (pages_in a.now) at l
    → IfErr result (WhyNotLogged (lost_record l.x at l.w (bytes_laid l)) a b) → EndsReverting told at a b result
ends_laid told at l a b (Ok t) passed why = passed.passes
ends_laid told at l a b (Err e) passed why = inr (passed.passes, l.x, l.w, bytes_laid l, passed.head, why)
