-- What a page that leaves its chain is to a turn.
use Rattle.std.proofs.Common.{inl, inr, ℕ, Result, Ok, Err}
use Rattle.std.specs.Prelude.{⊤}
use Rattle.ctr_disk.specs.declared.disk.Disk.{Ghosts}
use Rattle.ctr_disk.specs.Image.{Image}
use Rattle.ctr_disk.specs.declared.fault.StoreFault.{StoreFault}
use Rattle.ctr_page.specs.declared.checks.Chain.{Chain}
use Rattle.ctr_pvs.specs.store_Store.{View}
use Rattle.ctr_clean.specs.page_turns_Turns.{Turns, Reads, LogsARecord}
use Rattle.ctr_clean.specs.dead_Unlinking.{leaving_record, LeavesItsChain}

pub leaving_turns : {D : Type 0} (first : Image) (g : Ghosts D) (p : ℕ) (chain : Chain) (a b : View D) (result : Result ⊤ StoreFault) → LeavesItsChain first g p chain a b result → Turns {T = ⊤} first g a b result
leaving_turns first g p chain a b (Ok t) (next, one, is) = LogsARecord (leaving_record p next chain, one)
leaving_turns first g p chain a b (Err e) (inl read) = Reads read
leaving_turns first g p chain a b (Err e) (inr (next, one, is)) = LogsARecord (leaving_record p next chain, one)
