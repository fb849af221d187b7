-- The first page of a chain leaves it.
use Rattle.std.specs.Prelude.{◌≡◌, ◌⊎◌, ℕ, ◌+◌, ◌*◌, IsTrue, List, ⊤, Result, Ok, Err}
use Rattle.ctr_disk.specs.declared.disk.Disk.{Ghosts}
use Rattle.ctr_disk.specs.Image.{Image}
use Rattle.ctr_disk.specs.declared.fault.StoreFault.{StoreFault}
use Rattle.ctr_rec.specs.declared.record.Record.{Record}
use Rattle.ctr_rec.specs.declared.decoding.BadRecord.{BadRecord}
use Rattle.ctr_page.specs.declared.checks.Chain.{Chain}
use Rattle.ctr_page.specs.declared.checks.Chain.TheVariants.{Rows, Versions}
use Rattle.ctr_page.specs.declared.walk.BadChain.{BadChain}
use Rattle.ctr_page.specs.declared.table.TheConstants.{FIRSTS_AT, VERSIONS_AT}
use Rattle.ctr_page.specs.Damage.{header_check}
use Rattle.ctr_page.specs.Reading.{header_in}
use Rattle.ctr_area.specs.Areas.{Area}
use Rattle.ctr_walk.specs.base_Base.{IsSoundImage}
use Rattle.ctr_walk.specs.store_Store.{View}
use Rattle.ctr_walk.specs.OneRecord.{WhyNotLogged, LogsOne}
use Rattle.ctr_walk.specs.Damage.{EndsOnPage, EndsTold, ReadsPages}
use Rattle.ctr_meta.specs.Tables.{Tables}
use Rattle.ctr_record_effects.specs.States.{pages_in}
use Rattle.ctr_record_effects.specs.Changing.{unlink_record, unlink_older_record}
use Rattle.ctr_record_laws.specs.Owed.{OwedByUnlink, OwedByOlderUnlink}
use Rattle.ctr_alloc.specs.actions_Actions.{Action, Unlinks, UnlinksOlder}

-- where an entry of the catalog has the first page of a chain
abbrev pub front_at : Chain → ℕ
front_at (Rows e b) = FIRSTS_AT + 4 * b
front_at (Versions e) = VERSIONS_AT

-- a page leaves the front of a chain, which then begins with the next one
abbrev pub leaving_record : ℕ → ℕ → Chain → Record
leaving_record p next (Rows e b) = unlink_record p next e b
leaving_record p next (Versions e) = unlink_older_record p next e

-- The action by which a page leaves its chain.
abbrev pub leaves_chain : ℕ → Chain → Action
leaves_chain p (Rows e b) = Unlinks p e b
leaves_chain p (Versions e) = UnlinksOlder p e

-- What is owed where a page leaves its chain.
abbrev pub OwedByLeaving : Tables → Area → ℕ → Chain → Type 0
OwedByLeaving tables area p (Rows e b) = OwedByUnlink tables area p e b
OwedByLeaving tables area p (Versions e) = OwedByOlderUnlink area p e

-- A page passes as one of a chain, and this is the next one; or what is wrong is told.
abbrev pub NextPageSaid : ℕ → Chain → List ℕ → Result ℕ BadRecord → Type 0
NextPageSaid counted chain page (Ok next) =
    (header_check chain counted page ≡ Ok tt) × (next ≡ (header_in page).next)
NextPageSaid counted chain page (Err bad) = header_check chain counted page ≡ Err bad

-- Its record is logged, with the next page as the page's header says it; or pages were read, or the
-- record was refused.
abbrev pub LeavesItsChain : {D : Type 0} → Image → Ghosts D → ℕ → Chain → View D → View D
    → Result ⊤ StoreFault → Type 0
LeavesItsChain first g p chain a b (Ok t) =
    (next : ℕ) × LogsOne {T = ⊤} first g (leaving_record p next chain) a b (Ok tt)
    × (IsTrue g.tells → IsSoundImage first → next ≡ (header_in (pages_in a.now p)).next)
LeavesItsChain first g p chain a b (Err e) = ReadsPages {T = ⊤} first g a b (Err e)
    ⊎ ((next : ℕ) × LogsOne {T = ⊤} first g (leaving_record p next chain) a b (Err e)
    × (IsTrue g.tells → IsSoundImage first → next ≡ (header_in (pages_in a.now p)).next))

-- Where the call ends: the page passes as one of the chain; or what is wrong is told; or it passes,
-- and the record was refused.
abbrev pub EndsUnlinking : {D : Type 0} → (BadChain → StoreFault) → ℕ → Chain → View D → View D
    → Result ⊤ StoreFault → Type 0
EndsUnlinking told p chain a b (Ok x) = header_check chain a.now.counted (pages_in a.now p) ≡ Ok tt
EndsUnlinking told p chain a b (Err cause) =
    EndsTold {T = ℕ} told (EndsOnPage p (NextPageSaid a.now.counted chain (pages_in a.now p)))
    (Err cause)
    ⊎ ((header_check chain a.now.counted (pages_in a.now p) ≡ Ok tt)
    × WhyNotLogged (leaving_record p (header_in (pages_in a.now p)).next chain) a b cause)
