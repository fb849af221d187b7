-- What a part of a turn did. For inside.
use Rattle.std.specs.Prelude.{◌≡◌, ℕ, ◌+◌, ℤ, Bool, true, false, length, Option, None, Some, Result, Ok, Err, IfOk, OnOk}
use Rattle.ctr_disk.specs.Image.{Image}
use Rattle.ctr_disk.specs.declared.disk.Disk.{Ghosts}
use Rattle.ctr_disk.specs.declared.fault.StoreFault.{StoreFault}
use Rattle.ctr_meta.specs.Kept.{TablesKept}
use Rattle.ctr_page.specs.declared.rows.Place.{Place}
use Rattle.ctr_area.specs.Chains.{slot_places}
use Rattle.ctr_area.specs.Sound.{IsAmong}
use Rattle.ctr_walk.specs.redo_States.{State}
use Rattle.ctr_walk.specs.record_effects_States.{area_in}
use Rattle.ctr_record_laws.specs.Owed.{OwedByUnlink, OwedByOlderUnlink, OwedByFreeing}
use Rattle.ctr_walk.specs.store_Store.{View}
use Rattle.ctr_emptying.specs.page_turns_Rooms.{AddsItems}
use Rattle.ctr_emptying.specs.page_turns_Turns.{Turns}
use Rattle.ctr_locking.specs.cleaning_Sparing.{IsUnlockedAs}
use Rattle.ctr_locking.specs.Locking.{names_of}
use Rattle.ctr_emptying.specs.clean_Lists.{HasNoFree}
use Rattle.ctr_emptying.specs.clean_Steps.{Locks, IsUnlocked}
use Rattle.ctr_emptying.specs.clean_Step.{Step}
use Rattle.ctr_emptying.specs.clean_Step.TheVariants as step
use Rattle.ctr_emptying.specs.Emptying.{HasNoRows, is_creator_open}
use Rattle.ctr_emptying.specs.declared.emptied.Emptied.{Emptied}
use Rattle.ctr_emptying.specs.declared.emptied.Emptied.TheVariants as emptied
use Rattle.ctr_emptying.specs.cursor_Position.{Position}
use Rattle.ctr_cleaner.specs.declared.done.CleanTurn.{CleanTurn}
use Rattle.ctr_cleaner.specs.declared.done.CleanTurn.TheVariants as turn
use Rattle.ctr_cleaner.specs.declared.done.Dealt.{Dealt}
use Rattle.ctr_cleaner.specs.declared.done.Dealt.TheVariants.{Logged as Logs, Unseen}
use Rattle.ctr_cleaner.specs.declared.done.Logged.{Logged}
use Rattle.ctr_cleaner.specs.declared.done.Logged.TheVariants.{Cleaned, Unlinked, Reclaimed}
use Rattle.ctr_cleaner.specs.Finding.{IsFreeRow, HasNothingAt, IsUnseenAt}
use Rattle.ctr_cleaner.specs.Turning.{Heeded, MayAll, CleansFreely}

-- what a part did: it logged one record, or nothing, or didn't see whether there is anything to do
abbrev pub Done : Type 0
Done = Option Dealt

-- the log's next number behind a part
abbrev pub next_done : Done → ℕ → ℕ
next_done None next = next
next_done (Some (Logs logged)) next = next + 1
next_done (Some Unseen) next = next

-- what a part leaves of the room of the tables
abbrev pub PartLeavesRoom : Done → TablesKept → TablesKept → Type 0
PartLeavesRoom (Some (Logs Unlinked)) k l = AddsItems 1 k l
PartLeavesRoom (Some (Logs Reclaimed)) k l =
    AddsItems 0 k l × (length l.tables.items + 1 ≡ length k.tables.items)
PartLeavesRoom other k l = AddsItems 0 k l

-- a page leaves its chain only where it may
abbrev pub IsLetGo : Bool → Done → Type 0
IsLetGo may (Some (Logs Unlinked)) = may ≡ true
IsLetGo may other = Unit {0}

-- A part of a turn logged a record, or read pages; it counts as many, and takes a page from its
-- chain only where it may.
pub record Tries {D : Type 0} (may : Bool) (first : Image) (g : Ghosts D) (a b : View D)
    (result : Result Done StoreFault) : Type 0 where
  pub turns : Turns first g a b result
  pub numbers : IfOk result (λ d. b.next ≡ next_done d a.next)
  pub left : IfOk result (λ d. PartLeavesRoom d a.meta b.meta)
  pub counted : OnOk result (b.now.counted ≡ a.now.counted)
  pub lets : IfOk result (IsLetGo may)

-- what a turn did that logged a record
abbrev pub turn_logged : Logged → CleanTurn
turn_logged Cleaned = turn.Cleaned
turn_logged Unlinked = turn.Unlinked
turn_logged Reclaimed = turn.Reclaimed

-- What a part came to at a position: a record was logged; or it isn't seen whether there is
-- anything to do.
abbrev pub DealtAt : Heeded → Position → State → State → Dealt → Type 0
DealtAt h x s t (Logs logged) = CleansFreely h x (turn_logged logged) s t
DealtAt h x s t Unseen = (t ≡ s) × IsUnseenAt h.locks h.low x s

-- What a part did at a position: it came to that; or nothing, and this holds.
abbrev pub DidAt : Heeded → Position → Type 0 → State → State → Done → Type 0
DidAt h x Found s t None = (t ≡ s) × Found
DidAt h x Found s t (Some dealt) = DealtAt h x s t dealt

-- What holds where a whole turn finds nothing to do: no page waits to be free again, and there is
-- nothing at the position, where everything may be done in a table that is dead.
abbrev pub IsPassed : Heeded → Position → State → Type 0
IsPassed h x s = HasNoFree h.spared s.tables
    × (MayAll h.may → HasNothingAt (IsFreeRow h.locks s) h.low x s)

-- ---- in a table that is dead

-- no page of rows may leave its bucket
abbrev pub HasNoRowsToGo : ℕ → State → Type 0
HasNoRowsToGo e s = (p b : ℕ) → OwedByUnlink s.tables (area_in s) p e b → ⊥

-- nor a page of versions its chain, once no bucket has a page
abbrev pub HasNoPageToGo : ℕ → State → Type 0
HasNoPageToGo e s = HasNoRowsToGo e s
    × (HasNoRows (area_in s) e → (p : ℕ) → OwedByOlderUnlink (area_in s) p e → ⊥)

-- nor may it be freed, unless who made it is open
abbrev pub HasNoEntryToFree : ℕ → State → Type 0
HasNoEntryToFree e s = is_creator_open s e ≡ false → OwedByFreeing (area_in s) e → ⊥

-- ---- what was read

-- No session has the lock of a key in this entry, nor in another of its table's name; or one has,
-- in one of these or in a free one.
abbrev pub KeyLockSaid : Locks → ℕ → ℤ → State → Bool → Type 0
KeyLockSaid locks e key s true =
    IsUnlocked locks e key × IsUnlockedAs (names_of (area_in s)) locks e key
KeyLockSaid locks e key s false = IsFreeRow locks s e key → ⊥

-- A slot is used, and its row isn't locked; or it isn't both.
abbrev pub OpenSaid : Locks → ℕ → Place → State → Bool → Type 0
OpenSaid locks e at s true = KeyLockSaid locks e ((area_in s).slot at).key s true
OpenSaid locks e at s false = ((area_in s).slot at).used ≡ true
    → IsFreeRow locks s e ((area_in s).slot at).key → ⊥

-- A version entry is used, and its row isn't locked; or it isn't both.
abbrev pub OpenOlderSaid : Locks → ℕ → Place → State → Bool → Type 0
OpenOlderSaid locks e q s true = KeyLockSaid locks e ((area_in s).older q).key s true
OpenOlderSaid locks e q s false = ((area_in s).older q).used ≡ true
    → IsFreeRow locks s e ((area_in s).older q).key → ⊥

-- A slot of a table, whose row isn't locked.
pub record IsOpenSlot (locks : Locks) (e : ℕ) (at : Place) (s : State) : Type 0 where
  pub here : IsAmong at (slot_places (area_in s) e)
  pub unlocked : KeyLockSaid locks e ((area_in s).slot at).key s true

-- ---- in words of a turn

-- of a step at a place
abbrev pub done_step : Result Step StoreFault → Result Done StoreFault
done_step (Ok step.Cleaned) = Ok (Some (Logs Cleaned))
done_step (Ok step.Nothing) = Ok None
done_step (Ok step.Beyond) = Ok (Some Unseen)
done_step (Err e) = Err e

-- of a step that gives a page back
abbrev pub done_reclaim : Result Step StoreFault → Result Done StoreFault
done_reclaim (Ok step.Cleaned) = Ok (Some (Logs Reclaimed))
done_reclaim (Ok step.Nothing) = Ok None
done_reclaim (Ok step.Beyond) = Ok (Some Unseen)
done_reclaim (Err e) = Err e

-- of a step at an entry that is dead
abbrev pub done_freed : Result Emptied StoreFault → Result Done StoreFault
done_freed (Ok emptied.OneRecord) = Ok (Some (Logs Cleaned))
done_freed (Ok emptied.Nothing) = Ok None
done_freed (Err e) = Err e

-- of a page that leaves its chain
abbrev pub done_unlinked : Result Emptied StoreFault → Result Done StoreFault
done_unlinked (Ok emptied.OneRecord) = Ok (Some (Logs Unlinked))
done_unlinked (Ok emptied.Nothing) = Ok None
done_unlinked (Err e) = Err e
