-- One step of the cleaner, at one place: it logs the record of one of its actions, which owes
-- nothing more, or it does nothing.
use Rattle.std.specs.Prelude.{◌≡◌, ℕ, ◌+◌, List, Bool, true, false, None, ℤ}
use Rattle.ctr_meta.specs.Tables.{is_in}
use Rattle.ctr_page.specs.declared.rows.Place.{Place}
use Rattle.ctr_locks.specs.Held.{LocksOfSession, locks_key, first_that}
use Rattle.ctr_pvs.specs.redo_States.{State}
use Rattle.ctr_record_effects.specs.States.{area_in}
use Rattle.ctr_record_laws.specs.Owed.{Reverting, OwedByRevert, Trimming, OwedByTrim}
use Rattle.ctr_actions.specs.Sites.{Site, site_of}
use Rattle.ctr_actions.specs.Actions.{Action, Reverts, Trims, Cuts, FreesOlder}
use Rattle.ctr_actions.specs.Cleaning.{IsCleaning}
use Rattle.ctr_dead.specs.page_turns_Acts.{ActsBy}
use Rattle.ctr_dead.specs.trim_TrimWay.{TrimWay}
use Rattle.ctr_dead.specs.trim_Trimming.{trimming_by}
use Rattle.ctr_clean.specs.Choosing.{passes_below, MayTrim}
use Rattle.ctr_clean.specs.declared.choosing.SlotTask.{SlotTask}
use Rattle.ctr_clean.specs.declared.choosing.SlotTask.TheVariants as task
use Rattle.ctr_clean.specs.declared.steps.Step.{Step}
use Rattle.ctr_clean.specs.declared.steps.Step.TheVariants.{Cleaned, Nothing, Beyond}

-- which keys sessions have locked, in which entries of the catalog
abbrev pub Locks : Type 0
Locks = List (ℕ × LocksOfSession)

-- no session has the lock of a key of an entry of the catalog
abbrev pub IsUnlocked : Locks → ℕ → ℤ → Type 0
IsUnlocked locks e key = first_that (locks_key e key) locks ≡ None

-- The row that an action is about isn't locked.
abbrev pub IsFreeOf : Locks → Action → Site → Type 0
IsFreeOf locks (Reverts e at way) s = IsUnlocked locks e (s.area.slot at).key
IsFreeOf locks (Trims passes e at way) s = IsUnlocked locks e (s.area.slot at).key
IsFreeOf locks (Cuts passes e at q) s = IsUnlocked locks e (s.area.slot at).key
IsFreeOf locks (FreesOlder e q) s = IsUnlocked locks e (s.area.older q).key
IsFreeOf locks a s = Unit {0}

-- A state is left by an action of the cleaner's for nobody, which owes nothing more in the one
-- before; its row isn't locked, its bytes lie at what it changes, and they pass their checks.
pub record CleansOne (low : ℕ) (locks : Locks) (s t : State) : Type 0 where
  pub action : Action
  pub cleaning : IsCleaning (passes_below low s.tables) action (site_of s)
  pub free : IsFreeOf locks action (site_of s)
  pub acts : ActsBy s.tables.next action s t

-- no row at a place of a table may be trimmed, unless it is locked
abbrev pub HasNoTrim : ℕ → Locks → ℕ → Place → State → Type 0
HasNoTrim low locks e at s = IsUnlocked locks e ((area_in s).slot at).key → (way : Trimming)
    → OwedByTrim (passes_below low s.tables) s.tables (area_in s) e at way → ⊥

-- The slot at a place is used and may be trimmed in this way, and its row isn't locked.
abbrev pub MayTrimAt : ℕ → Locks → ℕ → Place → State → TrimWay → Type 0
MayTrimAt low locks e at s way = (((area_in s).slot at).used ≡ true)
    × IsUnlocked locks e ((area_in s).slot at).key
    × MayTrim (trimming_by way) (passes_below low s.tables) ((area_in s).slot at)

-- ---- heads

-- no head at a place of a table may be taken from its row, unless that is locked
abbrev pub HasNoRevert : Locks → ℕ → Place → State → Type 0
HasNoRevert locks e at s = IsUnlocked locks e ((area_in s).slot at).key → (way : Reverting)
    → OwedByRevert s.tables (area_in s) e at way → ⊥

-- The head of the slot at a place is by a transaction that is rolled back, and its row isn't
-- locked; or no head there may be taken.
abbrev pub GoesAt : Locks → ℕ → Place → State → Bool → Type 0
GoesAt locks e at s true = (((area_in s).slot at).used ≡ true)
    × IsUnlocked locks e ((area_in s).slot at).key
    × (is_in ((area_in s).slot at).head.0 s.tables.aborted ≡ true)
GoesAt locks e at s false = HasNoRevert locks e at s

-- What a step did that takes a head from a slot of a table, live or dead.
abbrev pub RevertsAt : ℕ → Locks → ℕ → Place → State → State → Step → Type 0
RevertsAt low locks e at s t Cleaned = (one : CleansOne low locks s t)
    × ((way : Reverting) × (one.action ≡ Reverts e at way))
RevertsAt low locks e at s t Nothing = (t ≡ s) × HasNoRevert locks e at s
RevertsAt low locks e at s t Beyond = ⊥

-- ---- a slot of a live table

-- What is to be done with the slot at a place, whose row isn't locked; or neither may its head be
-- taken, nor may it be trimmed.
abbrev pub TaskAt : ℕ → Locks → ℕ → Place → State → SlotTask → Type 0
TaskAt low locks e at s task.Nothing = HasNoRevert locks e at s × HasNoTrim low locks e at s
TaskAt low locks e at s task.Revert = GoesAt locks e at s true
TaskAt low locks e at s (task.Trim way) = MayTrimAt low locks e at s way

-- The action is of the slot at a place: its head is taken, or it is trimmed.
abbrev pub IsDoneAt : ℕ → Place → Action → Type 0
IsDoneAt e at (Reverts f b way) = (f ≡ e) × (b ≡ at)
IsDoneAt e at (Trims passes f b way) = (f ≡ e) × (b ≡ at)
IsDoneAt e at a = ⊥

-- What a step did at a slot of a live table.
abbrev pub CleansSlot : ℕ → Locks → ℕ → Place → State → State → Step → Type 0
CleansSlot low locks e at s t Cleaned = (one : CleansOne low locks s t) × IsDoneAt e at one.action
CleansSlot low locks e at s t Nothing =
    (t ≡ s) × HasNoRevert locks e at s × HasNoTrim low locks e at s
CleansSlot low locks e at s t Beyond = ⊥

-- the log's next number behind a step
abbrev pub next_stepped : Step → ℕ → ℕ
next_stepped Cleaned next = next + 1
next_stepped Nothing next = next
next_stepped Beyond next = next
