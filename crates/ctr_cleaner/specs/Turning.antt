-- What a turn of the cleaner did.
use Rattle.std.specs.Prelude.{◌≡◌, ◌≤◌, ℕ, ◌+◌, Bool, true, drop, length, Option, Some, None, IfSome}
use Rattle.ctr_rec.specs.declared.record.SlogItem.TheVariants.{FreeOf}
use Rattle.ctr_meta.specs.Kept.{TablesKept}
use Rattle.ctr_area.specs.Areas.{Title, Area}
use Rattle.ctr_area.specs.Sound.{IsAmong}
use Rattle.ctr_walk.specs.redo_States.{State}
use Rattle.ctr_actions.specs.Sites.{Site, site_of}
use Rattle.ctr_actions.specs.Actions.{Action, Reverts, Trims, Cuts, FreesOlder, FreesEntry, Reclaims, Unlinks, UnlinksOlder}
use Rattle.ctr_actions.specs.Cleaning.{IsCleaning}
use Rattle.ctr_walk.specs.store_Store.{View}
use Rattle.ctr_walk.specs.OneRecord.{HasRoomForOne}
use Rattle.ctr_emptying.specs.page_turns_Acts.{ActsBy}
use Rattle.ctr_emptying.specs.page_turns_Rooms.{AddsItems}
use Rattle.ctr_locking.specs.cleaning_Sparing.{IsUnlockedAs}
use Rattle.ctr_locking.specs.Locking.{names_of}
use Rattle.ctr_emptying.specs.clean_Choosing.{passes_below}
use Rattle.ctr_emptying.specs.clean_Lists.{HasNoFree}
use Rattle.ctr_emptying.specs.clean_Steps.{Locks}
use Rattle.ctr_emptying.specs.cursor_Position.{Position}
use Rattle.ctr_emptying.specs.cursor_Pass.{next_position}
use Rattle.ctr_emptying.specs.cursor_Standing.{IsCountedPosition, TakesPage}
use Rattle.ctr_cleaner.specs.declared.done.MayEmpty.{MayEmpty}
use Rattle.ctr_cleaner.specs.declared.done.CleanTurn.{CleanTurn}
use Rattle.ctr_cleaner.specs.declared.done.CleanTurn.TheVariants.{Cleaned, Unlinked, Reclaimed, Moved, Over, Left}
use Rattle.ctr_cleaner.specs.Finding.{IsFreeRow, HasNothingAt, IsUnseenAt}

-- What the cleaner heeds: below which number everybody sees what is committed, who has locked which
-- rows, how many items at the front of the secondary log are undo's, and what may be done in a
-- table that is dead.
pub record Heeded : Type 0 where
  pub low : ℕ
  pub locks : Locks
  pub spared : ℕ
  pub may : MayEmpty

-- what the cleaner heeds, of these
abbrev pub heeding : ℕ → Locks → ℕ → MayEmpty → Heeded
heeding low locks spared may =
    record { low = low; locks = locks; spared = spared; may = may }

-- everything may be done in a table that is dead
abbrev pub MayAll : MayEmpty → Type 0
MayAll may = (may.unlink ≡ true) × (may.free ≡ true)

-- The row that an action is about isn't locked, in an entry of its table's name.
abbrev pub IsOfOpenRow : Locks → Action → Site → Type 0
IsOfOpenRow locks (Reverts e at way) s = IsUnlockedAs (names_of s.area) locks e (s.area.slot at).key
IsOfOpenRow locks (Trims passes e at way) s =
    IsUnlockedAs (names_of s.area) locks e (s.area.slot at).key
IsOfOpenRow locks (Cuts passes e at q) s =
    IsUnlockedAs (names_of s.area) locks e (s.area.slot at).key
IsOfOpenRow locks (FreesOlder e q) s = IsUnlockedAs (names_of s.area) locks e (s.area.older q).key
IsOfOpenRow locks a s = Unit {0}

-- An action is what a turn says of it: a page leaves its chain, or one is free again, or neither.
abbrev pub IsToldByTurn : CleanTurn → Action → Type 0
IsToldByTurn Unlinked (Unlinks p e b) = Unit {0}
IsToldByTurn Unlinked (UnlinksOlder p e) = Unit {0}
IsToldByTurn Unlinked a = ⊥
IsToldByTurn Reclaimed (Reclaims p) = Unit {0}
IsToldByTurn Reclaimed a = ⊥
IsToldByTurn turn (Unlinks p e b) = ⊥
IsToldByTurn turn (UnlinksOlder p e) = ⊥
IsToldByTurn turn (Reclaims p) = ⊥
IsToldByTurn turn a = Unit {0}

-- A state is left by an action of the cleaner's for nobody, which owes nothing more in the one
-- before, and is what the turn says. Its row isn't locked; a page that is given back is that of an
-- item behind undo's; an entry is freed only where it may; and the position's page stays in its
-- chain.
pub record CleansFreely (h : Heeded) (x : Position) (turn : CleanTurn) (s t : State) : Type 0
  where
    pub action : Action
    pub told : IsToldByTurn turn action
    pub cleaning : IsCleaning (passes_below h.low s.tables) action (site_of s)
    pub free : IsOfOpenRow h.locks action (site_of s)
    pub spares : (p : ℕ) → action ≡ Reclaims p → IsAmong (FreeOf p) (drop h.spared s.tables.items)
    pub frees : (e : ℕ) (title : Title) (left : Area) → action ≡ FreesEntry e title left
        → h.may.free ≡ true
    pub stays : TakesPage action x → ⊥
    pub acts : ActsBy s.tables.next action s t

-- The state is as it was. No page waits to be free again but undo's. There is nothing to do at the
-- position, which is said only where everything may be done in a table that is dead. And this is
-- the position behind it, if any.
pub record PassesPosition (h : Heeded) (x : Position) (y : Option Position)
    (s t : State) : Type 0 where
  pub same : t ≡ s
  pub free : HasNoFree h.spared s.tables
  pub nothing : MayAll h.may → HasNothingAt (IsFreeRow h.locks s) h.low x s
  pub behind : next_position (site_of s) x ≡ y

-- The state is as it was. At the position it isn't seen whether there is anything to do. And this
-- is the position behind it, if any.
pub record LeavesPosition (h : Heeded) (x : Position) (y : Option Position)
    (s t : State) : Type 0 where
  pub same : t ≡ s
  pub unseen : IsUnseenAt h.locks h.low x s
  pub behind : next_position (site_of s) x ≡ y

-- What a turn did at its position.
abbrev pub TurnsAt : Heeded → Position → State → State → CleanTurn → Type 0
TurnsAt h x s t Cleaned = CleansFreely h x Cleaned s t
TurnsAt h x s t Unlinked = CleansFreely h x Unlinked s t
TurnsAt h x s t Reclaimed = CleansFreely h x Reclaimed s t
TurnsAt h x s t (Moved y) = PassesPosition h x (Some y) s t
TurnsAt h x s t Over = PassesPosition h x None s t
TurnsAt h x s t (Left y) = LeavesPosition h x y s t

-- the log's next number behind a turn
abbrev pub next_cleaned : CleanTurn → ℕ → ℕ
next_cleaned Cleaned next = next + 1
next_cleaned Unlinked next = next + 1
next_cleaned Reclaimed next = next + 1
next_cleaned (Moved y) next = next
next_cleaned Over next = next
next_cleaned (Left y) next = next

-- What a turn leaves of the room of the tables: an item is added; one is gone; or no item is added.
-- No number was drawn.
abbrev pub LeavesRoomBy : CleanTurn → TablesKept → TablesKept → Type 0
LeavesRoomBy Unlinked k l = AddsItems 1 k l
LeavesRoomBy Reclaimed k l =
    AddsItems 0 k l × (length l.tables.items + 1 ≡ length k.tables.items)
LeavesRoomBy turn k l = AddsItems 0 k l

-- A page leaves its chain only where it may; and what the position names to which a pass moved is
-- there.
abbrev pub IsTurnWithin : Bool → ℕ → CleanTurn → Type 0
IsTurnWithin may_unlink counted Unlinked = may_unlink ≡ true
IsTurnWithin may_unlink counted (Moved y) = IsCountedPosition counted y
IsTurnWithin may_unlink counted (Left y) = IfSome y (IsCountedPosition counted)
IsTurnWithin may_unlink counted turn = Unit {0}

-- There is room for a record, and for an item of the secondary log where a page may leave its
-- chain.
pub record HasRoomFor {D : Type 0} (may_unlink : Bool) (v : View D) : Type 0 where
  pub one : HasRoomForOne 0 0 v
  pub item : may_unlink ≡ true → 1 ≤ v.meta.items_room

-- What a turn leaves of a store's counts: the log's next number, the room of the tables, and as
-- many pages, within which is what it names.
pub record LeavesCounts {D : Type 0} (may : MayEmpty) (a b : View D) (t : CleanTurn) : Type 0 where
  pub numbers : b.next ≡ next_cleaned t a.next
  pub room : LeavesRoomBy t a.meta b.meta
  pub counted : b.now.counted ≡ a.now.counted
  pub within : IsTurnWithin may.unlink b.now.counted t
