-- What the cleaner may do while sessions are at work.
use Rattle.std.specs.Prelude.{◌≡◌, ℕ, ◌<◌, ◌≤◌, ◌&&◌, nat_lt, ℤ, true, false, List, Some}
use Rattle.ctr_model.specs.declared.state.State.{State}
use Rattle.ctr_model.specs.declared.state.Transaction.{Transaction}
use Rattle.ctr_model.specs.Refusals.{has_lock}
use Rattle.ctr_model.specs.State.{transaction_of}
use Rattle.ctr_locks.specs.Held.{LocksOfSession, session_locks}
use Rattle.ctr_versions.specs.Laws.{mark_of}
use Rattle.ctr_kept.specs.ctr_paged.area_Images.{is_committed_in}
use Rattle.ctr_kept.specs.ctr_paged.actions_Sites.{Site}
use Rattle.ctr_kept.specs.ctr_paged.actions_Actions.{Action, Reverts, Trims, Cuts, FreesOlder}
use Rattle.ctr_actions.specs.Cleaning.{IsCleaning}
use Rattle.ctr_kept.specs.ctr_paged.Paged.{engine_at}
use Rattle.ctr_kept.specs.ctr_paged.Shown.{Scene}
use Rattle.ctr_kept.specs.Undo.{Undo, SparesUndo}

-- no session's transaction has the lock of a key in a table of the name
abbrev pub IsUnlockedIn : State → List ℕ → ℤ → Type 0
IsUnlockedIn state name key = (s : ℕ) (t : Transaction) → transaction_of state s ≡ Some t
    → has_lock name key t ≡ false

-- each lock of the program is one in an entry of the catalog
abbrev pub AreInCatalog : List (ℕ × LocksOfSession) → Type 0
AreInCatalog locks = (f s : ℕ) (key : ℤ) → session_locks s f key locks ≡ true → f < 32

-- By the program's locks, where entries of the catalog have these names: no session has the lock of
-- the key in an entry of the same name, this one or another.
abbrev pub IsUnlockedAs : (ℕ → List ℕ) → List (ℕ × LocksOfSession) → ℕ → ℤ → Type 0
IsUnlockedAs name_of locks e key = (f s : ℕ) → f < 32 → name_of f ≡ name_of e
    → session_locks s f key locks ≡ false

-- The row that an action is about isn't locked: that of its slot, or of its version entry.
abbrev pub IsOfFreeRow : State → Action → Site → Type 0
IsOfFreeRow state (Reverts e at way) s =
    IsUnlockedIn state (s.area.title e).name (s.area.slot at).key
IsOfFreeRow state (Trims passes e at way) s =
    IsUnlockedIn state (s.area.title e).name (s.area.slot at).key
IsOfFreeRow state (Cuts passes e at q) s =
    IsUnlockedIn state (s.area.title e).name (s.area.slot at).key
IsOfFreeRow state (FreesOlder e q) s =
    IsUnlockedIn state (s.area.title e).name (s.area.older q).key
IsOfFreeRow state a s = Unit {0}

-- In a scene, beside undo's list, the cleaner may do this: it is one of its cases, where everybody
-- sees who is committed and below a number that is no more than the low mark; nobody has locked the
-- row; and no page is given back that undo gives back.
pub record MayClean (low : ℕ) (a : Action) (site : Site) (scene : Scene) (undo : Undo) : Type 0
  where
    pub mark : low ≤ mark_of (engine_at site scene.run)
    pub cleans : IsCleaning (λ x. is_committed_in site.tables x && nat_lt x low) a site
    pub free : IsOfFreeRow scene.state a site
    pub spares : SparesUndo a undo
