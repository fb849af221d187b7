-- What the cleaner does, and when it has nothing to do.
use Rattle.std.specs.Prelude.{◌≡◌, ℕ, Bool, true}
use Rattle.ctr_record_laws.specs.area_Images.{is_live}
use Rattle.ctr_actions.specs.Sites.{Site}
use Rattle.ctr_actions.specs.Actions.{Action, Reclaims, Reverts, Trims, Cuts, FreesOlder, MakesDead, Unlinks, UnlinksOlder, FreesEntry, Forgets, Owes}

-- Its cases, by a test of which transactions everyone sees: a head of an aborted transaction is
-- reverted; in a live table a chain is cut, a tombstone goes, and a version entry is freed that no
-- chain has; a dropped table is made dead; a dead entry loses its pages and is freed; a page that
-- left its chain is free again; an aborted transaction without a head is forgotten.
abbrev pub IsCleaning : (ℕ → Bool) → Action → Site → Type 0
IsCleaning passes (Reverts e at way) s = Unit {0}
IsCleaning passes (Trims test e at way) s =
    (test ≡ passes) × (is_live (s.area.title e) ≡ true)
IsCleaning passes (Cuts test e at q) s = (test ≡ passes) × (is_live (s.area.title e) ≡ true)
IsCleaning passes (FreesOlder e q) s = is_live (s.area.title e) ≡ true
IsCleaning passes (MakesDead test e) s = test ≡ passes
IsCleaning passes (Unlinks p e b) s = (s.area.title e).state ≡ 2
IsCleaning passes (UnlinksOlder p e) s = (s.area.title e).state ≡ 2
IsCleaning passes (FreesEntry e title left) s = Unit {0}
IsCleaning passes (Reclaims p) s = Unit {0}
IsCleaning passes (Forgets y) s = Unit {0}
IsCleaning passes a s = ⊥

-- Nothing of it may be logged.
abbrev pub HasNothingToClean : (ℕ → Bool) → Site → Type 0
HasNothingToClean passes s = (a : Action) → IsCleaning passes a s → Owes 0 a s → ⊥
