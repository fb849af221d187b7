-- Whether a row is locked, by the locks of sessions and the names of tables.
use Rattle.std.specs.Prelude.{◌≡◌, ◌⊎◌, ℕ, ◌<◌, ℤ, Bool, true, false, List}
use Rattle.ctr_locks.specs.Held.{LocksOfSession, session_locks}
use Rattle.ctr_area.specs.Areas.{Area}
use Rattle.ctr_cleaning.specs.Sparing.{IsUnlockedAs}

-- the name of the table of each entry of the catalog
abbrev pub names_of : Area → ℕ → List ℕ
names_of area e = (area.title e).name

-- An entry has the name of another one, or it is free.
abbrev pub IsNamedAs : Area → ℕ → ℕ → Type 0
IsNamedAs area e f = (names_of area f ≡ names_of area e) ⊎ ((area.title f).state ≡ 0)

-- Of an entry: a session has the lock of the key in it, and it has the name; or, where it has the
-- name, no session has that lock.
abbrev pub LockSaid : List (ℕ × LocksOfSession) → Area → ℕ → ℤ → ℕ → Bool → Type 0
LockSaid locks area e key f true = IsNamedAs area e f
    × ((s : ℕ) × (session_locks s f key locks ≡ true))
LockSaid locks area e key f false = names_of area f ≡ names_of area e
    → (s : ℕ) → session_locks s f key locks ≡ false

-- A session has the lock of the key in an entry of the name; or none has, in any.
abbrev pub LocksSaid : List (ℕ × LocksOfSession) → Area → ℕ → ℤ → Bool → Type 0
LocksSaid locks area e key true = (f : ℕ) × (f < 32) × LockSaid locks area e key f true
LocksSaid locks area e key false = IsUnlockedAs (names_of area) locks e key
