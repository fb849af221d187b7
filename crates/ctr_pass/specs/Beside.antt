-- What the cleaner may do beside what sessions have locked.
use Rattle.std.specs.Prelude.{◌≡◌, ℕ, ℤ, false, List}
use Rattle.ctr_actions.specs.Actions.{Action, FreesEntry}
use Rattle.ctr_locks.specs.Held.{LocksOfSession, session_locks}
use Rattle.ctr_cleaner.specs.cursor_Position.{Position}
use Rattle.ctr_cleaner.specs.cursor_Position.TheVariants.{Entry, Slot, Kept, Aborted}

-- An entry is freed only where no session has a lock in it.
abbrev pub SparesLocked : List (ℕ × LocksOfSession) → Action → Type 0
SparesLocked locks (FreesEntry e title left) =
    (r : ℕ) (key : ℤ) → session_locks r e key locks ≡ false
SparesLocked locks a = Unit {0}

-- the first position of a position's entry; that of an aborted transaction stays
abbrev pub entry_first : Position → Position
entry_first (Entry e) = Entry e
entry_first (Slot e b at) = Entry e
entry_first (Kept e at) = Entry e
entry_first (Aborted n) = Aborted n
