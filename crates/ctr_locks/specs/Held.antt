-- What each session has: its locks of keys, by entry of the catalog and key, and its uses and holds
-- of names. And what that answers another session.
use Rattle.std.specs.Prelude.{◌≡◌, ℕ, ℤ, T, Bool, true, false, ◌&&◌, ◌||◌, List, [], ◌∷◌, Option, Some, None, is_some, if◌then◌else◌, unwrap_or, nat_eq, Result, Ok, Err}
use Rattle.std.specs.Ordering.{nat_cmp, int_cmp, int_eq}
use Rattle.std.specs.FinMap.Entries.{find, is_sorted}
use Rattle.ctr_model.specs.Maps.{without}
use Rattle.ctr_model.specs.Database.{name_cmp}
use Rattle.ctr_model.specs.State.{same_name}
use Rattle.ctr_locks.specs.declared.held.Held.{Held}
use Rattle.ctr_locks.specs.declared.held.NameHeld.{NameHeld}

-- What a session has. A key that is there and not locked is room for its lock, and a name that is
-- there is room for its use and its hold.
pub record LocksOfSession : Type 0 where
  pub keys : List (ℕ × List (ℤ × Bool))
  pub names : List (List ℕ × NameHeld)

-- a session that isn't there has nothing
abbrev pub holds_nothing : LocksOfSession
holds_nothing = record { keys = []; names = [] }

-- of a name that isn't there it has neither use nor hold
abbrev pub not_held : NameHeld
not_held = record { used = false; held = false }

-- one key of an entry's is locked
abbrev pub is_key_locked : ℤ → List (ℤ × Bool) → Bool
is_key_locked key keys = unwrap_or (find int_cmp key keys) false

-- the keys of an entry
abbrev pub keys_of : ℕ → LocksOfSession → List (ℤ × Bool)
keys_of entry h = unwrap_or (find nat_cmp entry h.keys) []

-- what it has of a name
abbrev pub held_of_name : List ℕ → LocksOfSession → NameHeld
held_of_name name h = unwrap_or (find name_cmp name h.names) not_held

-- ---- what one session has

-- a session has the lock of a key of an entry
abbrev pub locks_key : ℕ → ℤ → LocksOfSession → Bool
locks_key entry key h = is_key_locked key (keys_of entry h)

-- a session uses the table of a name
abbrev pub uses_name : List ℕ → LocksOfSession → Bool
uses_name name h = (held_of_name name h).used

-- a session holds a name
abbrev pub holds_name : List ℕ → LocksOfSession → Bool
holds_name name h = (held_of_name name h).held

-- A session keeps others from a name: by a hold from each use, by a use from a change of schema.
abbrev pub keeps_others_off : Bool → List ℕ → LocksOfSession → Bool
keeps_others_off schema name h = holds_name name h || (schema && uses_name name h)

-- the entry is there, with keys or none
abbrev pub HasEntry : ℕ → LocksOfSession → Type 0
HasEntry entry h = is_some (find nat_cmp entry h.keys) ≡ true

-- there is room for the lock of a key
abbrev pub HasRoomForKey : ℕ → ℤ → LocksOfSession → Type 0
HasRoomForKey entry key h = is_some (find int_cmp key (keys_of entry h)) ≡ true

-- there is room for a use and a hold of a name
abbrev pub HasRoomForName : List ℕ → LocksOfSession → Type 0
HasRoomForName name h = is_some (find name_cmp name h.names) ≡ true

-- ---- what all sessions have, by session

-- what the session of a number has, nothing where it isn't there
abbrev pub held_by_session : ℕ → List (ℕ × LocksOfSession) → LocksOfSession
held_by_session s sessions = unwrap_or (find nat_cmp s sessions) holds_nothing

-- the session has the lock of a key
abbrev pub session_locks : ℕ → ℕ → ℤ → List (ℕ × LocksOfSession) → Bool
session_locks s entry key sessions = locks_key entry key (held_by_session s sessions)

-- the session uses the table of a name
abbrev pub session_uses : ℕ → List ℕ → List (ℕ × LocksOfSession) → Bool
session_uses s name sessions = uses_name name (held_by_session s sessions)

-- the session holds a name
abbrev pub session_holds : ℕ → List ℕ → List (ℕ × LocksOfSession) → Bool
session_holds s name sessions = holds_name name (held_by_session s sessions)

-- the session is there, with something or nothing
abbrev pub IsSessionThere : ℕ → List (ℕ × LocksOfSession) → Type 0
IsSessionThere s sessions = is_some (find nat_cmp s sessions) ≡ true

-- each session stands once, in order of number
abbrev pub IsInOrder : List (ℕ × LocksOfSession) → Type 0
IsInOrder sessions = T (is_sorted nat_cmp sessions)

-- two sessions never have the lock of one key
abbrev pub OneHolder : List (ℕ × LocksOfSession) → Type 0
OneHolder sessions = (r s entry : ℕ) (key : ℤ) → session_locks r entry key sessions ≡ true
    → session_locks s entry key sessions ≡ true → r ≡ s

-- the first session that passes the test, in order of number
abbrev pub first_that : (LocksOfSession → Bool) → List (ℕ × LocksOfSession) → Option ℕ
first_that test [] = None
first_that test (e ∷ es) = if test e.1 then Some e.0 else first_that test es

-- the lowest other session that has the lock of a key
abbrev pub locked_among : ℕ → ℕ → ℤ → List (ℕ × LocksOfSession) → Option ℕ
locked_among s entry key sessions = first_that (locks_key entry key) (without nat_cmp s sessions)

-- the lowest other session that keeps a session from a name
abbrev pub busy_among : Bool → ℕ → List ℕ → List (ℕ × LocksOfSession) → Option ℕ
busy_among schema s name sessions =
    first_that (keeps_others_off schema name) (without nat_cmp s sessions)

-- Who was found has the lock of the key; where none was, no session has.
pub record IsHolder (found : Option ℕ) (entry : ℕ) (key : ℤ) (sessions : List (ℕ × LocksOfSession))
    : Type 0 where
  pub someone : (s : ℕ) → found ≡ Some s → session_locks s entry key sessions ≡ true
  pub nobody : found ≡ None → (s : ℕ) → session_locks s entry key sessions ≡ false

-- who has what was wanted, where the call was refused
abbrev pub held_told : Result (Unit {0}) Held → Option ℕ
held_told (Ok unit) = None
held_told (Err held) = Some held.by

-- ---- one entry's keys of one session, after a change

-- the keys of an entry are locked as before; room may have been taken
pub record SameKeys (old new : List (ℤ × Bool)) : Type 0 where
  pub locked : (key : ℤ) → is_key_locked key new ≡ is_key_locked key old
  pub room : (key : ℤ) → is_some (find int_cmp key old) ≡ true
      → is_some (find int_cmp key new) ≡ true

-- the key is locked, and the others as they were
pub record LocksOne (key : ℤ) (old new : List (ℤ × Bool)) : Type 0 where
  pub locked : (k : ℤ) → is_key_locked k new ≡ (int_eq key k || is_key_locked k old)
  pub room : (k : ℤ) → is_some (find int_cmp k old) ≡ true
      → is_some (find int_cmp k new) ≡ true

-- ---- one session, after a change

-- what it has is as it was: room may have been taken, and none goes
pub record SameHeld (old new : LocksOfSession) : Type 0 where
  pub keys : (entry : ℕ) (key : ℤ) → locks_key entry key new ≡ locks_key entry key old
  pub uses : (name : List ℕ) → uses_name name new ≡ uses_name name old
  pub holds : (name : List ℕ) → holds_name name new ≡ holds_name name old
  pub key_room : (entry : ℕ) (key : ℤ) → HasRoomForKey entry key old → HasRoomForKey entry key new
  pub name_room : (name : List ℕ) → HasRoomForName name old → HasRoomForName name new

-- A session has the lock of the key, and else what it had. No room goes.
pub record LocksEntryKey (entry : ℕ) (key : ℤ) (old new : LocksOfSession) : Type 0 where
  pub keys : (e : ℕ) (k : ℤ)
      → locks_key e k new ≡ ((nat_eq entry e && int_eq key k) || locks_key e k old)
  pub room : (e : ℕ) (k : ℤ) → HasRoomForKey e k old → HasRoomForKey e k new
  pub names : new.names ≡ old.names

-- A session uses the table of the name, and else has what it had. No room goes.
pub record UsesName (name : List ℕ) (old new : LocksOfSession) : Type 0 where
  pub uses : (n : List ℕ) → uses_name n new ≡ (same_name name n || uses_name n old)
  pub holds : (n : List ℕ) → holds_name n new ≡ holds_name n old
  pub room : (n : List ℕ) → HasRoomForName n old → HasRoomForName n new
  pub keys : new.keys ≡ old.keys

-- A session holds the name, and else has what it had. No room goes.
pub record HoldsName (name : List ℕ) (old new : LocksOfSession) : Type 0 where
  pub uses : (n : List ℕ) → uses_name n new ≡ uses_name n old
  pub holds : (n : List ℕ) → holds_name n new ≡ (same_name name n || holds_name n old)
  pub room : (n : List ℕ) → HasRoomForName n old → HasRoomForName n new
  pub keys : new.keys ≡ old.keys

-- a session has nothing any more
abbrev pub FreesAll : LocksOfSession → LocksOfSession → Type 0
FreesAll old new = new ≡ holds_nothing

-- ---- all sessions, after a change of one

-- what one session has is so, and of the others as it was
pub record OfSession (s : ℕ) (P : LocksOfSession → LocksOfSession → Type 0)
    (old new : List (ℕ × LocksOfSession)) : Type 0 where
  pub here : P (held_by_session s old) (held_by_session s new)
  pub others : (r : ℕ) → nat_eq r s ≡ false → held_by_session r new ≡ held_by_session r old
