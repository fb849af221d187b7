-- Who takes turns in a run, and when a worker has taken its last one.
use Rattle.std.specs.Prelude.{◌≤◌, ◌≡◌, ◌-◌, ◌/◌, ◌%◌, ◌^◌, ◌&&◌, ℕ, nat_eq, Bool, true, false}
use Rattle.ctr_types.specs.declared.tape.Actor.{Actor}
use Rattle.ctr_types.specs.declared.tape.Actor.TheVariants as actor
use Rattle.ctr_types.specs.declared.tape.Turn.{Turn}
use Rattle.ctr_types.specs.declared.tape.Turn.TheVariants as turn

-- A session's number is 1 to 8; the other actors are one each.
abbrev pub IsActor : Actor → Type 0
IsActor (actor.Session session) = (1 ≤ session) × (session ≤ 8)
IsActor actor.Flusher = Unit {0}
IsActor actor.Cleaner = Unit {0}
IsActor actor.Undo = Unit {0}

-- Bit s - 1 of this number is set for session s.
abbrev pub has_session_bit : ℕ → ℕ → Bool
has_session_bit sessions session = nat_eq (sessions / 2 ^ (session - 1) % 2) 1

-- Asked for are the sessions whose bits are set, and each other actor.
abbrev pub IsAskedFor : ℕ → Actor → Type 0
IsAskedFor sessions (actor.Session session) =
    IsActor (actor.Session session) × (has_session_bit sessions session ≡ true)
IsAskedFor _ actor.Flusher = Unit {0}
IsAskedFor _ actor.Cleaner = Unit {0}
IsAskedFor _ actor.Undo = Unit {0}

-- Everybody who is asked for has turns.
abbrev pub AllTake : ℕ → (Actor → Type 0) → Type 0
AllTake sessions takes = (actor : Actor) → IsAskedFor sessions actor → takes actor

-- The flusher and the cleaner have no last turn of their own.
abbrev pub is_behind : Actor → Bool
is_behind (actor.Session _) = false
is_behind actor.Flusher = true
is_behind actor.Cleaner = true
is_behind actor.Undo = false

-- A worker's last turn is one that answers that it is over or that the engine stopped; of the
-- flusher and the cleaner also one behind which every session is over.
abbrev pub is_last : Actor → Turn → Bool → Bool
is_last actor turn.Went done = is_behind actor && done
is_last actor turn.Idle done = is_behind actor && done
is_last actor turn.Short done = is_behind actor && done
is_last _ turn.Over _ = true
is_last _ turn.Stopped _ = true
