-- The numbers that a generated script draws.
use Rattle.std.specs.Prelude.{ℕ, ◌+◌, ◌*◌, ◌/◌, ◌%◌, ◌^◌, ◌==◌, Bool, if◌then◌else◌}

-- the state that a draw leaves: one step of a linear congruential sequence modulo 2^64
abbrev pub stepped : ℕ → ℕ
stepped state = (state * 6364136223846793005 + 1442695040888963407) % 2 ^ 64

-- the number that a draw gives, by the state that it leaves: its upper 31 bits
abbrev pub number_of_draw : ℕ → ℕ
number_of_draw state = state / 2 ^ 33

-- ---- one round, by the state before it: what it draws in turn

-- the place of its session among so many, from 0
abbrev pub place_at : ℕ → ℕ → ℕ
place_at sessions state = number_of_draw (stepped state) % sessions

-- The key of a row, by the state of the draws.
abbrev pub key_at : ℕ → ℕ
key_at state = number_of_draw (stepped (stepped state)) % 97

-- the state behind these three draws
abbrev pub third_state : ℕ → ℕ
third_state state = stepped (stepped (stepped state))

-- which of eight cases it is
abbrev pub case_at : ℕ → ℕ
case_at state = number_of_draw (third_state state) % 8

-- the last of the eight ends the session's transaction, and makes a fourth draw
abbrev pub is_end_at : ℕ → Bool
is_end_at state = case_at state == 7

-- the state behind the round
abbrev pub state_behind : ℕ → ℕ
state_behind state =
    if is_end_at state then stepped (third_state state) else third_state state
