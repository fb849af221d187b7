-- A chain of versions: what it shows to whom, and what the model says of the same key.
--
-- A chain has the versions of one key, the newest first: each with the transaction that wrote it,
-- and a value or none. A version without a value is a tombstone. Nothing here says how a chain is
-- kept.
use Rattle.std.specs.Prelude.{◌≡◌, ℕ, ◌+◌, ◌<◌, ◌==◌, nat_le, nat_lt, Bool, true, false, ◌||◌, List, [], ◌∷◌, take, drop, Option, Some, None, is_some, unwrap_or, if◌then◌else◌}
use Rattle.std.specs.Option.{option_or}
use Rattle.std.specs.List.{AllByRecursion}

-- The commit number of each transaction: none where it is open, aborted or not drawn yet, 0 where
-- it was committed before the run began, and else from 1 on in the order in which commits were
-- asked.
abbrev pub Numbers : Type 0
Numbers = ℕ → Option ℕ

-- ---- what a chain shows

-- the value of the first version whose transaction passes the test; none where that is a tombstone
abbrev pub value_seen : {V : Type 0} → (ℕ → Bool) → List (ℕ × Option V) → Option V
value_seen sees [] = None
value_seen sees (v ∷ vs) = if sees v.0 then v.1 else value_seen sees vs

-- A commit's number, if there is one, is at most n.
abbrev pub is_by : ℕ → Option ℕ → Bool
is_by n None = false
is_by n (Some k) = nat_le k n

-- the transaction is committed with a number of at most n
abbrev pub by : Numbers → ℕ → ℕ → Bool
by number n x = is_by n (number x)

-- A transaction is the one of a session, or committed with a number of at most n.
abbrev pub by_or_own : Numbers → ℕ → ℕ → ℕ → Bool
by_or_own number n me x = (x == me) || by number n x

-- the number of the newest committed version
abbrev pub newest : {V : Type 0} → Numbers → List (ℕ × Option V) → Option ℕ
newest number [] = None
newest number (v ∷ vs) = option_or (number v.0) (newest number vs)

-- the number, where it is above n
abbrev pub above : ℕ → Option ℕ → Option ℕ
above n None = None
above n (Some k) = if nat_lt n k then Some k else None

-- the number of the newest committed version, where it is above n
abbrev pub newest_since : {V : Type 0} → Numbers → ℕ → List (ℕ × Option V) → Option ℕ
newest_since number n chain = above n (newest number chain)

-- what a transaction has written, where the head is its own; none else
abbrev pub written_by : {V : Type 0} → ℕ → List (ℕ × Option V) → Option (Option V)
written_by x [] = None
written_by x (v ∷ vs) = if x == v.0 then Some v.1 else None

-- the version is by a committed transaction
abbrev pub IsCommitted : {V : Type 0} → Numbers → ℕ × Option V → Type 0
IsCommitted number v = is_some (number v.0) ≡ true

-- All versions of a chain are by committed transactions.
abbrev pub AllCommitted : {V : Type 0} → Numbers → List (ℕ × Option V) → Type 0
AllCommitted number chain = AllByRecursion (IsCommitted number) chain

-- every version but the head is: only a head may be by an open or an aborted transaction
abbrev pub Behind : {V : Type 0} → Numbers → List (ℕ × Option V) → Type 0
Behind number [] = Unit {0}
Behind number (v ∷ vs) = AllCommitted number vs

-- ---- what the model says of a key

-- A write is what a transaction leaves at a key: a value, or none in the place of it; one that
-- leaves the key alone has no write. The value after these writes, in order.
abbrev pub overlay : {V : Type 0} → List (Option (Option V)) → Option V → Option V
overlay [] v = v
overlay (w ∷ ws) v = overlay ws (unwrap_or w v)

-- the value at a number: after the writes of so many transactions
abbrev pub value_at_number : {V : Type 0} → Option V → List (Option (Option V)) → ℕ → Option V
value_at_number base writes j = overlay (take j writes) base

-- the number of the last write, where the first one's number is given
abbrev pub last_write : {V : Type 0} → ℕ → List (Option (Option V)) → Option ℕ
last_write number [] = None
last_write number (w ∷ ws) =
    option_or (last_write (number + 1) ws) (if is_some w then Some number else None)

-- the number of the last write, where it is above n
abbrev pub changed_since : {V : Type 0} → ℕ → List (Option (Option V)) → Option ℕ
changed_since n writes = last_write (n + 1) (drop n writes)

-- the transaction leaves the key alone
abbrev pub IsUnwritten : {V : Type 0} → Option (Option V) → Type 0
IsUnwritten w = w ≡ None

-- ---- a chain shows a key

-- Where the transaction has a number above n, the key was changed since n.
abbrev pub IsChangeTold : {V : Type 0} → Numbers → ℕ → List (Option (Option V)) → ℕ → Type 0
IsChangeTold number n writes x =
    (k : ℕ) → number x ≡ Some k → n < k → is_some (changed_since n writes) ≡ true

-- that holds of each version's transaction
abbrev pub AllTold : {V : Type 0} → Numbers → ℕ → List (Option (Option V)) → List (ℕ × Option V)
    → Type 0
AllTold number n writes chain = AllByRecursion (λ v. IsChangeTold number n writes v.0) chain

-- The chain shows the model's values of a key at these numbers and, since those, its last changes:
-- the first committer wins where its number is newer than the snapshot's. A version with a number
-- is a change of the key since each of those below. Only the head may be by a transaction that
-- isn't committed. Base and writes are the model's: the value at 0, and what each transaction that
-- asked has left.
pub record ShowsKey {V : Type 0} (at since : ℕ → Type 0) (number : Numbers) (base : Option V)
    (writes : List (Option (Option V))) (chain : List (ℕ × Option V)) : Type 0 where
  pub rows : (j : ℕ) → at j → value_seen (by number j) chain ≡ value_at_number base writes j
  pub changes : (n : ℕ) → since n → newest_since number n chain ≡ changed_since n writes
  pub told : (n : ℕ) → since n → AllTold number n writes chain
  pub behind : Behind number chain
