-- Which transactions a snapshot sees, and the low mark of all snapshots.
use Rattle.std.specs.Prelude.{ℕ, ◌≤◌, ◌==◌, nat_lt, Bool, true, false, not, ◌&&◌, ◌||◌, List, [], ◌∷◌, ◌++◌, Option, Some, None, min}
use Rattle.std.specs.List.{list_any, AllByRecursion}
use Rattle.ctr_types.specs.declared.xid.Fate.{Fate}
use Rattle.ctr_types.specs.declared.xid.Fate.TheVariants as fate

-- the transaction is one of these
abbrev pub has : ℕ → List ℕ → Bool
has x xs = list_any (λ y. x == y) xs

-- A snapshot, as it was taken: the next number to be drawn, and the transactions that were open or
-- had asked for their commit and weren't answered.
pub record SnapshotTaken : Type 0 where
  pub next : ℕ
  pub listed : List ℕ

-- the transaction has asked for its commit
abbrev pub is_committed : Fate → Bool
is_committed fate.Open = false
is_committed fate.Aborted = false
is_committed fate.Committed = true
is_committed fate.Later = false

-- The snapshot sees a transaction that is committed, was drawn before it and isn't listed.
abbrev pub sees : SnapshotTaken → Fate → ℕ → Bool
sees s f x = is_committed f && (nat_lt x s.next && not (has x s.listed))

-- the transaction is the session's own
abbrev pub is_own : Option ℕ → ℕ → Bool
is_own None x = false
is_own (Some me) x = x == me

-- a session sees its own transaction, and what its snapshot sees
abbrev pub sees_or_own : SnapshotTaken → Option ℕ → Fate → ℕ → Bool
sees_or_own s me f x = is_own me x || sees s f x

-- the least of a number and these
abbrev pub least : ℕ → List ℕ → ℕ
least n [] = n
least n (x ∷ xs) = least (min n x) xs

-- each is from the mark on
abbrev pub AreFrom : ℕ → List ℕ → Type 0
AreFrom mark xs = AllByRecursion (λ x. mark ≤ x) xs

-- the numbers that a snapshot names
abbrev pub named : SnapshotTaken → List ℕ
named s = s.next ∷ s.listed

-- the numbers that the live snapshots name
abbrev pub all_named : List (Option SnapshotTaken) → List ℕ
all_named [] = []
all_named (None ∷ ss) = all_named ss
all_named (Some s ∷ ss) = named s ++ all_named ss
