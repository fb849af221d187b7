-- The numbers of transactions, their fates, and the commit numbers that snapshots stand for.
use Rattle.std.specs.Prelude.{◌≡◌, ℕ, ◌+◌, ◌≤◌, ◌<◌, ◌==◌, nat_lt, Bool, true, false, not, ◌&&◌, List, [], ◌∷◌, ◌++◌, drop, Option, Some, None, if◌then◌else◌}
use Rattle.std.specs.List.{AllByRecursion, filter}
use Rattle.ctr_snap.specs.types_Fate.{Fate}
use Rattle.ctr_snap.specs.types_Fate.TheVariants as fate
use Rattle.ctr_snap.specs.Seeing.{SnapshotTaken, has, sees}
use Rattle.ctr_versions.specs.Chains.{by}

-- Numbers are drawn in order, from 1 on. Those that are open; those that were rolled back and
-- aren't forgotten; and those that asked for their commit, in the order in which they asked.
pub record Xids : Type 0 where
  pub next : ℕ
  pub live : List ℕ
  pub aborted : List ℕ
  pub commits : List ℕ

-- All numbers of a list but one.
abbrev pub minus : ℕ → List ℕ → List ℕ
minus x xs = filter (λ y. not (x == y)) xs

-- the place in the list, where the first one's is given, and 0 where it isn't there
abbrev pub place_from : ℕ → ℕ → List ℕ → ℕ
place_from k x [] = 0
place_from k x (y ∷ ys) = if x == y then k else place_from (k + 1) x ys

-- A transaction was drawn, and is neither open nor aborted.
abbrev pub has_committed : Xids → ℕ → Bool
has_committed xids x =
    nat_lt 0 x && (nat_lt x xids.next && (not (has x xids.live) && not (has x xids.aborted)))

-- How it stands: what was drawn and is neither committed nor open is aborted. 0 is never drawn.
abbrev pub fate_of : Xids → ℕ → Fate
fate_of xids x =
    if has_committed xids x then fate.Committed else
    if has x xids.live then fate.Open else
    if nat_lt 0 x && nat_lt x xids.next then fate.Aborted else fate.Later

-- The commit number that it got in this run: its place among those that asked, or 0 where it was
-- committed before.
abbrev pub number_of : Xids → ℕ → Option ℕ
number_of xids x = if has_committed xids x then Some (place_from 1 x xids.commits) else None

-- A transaction was drawn before the snapshot, which doesn't list it.
abbrev pub is_before : SnapshotTaken → ℕ → Bool
is_before snapshot x = nat_lt x snapshot.next && not (has x snapshot.listed)

-- A snapshot stands for a number: it sees those that are committed with a number of at most n.
-- Those that are still open it lists, or they were drawn after it, so it won't see them. Nothing is
-- said here of those that were committed before the run: one that was rolled back and is forgotten
-- counts among them.
pub record IsSnapshotOf (xids : Xids) (snapshot : SnapshotTaken) (n : ℕ) : Type 0 where
  pub drawn : snapshot.next ≤ xids.next
  pub still_open : (x : ℕ) → has x xids.live ≡ true
      → is_before snapshot x ≡ false
  pub sees_by : (x : ℕ) → (number_of xids x ≡ Some 0 → ⊥)
      → sees snapshot (fate_of xids x) x ≡ by (number_of xids) n x

-- those that are open, or asked and aren't answered
abbrev pub unanswered : Xids → ℕ → List ℕ
unanswered xids answered = xids.live ++ drop answered xids.commits

-- the snapshot that BEGIN takes, where so many commits are answered
abbrev pub taken : Xids → ℕ → SnapshotTaken
taken xids answered = record { next = xids.next; listed = unanswered xids answered }

-- ---- changes

-- the next number is drawn
abbrev pub drawn : Xids → Xids
drawn xids = record xids { next = xids.next + 1; live = xids.live ++ xids.next ∷ [] }

-- an open one asks for its commit
abbrev pub asked : ℕ → Xids → Xids
asked x xids = record xids { live = minus x xids.live; commits = xids.commits ++ x ∷ [] }

-- an open one is rolled back: one mark, whatever it wrote
abbrev pub aborted : ℕ → Xids → Xids
aborted x xids = record xids { live = minus x xids.live; aborted = xids.aborted ++ x ∷ [] }

-- One that was rolled back is forgotten: it counts as committed before the run.
abbrev pub forgotten : ℕ → Xids → Xids
forgotten x xids = record xids { aborted = minus x xids.aborted }

-- an open one counts as committed before the run
abbrev pub settled : ℕ → Xids → Xids
settled x xids = record xids { live = minus x xids.live }

-- each stands once in the list
abbrev pub IsOnce : List ℕ → Type 0
IsOnce [] = Unit {0}
IsOnce (x ∷ xs) = (has x xs ≡ false) × IsOnce xs

-- Those that are open or aborted were drawn, those that asked are committed, each once, and none
-- is in two of the lists.
pub record AreSound (xids : Xids) : Type 0 where
  pub first : 0 < xids.next
  pub gone : AllByRecursion (λ x. (0 < x) × (x < xids.next)) xids.aborted
  pub live : AllByRecursion (λ x. (0 < x) × (x < xids.next)) xids.live
  pub apart : (x : ℕ) → has x xids.live ≡ true
      → (has x xids.commits ≡ false) × (has x xids.aborted ≡ false)
  pub commits : AllByRecursion (λ x. has_committed xids x ≡ true) xids.commits
  pub once : IsOnce xids.commits

-- ---- the low mark

-- committed, and below the mark
abbrev pub below_mark : Xids → ℕ → ℕ → Bool
below_mark xids mark x = has_committed xids x && nat_lt x mark
