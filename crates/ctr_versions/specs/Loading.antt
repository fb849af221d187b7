-- A database that is loaded change by change, before an engine is opened over it: one transaction
-- writes it all, which counts as committed before the run.
use Rattle.std.specs.Prelude.{◌≡◌, ℕ, ◌==◌, ℤ, Bool, false, T, List, [], ◌∷◌, Option, Some}
use Rattle.std.specs.Ordering.{int_cmp}
use Rattle.std.specs.FinMap.Entries.{is_sorted}
use Rattle.ctr_model.specs.Database.{Database, name_cmp}
use Rattle.ctr_versions.specs.Chains.{value_seen}
use Rattle.ctr_versions.specs.Xids.{Xids}
use Rattle.ctr_versions.specs.Engine.{SessionHeld}
use Rattle.ctr_versions.specs.Versions.{Made, Versions, names_at, slots_of, rows_of, database_seen}

-- The number of the transaction by which a loaded database was written.
abbrev pub loader : ℕ
loader = 1

-- while it loads, it alone was drawn, and is open
abbrev pub loading_xids : Xids
loading_xids = record { next = 2; live = loader ∷ []; aborted = []; commits = [] }

-- once the engine is opened, it was committed before
abbrev pub opened_xids : Xids
opened_xids = record { next = 2; live = []; aborted = []; commits = [] }

-- A transaction is the one by which a loaded database was written.
abbrev pub is_loader : ℕ → Bool
is_loader x = x == loader

-- its session: the snapshot sees nothing, so that it sees its own alone
abbrev pub loading_session : SessionHeld
loading_session = record {
  me = loader;
  snapshot = record { next = 1; listed = [] };
  undoing = false;
}

-- the database that was loaded
abbrev pub loaded : Versions → Database
loaded versions = database_seen is_loader versions

-- the chain is empty, or has one version, of the one that loads
abbrev pub IsSingle : {V : Type 0} → List (ℕ × Option V) → Type 0
IsSingle [] = Unit {0}
IsSingle (v ∷ vs) = (v.0 ≡ loader) × (vs ≡ [])

-- versions as loading leaves them: in order, one for each name and key, and no two names have one
-- table
pub record AreLoaded (versions : Versions) : Type 0 where
  pub sorted : T (is_sorted name_cmp versions.names)
  pub slots_sorted : (id : ℕ) → T (is_sorted int_cmp (slots_of versions id))
  pub names : (name : List ℕ) → IsSingle (names_at versions name)
  pub rows : (id : ℕ) (key : ℤ) → IsSingle (rows_of versions id key)
  pub apart : (name other : List ℕ) (made mine : Made)
      → value_seen is_loader (names_at versions name) ≡ Some made
      → value_seen is_loader (names_at versions other) ≡ Some mine
      → made.id ≡ mine.id → name ≡ other
