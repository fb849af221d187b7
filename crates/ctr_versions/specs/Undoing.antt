-- Laws of what undo and the cleaner do record by record: a chain of a name gives way to another,
-- one that nobody has is marked, a table that no name is loses rows. The state that is shown stays.
use Rattle.std.specs.Prelude.{◌≡◌, ◌⊎◌, ℕ, ◌≤◌, ℤ, true, T, List, [], ◌∷◌, map, Option, Some, None}
use Rattle.std.specs.List.{AllByRecursion}
use Rattle.std.specs.Ordering.{nat_cmp, int_cmp}
use Rattle.std.specs.FinMap.Entries.{find, is_sorted}
use Rattle.ctr_model.specs.declared.state.State.{State}
use Rattle.ctr_model.specs.declared.state.Transaction.{Transaction}
use Rattle.ctr_snap.specs.Seeing.{has}
use Rattle.ctr_versions.specs.Chains.{Numbers, value_seen, by, newest_since, written_by, Behind}
use Rattle.ctr_versions.specs.Xids.{number_of, aborted}
use Rattle.ctr_versions.specs.Versions.{Made, Versions, names_at, slots_of, rows_of, IsUnnamed, NamesSet}
use Rattle.ctr_versions.specs.Engine.{SessionHeld, EngineHeld, IsCalm, ShowsState}
use Rattle.ctr_versions.specs.Laws.{IsNoSessions}

-- A session of this number hasn't asked for its commit, and isn't within its rollback.
pub record IsWorking (x : ℕ) (engine : EngineHeld) (state : State) : Type 0 where
  pub s : ℕ
  pub t : Transaction
  pub session : SessionHeld
  pub is_t : find nat_cmp s state.sessions ≡ Some t
  pub there : find nat_cmp s engine.sessions ≡ Some session
  pub calm : IsCalm session t
  pub me : session.me ≡ x

-- none of this number is
abbrev pub IsNotAtWork : ℕ → EngineHeld → State → Type 0
IsNotAtWork x engine state = IsWorking x engine state → ⊥

-- ---- a chain of a name

-- the transactions by which the versions of a chain are
abbrev pub writers : {V : Type 0} → List (ℕ × Option V) → List ℕ
writers chain = map (λ v. v.0) chain

-- A chain shows what another one shows, from the low number on: the same values and the same newest
-- changes. Each version is by a transaction that had one there. What these at work have written
-- stays: their heads, and nobody else sees what they made where nobody saw it.
pub record ShowsTheSame {V : Type 0} (low : ℕ) (number : Numbers) (at_work : ℕ → Type 0)
    (old new : List (ℕ × Option V)) : Type 0 where
  pub seen : (j : ℕ) → low ≤ j → value_seen (by number j) new ≡ value_seen (by number j) old
  pub since : (n : ℕ) → low ≤ n → newest_since number n new ≡ newest_since number n old
  pub behind : Behind number new
  pub writers : AllByRecursion (λ v. has v.0 (writers old) ≡ true) new
  pub heads : (x : ℕ) → at_work x → number x ≡ None → written_by x new ≡ written_by x old
  pub fresh : (x j : ℕ) (made : V) → at_work x → number x ≡ None
      → written_by x old ≡ Some (Some made) → value_seen (by number j) new ≡ Some made
      → value_seen (by number j) old ≡ Some made

-- The chain of a name may give way to one that shows the same.
abbrev pub NamesGiveWay : Type 0
NamesGiveWay = (low : ℕ) (engine : EngineHeld) (state : State) (new : Versions) (name : List ℕ)
    (chain : List (ℕ × Option Made)) → ShowsState low engine state
    → NamesSet engine.versions new name chain
    → ShowsTheSame low (number_of engine.xids) (λ x. IsWorking x engine state)
    (names_at engine.versions name) chain → ShowsState low (record engine { versions = new }) state

-- the head of a name's chain is by this transaction, which isn't committed and isn't at work
pub record HasUndoneHead (x : ℕ) (v : Option Made) (rest : List (ℕ × Option Made))
    (engine : EngineHeld) (state : State) (name : List ℕ) : Type 0 where
  pub chain : names_at engine.versions name ≡ (x, v) ∷ rest
  pub is_open : number_of engine.xids x ≡ None
  pub idle : IsNotAtWork x engine state

-- Such a head may go.
abbrev pub UndoneHeadsGo : Type 0
UndoneHeadsGo = (low : ℕ) (engine : EngineHeld) (state : State) (new : Versions) (name : List ℕ)
    (x : ℕ) (v : Option Made) (rest : List (ℕ × Option Made)) → ShowsState low engine state
    → HasUndoneHead x v rest engine state name → NamesSet engine.versions new name rest
    → ShowsState low (record engine { versions = new }) state

-- Such a head may become another version of the same transaction.
abbrev pub UndoneHeadsChange : Type 0
UndoneHeadsChange = (low : ℕ) (engine : EngineHeld) (state : State) (new : Versions)
    (name : List ℕ) (x : ℕ) (v w : Option Made) (rest : List (ℕ × Option Made))
    → ShowsState low engine state → HasUndoneHead x v rest engine state name
    → NamesSet engine.versions new name ((x, w) ∷ rest)
    → ShowsState low (record engine { versions = new }) state

-- ---- one that nobody has

-- An open transaction that no session has is marked as rolled back.
abbrev pub OrphansAreMarked : Type 0
OrphansAreMarked = (low : ℕ) (engine : EngineHeld) (state : State) (x : ℕ)
    → ShowsState low engine state → has x engine.xids.live ≡ true → IsNoSessions engine.sessions x
    → ShowsState low (record engine { xids = aborted x engine.xids }) state

-- ---- rows of a dead table

-- the new versions are the old ones, but that keys of this table may have lost their chains
pub record LosesRows (old new : Versions) (id : ℕ) : Type 0 where
  pub names : new.names ≡ old.names
  pub sorted : (i : ℕ) → T (is_sorted int_cmp (slots_of new i))
  pub others : (i : ℕ) (key : ℤ) → (i ≡ id → ⊥) → rows_of new i key ≡ rows_of old i key
  pub fewer : (key : ℤ) → (rows_of new id key ≡ rows_of old id key) ⊎ (rows_of new id key ≡ [])

-- A table that no name is may lose rows.
abbrev pub UnnamedTablesLoseRows : Type 0
UnnamedTablesLoseRows = (low : ℕ) (engine : EngineHeld) (state : State) (new : Versions) (id : ℕ)
    → ShowsState low engine state → IsUnnamed id engine.versions → LosesRows engine.versions new id
    → ShowsState low (record engine { versions = new }) state
