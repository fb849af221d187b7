-- A dead table loses its rows.
use Rattle.std.proofs.Common.{◌≡◌, ⊎_elim, ℕ, ◌≤◌, ◌==◌, ℤ, cond, List, [], ◌∷◌, Option, Some, None, refl, sym, ◌∙◌, ap, subst, arith}
use Rattle.std.specs.Prelude.{is_some, T}
use Rattle.std.specs.List.{AllByRecursion}
use Rattle.std.specs.Ordering.{nat_cmp}
use Rattle.std.specs.FinMap.Entries.{find, is_sorted}
use Rattle.std.proofs.lemmas.Bool.{true≢false, eq-eqb, cases_eq}
use Rattle.ctr_model.specs.types_Row.{Row}
use Rattle.ctr_model.specs.declared.state.State.{State}
use Rattle.ctr_model.specs.Database.{name_cmp, table_at}
use Rattle.ctr_model.specs.Refusals.{row_of}
use Rattle.ctr_versions.specs.Chains.{Numbers, value_seen, by, written_by, Behind, ShowsKey}
use Rattle.ctr_versions.specs.Keys.{schema_writes, row_writes, schema_named}
use Rattle.ctr_versions.specs.Listing.{chain_at}
use Rattle.ctr_versions.specs.Versions.{Made, Versions, names_at, rows_of, schemas, IsTableAt, IsTableSince, VersionsStand, AreOwn, RowsSet, IsUnnamed}
use Rattle.ctr_versions.specs.Xids.{number_of}
use Rattle.ctr_versions.specs.Engine.{SessionHeld, EngineHeld, IsBy, AreBy, IsDrawn, IsSeenIfOld, ShowsState}
use Rattle.ctr_versions.specs.Undoing.{LosesRows}
use Rattle.ctr_versions.proofs.Asked.{own_head}
use Rattle.ctr_versions.proofs.Cleaning.{clean_step}
use Rattle.ctr_versions.proofs.Steps.{set_versions, same_session}
use Rattle.ctr_versions.proofs.Written.{slot, same_names}

-- ---- a table that nobody sees any more loses its rows

module _ (low : ℕ) (number : Numbers) (state : State) (old new : Versions) (id : ℕ) (key : ℤ) (set : RowsSet old new id key []) (stands : VersionsStand low number state.base state.asked old)
    (dead : (name : List ℕ) (made : Made) (j : ℕ) → made.id ≡ id → low ≤ j → value_seen (by number j) (names_at old name) ≡ Some made → ⊥) where
  pub dead_stands : VersionsStand low number state.base state.asked new
  dead_stands = record {
    sorted = subst (λ ns. T (is_sorted name_cmp ns)) (sym set.names) stands.sorted;
    slots_sorted = set.sorted;
    tables = λ name. subst (λ c. ShowsKey (λ j. low ≤ j) (λ n. low ≤ n) number (schema_named state.base name) (schema_writes name state.asked) (schemas c)) (sym (same_names low number state old new id key [] set name)) (stands.tables name);
    rows = λ name made k.
        subst (λ c. ShowsKey (λ j. (low ≤ j) × (value_seen (by number j) c ≡ Some made)) (λ n. (low ≤ n) × ((j : ℕ) → n ≤ j → value_seen (by number j) c ≡ Some made)) number (row_of (table_at state.base name) k) (row_writes name k state.asked) (rows_of new made.id k)) (sym (same_names low number state old new id key [] set name))
        (slot low number state old new id key [] set (λ c. ShowsKey (IsTableAt low number old name made) (IsTableSince low number old name made) number (row_of (table_at state.base name) k) (row_writes name k state.asked) c) made.id k
        (λ one two. record { rows = λ j at. absurd (dead name made j one at.0 at.1); changes = λ n since. absurd (dead name made n one since.0 (since.1 n (itself n))); told = λ n since. tt; behind = tt })
        (λ is. stands.rows name made k));
  }
    where
      itself : (n : ℕ) → n ≤ n
      itself n = omega arith

alone_none : {V : Type 0} (y : ℕ) (chain : List (ℕ × Option V)) → written_by y chain ≡ None → AllByRecursion (λ (v : ℕ × Option V). v.0 ≡ y) chain → chain ≡ []
alone_none y [] none all = refl
alone_none y (h ∷ rest) none all = absurd (true≢false (sym (ap (λ b. is_some (cond b (Some h.1) None)) (eq-eqb y h.0 (sym all.0))) ∙ ap is_some none))

-- a slot of a table that stands at no number from low on, where no session has written it
pub dead_step : (low : ℕ) (engine : EngineHeld) (state : State) (shows : ShowsState low engine state) (new : Versions) (id : ℕ) (key : ℤ) → RowsSet engine.versions new id key []
    → ((name : List ℕ) (made : Made) (j : ℕ) → made.id ≡ id → low ≤ j → value_seen (by (number_of engine.xids) j) (names_at engine.versions name) ≡ Some made → ⊥)
    → ((s : ℕ) (session : SessionHeld) → find nat_cmp s engine.sessions ≡ Some session → number_of engine.xids session.me ≡ None → written_by session.me (rows_of engine.versions id key) ≡ None) → ShowsState low (record engine { versions = new }) state
dead_step low engine state shows new id key set dead unwritten = clean_step low engine state shows new id key [] set (dead_stands low (number_of engine.xids) state engine.versions new id key set shows.stands dead) (λ P all. tt)
    (λ s session at none. sym (unwritten s session at none)) (λ s session at none all. alone_none session.me (rows_of engine.versions id key) (unwritten s session at none) all)

-- ---- keys of a table that no name is lose their chains

module _ (low : ℕ) (engine : EngineHeld) (state : State) (shows : ShowsState low engine state) (new : Versions) (id : ℕ) (unnamed : IsUnnamed id engine.versions) (loses : LosesRows engine.versions new id) where
  abbrev number : Numbers
  number = number_of engine.xids

  -- of every key's chain
  each_chain : (P : List (ℕ × Option Row) → Type 0) (i : ℕ) (key : ℤ) → P [] → P (rows_of engine.versions i key) → P (rows_of new i key)
  each_chain P i key none was = ⊎_elim
      (λ is. ⊎_elim
      (λ same. subst P (ap (λ i. rows_of engine.versions i key) is ∙ sym (ap (λ i. rows_of new i key) is ∙ same)) was)
      (λ gone. subst P (sym (ap (λ i. rows_of new i key) is ∙ gone)) none) (loses.fewer key))
      (λ isnt. subst P (sym (loses.others i key isnt)) was) (cases_eq i id)

  names_same : (name : List ℕ) → names_at new name ≡ names_at engine.versions name
  names_same name = ap (chain_at name_cmp name) loses.names

  fewer_stand : VersionsStand low number state.base state.asked new
  fewer_stand = record {
    sorted = subst (λ ns. T (is_sorted name_cmp ns)) (sym loses.names) shows.stands.sorted;
    slots_sorted = loses.sorted;
    tables = λ name. subst (λ c. ShowsKey (λ j. low ≤ j) (λ n. low ≤ n) number (schema_named state.base name) (schema_writes name state.asked) (schemas c)) (sym (names_same name)) (shows.stands.tables name);
    rows = λ name made key.
        subst (λ c. ShowsKey (λ j. (low ≤ j) × (value_seen (by number j) c ≡ Some made)) (λ n. (low ≤ n) × ((j : ℕ) → n ≤ j → value_seen (by number j) c ≡ Some made)) number (row_of (table_at state.base name) key) (row_writes name key state.asked) (rows_of new made.id key)) (sym (names_same name))
        (⊎_elim
        (λ is. record {
          rows = λ j at. absurd (unnamed name made (by number j) at.1 is);
          changes = λ n since. absurd (unnamed name made (by number n) (since.1 n (omega arith)) is);
          told = λ n since. absurd (unnamed name made (by number n) (since.1 n (omega arith)) is);
          behind = each_chain (Behind number) made.id key tt (shows.stands.rows name made key).behind;
        })
        (λ isnt. subst (λ c. ShowsKey (IsTableAt low number engine.versions name made) (IsTableSince low number engine.versions name made) number (row_of (table_at state.base name) key) (row_writes name key state.asked) c) (sym (loses.others made.id key isnt)) (shows.stands.rows name made key))
        (cases_eq made.id id));
  }

  kept_by : (P : ℕ → Type 0) → AreBy P engine.versions → AreBy P new
  kept_by P are = record { names = λ name. subst (AllByRecursion (IsBy P)) (sym (names_same name)) (are.names name); rows = λ i key. each_chain (AllByRecursion (IsBy P)) i key tt (are.rows i key) }

  pub emptied_step : ShowsState low (record engine { versions = new }) state
  emptied_step = set_versions low engine state shows new state.sessions fewer_stand (kept_by (IsDrawn engine.xids.next) shows.drawn)
      (λ s t at. let old = shows.inside s t at in (
        old.0,
        old.1,
        same_session low state.answered engine.xids engine.versions new old.0 t (kept_by (IsSeenIfOld engine.xids old.0.snapshot) old.2.old)
            (λ calm wrote. record {
              is_open = wrote.is_open;
              tables = λ name. ap (λ c. written_by old.0.me (schemas c)) (names_same name) ∙ wrote.tables name;
              rows = λ name made key j le is seen.
                  let seen_before = ap (value_seen (by number j)) (sym (names_same name)) ∙ seen in
                  ⊎_elim (λ same. absurd (unnamed name made (by number j) seen_before same))
                  (λ isnt. ap (written_by old.0.me) (loses.others made.id key isnt) ∙ wrote.rows name made key j le (ap (written_by old.0.me) (sym (names_same name)) ∙ is) seen_before) (cases_eq made.id id);
              created = λ name made key is.
                  let is_before = ap (written_by old.0.me) (sym (names_same name)) ∙ is in
                  ⊎_elim
                  (λ same. absurd (unnamed name made (λ y. y == old.0.me) (own_head (λ y. y == old.0.me) old.0.me (names_at engine.versions name) (Some made) (eq-eqb old.0.me old.0.me refl) is_before) same))
                  (λ isnt. subst (AreOwn old.0.me t.own name key) (sym (loses.others made.id key isnt)) (wrote.created name made key is_before)) (cases_eq made.id id);
              fresh = λ name made j is seen. wrote.fresh name made j (ap (written_by old.0.me) (sym (names_same name)) ∙ is) (ap (value_seen (by number j)) (sym (names_same name)) ∙ seen);
            }) old.2,
      ))
