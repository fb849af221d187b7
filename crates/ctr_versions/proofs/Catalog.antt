-- A table is made or dropped.
use Rattle.std.proofs.Common.{◌≡◌, ℕ, ◌≤◌, ◌==◌, ℤ, true, false, cond, List, [], ◌∷◌, ◌++◌, Option, Some, None, refl, sym, ◌∙◌, ap, subst}
use Rattle.std.specs.Prelude.{unwrap_or, is_some, T}
use Rattle.std.specs.Option.{option_map}
use Rattle.std.specs.List.{AllByRecursion}
use Rattle.std.specs.Ordering.{int_cmp}
use Rattle.std.specs.FinMap.Entries.{is_sorted}
use Rattle.std.proofs.lemmas.Bool.{false≢true, true≢false}
use Rattle.ctr_model.specs.declared.database.Change.{Change}
use Rattle.ctr_model.specs.declared.state.State.{State}
use Rattle.ctr_model.specs.Database.{table_at}
use Rattle.ctr_model.specs.State.{same_name}
use Rattle.ctr_model.specs.Refusals.{row_of}
use Rattle.ctr_versions.specs.Chains.{Numbers, value_seen, is_by, by, written_by, ShowsKey}
use Rattle.ctr_versions.specs.Keys.{schema_change, row_change, left_by, schema_writes, row_writes, schema_named}
use Rattle.ctr_versions.specs.Listing.{chain_at}
use Rattle.ctr_versions.specs.Changes.{write}
use Rattle.ctr_versions.specs.Versions.{name_written, Made, Versions, names_at, rows_of, schemas, IsTableAt, IsTableSince, VersionsStand, ByX, Wrote, NamesSet}
use Rattle.ctr_versions.proofs.Keys.{known, same_text}
use Rattle.ctr_versions.proofs.Chains.{narrowed}
use Rattle.ctr_versions.proofs.Changes.{write_shows, write_own, write_others}
use Rattle.ctr_versions.proofs.Written.{left_same, left_new, same_itself}

-- ---- a write is seen by nobody else

pub unseen_write : {V : Type 0} (number : Numbers) (x j : ℕ) (v : Option V) (chain : List (ℕ × Option V)) → number x ≡ None → value_seen (by number j) (write number x v chain) ≡ value_seen (by number j) chain
unseen_write number x j v [] none = ap (λ o. cond (is_by j o) v None) none
unseen_write number x j v (h ∷ rest) none =
    elim (number h.0) as (λ o. number h.0 ≡ o → value_seen (by number j) (cond (is_some o) ((x, v) ∷ h ∷ rest) ((x, v) ∷ rest)) ≡ cond (is_by j o) h.1 (value_seen (by number j) rest)) [
      | Some k ↦ λ is. ap (λ o. cond (is_by j o) v (value_seen (by number j) (h ∷ rest))) none ∙ ap (λ o. cond (is_by j o) h.1 (value_seen (by number j) rest)) is
      | None ↦ λ is. ap (λ o. cond (is_by j o) v (value_seen (by number j) rest)) none
    ] refl

pub write-schemas : (number : Numbers) (x : ℕ) (v : Option Made) (chain : List (ℕ × Option Made)) → schemas (write number x v chain) ≡ write number x (option_map (λ (m : Made). m.schema) v) (schemas chain)
write-schemas number x v [] = refl
write-schemas number x v (h ∷ rest) =
    elim (is_some (number h.0)) as (λ b. schemas (cond b ((x, v) ∷ h ∷ rest) ((x, v) ∷ rest)) ≡ cond b ((x, option_map (λ (m : Made). m.schema) v) ∷ schemas (h ∷ rest)) ((x, option_map (λ (m : Made). m.schema) v) ∷ schemas rest)) [ true ↦ refl | false ↦ refl ]

module _ (low : ℕ) (number : Numbers) (state : State) (old new : Versions) (name : List ℕ) (x : ℕ) (v : Option Made) (none : number x ≡ None) (set : NamesSet old new name (write number x v (names_at old name))) where
  -- a name is the one that is set, or as it was
  pub one_name : (P : List ℕ → List (ℕ × Option Made) → Type 0) (other : List ℕ) → P name (write number x v (names_at old name)) → (same_name name other ≡ false → P other (names_at old other)) → P other (names_at new other)
  one_name P other hit miss = known (same_name name other)
      (λ is. let same = same_text name other is in subst (λ m. P m (names_at new m)) same (subst (P name) (sym set.here) hit))
      (λ is. subst (P other) (sym (set.others other is)) (miss is))

  pub seen_same : (other : List ℕ) (j : ℕ) → value_seen (by number j) (names_at new other) ≡ value_seen (by number j) (names_at old other)
  seen_same other j = one_name (λ m c. value_seen (by number j) c ≡ value_seen (by number j) (names_at old m)) other (unseen_write number x j v (names_at old name) none) (λ is. refl)

  pub same_rows : (id : ℕ) (key : ℤ) → rows_of new id key ≡ rows_of old id key
  same_rows id key = ap (chain_at int_cmp key) (set.slots id)

  pub names_stand : VersionsStand low number state.base state.asked old → VersionsStand low number state.base state.asked new
  names_stand stands = record {
    sorted = set.sorted;
    slots_sorted = λ id. subst (λ s. T (is_sorted int_cmp s)) (sym (set.slots id)) (stands.slots_sorted id);
    tables = λ other. one_name (λ m c. ShowsKey (λ j. low ≤ j) (λ n. low ≤ n) number (schema_named state.base m) (schema_writes m state.asked) (schemas c)) other
        (subst (λ c. ShowsKey (λ j. low ≤ j) (λ n. low ≤ n) number (schema_named state.base name) (schema_writes name state.asked) c) (sym (write-schemas number x v (names_at old name)))
        (write_shows (λ j. low ≤ j) (λ n. low ≤ n) number (schema_named state.base name) (schema_writes name state.asked) (schemas (names_at old name)) x (option_map (λ (m : Made). m.schema) v) none (stands.tables name)))
        (λ is. stands.tables other);
    rows = λ other made key. subst (λ c. ShowsKey (IsTableAt low number new other made) (IsTableSince low number new other made) number (row_of (table_at state.base other) key) (row_writes other key state.asked) c) (sym (same_rows made.id key))
        (narrowed (IsTableAt low number old other made) (IsTableSince low number old other made) number (row_of (table_at state.base other) key) (row_writes other key state.asked) (IsTableAt low number new other made) (IsTableSince low number new other made) (rows_of old made.id key)
        (λ j at. (at.0, sym (seen_same other j) ∙ at.1)) (λ n since. (since.0, λ j le. sym (seen_same other j) ∙ since.1 j le)) (stands.rows other made key));
  }

  -- what another open transaction wrote stays, where it hasn't made or dropped a table of the name
  pub names_others : (y n : ℕ) (own : List Change) → (y ≡ x → ⊥) → written_by y (names_at old name) ≡ None → Wrote number old y n own → Wrote number new y n own
  names_others y n own apart unwritten wrote = record {
    is_open = wrote.is_open;
    tables = λ other. one_name (λ m c. written_by y (schemas c) ≡ left_by (schema_change m) own) other
        (ap (written_by y) (write-schemas number x v (names_at old name)) ∙ write_others number x y (option_map (λ (m : Made). m.schema) v) (schemas (names_at old name)) apart ∙ sym (unwritten_schemas y (names_at old name) unwritten) ∙ wrote.tables name)
        (λ is. wrote.tables other);
    rows = λ other made key j le is at. ap (written_by y) (same_rows made.id key) ∙ wrote.rows other made key j le (one_back y other None unwritten apart is) (sym (seen_same other j) ∙ at);
    created = λ other made key is. subst (λ c. AllByRecursion (ByX y) c × (left_by (row_change other key) own ≡ Some (value_seen (λ z. z == y) c))) (sym (same_rows made.id key)) (wrote.created other made key (one_back y other (Some (Some made)) unwritten apart is));
    fresh = λ other made j is at. wrote.fresh other made j (one_back y other (Some (Some made)) unwritten apart is) (sym (seen_same other j) ∙ at);
  }
    where
      unwritten_schemas : (y : ℕ) (chain : List (ℕ × Option Made)) → written_by y chain ≡ None → written_by y (schemas chain) ≡ None
      unwritten_schemas y [] is = refl
      unwritten_schemas y (h ∷ rest) is = elim (y == h.0) as (λ b. cond b (Some h.1) None ≡ None → cond b (Some (option_map (λ (m : Made). m.schema) h.1)) None ≡ None) [ true ↦ λ e. absurd (true≢false (ap is_some e)) | false ↦ λ e. refl ] is

      one_back : (y : ℕ) (other : List ℕ) (w : Option (Option Made)) → written_by y (names_at old name) ≡ None → (y ≡ x → ⊥) → written_by y (names_at new other) ≡ w → written_by y (names_at old other) ≡ w
      one_back y other w unwritten apart = one_name (λ m c. written_by y c ≡ w → written_by y (names_at old m) ≡ w) other (λ e. unwritten ∙ sym (write_others number x y v (names_at old name) apart) ∙ e) (λ is e. e)

  schema_hit : (u : Option Made) → schema_change name (name_written name u) ≡ Some (option_map (λ (m : Made). m.schema) u)
  schema_hit (Some made) = ap (λ b. cond b (Some (Some made.schema)) None) (same_itself name)
  schema_hit None = ap (λ b. cond b (Some None) None) (same_itself name)

  schema_miss : (other : List ℕ) (u : Option Made) → same_name name other ≡ false → schema_change other (name_written name u) ≡ None
  schema_miss other (Some made) is = ap (λ b. cond b (Some (Some made.schema)) None) is
  schema_miss other None is = ap (λ b. cond b (Some None) None) is

  row_hit : (key : ℤ) (u : Option Made) → row_change name key (name_written name u) ≡ Some None
  row_hit key (Some made) = ap (λ b. cond b (Some None) None) (same_itself name)
  row_hit key None = ap (λ b. cond b (Some None) None) (same_itself name)

  row_miss : (other : List ℕ) (key : ℤ) (u : Option Made) → same_name name other ≡ false → row_change other key (name_written name u) ≡ None
  row_miss other key (Some made) is = ap (λ b. cond b (Some None) None) is
  row_miss other key None is = ap (λ b. cond b (Some None) None) is

  -- what the writer wrote has the change behind it, where a table that it makes is new and has no slots
  module _ (n : ℕ) (own : List Change) (wrote : Wrote number old x n own)
      (empty : (made : Made) (key : ℤ) → v ≡ Some made → rows_of old made.id key ≡ []) (unseen : (made : Made) (j : ℕ) → v ≡ Some made → value_seen (by number j) (names_at old name) ≡ Some made → ⊥) where
    abbrev c : Change
    c = name_written name v

    some_same : {X : Type 0} (a b : X) → Some a ≡ Some b → a ≡ b
    some_same a b e = ap (λ o. unwrap_or o a) e

    pub names_wrote : Wrote number new x n (own ++ c ∷ [])
    names_wrote = record {
      is_open = none;
      tables = λ other. one_name (λ m d. written_by x (schemas d) ≡ left_by (schema_change m) (own ++ c ∷ [])) other
          (ap (written_by x) (write-schemas number x v (names_at old name)) ∙ write_own number x (option_map (λ (m : Made). m.schema) v) (schemas (names_at old name)) ∙ sym (left_new (schema_change name) own c (option_map (λ (m : Made). m.schema) v) (schema_hit v)))
          (λ is. wrote.tables other ∙ sym (left_same (schema_change other) own c (schema_miss other v is)));
      rows = λ other made key j le. one_name (λ m d. written_by x d ≡ None → value_seen (by number j) d ≡ Some made → written_by x (rows_of new made.id key) ≡ left_by (row_change m key) (own ++ c ∷ [])) other
          (λ is at. absurd (false≢true (ap is_some (sym is ∙ write_own number x v (names_at old name)))))
          (λ apart is at. ap (written_by x) (same_rows made.id key) ∙ wrote.rows other made key j le is at ∙ sym (left_same (row_change other key) own c (row_miss other key v apart)));
      created = λ other made key. one_name (λ m d. written_by x d ≡ Some (Some made) → AllByRecursion (ByX x) (rows_of new made.id key) × (left_by (row_change m key) (own ++ c ∷ []) ≡ Some (value_seen (λ y. y == x) (rows_of new made.id key)))) other
          (λ is. let made_here : v ≡ Some made = some_same v (Some made) (sym (write_own number x v (names_at old name)) ∙ is) in
          let no_rows = same_rows made.id key ∙ empty made key made_here in
          subst (λ d. AllByRecursion (ByX x) d × (left_by (row_change name key) (own ++ c ∷ []) ≡ Some (value_seen (λ y. y == x) d))) (sym no_rows) (tt, left_new (row_change name key) own c None (row_hit key v)))
          (λ apart is. let before = wrote.created other made key is in
          subst (λ d. AllByRecursion (ByX x) d × (left_by (row_change other key) (own ++ c ∷ []) ≡ Some (value_seen (λ y. y == x) d))) (sym (same_rows made.id key)) (before.0, left_same (row_change other key) own c (row_miss other key v apart) ∙ before.1));
      fresh = λ other made j. one_name (λ m d. written_by x d ≡ Some (Some made) → value_seen (by number j) d ≡ Some made → ⊥) other
          (λ is at. unseen made j (some_same v (Some made) (sym (write_own number x v (names_at old name)) ∙ is)) (sym (unseen_write number x j v (names_at old name) none) ∙ at))
          (λ apart is at. wrote.fresh other made j is at);
    }
