-- A commit is asked: the versions stand for the longer list.
use Rattle.std.proofs.Common.{◌≡◌, ◌⊎◌, ⊎_elim, inl, inr, ℕ, ◌+◌, ◌≤◌, ◌<◌, ◌==◌, ℤ, Bool, true, false, cond, List, [], ◌∷◌, ◌++◌, map, length, Option, Some, None, refl, sym, ◌∙◌, ap, subst, arith}
use Rattle.std.specs.Prelude.{unwrap_or, is_some, pos}
use Rattle.std.specs.List.{AllByRecursion}
use Rattle.std.proofs.lemmas.Map.{update_here, update_apart}
use Rattle.std.proofs.lemmas.Bool.{false≢true, eq-eqb, eqb-true, ne_eqb, le-leb, lt-leb, cases_eq, cases_lt}
use Rattle.std.proofs.lemmas.List.{length-map, map_push}
use Rattle.ctr_model.specs.types_Row.{Row}
use Rattle.ctr_model.specs.declared.database.Change.{Change}
use Rattle.ctr_model.specs.declared.state.State.{State}
use Rattle.ctr_model.specs.Database.{table_at}
use Rattle.ctr_model.specs.Refusals.{row_of}
use Rattle.ctr_versions.specs.Chains.{Numbers, value_seen, is_by, by, written_by, newest_since, Behind, AllCommitted, value_at_number, changed_since, AllTold, ShowsKey}
use Rattle.ctr_versions.specs.Keys.{schema_change, row_change, left_by, row_writes, schema_named}
use Rattle.ctr_versions.specs.Versions.{Made, Versions, names_at, rows_of, schemas, IsTableAt, IsTableSince, IsFrom, VersionsStand, ByX, Wrote}
use Rattle.ctr_versions.proofs.Chains.{with_number, SameNumber, seen_alike, by_alike, others_number, asked_shows, created_shows, early_value}
use Rattle.ctr_versions.proofs.Versions.{behind_schemas}

-- ---- what a test sees

pub seen_tests : {V : Type 0} (a b : ℕ → Bool) (chain : List (ℕ × Option V)) → ((y : ℕ) → b y ≡ a y) → value_seen b chain ≡ value_seen a chain
seen_tests a b [] same = refl
seen_tests a b (v ∷ vs) same = λ i. cond (same v.0 i) v.1 (seen_tests a b vs same i)

-- a number below that of the commit sees as before
pub early_by : (number : Numbers) (x k j : ℕ) → number x ≡ None → j < k → (y : ℕ) → by (with_number number x k) j y ≡ by number j y
early_by number x k j none lt y = ⊎_elim
    (λ same. ap (by (with_number number x k) j) same ∙ ap (is_by j) (update_here number x (Some k)) ∙ lt-leb k j lt ∙ sym (ap (by number j) same ∙ ap (is_by j) none))
    (λ apart. ap (is_by j) (update_apart number x (Some k) y apart))
    (cases_eq y x)

-- the head is what the transaction wrote
pub own_head : {V : Type 0} (sees : ℕ → Bool) (x : ℕ) (chain : List (ℕ × Option V)) (u : Option V) → sees x ≡ true → written_by x chain ≡ Some u → value_seen sees chain ≡ u
own_head sees x [] u sure is = absurd (false≢true (ap is_some is))
own_head sees x (v ∷ vs) u sure is =
    elim (x == v.0) as (λ b. (x == v.0) ≡ b → cond b (Some v.1) None ≡ Some u → cond (sees v.0) v.1 (value_seen sees vs) ≡ u) [
      | true ↦ λ mine. λ e. ap (λ b. cond b v.1 (value_seen sees vs)) (ap sees (sym (eqb-true x v.0 mine)) ∙ sure) ∙ ap (λ o. unwrap_or o v.1) e
      | false ↦ λ mine. λ e. absurd (false≢true (ap is_some e))
    ] refl is

-- a chain that it didn't write has the numbers of before
unwritten : {V : Type 0} (number : Numbers) (x k : ℕ) (chain : List (ℕ × Option V)) → number x ≡ None → Behind number chain → written_by x chain ≡ None → AllByRecursion (SameNumber number (with_number number x k)) chain
unwritten number x k [] none behind is = tt
unwritten number x k (v ∷ vs) none behind is = (
  update_apart number x (Some k) v.0 (λ same. false≢true (sym (sym (ap (λ b. is_some (cond b (Some v.1) None)) (eq-eqb x v.0 (sym same))) ∙ ap is_some is))),
  others_number number x k vs none behind,
)

pub seen_unwritten : {V : Type 0} (number : Numbers) (x k j : ℕ) (chain : List (ℕ × Option V)) → number x ≡ None → Behind number chain → written_by x chain ≡ None → value_seen (by (with_number number x k) j) chain ≡ value_seen (by number j) chain
seen_unwritten number x k j chain none behind is = seen_alike (by number j) (by (with_number number x k) j) chain (by_alike number (with_number number x k) j chain (unwritten number x k chain none behind is))

more_committed : {V : Type 0} (number : Numbers) (x k : ℕ) (chain : List (ℕ × Option V)) → AllCommitted number chain → AllCommitted (with_number number x k) chain
more_committed number x k [] all = tt
more_committed number x k (v ∷ vs) all = (
  ⊎_elim (λ same. ap is_some (ap (with_number number x k) same ∙ update_here number x (Some k))) (λ apart. ap is_some (update_apart number x (Some k) v.0 apart) ∙ all.0) (cases_eq v.0 x),
  more_committed number x k vs all.1,
)

still_behind : {V : Type 0} (number : Numbers) (x k : ℕ) (chain : List (ℕ × Option V)) → Behind number chain → Behind (with_number number x k) chain
still_behind number x k [] behind = tt
still_behind number x k (v ∷ vs) behind = more_committed number x k vs behind

-- ---- by the list of transactions

module _ {V : Type 0} (f : List Change → Option (Option V)) (asked : List (List Change)) (own : List Change) (number : Numbers) (x : ℕ) (base : Option V) (chain : List (ℕ × Option V)) (none : number x ≡ None) where
  asked_over : (at since : ℕ → Type 0) → written_by x chain ≡ f own → ShowsKey at since number base (map f asked) chain → ShowsKey at since (with_number number x (length asked + 1)) base (map f (asked ++ own ∷ [])) chain
  asked_over at since is shows =
      subst (λ ws. ShowsKey at since (with_number number x (length asked + 1)) base ws chain) (sym (map_push f asked own))
      (subst (λ n. ShowsKey at since (with_number number x (n + 1)) base (map f asked ++ f own ∷ []) chain) (length-map asked f) (asked_shows at since number base (map f asked) chain x (f own) none is shows))

  created_over : AllByRecursion (ByX x) chain → f own ≡ Some (value_seen (λ y. y == x) chain)
      → ShowsKey (λ j. length asked < j) (λ n. length asked < n) (with_number number x (length asked + 1)) base (map f (asked ++ own ∷ [])) chain
  created_over by_x is =
      subst (λ ws. ShowsKey (λ j. length asked < j) (λ n. length asked < n) (with_number number x (length asked + 1)) base ws chain) (ap (λ w. map f asked ++ w ∷ []) (sym is) ∙ sym (map_push f asked own))
      (subst (λ m. ShowsKey (λ j. m < j) (λ n. m < n) (with_number number x (m + 1)) base (map f asked ++ Some (value_seen (λ y. y == x) chain) ∷ []) chain) (length-map asked f)
      (created_shows number base (map f asked) x chain (value_seen (λ y. y == x) chain) by_x refl))

  early_over : (j : ℕ) → j ≤ length asked → value_at_number base (map f (asked ++ own ∷ [])) j ≡ value_at_number base (map f asked) j
  early_over j le = ap (λ ws. value_at_number base ws j) (map_push f asked own) ∙ early_value base (map f asked) (f own) j (subst (λ n. j ≤ n) (sym (length-map asked f)) le)

-- ---- the versions

abbrev pub longer : List Change → State → State
longer own state = record state { asked = state.asked ++ own ∷ [] }

module _ (low : ℕ) (number : Numbers) (state : State) (versions : Versions) (x n : ℕ) (own : List Change) (stands : VersionsStand low number state.base state.asked versions) (wrote : Wrote number versions x n own) (before : n ≤ length state.asked) where
  abbrev k : ℕ
  k = length state.asked + 1

  abbrev next : Numbers
  next = with_number number x k

  module _ (name : List ℕ) (made : Made) (key : ℤ) where
    abbrev chain : List (ℕ × Option Row)
    chain = rows_of versions made.id key

    abbrev names : List (ℕ × Option Made)
    names = names_at versions name

    abbrev base : Option Row
    base = row_of (table_at state.base name) key

    names_behind : Behind number names
    names_behind = behind_schemas number names (stands.tables name).behind

    seen_names : (j : ℕ) → written_by x names ≡ None → value_seen (by next j) names ≡ value_seen (by number j) names
    seen_names j is = seen_unwritten number x k j names wrote.is_open names_behind is

    own_names : (j : ℕ) (u : Option Made) → k ≤ j → written_by x names ≡ Some u → value_seen (by next j) names ≡ u
    own_names j u late is = own_head (by next j) x names u (ap (is_by j) (update_here number x (Some k)) ∙ le-leb k j late) is

    over : ShowsKey (IsTableAt low number versions name made) (IsTableSince low number versions name made) number base (row_writes name key state.asked) chain
    over = stands.rows name made key

    written_at : (j : ℕ) → k ≤ j → written_by x names ≡ None → value_seen (by next j) names ≡ Some made → written_by x chain ≡ left_by (row_change name key) own
    written_at j late is here = wrote.rows name made key j (omega (arith, before, late)) is (sym (seen_names j is) ∙ here)

    asked_here : (j : ℕ) → k ≤ j → written_by x names ≡ None → value_seen (by next j) names ≡ Some made
        → ShowsKey (IsTableAt low number versions name made) (IsTableSince low number versions name made) next base (row_writes name key (longer own state).asked) chain
    asked_here j late is here = asked_over (left_by (row_change name key)) state.asked own number x base chain wrote.is_open (IsTableAt low number versions name made) (IsTableSince low number versions name made) (written_at j late is here) over

    rows_late : (j : ℕ) → k ≤ j → low ≤ j → value_seen (by next j) names ≡ Some made → (w : Option (Option Made)) → written_by x names ≡ w → value_seen (by next j) chain ≡ value_at_number base (row_writes name key (longer own state).asked) j
    rows_late j late here is None own_is = (asked_here j late own_is is).rows j (here, sym (seen_names j own_is) ∙ is)
    rows_late j late here is (Some None) own_is = absurd (false≢true (ap is_some (sym (own_names j None late own_is) ∙ is)))
    rows_late j late here is (Some (Some mine)) own_is =
        let same : Some mine ≡ Some made = sym (own_names j (Some mine) late own_is) ∙ is in
        let created = wrote.created name made key (own_is ∙ ap Some same) in
        (created_over (left_by (row_change name key)) state.asked own number x base chain wrote.is_open created.0 created.1).rows j (omega (arith, late))

    -- since m the chain shows the row's changes
    abbrev Since : ℕ → Type 0
    Since m = (newest_since next m chain ≡ changed_since m (row_writes name key (longer own state).asked)) × AllTold next m (row_writes name key (longer own state).asked) chain

    changes_at : (m : ℕ) → IsTableSince low next versions name made m → (w : Option (Option Made)) → written_by x names ≡ w → Since m
    changes_at m since None own_is =
        let shows = asked_here (m + k) (omega arith) own_is (since.1 (m + k) (omega arith)) in
        let before_ : IsTableSince low number versions name made m = (since.0, λ j le. sym (seen_names j own_is) ∙ since.1 j le) in
        (shows.changes m before_, shows.told m before_)
    changes_at m since (Some None) own_is = absurd (false≢true (ap is_some (sym (own_names (m + k) None (omega arith) own_is) ∙ since.1 (m + k) (omega arith))))
    changes_at m since (Some (Some mine)) own_is =
        let same : Some mine ≡ Some made = sym (own_names (m + k) (Some mine) (omega arith) own_is) ∙ since.1 (m + k) (omega arith) in
        let is : written_by x names ≡ Some (Some made) = own_is ∙ ap Some same in
        let created = wrote.created name made key is in
        let shows = created_over (left_by (row_change name key)) state.asked own number x base chain wrote.is_open created.0 created.1 in
        ⊎_elim
        (λ late. (shows.changes m late, shows.told m late))
        (λ early. absurd (wrote.fresh name made m is (sym (seen_tests (by number m) (by next m) names (early_by number x k m wrote.is_open (omega (arith, early)))) ∙ since.1 m (omega arith))))
        (cases_lt (length state.asked) m)

    rows_at_any : (j : ℕ) → IsTableAt low next versions name made j → (length state.asked < j) ⊎ (j ≤ length state.asked) → value_seen (by next j) chain ≡ value_at_number base (row_writes name key (longer own state).asked) j
    rows_at_any j at (inl late) = rows_late j (omega (arith, late)) at.0 at.1 (written_by x names) refl
    rows_at_any j at (inr early) =
        let same = early_by number x k j wrote.is_open (omega (arith, early)) in
        seen_tests (by number j) (by next j) chain same ∙ over.rows j (at.0, sym (seen_tests (by number j) (by next j) names same) ∙ at.1)
        ∙ sym (early_over (left_by (row_change name key)) state.asked own number x base chain wrote.is_open j early)

    asked_rows : ShowsKey (IsTableAt low next versions name made) (IsTableSince low next versions name made) next base (row_writes name key (longer own state).asked) chain
    asked_rows = record {
      rows = λ j at. rows_at_any j at (cases_lt (length state.asked) j);
      changes = λ m since. (changes_at m since (written_by x names) refl).0;
      told = λ m since. (changes_at m since (written_by x names) refl).1;
      behind = still_behind number x k chain over.behind;
    }

  -- the versions stand for the state in which the transaction has asked
  pub asked_stands : VersionsStand low next state.base (longer own state).asked versions
  asked_stands = record {
    sorted = stands.sorted;
    slots_sorted = stands.slots_sorted;
    tables = λ name. asked_over (left_by (schema_change name)) state.asked own number x (schema_named state.base name) (schemas (names_at versions name)) wrote.is_open (IsFrom low) (IsFrom low) (wrote.tables name) (stands.tables name);
    rows = asked_rows;
  }

  -- What another open transaction wrote stays, where it has changed nothing under a name whose table
  -- the one that asks has made or dropped.
  module _ (y m : ℕ) (others : List Change) (apart : y ≡ x → ⊥) (theirs : Wrote number versions y m others)
      (untouched : (name : List ℕ) (key : ℤ) → is_some (written_by x (names_at versions name)) ≡ true → left_by (row_change name key) others ≡ None) where
    alone_none : {V : Type 0} (chain : List (ℕ × Option V)) → AllByRecursion (ByX x) chain → written_by y chain ≡ None
    alone_none [] all = refl
    alone_none (v ∷ vs) all = ap (λ b. cond b (Some v.1) None) (ne_eqb y v.0 (λ same. apart (same ∙ all.0)))

    their_head : {V : Type 0} (chain : List (ℕ × Option V)) (u : Option V) → written_by y chain ≡ Some u → written_by x chain ≡ None
    their_head [] u is = refl
    their_head (v ∷ vs) u is =
        elim (y == v.0) as (λ b. (y == v.0) ≡ b → cond b (Some v.1) None ≡ Some u → cond (x == v.0) (Some v.1) None ≡ None) [
          | true ↦ λ mine e. ap (λ b. cond b (Some v.1) None) (ne_eqb x v.0 (λ same. apart (eqb-true y v.0 mine ∙ sym same)))
          | false ↦ λ mine e. absurd (false≢true (ap is_some e))
        ] refl is

    rows_theirs : (name : List ℕ) (made : Made) (key : ℤ) (j : ℕ) → m ≤ j → written_by y (names_at versions name) ≡ None → value_seen (by next j) (names_at versions name) ≡ Some made → (w : Option (Option Made)) → written_by x (names_at versions name) ≡ w
        → (length state.asked < j) ⊎ (j ≤ length state.asked) → written_by y (rows_of versions made.id key) ≡ left_by (row_change name key) others
    rows_theirs name made key j le is at w own_is (inr early) =
        theirs.rows name made key j le is (sym (seen_tests (by number j) (by next j) (names_at versions name) (early_by number x k j wrote.is_open (omega (arith, early)))) ∙ at)
    rows_theirs name made key j le is at None own_is (inl late) = theirs.rows name made key j le is (sym (seen_names name made key j own_is) ∙ at)
    rows_theirs name made key j le is at (Some None) own_is (inl late) = absurd (false≢true (ap is_some (sym (own_names name made key j None (omega (arith, late)) own_is) ∙ at)))
    rows_theirs name made key j le is at (Some (Some mine)) own_is (inl late) =
        let same : Some mine ≡ Some made = sym (own_names name made key j (Some mine) (omega (arith, late)) own_is) ∙ at in
        alone_none (rows_of versions made.id key) ((wrote.created name made key (own_is ∙ ap Some same)).0) ∙ sym (untouched name key (ap is_some own_is))

    pub asked_wrote : Wrote next versions y m others
    asked_wrote = record {
      is_open = update_apart number x (Some k) y apart ∙ theirs.is_open;
      tables = theirs.tables;
      rows = λ name made key j le is at. rows_theirs name made key j le is at (written_by x (names_at versions name)) refl (cases_lt (length state.asked) j);
      created = theirs.created;
      fresh = λ name made j is at. theirs.fresh name made j is (sym (seen_names name made (pos 0) j (their_head (names_at versions name) (Some made) is)) ∙ at);
    }
