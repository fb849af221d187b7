-- A change that is loaded is the model's change of the database, and what was loaded is the base of an engine that is
-- opened over it.
use Rattle.std.proofs.Common.{◌≡◌, ℕ, zero, suc, ◌<◌, ℤ, Bool, true, false, cond, not, List, [], ◌∷◌, Option, Some, None, refl, sym, ◌∙◌, ap, subst, arith}
use Rattle.std.specs.Prelude.{unwrap_or, is_some, T, nat_lt, ◌&&◌, ◌||◌}
use Rattle.std.specs.Option.{option_map}
use Rattle.std.specs.List.{AllByRecursion}
use Rattle.std.specs.Ordering.{int_cmp}
use Rattle.std.specs.FinMap.Entries.{is_sorted}
use Rattle.std.proofs.lemmas.Bool.{false≢true, le-ltb, ne_eqb}
use Rattle.ctr_model.specs.types_Row.{Row}
use Rattle.ctr_model.specs.declared.database.Change.{Change}
use Rattle.ctr_model.specs.Database.{Database, name_cmp, table_at, with_row, without_row, at_found, changed}
use Rattle.ctr_model.specs.State.{same_name, at_rest}
use Rattle.ctr_model.specs.Refusals.{row_of}
use Rattle.ctr_snap.specs.Seeing.{has}
use Rattle.ctr_versions.specs.Chains.{Numbers, value_seen, is_by, by, Behind}
use Rattle.ctr_versions.specs.Changes.{write}
use Rattle.ctr_versions.specs.Keys.{schema_change, row_change, row_written}
use Rattle.ctr_versions.specs.Listing.{chain_at}
use Rattle.ctr_versions.specs.Xids.{number_of, has_committed, AreSound}
use Rattle.ctr_versions.specs.Versions.{Made, Versions, names_at, slots_of, rows_of, schemas, table_seen, database_seen, name_written, IsOrdered, HaveOwnTables, is_slot, RowsSet, NamesSet}
use Rattle.ctr_versions.specs.Engine.{session_sees, IsBy, IsDrawn, ShowsState}
use Rattle.ctr_versions.specs.Heads.{has_head, HeadsAre}
use Rattle.ctr_versions.specs.Loading.{loader, loading_xids, opened_xids, loading_session, is_loader, loaded, IsSingle, AreLoaded}
use Rattle.ctr_versions.proofs.Keys.{known, same_text, some_is, schema_step, row_step}
use Rattle.ctr_versions.proofs.Xids.{not_before, committed_fate}
use Rattle.ctr_versions.proofs.Versions.{shows_database, ordered_after}
use Rattle.ctr_versions.proofs.Written.{slot, same_names, schema_apart, row_hit, row_miss, not_slot, same_itself}
use Rattle.ctr_versions.proofs.Reading.{seen_ordered, schema_read, key_read, table_read}
use Rattle.ctr_versions.proofs.Opened.{opened_state}

-- ---- one version of a key

pub single_write : {V : Type 0} (v : Option V) (chain : List (ℕ × Option V)) → IsSingle chain → IsSingle (write (number_of loading_xids) loader v chain)
single_write v [] single = (refl, refl)
single_write v (h ∷ rest) single =
    let open_ : number_of loading_xids h.0 ≡ None = ap (number_of loading_xids) single.0 in
    subst (λ o. IsSingle (cond (is_some o) ((loader, v) ∷ h ∷ rest) ((loader, v) ∷ rest))) (sym open_) (refl, single.1)

pub single_behind : {V : Type 0} (number : Numbers) (chain : List (ℕ × Option V)) → IsSingle chain → Behind number chain
single_behind number [] single = tt
single_behind {V} number (v ∷ vs) single = subst (λ (c : List (ℕ × Option V)). Behind number (v ∷ c)) (sym single.1) tt

single_schemas : (number : Numbers) (chain : List (ℕ × Option Made)) → IsSingle chain → Behind number (schemas chain)
single_schemas number [] single = tt
single_schemas number (v ∷ vs) single = subst (λ (c : List (ℕ × Option Made)). Behind number (schemas (v ∷ c))) (sym single.1) tt

single_drawn : {V : Type 0} (chain : List (ℕ × Option V)) → IsSingle chain → AllByRecursion (IsBy (IsDrawn 2)) chain
single_drawn [] single = tt
single_drawn {V} (v ∷ vs) single = subst (λ (c : List (ℕ × Option V)). AllByRecursion (IsBy (IsDrawn 2)) (v ∷ c)) (sym single.1) (subst (λ x. (0 < x) × (x < 2)) (sym single.0) (omega arith, omega arith), tt)

-- what any test sees is what was loaded
single_seen : {V : Type 0} (test : ℕ → Bool) (chain : List (ℕ × Option V)) (x : V) → IsSingle chain → value_seen test chain ≡ Some x → value_seen is_loader chain ≡ Some x
single_seen test [] x single is = absurd (false≢true (ap is_some is))
single_seen {V} test (v ∷ vs) x single is =
    seen_first (test v.0) (subst (λ (c : List (ℕ × Option V)). cond (test v.0) v.1 (value_seen test c) ≡ Some x) single.1 is)
  where
    first : v.1 ≡ Some x → value_seen is_loader (v ∷ vs) ≡ Some x
    first given = subst (λ y. cond (is_loader y) v.1 (value_seen is_loader vs) ≡ Some x) (sym single.0) given

    seen_first : (b : Bool) → cond b v.1 None ≡ Some x → value_seen is_loader (v ∷ vs) ≡ Some x
    seen_first true given = first given
    seen_first false given = absurd (false≢true (ap is_some given))

-- no two names share a table, whatever is seen of them
pub loaded_apart : (versions : Versions) → AreLoaded versions → HaveOwnTables versions
loaded_apart versions are name other made mine test own is at same =
    are.apart name other made mine (single_seen test (names_at versions name) made (are.names name) is)
    (single_seen own (names_at versions other) mine (are.names other) at) same

-- the database that is loaded is in order
pub loaded_ordered : (versions : Versions) → AreLoaded versions → IsOrdered (loaded versions)
loaded_ordered versions are = seen_ordered is_loader versions are.sorted are.slots_sorted

-- ---- what a change leaves is seen

module _ (old new : Versions) (are : AreLoaded old) (sorted : T (is_sorted name_cmp new.names)) (slots_sorted : (id : ℕ) → T (is_sorted int_cmp (slots_of new id))) where
  abbrev before : Database
  before = loaded old

  before_ordered : IsOrdered before
  before_ordered = seen_ordered is_loader old are.sorted are.slots_sorted

  -- where columns and rows are those that the change leaves
  loads : (c : Change) → ((name : List ℕ) → option_map (λ (m : Made). m.schema) (value_seen is_loader (names_at new name)) ≡ unwrap_or (schema_change name c) (option_map (λ (m : Made). m.schema) (value_seen is_loader (names_at old name))))
      → ((name : List ℕ) (made : Made) (key : ℤ) → value_seen is_loader (names_at new name) ≡ Some made → value_seen is_loader (rows_of new made.id key) ≡ unwrap_or (row_change name key c) (row_of (table_at before name) key))
      → loaded new ≡ changed c before
  loads c schemas_left rows_left = shows_database is_loader new (changed c before) sorted slots_sorted (ordered_after (c ∷ []) before before_ordered)
      (λ name. schemas_left name ∙ ap (unwrap_or (schema_change name c)) (schema_read is_loader old name are.sorted) ∙ sym (schema_step name c before))
      (λ name made t key is at. rows_left name made key is ∙ sym (row_step name key c before (row_of (table_at before name) key) (λ u e. ap (λ o. row_of o key) (sym e)) t at))

  -- where nothing is changed
  same_loaded : ((name : List ℕ) → names_at new name ≡ names_at old name) → ((id : ℕ) (key : ℤ) → rows_of new id key ≡ rows_of old id key) → loaded new ≡ before
  same_loaded names rows = shows_database is_loader new before sorted slots_sorted before_ordered
      (λ name. ap (λ c. option_map (λ (m : Made). m.schema) (value_seen is_loader c)) (names name) ∙ schema_read is_loader old name are.sorted)
      (λ name made t key is at. ap (value_seen is_loader) (rows made.id key) ∙ key_read is_loader old name made key are.sorted (are.slots_sorted made.id) (ap (value_seen is_loader) (sym (names name)) ∙ is) ∙ ap (λ o. row_of o key) at)

-- ---- a row

module _ (old new : Versions) (are : AreLoaded old) (id : ℕ) (key : ℤ) (chain : List (ℕ × Option Row)) (set : RowsSet old new id key chain) where
  names_back : (name : List ℕ) → names_at new name ≡ names_at old name
  names_back name = same_names 0 (λ x. None) (at_rest [] []) old new id key chain set name

  one_slot : (P : List (ℕ × Option Row) → Type 0) (i : ℕ) (k : ℤ) → (i ≡ id → k ≡ key → P chain) → (is_slot id key i k ≡ false → P (rows_of old i k)) → P (rows_of new i k)
  one_slot = slot 0 (λ x. None) (at_rest [] []) old new id key chain set

  names_sorted : T (is_sorted name_cmp new.names)
  names_sorted = subst (λ ns. T (is_sorted name_cmp ns)) (sym set.names) are.sorted

  pub row_kept : IsSingle chain → AreLoaded new
  row_kept single = record {
    sorted = names_sorted;
    slots_sorted = set.sorted;
    names = λ name. subst IsSingle (sym (names_back name)) (are.names name);
    rows = λ i k. one_slot IsSingle i k (λ one two. single) (λ other. are.rows i k);
    apart = λ name other made mine is at same. are.apart name other made mine (ap (value_seen is_loader) (sym (names_back name)) ∙ is) (ap (value_seen is_loader) (sym (names_back other)) ∙ at) same;
  }

  pub row_room_kept : chain ≡ rows_of old id key → AreLoaded new
  row_room_kept is = row_kept (subst IsSingle (sym is) (are.rows id key))

  pub row_loads : (name : List ℕ) (made : Made) (v : Option Row) → value_seen is_loader (names_at old name) ≡ Some made → made.id ≡ id → value_seen is_loader chain ≡ v → loaded new ≡ changed (row_written name key v) (loaded old)
  row_loads name made v at named is = loads old new are names_sorted set.sorted (row_written name key v)
      (λ other. ap (λ c. option_map (λ (m : Made). m.schema) (value_seen is_loader c)) (names_back other) ∙ sym (ap (λ w. unwrap_or w (option_map (λ (m : Made). m.schema) (value_seen is_loader (names_at old other)))) (schema_apart name other key v)))
      (λ other mine k at_new.
      let at_old : value_seen is_loader (names_at old other) ≡ Some mine = ap (value_seen is_loader) (sym (names_back other)) ∙ at_new in
      let row = row_of (table_at (loaded old) other) k in
      one_slot (λ c. value_seen is_loader c ≡ unwrap_or (row_change other k (row_written name key v)) row) mine.id k
      (λ one two. is ∙ sym (ap (λ w. unwrap_or w row) (row_hit name other key k v (are.apart other name mine made at_old at (one ∙ sym named)) two)))
      (λ miss. key_read is_loader old other mine k are.sorted (are.slots_sorted mine.id) at_old
      ∙ sym (ap (λ w. unwrap_or w row) (row_miss name other key k v (λ same two. not_slot id mine.id key k miss (ap (λ (m : Made). m.id) (some_is mine made (sym at_old ∙ ap (λ n. value_seen is_loader (names_at old n)) same ∙ at)) ∙ named) two)))))

  -- room was taken for the key
  pub row_room_loads : chain ≡ rows_of old id key → loaded new ≡ loaded old
  row_room_loads is = same_loaded old new are names_sorted set.sorted names_back (λ i k. one_slot (λ c. c ≡ rows_of old i k) i k (λ one two. is ∙ (λ j. rows_of old (sym one j) (sym two j))) (λ other. refl))

-- ---- a table

module _ (old new : Versions) (are : AreLoaded old) (name : List ℕ) (chain : List (ℕ × Option Made)) (set : NamesSet old new name chain) where
  one_name : (P : List ℕ → List (ℕ × Option Made) → Type 0) (other : List ℕ) → (same_name name other ≡ true → P name chain) → (same_name name other ≡ false → P other (names_at old other)) → P other (names_at new other)
  one_name P other hit miss = known (same_name name other)
      (λ is. let same = same_text name other is in subst (λ m. P m (names_at new m)) same (subst (P name) (sym set.here) (hit is)))
      (λ is. subst (P other) (sym (set.others other is)) (miss is))

  rows_back : (id : ℕ) (key : ℤ) → rows_of new id key ≡ rows_of old id key
  rows_back id key = ap (chain_at int_cmp key) (set.slots id)

  slots_back : (id : ℕ) → T (is_sorted int_cmp (slots_of new id))
  slots_back id = subst (λ s. T (is_sorted int_cmp s)) (sym (set.slots id)) (are.slots_sorted id)

  pub name_kept : IsSingle chain → ((made : Made) → value_seen is_loader chain ≡ Some made → (other : List ℕ) (mine : Made) → same_name name other ≡ false → value_seen is_loader (names_at old other) ≡ Some mine → made.id ≡ mine.id → ⊥) → AreLoaded new
  name_kept single unmade = record {
    sorted = set.sorted;
    slots_sorted = slots_back;
    names = λ other. one_name (λ m c. IsSingle c) other (λ hit. single) (λ miss. are.names other);
    rows = λ id key. subst IsSingle (sym (rows_back id key)) (are.rows id key);
    apart = λ one two made mine at_one at_two same.
        one_name (λ m c. value_seen is_loader c ≡ Some made → m ≡ two) one
        (λ hit at. one_name (λ m c. value_seen is_loader c ≡ Some mine → name ≡ m) two (λ hit_ at_. refl) (λ miss_ at_. absurd (unmade made at two mine miss_ at_ same)) at_two)
        (λ miss at. one_name (λ m c. value_seen is_loader c ≡ Some mine → one ≡ m) two (λ hit_ at_. absurd (unmade mine at_ one made miss at (sym same))) (λ miss_ at_. are.apart one two made mine at at_ same) at_two)
        at_one;
  }

  pub name_room_kept : chain ≡ names_at old name → AreLoaded new
  name_room_kept is = name_kept (subst IsSingle (sym is) (are.names name))
      (λ made at other mine miss at_ same. false≢true (sym miss ∙ ap (same_name name) (sym (are.apart name other made mine (ap (value_seen is_loader) (sym is) ∙ at) at_ same)) ∙ same_itself name))

  schema_test : (other : List ℕ) (v : Option Made) → schema_change other (name_written name v) ≡ cond (same_name name other) (Some (option_map (λ (m : Made). m.schema) v)) None
  schema_test other None = refl
  schema_test other (Some made) = refl

  row_test : (other : List ℕ) (key : ℤ) (v : Option Made) → row_change other key (name_written name v) ≡ cond (same_name name other) (Some None) None
  row_test other key None = refl
  row_test other key (Some made) = refl

  -- v is the table that was made, or none where it was dropped
  pub name_loads : (v : Option Made) → value_seen is_loader chain ≡ v → ((made : Made) (key : ℤ) → v ≡ Some made → rows_of old made.id key ≡ []) → loaded new ≡ changed (name_written name v) (loaded old)
  name_loads v is empty = loads old new are set.sorted slots_back (name_written name v)
      (λ other. let before = option_map (λ (m : Made). m.schema) (value_seen is_loader (names_at old other)) in
      one_name (λ m c. option_map (λ (m : Made). m.schema) (value_seen is_loader c) ≡ unwrap_or (schema_change m (name_written name v)) before) other
      (λ hit. ap (option_map (λ (m : Made). m.schema)) is ∙ sym (ap (λ w. unwrap_or w before) (schema_test name v ∙ ap (λ b. cond b (Some (option_map (λ (m : Made). m.schema) v)) None) (same_itself name))))
      (λ miss. sym (ap (λ w. unwrap_or w before) (schema_test other v ∙ ap (λ b. cond b (Some (option_map (λ (m : Made). m.schema) v)) None) miss))))
      (λ other mine key at. let row = row_of (table_at (loaded old) other) key in
      one_name (λ m c. value_seen is_loader c ≡ Some mine → value_seen is_loader (rows_of new mine.id key) ≡ unwrap_or (row_change m key (name_written name v)) row) other
      (λ hit at_. ap (value_seen is_loader) (rows_back mine.id key ∙ empty mine key (sym is ∙ at_)) ∙ sym (ap (λ w. unwrap_or w row) (row_test name key v ∙ ap (λ b. cond b (Some None) None) (same_itself name))))
      (λ miss at_. ap (value_seen is_loader) (rows_back mine.id key) ∙ key_read is_loader old other mine key are.sorted (are.slots_sorted mine.id) at_ ∙ sym (ap (λ w. unwrap_or w row) (row_test other key v ∙ ap (λ b. cond b (Some None) None) miss)))
      at)

  -- room was taken for the name
  pub name_room_loads : chain ≡ names_at old name → loaded new ≡ loaded old
  name_room_loads is = same_loaded old new are set.sorted slots_back (λ other. one_name (λ m c. c ≡ names_at old m) other (λ hit. is) (λ miss. refl)) rows_back

-- a table that isn't there is left alone
pub absent_loads : (versions : Versions) → AreLoaded versions → (name : List ℕ) (key : ℤ) (v : Option Row) → value_seen is_loader (names_at versions name) ≡ None → loaded versions ≡ changed (row_written name key v) (loaded versions)
absent_loads versions are name key v none = by_value v
  where
    no_table : table_at (loaded versions) name ≡ None
    no_table = table_read is_loader versions name are.sorted ∙ ap (option_map (table_seen is_loader versions)) none

    by_value : (v : Option Row) → loaded versions ≡ changed (row_written name key v) (loaded versions)
    by_value None = sym (ap (λ o. at_found name (without_row key) o (loaded versions)) no_table)
    by_value (Some row) = sym (ap (λ o. at_found name (with_row key row) o (loaded versions)) no_table)

-- ---- what the session that loads sees

uncommitted : (x : ℕ) → has_committed loading_xids x ≡ false
uncommitted zero = refl
uncommitted (suc zero) = refl
uncommitted (suc (suc x)) = not_before (nat_lt 0 (suc (suc x))) (nat_lt (suc (suc x)) 2) (not (has (suc (suc x)) loading_xids.live) && not (has (suc (suc x)) [])) (le-ltb (suc (suc x)) 2 (omega arith))

-- its own versions
pub loader_sees : (x : ℕ) → session_sees loading_xids loading_session x ≡ is_loader x
loader_sees x = ap (λ b. is_loader x || (b && (nat_lt x 1 && true))) (committed_fate loading_xids x ∙ uncommitted x) ∙ or_none (is_loader x)
  where
    or_none : (b : Bool) → (b || false) ≡ b
    or_none true = refl
    or_none false = refl

-- ---- the engine is opened

opened_test : (x : ℕ) → by (number_of opened_xids) 0 x ≡ is_loader x
opened_test zero = refl
opened_test (suc zero) = refl
opened_test (suc (suc x)) =
    ap (λ b. is_by 0 (cond b (Some 0) None)) (not_before (nat_lt 0 (suc (suc x))) (nat_lt (suc (suc x)) 2) true (le-ltb (suc (suc x)) 2 (omega arith)))
    ∙ sym (ne_eqb (suc (suc x)) 1 (further x))
  where
    further : (x : ℕ) → suc (suc x) ≡ 1 → ⊥
    further x same = omega (arith, same)

pub opened_sound : AreSound opened_xids
opened_sound = record { first = omega arith; gone = tt; live = tt; apart = λ x here. absurd (false≢true here); commits = tt; once = tt }

single_headless : {V : Type 0} (x : ℕ) → number_of opened_xids x ≡ None → (chain : List (ℕ × Option V)) → IsSingle chain → has_head x chain ≡ false
single_headless x none [] single = refl
single_headless x none (v ∷ vs) single = ne_eqb x v.0 (λ same. false≢true (ap is_some (sym none ∙ ap (number_of opened_xids) (same ∙ single.0))))

-- nobody has a head who isn't committed
pub opened_heads : (versions : Versions) → AreLoaded versions → (x : ℕ) → number_of opened_xids x ≡ None → HeadsAre x 0 versions
opened_heads versions are x none = record {
  rows = [];
  names = [];
  rows_are = record { once = tt; each = λ k. sym (single_headless x none (rows_of versions k.0 k.1) (are.rows k.0 k.1)) };
  names_are = record { once = tt; each = λ name. sym (single_headless x none (names_at versions name) (are.names name)) };
  sum = refl;
}

-- it shows the state at rest of what was loaded
pub loading_opens : (versions : Versions) → AreLoaded versions → (stuck : List (List ℕ)) → ShowsState 0 (record { xids = opened_xids; versions = versions; sessions = []; answered = 0 }) (at_rest (loaded versions) stuck)
loading_opens versions are stuck =
    subst (λ (test : ℕ → Bool). ShowsState 0 (record { xids = opened_xids; versions = versions; sessions = []; answered = 0 }) (at_rest (database_seen test versions) stuck)) (λ i x. opened_test x i)
    (opened_state opened_xids versions stuck opened_sound refl are.sorted are.slots_sorted (λ name. single_schemas (number_of opened_xids) (names_at versions name) (are.names name)) (λ id key. single_behind (number_of opened_xids) (rows_of versions id key) (are.rows id key))
    (record { names = λ name. single_drawn (names_at versions name) (are.names name); rows = λ id key. single_drawn (rows_of versions id key) (are.rows id key) }))
