-- What versions show is the database of the model.
use Rattle.std.proofs.Common.{◌≡◌, ℕ, ◌≤◌, ◌==◌, ℤ, Bool, true, false, cond, not, List, [], ◌∷◌, map, take, Option, Some, None, refl, sym, ◌∙◌, ap, subst, arith}
use Rattle.std.specs.Prelude.{unwrap_or, ◌&&◌, ◌||◌, T, is_some}
use Rattle.std.specs.Option.{option_map}
use Rattle.std.specs.List.{AllByRecursion}
use Rattle.std.specs.Ordering.{int_cmp, eq_by_cmp}
use Rattle.std.specs.Cmp.{int_cmp_total}
use Rattle.std.specs.Cmp.Lexicographic.{nat_list_cmp_total}
use Rattle.std.specs.FinMap.Entries.{find, put, below_all, is_sorted, is_sorted-put, is_sorted-where_key, same_entries}
use Rattle.std.proofs.lemmas.Bool.{false≢true, true≢false, eq-eqb}
use Rattle.std.proofs.lemmas.Map.Lookups.{exact_bytes, exact_signed}
use Rattle.std.proofs.lemmas.List.{take-map}
use Rattle.ctr_model.specs.declared.database.Change.{Change}
use Rattle.ctr_model.specs.declared.database.Change.TheVariants as change
use Rattle.ctr_model.specs.declared.database.Table.{Table}
use Rattle.ctr_model.specs.declared.state.State.{State}
use Rattle.ctr_model.specs.Database.{Database, name_cmp, table_at, row_at, with_row, without_row, at_found, at_table, changed, after, after_all}
use Rattle.ctr_model.specs.State.{same_name, rows_at}
use Rattle.ctr_model.specs.Refusals.{row_of}
use Rattle.ctr_versions.specs.Chains.{Numbers, value_seen, by, by_or_own, written_by, Behind, AllCommitted, overlay, value_at_number}
use Rattle.ctr_versions.specs.Keys.{schema_change, row_change, left_by, schema_writes, row_writes, schema_named, HasRow}
use Rattle.ctr_versions.specs.Listing.{entries_seen}
use Rattle.ctr_versions.specs.Versions.{Made, Versions, names_at, slots_of, rows_of, schemas, table_seen, database_seen, IsTableAt, IsTableSince, IsFrom, VersionsStand, ByX, Wrote, IsOrdered}
use Rattle.ctr_versions.proofs.Chains.{view_shows, own_seen}
use Rattle.ctr_versions.proofs.Keys.{found, gone, known, some_is, schema_after, schema_after_all, row_after, row_after_all}
use Rattle.ctr_versions.proofs.Listing.{find-shown, is_sorted-shown, same_shown}

-- ---- a list of entries, with other values

pub both : (a b : Bool) → T a → T b → T (a && b)
both true b p q = q
both false b p q = p

pub first : (a b : Bool) → T (a && b) → T a
first true b p = tt
first false b p = p

pub second : (a b : Bool) → T (a && b) → T b
second true b p = p
second false b p = absurd p

module _ {A B : Type 0} (f : A → B) where
  abbrev entry : List ℕ × A → List ℕ × B
  entry e = (e.0, f e.1)

  below-map : (x : List ℕ) (es : List (List ℕ × A)) → T (below_all name_cmp x es) → T (below_all name_cmp x (map entry es))
  below-map x [] h = tt
  below-map x (e ∷ es) h = both _ _ (first _ _ h) (below-map x es (second _ _ h))

  pub sorted-map : (es : List (List ℕ × A)) → T (is_sorted name_cmp es) → T (is_sorted name_cmp (map entry es))
  sorted-map [] h = tt
  sorted-map (e ∷ es) h = both _ _ (below-map e.0 es (first _ _ h)) (sorted-map es (second _ _ h))

  pub find-map : (q : List ℕ) (es : List (List ℕ × A)) → find name_cmp q (map entry es) ≡ option_map f (find name_cmp q es)
  find-map q [] = refl
  find-map q (e ∷ es) = elim (eq_by_cmp name_cmp q e.0) as (λ b. cond b (Some (f e.1)) (find name_cmp q (map entry es)) ≡ option_map f (cond b (Some e.1) (find name_cmp q es))) [ true ↦ refl | false ↦ find-map q es ]

pub seen-map : {A B : Type 0} (f : A → B) (sees : ℕ → Bool) (chain : List (ℕ × Option A)) → value_seen sees (map (λ (v : ℕ × Option A). (v.0, option_map f v.1)) chain) ≡ option_map f (value_seen sees chain)
seen-map f sees [] = refl
seen-map f sees (v ∷ vs) = elim (sees v.0) as (λ b. cond b (option_map f v.1) (value_seen sees (map (λ v. (v.0, option_map f v.1)) vs)) ≡ option_map f (cond b v.1 (value_seen sees vs))) [ true ↦ refl | false ↦ seen-map f sees vs ]

committed_schemas : (number : Numbers) (chain : List (ℕ × Option Made)) → AllCommitted number (schemas chain) → AllCommitted number chain
committed_schemas number [] all = tt
committed_schemas number (v ∷ vs) all = (all.0, committed_schemas number vs all.1)

pub behind_schemas : (number : Numbers) (chain : List (ℕ × Option Made)) → Behind number (schemas chain) → Behind number chain
behind_schemas number [] behind = tt
behind_schemas number (v ∷ vs) behind = committed_schemas number vs behind

-- versions of its own alone
own_alone : {V : Type 0} (number : Numbers) (n me : ℕ) (chain : List (ℕ × Option V)) → AllByRecursion (ByX me) chain → value_seen (by_or_own number n me) chain ≡ value_seen (λ y. y == me) chain
own_alone number n me [] all = refl
own_alone number n me (v ∷ vs) all =
    let mine = eq-eqb v.0 me all.0 in
    ap (λ b. cond (b || by number n v.0) v.1 (value_seen (by_or_own number n me) vs)) mine ∙ sym (ap (λ b. cond b v.1 (value_seen (λ y. y == me) vs)) mine)

-- ---- the database that is seen

module _ (sees : ℕ → Bool) (versions : Versions) (db : Database) (sorted : T (is_sorted name_cmp versions.names)) (slots_sorted : (id : ℕ) → T (is_sorted int_cmp (slots_of versions id))) (ordered : IsOrdered db)
    (same_schemas : (name : List ℕ) → option_map (λ (m : Made). m.schema) (value_seen sees (names_at versions name)) ≡ schema_named db name)
    (same_rows : (name : List ℕ) (made : Made) (t : Table) (key : ℤ) → value_seen sees (names_at versions name) ≡ Some made → table_at db name ≡ Some t → value_seen sees (rows_of versions made.id key) ≡ row_at t key) where
  same_table : (name : List ℕ) (a : Option Made) (b : Option Table) → value_seen sees (names_at versions name) ≡ a → table_at db name ≡ b → option_map (λ (m : Made). m.schema) a ≡ option_map (λ (t : Table). t.schema) b
      → option_map (table_seen sees versions) a ≡ b
  same_table name None None is at e = refl
  same_table name None (Some t) is at e = absurd (false≢true (ap is_some e))
  same_table name (Some made) None is at e = absurd (true≢false (ap is_some e))
  same_table name (Some made) (Some t) is at e =
      let schema = some_is made.schema t.schema e in
      let rows = same_shown int_cmp int_cmp_total exact_signed sees (slots_of versions made.id) t.rows (slots_sorted made.id) (ordered.rows name t at) (λ key. same_rows name made t key is at) in
      λ i. Some (record { schema = schema i; rows = rows i })

  pub shows_database : database_seen sees versions ≡ db
  shows_database = same_entries name_cmp nat_list_cmp_total exact_bytes (database_seen sees versions) db (sorted-map (table_seen sees versions) (entries_seen sees versions.names) (is_sorted-shown name_cmp sees versions.names sorted)) ordered.names
      (λ name. find-map (table_seen sees versions) name (entries_seen sees versions.names) ∙ ap (option_map (table_seen sees versions)) (find-shown name_cmp nat_list_cmp_total sees name versions.names sorted)
      ∙ same_table name (value_seen sees (names_at versions name)) (table_at db name) refl refl (same_schemas name))

-- ---- databases of the model stay in order

ordered_put : (table : List ℕ) (t : Table) (db : Database) → T (is_sorted int_cmp t.rows) → IsOrdered db → IsOrdered (put name_cmp table t db)
ordered_put table t db fine ordered = record {
  names = is_sorted-put name_cmp nat_list_cmp_total table t db ordered.names;
  rows = λ name u at. known (same_name table name)
      (λ same_. subst (λ (u : Table). T (is_sorted int_cmp u.rows)) (some_is t u (sym (found name table t db ∙ ap (λ b. cond b (Some t) (table_at db name)) same_) ∙ at)) fine)
      (λ other. ordered.rows name u (sym (found name table t db ∙ ap (λ b. cond b (Some t) (table_at db name)) other) ∙ at));
}

ordered_at : (table : List ℕ) (f : Table → Table) (db : Database) → ((t : Table) → T (is_sorted int_cmp t.rows) → T (is_sorted int_cmp (f t).rows)) → IsOrdered db → IsOrdered (at_table table f db)
ordered_at table f db fine ordered =
    elim (table_at db table) as (λ o. table_at db table ≡ o → IsOrdered (at_found table f o db)) [
      | None ↦ λ is. ordered
      | Some t ↦ λ is. ordered_put table (f t) db (fine t (ordered.rows table t is)) ordered
    ] refl

ordered_changed : (c : Change) (db : Database) → IsOrdered db → IsOrdered (changed c db)
ordered_changed (change.Put table k row) db ordered = ordered_at table (with_row k row) db (λ t fine. is_sorted-put int_cmp int_cmp_total k row t.rows fine) ordered
ordered_changed (change.Remove table k) db ordered = ordered_at table (without_row k) db (λ t fine. is_sorted-where_key int_cmp (λ x. not (eq_by_cmp int_cmp k x)) t.rows fine) ordered
ordered_changed (change.Create table schema) db ordered = ordered_put table (record { schema = schema; rows = [] }) db tt ordered
ordered_changed (change.Drop table) db ordered = record {
  names = is_sorted-where_key name_cmp (λ x. not (eq_by_cmp name_cmp table x)) db ordered.names;
  rows = λ name u at. known (same_name table name)
      (λ same_. absurd (false≢true (ap is_some (sym (gone name table db ∙ ap (λ b. cond b None (table_at db name)) same_) ∙ at))))
      (λ other. ordered.rows name u (sym (gone name table db ∙ ap (λ b. cond b None (table_at db name)) other) ∙ at));
}

pub ordered_after : (cs : List Change) (db : Database) → IsOrdered db → IsOrdered (after cs db)
ordered_after [] db ordered = ordered
ordered_after (c ∷ cs) db ordered = ordered_after cs (changed c db) (ordered_changed c db ordered)

pub ordered_after_all : (ts : List (List Change)) (db : Database) → IsOrdered db → IsOrdered (after_all ts db)
ordered_after_all [] db ordered = ordered
ordered_after_all (t ∷ ts) db ordered = ordered_after_all ts (after t db) (ordered_after t db ordered)

-- ---- the rows at a number

schema_at_number : (state : State) (name : List ℕ) (j : ℕ) → value_at_number (schema_named state.base name) (schema_writes name state.asked) j ≡ schema_named (rows_at state j) name
schema_at_number state name j = ap (λ ws. overlay ws (schema_named state.base name)) (take-map (left_by (schema_change name)) j state.asked) ∙ sym (schema_after_all name (take j state.asked) state.base)

row_at_number : (state : State) (name : List ℕ) (key : ℤ) (j : ℕ) → HasRow (rows_at state j) name key (value_at_number (row_of (table_at state.base name) key) (row_writes name key state.asked) j)
row_at_number state name key j =
    subst (λ ws. HasRow (rows_at state j) name key (overlay ws (row_of (table_at state.base name) key))) (sym (take-map (left_by (row_change name key)) j state.asked))
    (row_after_all name key (take j state.asked) state.base (row_of (table_at state.base name) key) (λ t e. ap (λ o. row_of o key) (sym e)))

module _ (low : ℕ) (number : Numbers) (state : State) (versions : Versions) (ordered : IsOrdered state.base) (stands : VersionsStand low number state.base state.asked versions) where
  seen_schema : (name : List ℕ) (j : ℕ) → low ≤ j → option_map (λ (m : Made). m.schema) (value_seen (by number j) (names_at versions name)) ≡ schema_named (rows_at state j) name
  seen_schema name j here = sym (seen-map (λ (m : Made). m.schema) (by number j) (names_at versions name)) ∙ (stands.tables name).rows j here ∙ schema_at_number state name j

  -- from the low number on the versions shows the rows of the model at each number
  pub world_shows : (j : ℕ) → low ≤ j → database_seen (by number j) versions ≡ rows_at state j
  world_shows j here = shows_database (by number j) versions (rows_at state j) stands.sorted stands.slots_sorted (ordered_after_all (take j state.asked) state.base ordered)
      (λ name. seen_schema name j here)
      (λ name made t key is at. (stands.rows name made key).rows j (here, is) ∙ sym (row_at_number state name key j t at))

  schemas_behind : (name : List ℕ) → Behind number (names_at versions name)
  schemas_behind name = behind_schemas number (names_at versions name) (stands.tables name).behind

  module _ (me n : ℕ) (own : List Change) (here : low ≤ n) (wrote : Wrote number versions me n own) where
    own_schema : (name : List ℕ) → option_map (λ (m : Made). m.schema) (value_seen (by_or_own number n me) (names_at versions name)) ≡ schema_named (after own (rows_at state n)) name
    own_schema name =
        sym (seen-map (λ (m : Made). m.schema) (by_or_own number n me) (names_at versions name))
        ∙ view_shows (IsFrom low) (IsFrom low) number (schema_named state.base name) (schema_writes name state.asked) (schemas (names_at versions name)) me n (left_by (schema_change name) own) wrote.is_open here (wrote.tables name) (stands.tables name)
        ∙ ap (λ v. unwrap_or (left_by (schema_change name) own) v) (schema_at_number state name n) ∙ sym (schema_after name own (rows_at state n))

    own_row : (name : List ℕ) (made : Made) (key : ℤ) (w : Option (Option Made)) → written_by me (names_at versions name) ≡ w → value_seen (by_or_own number n me) (names_at versions name) ≡ Some made
        → value_seen (by_or_own number n me) (rows_of versions made.id key) ≡ unwrap_or (left_by (row_change name key) own) (value_at_number (row_of (table_at state.base name) key) (row_writes name key state.asked) n)
    own_row name made key None is at =
        let plain : value_seen (by number n) (names_at versions name) ≡ Some made = sym (own_seen number n me (names_at versions name) None wrote.is_open (schemas_behind name) is) ∙ at in
        view_shows (IsTableAt low number versions name made) (IsTableSince low number versions name made) number (row_of (table_at state.base name) key) (row_writes name key state.asked) (rows_of versions made.id key) me n
        (left_by (row_change name key) own) wrote.is_open (here, plain) (wrote.rows name made key n (omega arith) is plain) (stands.rows name made key)
    own_row name made key (Some None) is at = absurd (false≢true (ap is_some (sym (own_seen number n me (names_at versions name) (Some None) wrote.is_open (schemas_behind name) is) ∙ at)))
    own_row name made key (Some (Some mine)) is at =
        let same : mine ≡ made = some_is mine made (sym (own_seen number n me (names_at versions name) (Some (Some mine)) wrote.is_open (schemas_behind name) is) ∙ at) in
        let created = wrote.created name made key (is ∙ ap (λ m. Some (Some m)) same) in
        own_alone number n me (rows_of versions made.id key) created.0
        ∙ sym (ap (λ w. unwrap_or w (value_at_number (row_of (table_at state.base name) key) (row_writes name key state.asked) n)) created.1)

    -- an open transaction sees its view, by any test that agrees with its own on the chains
    pub view_shown : (sees : ℕ → Bool) → ((name : List ℕ) → value_seen sees (names_at versions name) ≡ value_seen (by_or_own number n me) (names_at versions name))
        → ((id : ℕ) (key : ℤ) → value_seen sees (rows_of versions id key) ≡ value_seen (by_or_own number n me) (rows_of versions id key)) → database_seen sees versions ≡ after own (rows_at state n)
    view_shown sees names rows = shows_database sees versions (after own (rows_at state n)) stands.sorted stands.slots_sorted (ordered_after own (rows_at state n) (ordered_after_all (take n state.asked) state.base ordered))
        (λ name. ap (option_map (λ (m : Made). m.schema)) (names name) ∙ own_schema name)
        (λ name made t key is at. rows made.id key ∙ own_row name made key (written_by me (names_at versions name)) refl (sym (names name) ∙ is)
        ∙ sym (row_after name key own (rows_at state n) (value_at_number (row_of (table_at state.base name) key) (row_writes name key state.asked) n) (row_at_number state name key n) t at))
