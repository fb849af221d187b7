-- What changes do to one table and to one key, against the database that they leave.
use Rattle.std.proofs.Common.{◌≡◌, ℕ, ℤ, Bool, true, false, cond, not, List, [], ◌∷◌, Option, Some, None, refl, sym, ◌∙◌, ap, subst}
use Rattle.std.specs.Prelude.{unwrap_or, ◌&&◌, is_some}
use Rattle.std.specs.Option.{option_or, option_map}
use Rattle.std.specs.declared.cmp.Ordering.TheVariants.{Equal}
use Rattle.std.specs.Ordering.{int_cmp, int_eq, eq_by_cmp}
use Rattle.std.specs.Cmp.{int_cmp_total, int_eq_equiv}
use Rattle.std.specs.Cmp.Lexicographic.{nat_list_cmp_total, nat_list_eq_equiv, texts_ties, bytes_decides}
use Rattle.std.proofs.lemmas.Bool.{false≢true}
use Rattle.std.specs.FinMap.Entries.{put, find-put, find-where_key}
use Rattle.std.proofs.lemmas.Map.Lookups.{exact_bytes, exact_signed}
use Rattle.ctr_model.specs.types_Row.{Row}
use Rattle.ctr_snap.specs.types_Schema.{Schema}
use Rattle.ctr_model.specs.declared.database.Change.{Change}
use Rattle.ctr_model.specs.declared.database.Change.TheVariants as change
use Rattle.ctr_model.specs.declared.database.Table.{Table}
use Rattle.ctr_model.specs.Maps.{without}
use Rattle.ctr_model.specs.Database.{Database, name_cmp, table_at, row_at, with_row, without_row, at_found, at_table, changed, after, after_all}
use Rattle.ctr_model.specs.State.{same_name}
use Rattle.ctr_versions.specs.Chains.{overlay}
use Rattle.ctr_versions.specs.Keys.{schema_change, row_change, left_by, schema_writes, row_writes, schema_named, HasRow}

-- ---- what a transaction leaves

left_step : {V : Type 0} (f : Change → Option (Option V)) (c : Change) (cs : List Change) (v : Option V) → unwrap_or (left_by f (c ∷ cs)) v ≡ unwrap_or (left_by f cs) (unwrap_or (f c) v)
left_step f c cs v = elim (left_by f cs) as (λ o. unwrap_or (option_or o (f c)) v ≡ unwrap_or o (unwrap_or (f c) v)) [ Some w ↦ refl | None ↦ refl ]

-- ---- tables by name

tied : (a b : List ℕ) → eq_by_cmp name_cmp a b ≡ same_name b a
tied a b = sym (texts_ties a b) ∙ nat_list_eq_equiv.symm a b

pub found : (name table : List ℕ) (t : Table) (db : Database) → table_at (put name_cmp table t db) name ≡ cond (same_name table name) (Some t) (table_at db name)
found name table t db = find-put name_cmp nat_list_cmp_total name table t db ∙ ap (λ b. cond b (Some t) (table_at db name)) (tied name table)

same_test : (table q x : List ℕ) → name_cmp q x ≡ Equal → not (eq_by_cmp name_cmp table x) ≡ not (eq_by_cmp name_cmp table q)
same_test table q x tie = ap (λ k. not (eq_by_cmp name_cmp table k)) (sym (exact_bytes q x tie))

pub gone : (name table : List ℕ) (db : Database) → table_at (without name_cmp table db) name ≡ cond (same_name table name) None (table_at db name)
gone name table db =
    find-where_key name_cmp (λ k. not (eq_by_cmp name_cmp table k)) name (same_test table name) db
    ∙ ap (λ b. cond (not b) (table_at db name) None) (sym (texts_ties table name))
    ∙ elim (same_name table name) as (λ b. cond (not b) (table_at db name) None ≡ cond b None (table_at db name)) [ true ↦ refl | false ↦ refl ]

pub same_text : (a b : List ℕ) → same_name a b ≡ true → a ≡ b
same_text a b is = (bytes_decides a b).0 is

pub known : {A : Type 0} (b : Bool) → (b ≡ true → A) → (b ≡ false → A) → A
known true at_true at_false = at_true refl
known false at_true at_false = at_false refl

pub some_is : {A : Type 0} (x y : A) → Some x ≡ Some y → x ≡ y
some_is x y e = ap (λ o. unwrap_or o x) e

-- ---- the schema of a table

schema_of : Option Table → Option Schema
schema_of o = option_map (λ (t : Table). t.schema) o

schema_in_table : (name table : List ℕ) (f : Table → Table) (db : Database) → ((t : Table) → (f t).schema ≡ t.schema) → schema_named (at_table table f db) name ≡ schema_named db name
schema_in_table name table f db keeps =
    elim (table_at db table) as (λ o. table_at db table ≡ o → schema_named (at_found table f o db) name ≡ schema_named db name) [
      | None ↦ λ is. refl
      | Some t ↦ λ is. ap (λ (o : Option Table). option_map (λ (t : Table). t.schema) o) (found name table (f t) db)
          ∙ known (same_name table name)
          (λ yes_. ap (λ b. option_map (λ (t : Table). t.schema) (cond b (Some (f t)) (table_at db name))) yes_ ∙ ap Some (keeps t) ∙ sym (ap (λ (o : Option Table). option_map (λ (t : Table). t.schema) o) (ap (table_at db) (sym (same_text table name yes_)) ∙ is)))
          (λ no_. ap (λ b. option_map (λ (t : Table). t.schema) (cond b (Some (f t)) (table_at db name))) no_)
    ] refl

pub schema_step : (name : List ℕ) (c : Change) (db : Database) → schema_named (changed c db) name ≡ unwrap_or (schema_change name c) (schema_named db name)
schema_step name (change.Put table k row) db = schema_in_table name table (with_row k row) db (λ t. refl)
schema_step name (change.Remove table k) db = schema_in_table name table (without_row k) db (λ t. refl)
schema_step name (change.Create table schema) db =
    ap (λ (o : Option Table). option_map (λ (t : Table). t.schema) o) (found name table (record { schema = schema; rows = [] }) db)
    ∙ elim (same_name table name) as (λ b. option_map (λ (t : Table). t.schema) (cond b (Some (record { schema = schema; rows = [] })) (table_at db name)) ≡ unwrap_or (cond b (Some (Some schema)) None) (schema_named db name)) [ true ↦ refl | false ↦ refl ]
schema_step name (change.Drop table) db =
    ap (λ (o : Option Table). option_map (λ (t : Table). t.schema) o) (gone name table db)
    ∙ elim (same_name table name) as (λ b. option_map (λ (t : Table). t.schema) (cond b None (table_at db name)) ≡ unwrap_or (cond b (Some None) None) (schema_named db name)) [ true ↦ refl | false ↦ refl ]

-- behind one transaction, and behind many
pub schema_after : (name : List ℕ) (cs : List Change) (db : Database) → schema_named (after cs db) name ≡ unwrap_or (left_by (schema_change name) cs) (schema_named db name)
schema_after name [] db = refl
schema_after name (c ∷ cs) db =
    schema_after name cs (changed c db) ∙ ap (λ v. unwrap_or (left_by (schema_change name) cs) v) (schema_step name c db)
    ∙ sym (left_step (schema_change name) c cs (schema_named db name))

pub schema_after_all : (name : List ℕ) (ts : List (List Change)) (db : Database) → schema_named (after_all ts db) name ≡ overlay (schema_writes name ts) (schema_named db name)
schema_after_all name [] db = refl
schema_after_all name (t ∷ ts) db = schema_after_all name ts (after t db) ∙ ap (λ v. overlay (schema_writes name ts) v) (schema_after name t db)

-- ---- the row of a key

row_in_table : (name table : List ℕ) (key : ℤ) (f : Table → Table) (db : Database) (v w : Option Row) → HasRow db name key v
    → (same_name table name ≡ true → (t : Table) → row_at t key ≡ v → row_at (f t) key ≡ w) → (same_name table name ≡ false → v ≡ w) → HasRow (at_table table f db) name key w
row_in_table name table key f db v w has here there =
    elim (table_at db table) as (λ o. table_at db table ≡ o → HasRow (at_found table f o db) name key w) [
      | None ↦ λ is. λ t e. known (same_name table name)
          (λ yes_. absurd (false≢true (ap is_some (sym is ∙ ap (table_at db) (same_text table name yes_) ∙ e))))
          (λ no_. has t e ∙ there no_)
      | Some old ↦ λ is. λ t e. known (same_name table name)
          (λ yes_. ap (λ t. row_at t key) (some_is t (f old) (sym e ∙ found name table (f old) db ∙ ap (λ b. cond b (Some (f old)) (table_at db name)) yes_))
          ∙ here yes_ old (has old (ap (table_at db) (sym (same_text table name yes_)) ∙ is)))
          (λ no_. has t (sym (found name table (f old) db ∙ ap (λ b. cond b (Some (f old)) (table_at db name)) no_) ∙ e) ∙ there no_)
    ] refl

at_test : (b : Bool) (v w : Option Row) → b ≡ true → w ≡ unwrap_or (cond b (Some w) None) v
at_test true v w is = refl
at_test false v w is = absurd (false≢true is)

-- whether or not it is the key, in a table that it is
one_row : (same_table same_key : Bool) (v w row : Option Row) → same_table ≡ true → row ≡ cond same_key w v → row ≡ unwrap_or (cond (same_table && same_key) (Some w) None) v
one_row true true v w row is e = e
one_row true false v w row is e = e
one_row false k v w row is e = absurd (false≢true is)

other_row : (same_table same_key : Bool) (v w : Option Row) → same_table ≡ false → v ≡ unwrap_or (cond (same_table && same_key) (Some w) None) v
other_row true k v w is = absurd (false≢true (sym is))
other_row false k v w is = refl

other_table : (same_table : Bool) (v w : Option Row) → same_table ≡ false → v ≡ unwrap_or (cond same_table (Some w) None) v
other_table true v w is = absurd (false≢true (sym is))
other_table false v w is = refl

put_row : (key k : ℤ) (row : Row) (t : Table) (v : Option Row) → row_at t key ≡ v → row_at (with_row k row t) key ≡ cond (int_eq k key) (Some row) v
put_row key k row t v is = find-put int_cmp int_cmp_total key k row t.rows ∙ (λ i. cond (int_eq_equiv.symm key k i) (Some row) (is i))

remove_row : (key k : ℤ) (t : Table) (v : Option Row) → row_at t key ≡ v → row_at (without_row k t) key ≡ cond (int_eq k key) None v
remove_row key k t v is =
    find-where_key int_cmp (λ x. not (eq_by_cmp int_cmp k x)) key (λ x tie. ap (λ x. not (eq_by_cmp int_cmp k x)) (sym (exact_signed key x tie))) t.rows
    ∙ ap (λ o. cond (not (int_eq k key)) o None) is
    ∙ elim (int_eq k key) as (λ b. cond (not b) v None ≡ cond b None v) [ true ↦ refl | false ↦ refl ]

pub row_step : (name : List ℕ) (key : ℤ) (c : Change) (db : Database) (v : Option Row) → HasRow db name key v → HasRow (changed c db) name key (unwrap_or (row_change name key c) v)
row_step name key (change.Put table k row) db v has = row_in_table name table key (with_row k row) db v _ has
    (λ yes_ t is. one_row (same_name table name) (int_eq k key) v (Some row) _ yes_ (put_row key k row t v is)) (λ no_. other_row (same_name table name) (int_eq k key) v (Some row) no_)
row_step name key (change.Remove table k) db v has = row_in_table name table key (without_row k) db v _ has
    (λ yes_ t is. one_row (same_name table name) (int_eq k key) v None _ yes_ (remove_row key k t v is)) (λ no_. other_row (same_name table name) (int_eq k key) v None no_)
row_step name key (change.Create table schema) db v has = λ t e. known (same_name table name)
    (λ yes_. ap (λ t. row_at t key) (some_is t (record { schema = schema; rows = [] }) (sym e ∙ found name table (record { schema = schema; rows = [] }) db ∙ ap (λ b. cond b (Some (record { schema = schema; rows = [] })) (table_at db name)) yes_))
    ∙ at_test (same_name table name) v None yes_)
    (λ no_. has t (sym (found name table (record { schema = schema; rows = [] }) db ∙ ap (λ b. cond b (Some (record { schema = schema; rows = [] })) (table_at db name)) no_) ∙ e) ∙ other_table (same_name table name) v None no_)
row_step name key (change.Drop table) db v has = λ t e. known (same_name table name)
    (λ yes_. absurd (false≢true (ap is_some (sym (gone name table db ∙ ap (λ b. cond b None (table_at db name)) yes_) ∙ e))))
    (λ no_. has t (sym (gone name table db ∙ ap (λ b. cond b None (table_at db name)) no_) ∙ e) ∙ other_table (same_name table name) v None no_)

pub row_after : (name : List ℕ) (key : ℤ) (cs : List Change) (db : Database) (v : Option Row) → HasRow db name key v → HasRow (after cs db) name key (unwrap_or (left_by (row_change name key) cs) v)
row_after name key [] db v has = has
row_after name key (c ∷ cs) db v has =
    subst (HasRow (after cs (changed c db)) name key) (sym (left_step (row_change name key) c cs v)) (row_after name key cs (changed c db) (unwrap_or (row_change name key c) v) (row_step name key c db v has))

-- the row of a key, wherever its table is there
pub row_after_all : (name : List ℕ) (key : ℤ) (ts : List (List Change)) (db : Database) (v : Option Row) → HasRow db name key v → HasRow (after_all ts db) name key (overlay (row_writes name key ts) v)
row_after_all name key [] db v has = has
row_after_all name key (t ∷ ts) db v has = row_after_all name key ts (after t db) (unwrap_or (left_by (row_change name key) t) v) (row_after name key t db v has)
