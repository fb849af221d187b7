-- One chain of all is changed.
use Rattle.std.proofs.Common.{◌≡◌, ℕ, ◌≤◌, ◌==◌, ℤ, Bool, true, false, cond, List, [], ◌∷◌, ◌++◌, Option, Some, None, refl, sym, ◌∙◌, ap, subst}
use Rattle.std.specs.Prelude.{◌&&◌, T}
use Rattle.std.specs.Option.{option_or}
use Rattle.std.specs.List.{AllByRecursion}
use Rattle.std.specs.Ordering.{int_eq}
use Rattle.std.specs.Cmp.{int_eq_equiv, signed_Decides}
use Rattle.std.specs.Cmp.Lexicographic.{nat_list_eq_equiv}
use Rattle.std.specs.FinMap.Entries.{is_sorted}
use Rattle.std.proofs.lemmas.Bool.{false≢true, eq-eqb, eqb-true, and_parts, and_from}
use Rattle.ctr_model.specs.types_Row.{Row}
use Rattle.ctr_model.specs.declared.database.Change.{Change}
use Rattle.ctr_model.specs.declared.state.State.{State}
use Rattle.ctr_model.specs.Database.{name_cmp, table_at}
use Rattle.ctr_model.specs.State.{same_name}
use Rattle.ctr_model.specs.Refusals.{row_of}
use Rattle.ctr_versions.specs.Chains.{Numbers, value_seen, by, written_by, ShowsKey}
use Rattle.ctr_versions.specs.Keys.{row_written, schema_change, row_change, left_by, schema_writes, row_writes, schema_named}
use Rattle.ctr_versions.specs.Listing.{chain_at}
use Rattle.ctr_versions.specs.Changes.{write, revert, cut, without_tombstone, IsOld}
use Rattle.ctr_versions.specs.Versions.{Made, Versions, names_at, rows_of, schemas, IsTableAt, IsTableSince, VersionsStand, ByX, Wrote, is_slot, RowsSet, IsTableOf}
use Rattle.ctr_versions.proofs.Keys.{known, same_text}
use Rattle.ctr_versions.proofs.Changes.{write_shows, revert_shows, cut_shows, freed_shows, write_own, write_alone, write_seen}
use Rattle.ctr_versions.proofs.Asked.{own_head}

-- ---- how it is kept

module _ (low : ℕ) (number : Numbers) (state : State) (old new : Versions) (id : ℕ) (key : ℤ) (chain : List (ℕ × Option Row)) (set : RowsSet old new id key chain) where
  pub same_names : (name : List ℕ) → names_at new name ≡ names_at old name
  same_names name = ap (chain_at name_cmp name) set.names

  -- a slot is the one that is set, or as it was
  pub slot : (P : List (ℕ × Option Row) → Type 0) (i : ℕ) (k : ℤ) → (i ≡ id → k ≡ key → P chain) → (is_slot id key i k ≡ false → P (rows_of old i k)) → P (rows_of new i k)
  slot P i k hit miss = known (is_slot id key i k)
      (λ is. let parts = and_parts (i == id) (int_eq k key) is in
      let one = eqb-true i id parts.0 in
      let two = (signed_Decides k key).0 parts.1 in
      subst P (sym ((λ j. rows_of new (one j) (two j)) ∙ set.here)) (hit one two))
      (λ is. subst P (sym (set.others i k is)) (miss is))

  pub set_stands : VersionsStand low number state.base state.asked old
      → ((at since : ℕ → Type 0) (base : Option Row) (writes : List (Option (Option Row))) → ((j : ℕ) → at j → low ≤ j) → ((n : ℕ) → since n → low ≤ n) → ShowsKey at since number base writes (rows_of old id key) → ShowsKey at since number base writes chain)
      → VersionsStand low number state.base state.asked new
  set_stands stands law = record {
    sorted = subst (λ ns. T (is_sorted name_cmp ns)) (sym set.names) stands.sorted;
    slots_sorted = set.sorted;
    tables = λ name. subst (λ c. ShowsKey (λ j. low ≤ j) (λ n. low ≤ n) number (schema_named state.base name) (schema_writes name state.asked) (schemas c)) (sym (same_names name)) (stands.tables name);
    rows = λ name made k.
        subst (λ c. ShowsKey (λ j. (low ≤ j) × (value_seen (by number j) c ≡ Some made)) (λ n. (low ≤ n) × ((j : ℕ) → n ≤ j → value_seen (by number j) c ≡ Some made)) number (row_of (table_at state.base name) k) (row_writes name k state.asked) (rows_of new made.id k)) (sym (same_names name))
        (slot (λ c. ShowsKey (IsTableAt low number old name made) (IsTableSince low number old name made) number (row_of (table_at state.base name) k) (row_writes name k state.asked) c) made.id k
        (λ one two. law (IsTableAt low number old name made) (IsTableSince low number old name made) (row_of (table_at state.base name) k) (row_writes name k state.asked) (λ j at. at.0) (λ n since. since.0)
        (subst (λ i. ShowsKey (IsTableAt low number old name made) (IsTableSince low number old name made) number (row_of (table_at state.base name) k) (row_writes name k state.asked) (rows_of old i key)) one
        (subst (λ q. ShowsKey (IsTableAt low number old name made) (IsTableSince low number old name made) number (row_of (table_at state.base name) k) (row_writes name k state.asked) (rows_of old made.id q)) two (stands.rows name made k))))
        (λ is. stands.rows name made k));
  }

  -- what another open transaction wrote stays, where it didn't make this table or nothing changes
  pub set_wrote : (me n : ℕ) (own : List Change) → Wrote number old me n own → written_by me chain ≡ written_by me (rows_of old id key)
      → ((name : List ℕ) (made : Made) → written_by me (names_at old name) ≡ Some (Some made) → made.id ≡ id → rows_of old id key ≡ chain) → Wrote number new me n own
  set_wrote me n own wrote same_ apart = record {
    is_open = wrote.is_open;
    tables = λ name. subst (λ c. written_by me (schemas c) ≡ left_by (schema_change name) own) (sym (same_names name)) (wrote.tables name);
    rows = λ name made k j le is at. slot (λ c. written_by me c ≡ left_by (row_change name k) own) made.id k
        (λ one two. same_ ∙ (λ i. written_by me (rows_of old (sym one i) (sym two i))) ∙ wrote.rows name made k j le (ap (written_by me) (sym (same_names name)) ∙ is) (ap (value_seen (by number j)) (sym (same_names name)) ∙ at))
        (λ other. wrote.rows name made k j le (ap (written_by me) (sym (same_names name)) ∙ is) (ap (value_seen (by number j)) (sym (same_names name)) ∙ at));
    created = λ name made k is.
        let is_old : written_by me (names_at old name) ≡ Some (Some made) = ap (written_by me) (sym (same_names name)) ∙ is in
        slot (λ c. AllByRecursion (ByX me) c × (left_by (row_change name k) own ≡ Some (value_seen (λ y. y == me) c))) made.id k (λ one two. subst (λ c. AllByRecursion (ByX me) c × (left_by (row_change name k) own ≡ Some (value_seen (λ y. y == me) c))) ((λ i. rows_of old (one i) (two i)) ∙ apart name made is_old one) (wrote.created name made k is_old)) (λ other. wrote.created name made k is_old);
    fresh = λ name made j is at. wrote.fresh name made j (ap (written_by me) (sym (same_names name)) ∙ is) (ap (value_seen (by number j)) (sym (same_names name)) ∙ at);
  }

-- ---- the changes of the engine

module _ (low : ℕ) (number : Numbers) (state : State) (old new : Versions) (id : ℕ) (key : ℤ) (stands : VersionsStand low number state.base state.asked old) where
  pub write_stands : (x : ℕ) (v : Option Row) → number x ≡ None → RowsSet old new id key (write number x v (rows_of old id key)) → VersionsStand low number state.base state.asked new
  write_stands x v none set = set_stands low number state old new id key (write number x v (rows_of old id key)) set stands (λ at since base writes at_low since_low shows. write_shows at since number base writes (rows_of old id key) x v none shows)

  pub revert_stands : RowsSet old new id key (revert number (rows_of old id key)) → VersionsStand low number state.base state.asked new
  revert_stands set = set_stands low number state old new id key (revert number (rows_of old id key)) set stands (λ at since base writes at_low since_low shows. revert_shows at since number base writes (rows_of old id key) shows)

  pub cut_stands : (passes : ℕ → Bool) → IsOld number low passes → RowsSet old new id key (cut passes (rows_of old id key)) → VersionsStand low number state.base state.asked new
  cut_stands passes is_old set = set_stands low number state old new id key (cut passes (rows_of old id key)) set stands
      (λ at since base writes at_low since_low shows. cut_shows number low passes is_old at since base writes at_low since_low (rows_of old id key) shows)

  pub freed_stands : (passes : ℕ → Bool) → IsOld number low passes → RowsSet old new id key (without_tombstone passes (rows_of old id key)) → VersionsStand low number state.base state.asked new
  freed_stands passes is_old set = set_stands low number state old new id key (without_tombstone passes (rows_of old id key)) set stands
      (λ at since base writes at_low since_low shows. freed_shows number low passes is_old at since base writes at_low since_low (rows_of old id key) shows)

-- ---- the writer

left-push : {V : Type 0} (f : Change → Option (Option V)) (cs : List Change) (c : Change) → left_by f (cs ++ c ∷ []) ≡ option_or (f c) (left_by f cs)
left-push f [] c = elim (f c) as (λ o. option_or None o ≡ option_or o None) [ Some v ↦ refl | None ↦ refl ]
left-push f (d ∷ cs) c = ap (λ o. option_or o (f d)) (left-push f cs c) ∙ elim (f c) as (λ o. option_or (option_or o (left_by f cs)) (f d) ≡ option_or o (option_or (left_by f cs) (f d))) [ Some v ↦ refl | None ↦ refl ]

pub left_same : {V : Type 0} (f : Change → Option (Option V)) (cs : List Change) (c : Change) → f c ≡ None → left_by f (cs ++ c ∷ []) ≡ left_by f cs
left_same f cs c is = left-push f cs c ∙ ap (λ o. option_or o (left_by f cs)) is

pub left_new : {V : Type 0} (f : Change → Option (Option V)) (cs : List Change) (c : Change) (v : Option V) → f c ≡ Some v → left_by f (cs ++ c ∷ []) ≡ Some v
left_new f cs c v is = left-push f cs c ∙ ap (λ o. option_or o (left_by f cs)) is

pub schema_apart : (table name : List ℕ) (key : ℤ) (v : Option Row) → schema_change name (row_written table key v) ≡ None
schema_apart table name key (Some row) = refl
schema_apart table name key None = refl

row_test : (table name : List ℕ) (key k : ℤ) (v : Option Row) → row_change name k (row_written table key v) ≡ cond (same_name table name && int_eq key k) (Some v) None
row_test table name key k (Some row) = refl
row_test table name key k None = refl

pub same_itself : (name : List ℕ) → same_name name name ≡ true
same_itself name = nat_list_eq_equiv.refl name

pub int_itself : (key : ℤ) → int_eq key key ≡ true
int_itself key = int_eq_equiv.refl key

pub row_hit : (table name : List ℕ) (key k : ℤ) (v : Option Row) → name ≡ table → k ≡ key → row_change name k (row_written table key v) ≡ Some v
row_hit table name key k v one two =
    row_test table name key k v ∙ ap (λ b. cond b (Some v) None) ((λ i. same_name table (one i) && int_eq key (two i)) ∙ and_from (same_name table table) (int_eq key key) (same_itself table) (int_itself key))

pub row_miss : (table name : List ℕ) (key k : ℤ) (v : Option Row) → (name ≡ table → k ≡ key → ⊥) → row_change name k (row_written table key v) ≡ None
row_miss table name key k v apart =
    row_test table name key k v ∙ known (same_name table name && int_eq key k)
    (λ is. let parts = and_parts (same_name table name) (int_eq key k) is in absurd (apart (sym (same_text table name parts.0)) (sym ((signed_Decides key k).0 parts.1))))
    (λ is. ap (λ b. cond b (Some v) None) is)

pub not_slot : (id i : ℕ) (key k : ℤ) → is_slot id key i k ≡ false → i ≡ id → k ≡ key → ⊥
not_slot id i key k is one two = false≢true (sym is ∙ and_from (i == id) (int_eq k key) (eq-eqb i id one) (ap (λ k. int_eq k key) two ∙ int_itself key))

module _ (low : ℕ) (number : Numbers) (state : State) (old new : Versions) (table : List ℕ) (id : ℕ) (key : ℤ) (x n : ℕ) (v : Option Row) (own : List Change) (set : RowsSet old new id key (write number x v (rows_of old id key))) (on : IsTableOf number old x n table id) (wrote : Wrote number old x n own) where
  abbrev c : Change
  c = row_written table key v

  abbrev new_chain : List (ℕ × Option Row)
  new_chain = write number x v (rows_of old id key)

  back : (name : List ℕ) → names_at new name ≡ names_at old name
  back name = same_names low number state old new id key new_chain set name

  -- what the writer wrote has the change behind it
  pub write_wrote : Wrote number new x n (own ++ c ∷ [])
  write_wrote = record {
    is_open = wrote.is_open;
    tables = λ name. subst (λ d. written_by x (schemas d) ≡ left_by (schema_change name) (own ++ c ∷ [])) (sym (back name)) (wrote.tables name ∙ sym (left_same (schema_change name) own c (schema_apart table name key v)));
    rows = λ name made k j le is at.
        let is_old = ap (written_by x) (sym (back name)) ∙ is in
        let at_old = ap (value_seen (by number j)) (sym (back name)) ∙ at in
        slot low number state old new id key new_chain set (λ d. written_by x d ≡ left_by (row_change name k) (own ++ c ∷ [])) made.id k
        (λ one two. write_own number x v (rows_of old id key) ∙ sym (left_new (row_change name k) own c v (row_hit table name key k v (on.unique name made (by number j) at_old one) two)))
        (λ other. wrote.rows name made k j le is_old at_old
        ∙ sym (left_same (row_change name k) own c (row_miss table name key k v (λ same_ two. not_slot id made.id key k other (on.shared made j le (ap (λ m. written_by x (names_at old m)) (sym same_) ∙ is_old) (ap (λ m. value_seen (by number j) (names_at old m)) (sym same_) ∙ at_old)) two))));
    created = λ name made k is.
        let is_old : written_by x (names_at old name) ≡ Some (Some made) = ap (written_by x) (sym (back name)) ∙ is in
        let seen_own = own_head (λ y. y == x) x (names_at old name) (Some made) (eq-eqb x x refl) is_old in
        slot low number state old new id key new_chain set (λ d. AllByRecursion (ByX x) d × (left_by (row_change name k) (own ++ c ∷ []) ≡ Some (value_seen (λ y. y == x) d))) made.id k
        (λ one two. (
          write_alone number x v (rows_of old id key) (subst (λ i. AllByRecursion (ByX x) (rows_of old i key)) one ((wrote.created name made key is_old).0)),
          left_new (row_change name k) own c v (row_hit table name key k v (on.unique name made (λ y. y == x) seen_own one) two) ∙ ap Some (sym (write_seen number x v (rows_of old id key))),
        ))
        (λ other. (
          (wrote.created name made k is_old).0,
          left_same (row_change name k) own c (row_miss table name key k v (λ same_ two. not_slot id made.id key k other (on.own made (ap (λ m. written_by x (names_at old m)) (sym same_) ∙ is_old)) two)) ∙ (wrote.created name made k is_old).1,
        ));
    fresh = λ name made j is at. wrote.fresh name made j (ap (written_by x) (sym (back name)) ∙ is) (ap (value_seen (by number j)) (sym (back name)) ∙ at);
  }
