-- The refusals of the model by the newest committed versions.
use Rattle.std.proofs.Common.{◌≡◌, zero, suc, ℕ, ◌+◌, ◌≤◌, ℤ, Bool, true, false, cond, List, [], ◌∷◌, map, take, drop, length, Option, Some, None, refl, sym, ◌∙◌, ap, subst, arith}
use Rattle.std.specs.Prelude.{◌&&◌, ◌||◌, is_some, nat_lt}
use Rattle.std.specs.Option.{option_or}
use Rattle.std.specs.List.{AllByRecursion, list_any, slice_get}
use Rattle.std.specs.Ordering.{int_eq}
use Rattle.std.proofs.lemmas.Bool.{true≢false, le-leb, ltb-false, or_parts}
use Rattle.std.proofs.lemmas.List.{take-map, drop-map, length-map}
use Rattle.ctr_model.specs.types_Row.{Row}
use Rattle.ctr_model.specs.declared.database.Change.{Change}
use Rattle.ctr_model.specs.declared.database.Change.TheVariants as change
use Rattle.ctr_model.specs.declared.state.State.{State}
use Rattle.ctr_model.specs.declared.state.Transaction.{Transaction}
use Rattle.ctr_model.specs.State.{same_name}
use Rattle.ctr_model.specs.Refusals.{first_of, is_schema_change, is_create_of, is_write_of, is_touching, answered_since, last_with, schema_changed_by, row_changed_by}
use Rattle.ctr_versions.specs.Chains.{IsUnwritten, Numbers, value_seen, is_by, by, newest, above, newest_since, last_write, changed_since}
use Rattle.ctr_versions.specs.Keys.{schema_change, row_change, left_by, schema_writes, row_writes}
use Rattle.ctr_versions.specs.Versions.{Made, Versions, names_at, rows_of, schemas, IsTableSince, VersionsStand}
use Rattle.ctr_versions.proofs.Chains.{settled}

-- ---- one transaction

or_turned : (a b : Bool) → (a || b) ≡ (b || a)
or_turned true true = refl
or_turned true false = refl
or_turned false true = refl
or_turned false false = refl

either_some : {X : Type 0} (a b : Option X) → is_some (option_or a b) ≡ (is_some a || is_some b)
either_some (Some x) b = refl
either_some None b = refl

tested : (b : Bool) {X : Type 0} (v : X) → b ≡ is_some (cond b (Some v) None)
tested true v = refl
tested false v = refl

schema_test : (name : List ℕ) (c : Change) → is_schema_change name c ≡ is_some (schema_change name c)
schema_test name (change.Put table k row) = refl
schema_test name (change.Remove table k) = refl
schema_test name (change.Create table schema) = tested (same_name table name) (Some schema)
schema_test name (change.Drop table) = tested (same_name table name) None

row_test : (name : List ℕ) (key : ℤ) (c : Change) → is_schema_change name c ≡ false → is_write_of name key c ≡ is_some (row_change name key c)
row_test name key (change.Put table k row) none = tested (same_name table name && int_eq k key) (Some row)
row_test name key (change.Remove table k) none = tested (same_name table name && int_eq k key) None
row_test name key (change.Create table schema) none = sym (ap (λ b. is_some {T = Option Row} (cond b (Some None) None)) none)
row_test name key (change.Drop table) none = sym (ap (λ b. is_some {T = Option Row} (cond b (Some None) None)) none)

pub schema_any : (name : List ℕ) (t : List Change) → list_any (is_touching name None) t ≡ is_some (left_by (schema_change name) t)
schema_any name [] = refl
schema_any name (c ∷ cs) = (λ i. schema_test name c i || schema_any name cs i) ∙ or_turned (is_some (schema_change name c)) (is_some (left_by (schema_change name) cs)) ∙ sym (either_some (left_by (schema_change name) cs) (schema_change name c))

row_any : (name : List ℕ) (key : ℤ) (t : List Change) → list_any (is_touching name None) t ≡ false → list_any (is_touching name (Some key)) t ≡ is_some (left_by (row_change name key) t)
row_any name key [] none = refl
row_any name key (c ∷ cs) none =
    let parts = or_parts (is_schema_change name c) (list_any (is_touching name None) cs) none in
    (λ i. row_test name key c parts.0 i || row_any name key cs parts.1 i) ∙ or_turned (is_some (row_change name key c)) (is_some (left_by (row_change name key) cs))
    ∙ sym (either_some (left_by (row_change name key) cs) (row_change name key c))

-- ---- lists of transactions

first_is : {X : Type 0} (a b : Option X) → first_of (a ∷ b ∷ []) ≡ option_or a b
first_is (Some x) b = refl
first_is None (Some y) = refl
first_is None None = refl

schema_last : (name : List ℕ) (n : ℕ) (ts : List (List Change)) → last_with (is_touching name None) n ts ≡ last_write n (schema_writes name ts)
schema_last name n [] = refl
schema_last name n (t ∷ ts) = first_is (last_with (is_touching name None) (n + 1) ts) (cond (list_any (is_touching name None) t) (Some n) None) ∙ λ i. option_or (schema_last name (n + 1) ts i) (cond (schema_any name t i) (Some n) None)

pub none_of_both : {X : Type 0} (a : Option X) (b : Bool) (x : X) → option_or a (cond b (Some x) None) ≡ None → (a ≡ None) × (b ≡ false)
none_of_both (Some y) b x e = absurd (true≢false (ap is_some e))
none_of_both None true x e = absurd (true≢false (ap is_some e))
none_of_both None false x e = (refl, refl)

row_last : (name : List ℕ) (key : ℤ) (n : ℕ) (ts : List (List Change)) → last_with (is_touching name None) n ts ≡ None → last_with (is_touching name (Some key)) n ts ≡ last_write n (row_writes name key ts)
row_last name key n [] none = refl
row_last name key n (t ∷ ts) none =
    let parts = none_of_both (last_with (is_touching name None) (n + 1) ts) (list_any (is_touching name None) t) n (sym (first_is (last_with (is_touching name None) (n + 1) ts) (cond (list_any (is_touching name None) t) (Some n) None)) ∙ none) in
    first_is (last_with (is_touching name (Some key)) (n + 1) ts) (cond (list_any (is_touching name (Some key)) t) (Some n) None) ∙ λ i. option_or (row_last name key (n + 1) ts parts.0 i) (cond (row_any name key t parts.1 i) (Some n) None)

since_map : {V : Type 0} (f : List Change → Option (Option V)) (n a : ℕ) (ts : List (List Change)) → map f (drop n (take a ts)) ≡ drop n (take a (map f ts))
since_map f n a ts = sym (drop-map f n (take a ts)) ∙ ap (λ us. drop n us) (sym (take-map f a ts))

-- the last answered change of the schema since the snapshot
pub schema_changed : (state : State) (me : Transaction) (name : List ℕ) → schema_changed_by state me name ≡ changed_since me.snapshot (take state.answered (schema_writes name state.asked))
schema_changed state me name = schema_last name (me.snapshot + 1) (answered_since state me) ∙ ap (λ ws. last_write (me.snapshot + 1) ws) (since_map (left_by (schema_change name)) me.snapshot state.answered state.asked)

-- the last answered write of the key since the snapshot, where nobody changed the schema
pub row_changed : (state : State) (me : Transaction) (name : List ℕ) (key : ℤ) → list_any (is_create_of name) me.own ≡ false → schema_changed_by state me name ≡ None
    → row_changed_by state me name key ≡ changed_since me.snapshot (take state.answered (row_writes name key state.asked))
row_changed state me name key uncreated none =
    ap (λ b. cond b None (last_with (is_touching name (Some key)) (me.snapshot + 1) (answered_since state me))) uncreated
    ∙ row_last name key (me.snapshot + 1) (answered_since state me) none
    ∙ ap (λ ws. last_write (me.snapshot + 1) ws) (since_map (left_by (row_change name key)) me.snapshot state.answered state.asked)

-- ---- in chains

-- with no newer committed version, each later number sees what the snapshot's sees
pub steady : {V : Type 0} (number : Numbers) (n j : ℕ) (chain : List (ℕ × Option V)) → newest_since number n chain ≡ None → n ≤ j → value_seen (by number j) chain ≡ value_seen (by number n) chain
steady number n j [] none le = refl
steady number n j (v ∷ vs) none le =
    elim (number v.0) as (λ o. above n (option_or o (newest number vs)) ≡ None → cond (is_by j o) v.1 (value_seen (by number j) vs) ≡ cond (is_by n o) v.1 (value_seen (by number n) vs)) [
      | None ↦ λ quiet. steady number n j vs quiet le
      | Some k ↦ λ quiet. let low = at_most k quiet in
          ap (λ b. cond b v.1 (value_seen (by number j) vs)) (le-leb k j (omega (arith, low, le))) ∙ sym (ap (λ b. cond b v.1 (value_seen (by number n) vs)) (le-leb k n low))
    ] none
  where
    at_most : (k : ℕ) → above n (Some k) ≡ None → k ≤ n
    at_most k quiet = ltb-false n k (unabove (nat_lt n k) quiet)
      where
        unabove : (b : Bool) → cond b (Some k) None ≡ None → b ≡ false
        unabove true e = absurd (true≢false (ap is_some e))
        unabove false e = refl

module _ (low : ℕ) (number : Numbers) (state : State) (versions : Versions) (stands : VersionsStand low number state.base state.asked versions) (me : Transaction) (here : low ≤ me.snapshot) (past : me.snapshot ≤ state.answered) (within : state.answered ≤ length state.asked) where
  -- SchemaChanged: where nobody who asked and isn't answered has made or dropped the table
  pub schema_conflict : (name : List ℕ) → AllByRecursion IsUnwritten (drop state.answered (schema_writes name state.asked)) → newest_since number me.snapshot (schemas (names_at versions name)) ≡ schema_changed_by state me name
  schema_conflict name quiet =
      (stands.tables name).changes me.snapshot here
      ∙ sym (schema_changed state me name ∙ settled (schema_writes name state.asked) me.snapshot state.answered past (subst (λ n. state.answered ≤ n) (sym (length-map state.asked (left_by (schema_change name)))) within) quiet)

  -- RowChanged: where the schema is unchanged, and nobody who asked and isn't answered has written the key
  pub row_conflict : (name : List ℕ) (made : Made) (key : ℤ) → list_any (is_create_of name) me.own ≡ false → schema_changed_by state me name ≡ None → IsTableSince low number versions name made me.snapshot
      → AllByRecursion IsUnwritten (drop state.answered (row_writes name key state.asked)) → newest_since number me.snapshot (rows_of versions made.id key) ≡ row_changed_by state me name key
  row_conflict name made key uncreated unchanged since quiet =
      (stands.rows name made key).changes me.snapshot since
      ∙ sym (row_changed state me name key uncreated unchanged
      ∙ settled (row_writes name key state.asked) me.snapshot state.answered past (subst (λ n. state.answered ≤ n) (sym (length-map state.asked (left_by (row_change name key)))) within) quiet)

-- nobody who asked and isn't answered has written it, where each of their transactions leaves it alone
pub quiet_from : {V : Type 0} (f : List Change → Option (Option V)) (ts : List (List Change)) (a : ℕ) → ((j : ℕ) (own : List Change) → a ≤ j → slice_get ts j ≡ Some own → f own ≡ None) → AllByRecursion IsUnwritten (drop a (map f ts))
quiet_from f [] zero each = tt
quiet_from f [] (suc a) each = tt
quiet_from f (t ∷ ts) zero each = (each 0 t (omega arith) refl, quiet_from f ts zero (λ j own le e. each (suc j) own (omega arith) e))
quiet_from f (t ∷ ts) (suc a) each = quiet_from f ts a (λ j own le e. each (suc j) own (omega (arith, le)) e)
