-- Versions as they stand at open, with nothing asked yet: the base is what they show.
use Rattle.std.proofs.Common.{◌≡◌, ◌⊎◌, ⊎_elim, inl, inr, ℕ, zero, suc, ℤ, true, false, cond, List, [], ◌∷◌, length, Option, Some, None, refl, sym, ◌∙◌, ap, arith}
use Rattle.std.specs.Prelude.{is_some, unwrap_or, T}
use Rattle.std.specs.Option.{option_or}
use Rattle.std.specs.Ordering.{nat_cmp, int_cmp}
use Rattle.std.specs.FinMap.Entries.{find, is_sorted}
use Rattle.std.proofs.lemmas.Bool.{false≢true, le-leb}
use Rattle.ctr_model.specs.Database.{Database, name_cmp, table_at}
use Rattle.ctr_model.specs.Refusals.{row_of}
use Rattle.ctr_versions.specs.Chains.{Numbers, value_seen, is_by, by, newest, above, newest_since, Behind, value_at_number, AllTold, ShowsKey}
use Rattle.ctr_versions.specs.Keys.{schema_named}
use Rattle.ctr_versions.specs.Xids.{Xids, place_from, has_committed, number_of, AreSound}
use Rattle.ctr_versions.specs.Engine.{AreBy, IsDrawn, ShowsState}
use Rattle.ctr_model.specs.State.{at_rest}
use Rattle.ctr_versions.specs.Versions.{Made, Versions, names_at, slots_of, rows_of, schemas, database_seen, IsTableAt, IsTableSince, IsFrom, VersionsStand}
use Rattle.ctr_versions.proofs.Chains.{not_above}
use Rattle.ctr_versions.proofs.Versions.{seen-map}
use Rattle.ctr_versions.proofs.Reading.{schema_read, key_read}
use Rattle.ctr_versions.proofs.Asked.{seen_tests}
use Rattle.ctr_versions.proofs.Engine.{none_since, never}

-- each number that is committed was so before
abbrev pub IsOpened : Numbers → Type 0
IsOpened number = (x : ℕ) → (number x ≡ None) ⊎ (number x ≡ Some 0)

pub opened_numbers : (xids : Xids) → xids.commits ≡ [] → IsOpened (number_of xids)
opened_numbers xids none x = elim (has_committed xids x) as (λ b. (cond b (Some (place_from 1 x xids.commits)) None ≡ None) ⊎ (cond b (Some (place_from 1 x xids.commits)) None ≡ Some 0)) [
  | true ↦ inr (ap (λ cs. Some (place_from 1 x cs)) none)
  | false ↦ inl refl
]

module _ (number : Numbers) (opened : IsOpened number) where
  same_by : (j x : ℕ) → by number j x ≡ by number 0 x
  same_by j x = ⊎_elim (λ none. ap (is_by j) none ∙ sym (ap (is_by 0) none)) (λ old. ap (is_by j) old ∙ le-leb 0 j (omega arith) ∙ sym (ap (is_by 0) old ∙ le-leb 0 0 (omega arith))) (opened x)

  none_newest : {V : Type 0} (chain : List (ℕ × Option V)) → (newest number chain ≡ None) ⊎ (newest number chain ≡ Some 0)
  none_newest [] = inl refl
  none_newest (v ∷ vs) = ⊎_elim
      (λ none. ⊎_elim (λ e. inl (ap (λ o. option_or o (newest number vs)) none ∙ e)) (λ e. inr (ap (λ o. option_or o (newest number vs)) none ∙ e)) (none_newest vs))
      (λ old. inr (ap (λ o. option_or o (newest number vs)) old))
      (opened v.0)

  none_since_open : {V : Type 0} (n : ℕ) (chain : List (ℕ × Option V)) → newest_since number n chain ≡ None
  none_since_open n chain = ⊎_elim (λ e. ap (above n) e) (λ e. ap (above n) e ∙ not_above 0 n (omega arith)) (none_newest chain)

  first_value : {X : Type 0} (v : Option X) (j : ℕ) → v ≡ value_at_number v [] j
  first_value v zero = refl
  first_value v (suc j) = refl

  opened_told : {V : Type 0} (n : ℕ) (chain : List (ℕ × Option V)) → AllTold number n [] chain
  opened_told n [] = tt
  opened_told n (v ∷ vs) = (λ k is below. ⊎_elim (λ none. absurd (false≢true (ap is_some (sym none ∙ is)))) (λ old. absurd (never k n (ap (λ o. unwrap_or o k) (sym is ∙ old)) below)) (opened v.0), opened_told n vs)

  opened_shows : {X : Type 0} (at since : ℕ → Type 0) (base : Option X) (chain : List (ℕ × Option X)) → Behind number chain → ((j : ℕ) → at j → value_seen (by number 0) chain ≡ base) → ShowsKey at since number base [] chain
  opened_shows {X} at since base chain behind is = record {
    rows = λ j here. seen_tests (by number 0) (by number j) chain (same_by j) ∙ is j here ∙ first_value base j;
    changes = λ n here. none_since_open n chain ∙ none_since X n;
    told = λ n here. opened_told n chain;
    behind = behind;
  }

  module _ (versions : Versions) (sorted : T (is_sorted name_cmp versions.names)) (slots_sorted : (id : ℕ) → T (is_sorted int_cmp (slots_of versions id)))
      (names_behind : (name : List ℕ) → Behind number (schemas (names_at versions name))) (rows_behind : (id : ℕ) (key : ℤ) → Behind number (rows_of versions id key)) where
    abbrev pub opened_base : Database
    opened_base = database_seen (by number 0) versions

    -- the versions stand for what they show
    pub opened_stands : VersionsStand 0 number opened_base [] versions
    opened_stands = record {
      sorted = sorted;
      slots_sorted = slots_sorted;
      tables = λ name. opened_shows (IsFrom 0) (IsFrom 0) (schema_named opened_base name) (schemas (names_at versions name)) (names_behind name) (λ j here. seen-map (λ (m : Made). m.schema) (by number 0) (names_at versions name) ∙ schema_read (by number 0) versions name sorted);
      rows = λ name made key. opened_shows (IsTableAt 0 number versions name made) (IsTableSince 0 number versions name made) (row_of (table_at opened_base name) key) (rows_of versions made.id key) (rows_behind made.id key)
          (λ j here. key_read (by number 0) versions name made key sorted (slots_sorted made.id) (sym (seen_tests (by number 0) (by number j) (names_at versions name) (same_by j)) ∙ here.1));
    }

-- ---- the invariant at open

none_found : {X : Type 0} (s : ℕ) (x : X) → find nat_cmp s [] ≡ Some x → ⊥
none_found s x e = false≢true (ap is_some e)

-- Nobody is in a transaction yet, and what stands open in the tables of transactions is no session's.
pub opened_state : (xids : Xids) (versions : Versions) (stuck : List (List ℕ)) → AreSound xids → xids.commits ≡ [] → T (is_sorted name_cmp versions.names) → ((id : ℕ) → T (is_sorted int_cmp (slots_of versions id)))
    → ((name : List ℕ) → Behind (number_of xids) (schemas (names_at versions name))) → ((id : ℕ) (key : ℤ) → Behind (number_of xids) (rows_of versions id key)) → AreBy (IsDrawn xids.next) versions
    → ShowsState 0 (record { xids = xids; versions = versions; sessions = []; answered = 0 }) (at_rest (database_seen (by (number_of xids) 0) versions) stuck)
opened_state xids versions stuck sound none sorted slots_sorted names_behind rows_behind drawn = record {
  sound = sound;
  counted = ap (λ cs. length cs) none;
  same_answered = refl;
  answered = omega arith;
  lowest = omega arith;
  stands = opened_stands (number_of xids) (opened_numbers xids none) versions sorted slots_sorted names_behind rows_behind;
  drawn = drawn;
  inside = λ s t e. absurd (none_found s t e);
  below = λ s a e. absurd (none_found s a e);
  apart = λ s r a b at_a at_b positive same. absurd (none_found s a at_a);
}

abbrev pub fresh_xids : Xids
fresh_xids = record { next = 1; live = []; aborted = []; commits = [] }

-- with nothing in it
pub empty_state : (stuck : List (List ℕ)) → ShowsState 0 (record { xids = fresh_xids; versions = record { names = []; slots = [] }; sessions = []; answered = 0 }) (at_rest [] stuck)
empty_state stuck = opened_state fresh_xids (record { names = []; slots = [] }) stuck
    (record { first = omega arith; gone = tt; live = tt; apart = λ x here. absurd (false≢true here); commits = tt; once = tt }) refl tt (λ id. tt) (λ name. tt) (λ id key. tt) (record { names = λ name. tt; rows = λ id key. tt })
