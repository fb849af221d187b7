-- What locks, uses and holds give: the premises of the laws of writes.
use Rattle.std.proofs.Common.{◌≡◌, ℕ, ◌≤◌, ◌==◌, ℤ, Bool, true, false, cond, List, [], ◌∷◌, Option, Some, None, refl, sym, ◌∙◌, ap}
use Rattle.std.specs.Prelude.{unwrap_or, is_some}
use Rattle.std.specs.Option.{option_map}
use Rattle.std.proofs.lemmas.Bool.{false≢true, true≢false, eq-eqb}
use Rattle.ctr_model.specs.declared.database.Change.{Change}
use Rattle.ctr_versions.specs.Chains.{Numbers, value_seen, by, written_by, newest_since}
use Rattle.ctr_versions.specs.Keys.{schema_change, row_change, left_by}
use Rattle.ctr_versions.specs.Versions.{Made, Versions, names_at, rows_of, schemas, IsTableSince, Wrote, IsTableOf}
use Rattle.ctr_versions.proofs.Conflicts.{steady}
use Rattle.ctr_versions.proofs.Asked.{own_head}

some_is : {A : Type 0} (x y : A) → Some x ≡ Some y → x ≡ y
some_is x y e = ap (λ o. unwrap_or o x) e

-- no two names share a table
abbrev pub AreUnique : Versions → Type 0
AreUnique versions = (name other : List ℕ) (made mine : Made) (test own : ℕ → Bool) → value_seen test (names_at versions name) ≡ Some made → value_seen own (names_at versions other) ≡ Some mine → made.id ≡ mine.id → name ≡ other

-- with no newer version of the name, the table of the snapshot is the one of each later number
pub since_steady : (low : ℕ) (number : Numbers) (versions : Versions) (name : List ℕ) (made : Made) (n : ℕ) → low ≤ n → newest_since number n (names_at versions name) ≡ None → value_seen (by number n) (names_at versions name) ≡ Some made → IsTableSince low number versions name made n
since_steady low number versions name made n here quiet at = (here, λ j le. steady number n j (names_at versions name) quiet le ∙ at)

-- a table that the snapshot sees
pub on_shared : (number : Numbers) (versions : Versions) (me n : ℕ) (table : List ℕ) (made : Made) → AreUnique versions → newest_since number n (names_at versions table) ≡ None → written_by me (names_at versions table) ≡ None → value_seen (by number n) (names_at versions table) ≡ Some made
    → IsTableOf number versions me n table made.id
on_shared number versions me n table made unique quiet unwritten at = record {
  unique = λ name other test is same. unique name table other made test (by number n) is at same;
  shared = λ other j le is at_j. ap (λ (m : Made). m.id) (some_is other made (sym at_j ∙ steady number n j (names_at versions table) quiet le ∙ at));
  own = λ other is. absurd (false≢true (ap is_some (sym unwritten ∙ is)));
}

-- a table that it made itself
pub on_created : (number : Numbers) (versions : Versions) (me n : ℕ) (table : List ℕ) (made : Made) → AreUnique versions → written_by me (names_at versions table) ≡ Some (Some made) → IsTableOf number versions me n table made.id
on_created number versions me n table made unique own = record {
  unique = λ name other test is same. unique name table other made test (λ y. y == me) is (own_head (λ y. y == me) me (names_at versions table) (Some made) (eq-eqb me me refl) own) same;
  shared = λ other j le is at. absurd (false≢true (ap is_some (sym is ∙ own)));
  own = λ other is. ap (λ (m : Made). m.id) (some_is other made (some_is (Some other) (Some made) (sym is ∙ own)));
}

pub schema_none : (y : ℕ) (chain : List (ℕ × Option Made)) → written_by y (schemas chain) ≡ None → written_by y chain ≡ None
schema_none y [] is = refl
schema_none y (h ∷ rest) is = elim (y == h.0) as (λ b. cond b (Some (option_map (λ (m : Made). m.schema) h.1)) None ≡ None → cond b (Some h.1) None ≡ None) [ true ↦ λ e. absurd (true≢false (ap is_some e)) | false ↦ λ e. refl ] is

-- another that has changed neither the name nor the key has no version of the key, and didn't make the table
pub free_shared : (number : Numbers) (versions : Versions) (y m j : ℕ) (own : List Change) (table : List ℕ) (made : Made) (key : ℤ) → AreUnique versions → Wrote number versions y m own → m ≤ j → value_seen (by number j) (names_at versions table) ≡ Some made
    → left_by (schema_change table) own ≡ None → left_by (row_change table key) own ≡ None
    → (written_by y (rows_of versions made.id key) ≡ None) × ((name : List ℕ) (other : Made) → written_by y (names_at versions name) ≡ Some (Some other) → other.id ≡ made.id → ⊥)
free_shared number versions y m j own table made key unique wrote le at no_schema no_row =
    let unnamed = schema_none y (names_at versions table) (wrote.tables table ∙ no_schema) in (
      wrote.rows table made key j le unnamed at ∙ no_row,
      λ name other is same. let one = unique name table other made (λ z. z == y) (by number j) (own_head (λ z. z == y) y (names_at versions name) (Some other) (eq-eqb y y refl) is) at same in
          false≢true (ap is_some (sym unnamed ∙ ap (λ q. written_by y (names_at versions q)) (sym one) ∙ is)),
    )
