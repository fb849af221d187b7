-- The tables that stand, entry by entry: each has a name of its own, so each is one more.
use Rattle.std.proofs.Common.{◌≡◌, ℕ, zero, suc, ◌+◌, ◌-◌, ◌<◌, ◌≤◌, Bool, true, false, cond, List, [], ◌∷◌, Option, Some, None, refl, sym, ◌∙◌, ap, subst, length, arith}
use Rattle.std.specs.Prelude.{◌&&◌, not}
use Rattle.std.specs.declared.cmp.Ordering.{Ordering}
use Rattle.std.specs.declared.cmp.Ordering.TheVariants.{Less, Equal, Greater}
use Rattle.std.specs.Cmp.Lexicographic.{nat_list_cmp_total, texts_ties}
use Rattle.std.specs.Ordering.{eq_by_cmp, is_eq}
use Rattle.std.specs.FinMap.Entries.{by_order, find, find-put, put}
use Rattle.std.proofs.lemmas.Bool.{and_parts}
use Rattle.ctr_model.specs.Database.{Database, name_cmp}
use Rattle.ctr_model.specs.State.{same_name}
use Rattle.ctr_model.specs.declared.database.Table.{Table}
use Rattle.ctr_versions.proofs.Keys.{known, same_text}
use Rattle.ctr_area.specs.Areas.{Area}
use Rattle.ctr_area.specs.Images.{entry_numbers, image_rows, is_live, is_standing, numbers, table_in, tables_standing}
use Rattle.ctr_area.specs.Sound.{IsOneOf}
use Rattle.ctr_survey.specs.declared.counting.Counts.{Counts}
use Rattle.ctr_survey.specs.Surveying.{row_count, counted_to_end}
use Rattle.ctr_survey.specs.Standing.{AreCounts, CountsEntry, with_entry_counts}

-- ---- one table more

-- a table of a new name is one more, with its rows
pub record IsOneMore (t : Table) (old new : Database) : Type 0 where
  pub tables : length new ≡ suc (length old)
  pub rows : row_count new ≡ length t.rows + row_count old

put_new : (name : List ℕ) (t : Table) (db : Database) → find name_cmp name db ≡ None → IsOneMore t db (put name_cmp name t db)
put_new name t [] none = record { tables = refl; rows = refl }
put_new name t (e ∷ es) none = by (name_cmp name e.0) none (put_new name t es)
  where
    by : (o : Ordering) → cond (is_eq o) (Some e.1) (find name_cmp name es) ≡ None → (find name_cmp name es ≡ None → IsOneMore t es (put name_cmp name t es)) → IsOneMore t (e ∷ es) (by_order o ((name, t) ∷ e ∷ es) ((e.0, t) ∷ es) (e ∷ put name_cmp name t es))
    by Less none behind = record { tables = refl; rows = refl }
    by Equal none behind = absurd cc
    by Greater none behind = let rest = behind none in record { tables = ap (λ n. suc n) rest.tables; rows = omega (arith, rest.rows) }

-- an entry has one table at most
one_more : (n : ℕ) (found : Option ℕ) (counts : Counts) → counts.tables ≤ n → (with_entry_counts found counts).tables ≤ n + 1
one_more n None counts few = omega (arith, few)
one_more n (Some rows) counts few = omega (arith, few)

pub few_more : (n : ℕ) (found : Option ℕ) (counts new : Counts) → new ≡ with_entry_counts found counts → counts.tables ≤ n → new.tables ≤ n + 1
few_more n found counts new is few = subst (λ (x : Counts). x.tables ≤ n + 1) (sym is) (one_more n found counts few)

-- ---- the entries that are left

module _ (test : ℕ → Bool) (area : Area) where
  -- the tables of so many entries from one on
  abbrev pub standing : ℕ → ℕ → Database
  standing k n = tables_standing test area (numbers k n)

  -- the tables of the entries that are left
  abbrev pub left_from : ℕ → Database
  left_from e = standing e (32 - e)

  abbrev there : ℕ → Bool
  there e = is_standing test (area.title e)

  abbrev name_of : ℕ → List ℕ
  name_of e = (area.title e).name

  -- With those that are left the counts are those of all.
  pub record IsCounted (e : ℕ) (counts : Counts) : Type 0 where
    pub tables : counts.tables + length (left_from e) ≡ length (image_rows test area)
    pub rows : counted_to_end (counts.rows + row_count (left_from e)) ≡ counted_to_end (row_count (image_rows test area))
    pub small : counts.rows ≤ 18446744073709551615

  pub none_counted : IsCounted 0 (record { tables = 0; rows = 0 })
  unfolding entry_numbers
  none_counted = record {
    tables = omega arith;
    rows = let is : 0 + row_count (left_from 0) ≡ row_count (image_rows test area) = omega arith in ap counted_to_end is;
    small = omega arith;
  }

  pub all_counted : (e : ℕ) (counts : Counts) → 32 ≤ e → IsCounted e counts → AreCounts test area counts
  all_counted e counts past are =
      let none : 32 - e ≡ 0 = omega (arith, past) in
      let empty : left_from e ≡ [] = ap (standing e) none in
      let tables = are.tables in
      let rows = are.rows in
      let small = are.small in
      let no_tables = ap (length {A = List ℕ × Table}) empty in
      let no_rows = ap row_count empty in
      record { tables = omega (arith, tables, no_tables); rows = omega (arith, rows, small, no_rows) }

  -- one entry, and those behind it
  one_left : (e : ℕ) → e < 32 → left_from e ≡ cond (there e) (put name_cmp (name_of e) (table_in test area e) (left_from (e + 1))) (left_from (e + 1))
  one_left e few = let one : 32 - e ≡ suc (32 - (e + 1)) = omega (arith, few) in ap (standing e) one

  module _ (once : IsOneOf area.title (is_standing test)) where
    lives : (e : ℕ) → there e ≡ true → is_live (area.title e) ≡ true
    lives e stands = (and_parts (is_live (area.title e)) (test (area.title e).creator && not (test (area.title e).dropper)) stands).0

    -- two entries that stand have two names
    other_name : (e k : ℕ) → e < k → k < 32 → there e ≡ true → there k ≡ true → eq_by_cmp name_cmp (name_of e) (name_of k) ≡ false
    other_name e k lt few one two =
        sym (texts_ties (name_of e) (name_of k))
        ∙ known (same_name (name_of e) (name_of k))
        (λ same. absurd (apart (once e k (omega (arith, lt, few)) few (lives e one) (lives k two) (same_text (name_of e) (name_of k) same) one two)))
        (λ isnt. isnt)
      where
        apart : e ≡ k → ⊥
        apart is = omega (arith, is, lt)

    -- so behind one that stands its name is new
    absent : (e k n : ℕ) → e < k → k + n ≤ 32 → there e ≡ true → find name_cmp (name_of e) (standing k n) ≡ None
    absent e k zero lt few stands = refl
    absent e k (suc n) lt few stands =
        let rest = standing (k + 1) n in
        let behind = absent e (k + 1) n (omega (arith, lt)) (omega (arith, few)) stands in
        known (there k)
        (λ is. ap (λ b. find name_cmp (name_of e) (cond b (put name_cmp (name_of k) (table_in test area k) rest) rest)) is
        ∙ find-put name_cmp nat_list_cmp_total (name_of e) (name_of k) (table_in test area k) rest
        ∙ ap (λ b. cond b (Some (table_in test area k)) (find name_cmp (name_of e) rest)) (other_name e k lt (omega (arith, few)) stands is)
        ∙ behind)
        (λ isnt. ap (λ b. find name_cmp (name_of e) (cond b (put name_cmp (name_of k) (table_in test area k) rest) rest)) isnt ∙ behind)

    one_counted : (e : ℕ) (found : Option ℕ) (counts : Counts) → e < 32 → CountsEntry test area e found → IsCounted e counts → IsCounted (e + 1) (with_entry_counts found counts)
    one_counted e None counts few isnt are =
        let same = one_left e few ∙ ap (λ b. cond b (put name_cmp (name_of e) (table_in test area e) (left_from (e + 1))) (left_from (e + 1))) isnt in
        record {
          tables = sym (ap (λ (db : Database). counts.tables + length db) same) ∙ are.tables;
          rows = sym (ap (λ db. counted_to_end (counts.rows + row_count db)) same) ∙ are.rows;
          small = are.small;
        }
    one_counted e (Some n) counts few (stands, many) are =
        let behind = left_from (e + 1) in
        let same = one_left e few ∙ ap (λ b. cond b (put name_cmp (name_of e) (table_in test area e) behind) behind) stands in
        let more = put_new (name_of e) (table_in test area e) behind (absent e (e + 1) (32 - (e + 1)) (omega arith) (omega (arith, few)) stands) in
        let tables = are.tables in
        let rows = are.rows in
        let all_tables = ap (λ (db : Database). length db) same ∙ more.tables in
        let all_rows = ap row_count same ∙ more.rows in
        record {
          tables = omega (arith, tables, all_tables);
          rows = omega (arith, rows, all_rows, many);
          small = omega arith;
        }

    -- and so with counts that are told to be those with this entry
    pub told_counted : (e : ℕ) (found : Option ℕ) (counts new : Counts) → e < 32 → new ≡ with_entry_counts found counts → CountsEntry test area e found → IsCounted e counts → IsCounted (e + 1) new
    told_counted e found counts new few is entry are = subst (IsCounted (e + 1)) (sym is) (one_counted e found counts few entry are)
