-- The chain of a name among all versions, and the rows of an image.
use Rattle.std.proofs.Common.{Bool, List, None, Option, Some, [], ap, arith, cond, false, inl, inr, map, refl, subst, suc, sym, true, zero, ℕ, ℤ, ⊎_elim, ◌+◌, ◌<◌, ◌∙◌, ◌∷◌, ◌≡◌, ◌⊎◌}
use Rattle.std.specs.Cmp.{int_cmp_total}
use Rattle.std.specs.Cmp.Lexicographic.{nat_list_cmp_total, texts_ties}
use Rattle.std.specs.FinMap.Entries.{find, find-put, is_sorted, is_sorted-put, put}
use Rattle.std.specs.List.{filter}
use Rattle.std.specs.Option.{option_map}
use Rattle.std.specs.Ordering.{eq_by_cmp, int_cmp}
use Rattle.std.specs.Prelude.{T, is_some, unwrap_or, ◌&&◌}
use Rattle.std.proofs.Math.Bool.{and-false, and-true}
use Rattle.std.proofs.lemmas.Bool.{and_parts, false≢true}
use Rattle.ctr_record_laws.specs.model_Database.{name_cmp, row_at, table_at}
use Rattle.ctr_record_laws.specs.model_State.{same_name}
use Rattle.ctr_record_laws.specs.model_Table.{Table}
use Rattle.ctr_record_laws.specs.versions_Chains.{value_seen}
use Rattle.ctr_record_laws.specs.versions_Listing.{chain_at, entries_seen}
use Rattle.ctr_record_laws.specs.versions_Versions.{HaveOwnTables, IsOrdered, Made, database_seen, names_at, rows_of}
use Rattle.ctr_record_laws.proofs.versions_Keys.{known, same_text, some_is}
use Rattle.ctr_record_laws.proofs.versions_Listing.{find-shown, is_sorted-shown}
use Rattle.ctr_record_laws.proofs.versions_Versions.{shows_database}
use Rattle.ctr_record_laws.specs.area_Areas.{Area, Title}
use Rattle.ctr_record_laws.specs.area_Chains.{slot_places}
use Rattle.ctr_record_laws.specs.area_Images.{Numbered, all_numbered, entry_numbers, image_rows, is_live, is_named_so, is_standing, made_by_entry, name_chain, name_versions, names_gathered, newest_first, rows_of_entry, table_in, tables_standing, versions_in}
use Rattle.ctr_record_laws.specs.area_Sound.{IsOneOf}
use Rattle.ctr_record_laws.proofs.Gathering.{sorted-gathered}
use Rattle.ctr_record_laws.proofs.Slots.{rows_sorted, slots_here}
use Rattle.ctr_names.proofs.Chains.{seen_entry}
use Rattle.ctr_names.proofs.Entries.{first_of, numbered}
use Rattle.ctr_names.proofs.Scan.{is_seen, scanned_all}

-- ---- look-ups of names

named_test : (name other : List ℕ) → eq_by_cmp name_cmp name other ≡ same_name name other
named_test name other = sym (texts_ties name other)

module _ (chain : List ℕ → List (ℕ × Option Made)) where
  pub sorted-names : (es : List Numbered) → T (is_sorted name_cmp (names_gathered chain es))
  sorted-names [] = tt
  sorted-names (e ∷ es) =
      elim (is_live e.1) as (λ b. T (is_sorted name_cmp (cond b (put name_cmp e.1.name (chain e.1.name) (names_gathered chain es)) (names_gathered chain es)))) [
        | true ↦ is_sorted-put name_cmp nat_list_cmp_total e.1.name (chain e.1.name) (names_gathered chain es) (sorted-names es)
        | false ↦ sorted-names es
      ]

  name_step : (name : List ℕ) (e : Numbered) (es : List Numbered) → find name_cmp name (names_gathered chain (e ∷ es)) ≡ cond (is_named_so name e) (Some (chain name)) (find name_cmp name (names_gathered chain es))
  name_step name e es =
      let rest = find name_cmp name (names_gathered chain es) in
      elim (is_live e.1) as (λ b. find name_cmp name (cond b (put name_cmp e.1.name (chain e.1.name) (names_gathered chain es)) (names_gathered chain es)) ≡ cond (b && same_name name e.1.name) (Some (chain name)) rest) [
        | true ↦ find-put name_cmp nat_list_cmp_total name e.1.name (chain e.1.name) (names_gathered chain es) ∙ ap (λ b. cond b (Some (chain e.1.name)) rest) (named_test name e.1.name)
            ∙ known (same_name name e.1.name)
            (λ is. ap (λ n. cond (same_name name e.1.name) (Some (chain n)) rest) (sym (same_text name e.1.name is)))
            (λ isnt. ap (λ b. cond b (Some (chain e.1.name)) rest) isnt ∙ sym (ap (λ b. cond b (Some (chain name)) rest) isnt))
        | false ↦ refl
      ]

  -- a name is there with its chain, or no live entry has it
  name_found : (name : List ℕ) (es : List Numbered) → (find name_cmp name (names_gathered chain es) ≡ Some (chain name)) ⊎ ((find name_cmp name (names_gathered chain es) ≡ None) × (filter (is_named_so name) es ≡ []))
  name_found name [] = inr (refl, refl)
  name_found name (e ∷ es) = known (is_named_so name e)
      (λ is. inl (name_step name e es ∙ ap (λ b. cond b (Some (chain name)) (find name_cmp name (names_gathered chain es))) is))
      (λ isnt. ⊎_elim
      (λ found. inl (name_step name e es ∙ ap (λ b. cond b (Some (chain name)) (find name_cmp name (names_gathered chain es))) isnt ∙ found))
      (λ none. inr (
        name_step name e es ∙ ap (λ b. cond b (Some (chain name)) (find name_cmp name (names_gathered chain es))) isnt ∙ none.0,
        ap (λ b. cond b (e ∷ filter (is_named_so name) es) (filter (is_named_so name) es)) isnt ∙ none.1,
      ))
      (name_found name es))

-- the chain of a name in the versions of an area
pub names_here : (committed : ℕ → Bool) (area : Area) (name : List ℕ) → names_at (versions_in committed area) name ≡ name_chain committed area.title name
names_here committed area name = ⊎_elim
    (λ found. ap (λ (o : Option (List (ℕ × Option Made))). unwrap_or o []) found)
    (λ none. ap (λ (o : Option (List (ℕ × Option Made))). unwrap_or o []) none.0 ∙ sym (ap (λ es. name_versions (newest_first committed es)) none.1))
    (name_found (name_chain committed area.title) name (all_numbered area.title))

-- ---- the rows of an image

-- the entry that stands under a name
abbrev pub is_standing_so : (ℕ → Bool) → List ℕ → Numbered → Bool
is_standing_so committed name e = is_standing committed e.1 && same_name name e.1.name

module _ (committed : ℕ → Bool) (area : Area) where
  abbrev table : Numbered → Table
  table e = record { schema = record { columns = e.1.columns }; rows = entries_seen committed (rows_of_entry area e.0) }

  sorted-tables : (es : List ℕ) → T (is_sorted name_cmp (tables_standing committed area es))
  sorted-tables [] = tt
  sorted-tables (e ∷ es) =
      elim (is_standing committed (area.title e)) as (λ b. T (is_sorted name_cmp (cond b (put name_cmp (area.title e).name (table_in committed area e) (tables_standing committed area es)) (tables_standing committed area es)))) [
        | true ↦ is_sorted-put name_cmp nat_list_cmp_total (area.title e).name (table_in committed area e) (tables_standing committed area es) (sorted-tables es)
        | false ↦ sorted-tables es
      ]

  table_found : (name : List ℕ) (es : List ℕ) → table_at (tables_standing committed area es) name ≡ option_map table (first_of (is_standing_so committed name) (map (λ e. (e, area.title e)) es))
  table_found name [] = refl
  table_found name (e ∷ es) =
      elim (is_standing committed (area.title e)) as (λ b. find name_cmp name (cond b (put name_cmp (area.title e).name (table_in committed area e) (tables_standing committed area es)) (tables_standing committed area es)) ≡ option_map table (cond (b && same_name name (area.title e).name) (Some (e, area.title e)) rest)) [
        | true ↦ find-put name_cmp nat_list_cmp_total name (area.title e).name (table_in committed area e) (tables_standing committed area es) ∙ (λ i. cond (named_test name (area.title e).name i) (Some (table_in committed area e)) (table_found name es i))
            ∙ elim (same_name name (area.title e).name) as (λ b. cond b (Some (table_in committed area e)) (option_map table rest) ≡ option_map table (cond b (Some (e, area.title e)) rest)) [ true ↦ refl | false ↦ refl ]
        | false ↦ table_found name es
      ]
    where
      rest : Option Numbered
      rest = first_of (is_standing_so committed name) (map (λ e. (e, area.title e)) es)

first_inside : (test : Numbered → Bool) (entry : ℕ → Title) (k n : ℕ) (e : Numbered) → first_of test (numbered entry k n) ≡ Some e → e.0 < k + n
first_inside test entry k zero e is = absurd (false≢true (ap is_some is))
first_inside test entry k (suc n) e is = known (test (k, entry k))
    (λ here. subst (λ (f : Numbered). f.0 < k + suc n) (some_is (k, entry k) e (sym (ap (λ b. cond b (Some (k, entry k)) (first_of test (numbered entry (k + 1) n))) here) ∙ is)) (omega arith))
    (λ later. let deeper = first_inside test entry (k + 1) n e (sym (ap (λ b. cond b (Some (k, entry k)) (first_of test (numbered entry (k + 1) n))) later) ∙ is) in omega (arith, deeper))

first_same : (test other : Numbered → Bool) → ((e : Numbered) → test e ≡ other e) → (es : List Numbered) → first_of test es ≡ first_of other es
first_same test other same [] = refl
first_same test other same (e ∷ es) = λ i. cond (same e i) (Some e) (first_same test other same es i)

module _ (committed : ℕ → Bool) (nobody : committed 0 ≡ false) (area : Area) (once : IsOneOf area.title (is_standing committed)) where
  abbrev standing : List ℕ → Option Numbered
  standing name = first_of (is_standing_so committed name) (all_numbered area.title)

  standing_shows : (name : List ℕ) → value_seen committed (names_at (versions_in committed area) name) ≡ option_map made_by_entry (standing name)
  standing_shows name = ap (value_seen committed) (names_here committed area name)
      ∙ scanned_all committed committed (λ d is. is) nobody area.title name (λ e f lt_e lt_f is_e is_f le seen was. was) once
      ∙ ap (option_map made_by_entry) (first_same (λ e. is_named_so name e && is_seen committed e) (is_standing_so committed name) (λ e. moved (is_live e.1) (same_name name e.1.name) (is_seen committed e)) (all_numbered area.title))
    where
      moved : (a b c : Bool) → ((a && b) && c) ≡ ((a && c) && b)
      moved true true c = sym (and-true c)
      moved true false c = sym (and-false c)
      moved false b c = refl

  standing_inside : (name : List ℕ) (e : Numbered) → standing name ≡ Some e → e.0 < 32
  unfolding entry_numbers
  standing_inside name e is = first_inside (is_standing_so committed name) area.title 0 32 e is

  standing_table : (name : List ℕ) → table_at (image_rows committed area) name ≡ option_map (table committed area) (standing name)
  standing_table name = table_found committed area name entry_numbers

  pub is_ordered : IsOrdered (image_rows committed area)
  is_ordered = record {
    names = sorted-tables committed area entry_numbers;
    rows = λ name t at. elim (standing name) as (λ o. standing name ≡ o → T (is_sorted int_cmp t.rows)) [
      | None ↦ λ is. absurd (false≢true (ap is_some (sym (standing_table name ∙ ap (option_map (table committed area)) is) ∙ at)))
      | Some e ↦ λ is. subst (λ (t : Table). T (is_sorted int_cmp t.rows)) (some_is (table committed area e) t (sym (standing_table name ∙ ap (option_map (table committed area)) is) ∙ at))
          (is_sorted-shown int_cmp committed (rows_of_entry area e.0) (sorted-gathered area.older area.slot (slot_places area e.0)))
    ] refl;
  }

  same_row : (name : List ℕ) (made : Made) (t : Table) (key : ℤ) → value_seen committed (names_at (versions_in committed area) name) ≡ Some made → table_at (image_rows committed area) name ≡ Some t
      → value_seen committed (rows_of (versions_in committed area) made.id key) ≡ row_at t key
  same_row name made t key sees_ at = elim (standing name) as (λ o. standing name ≡ o → value_seen committed (rows_of (versions_in committed area) made.id key) ≡ row_at t key) [
    | None ↦ λ is. absurd (false≢true (ap is_some (sym (standing_table name ∙ ap (option_map (table committed area)) is) ∙ at)))
    | Some e ↦ λ is.
        ap (λ (m : Made). value_seen committed (rows_of (versions_in committed area) m.id key)) (sym (some_is (made_by_entry e) made (sym (standing_shows name ∙ ap (option_map made_by_entry) is) ∙ sees_)))
        ∙ ap (λ slots. value_seen committed (chain_at int_cmp key slots)) (slots_here committed area e.0 (standing_inside name e is))
        ∙ sym (find-shown int_cmp int_cmp_total committed key (rows_of_entry area e.0) (sorted-gathered area.older area.slot (slot_places area e.0)))
        ∙ ap (λ (t : Table). row_at t key) (some_is (table committed area e) t (sym (standing_table name ∙ ap (option_map (table committed area)) is) ∙ at))
  ] refl

  -- what the abstract engine shows of the committed is the rows of the image
  pub rows_shown : database_seen committed (versions_in committed area) ≡ image_rows committed area
  rows_shown = shows_database committed (versions_in committed area) (image_rows committed area) (sorted-names (name_chain committed area.title) (all_numbered area.title)) (rows_sorted committed area) is_ordered
      (λ name. ap (option_map (λ (m : Made). m.schema)) (standing_shows name)
      ∙ elim (standing name) as (λ o. option_map (λ (m : Made). m.schema) (option_map made_by_entry o) ≡ option_map (λ (t : Table). t.schema) (option_map (table committed area) o)) [ None ↦ refl | Some e ↦ refl ]
      ∙ sym (ap (option_map (λ (t : Table). t.schema)) (standing_table name)))
      same_row

-- ---- no two names share a table

pub own_tables : (committed : ℕ → Bool) (area : Area) → HaveOwnTables (versions_in committed area)
own_tables committed area name other made mine test own seen_made seen_mine same =
    named name made test seen_made ∙ ap (λ i. (area.title i).name) same ∙ sym (named other mine own seen_mine)
  where
    named : (name : List ℕ) (made : Made) (test : ℕ → Bool) → value_seen test (names_at (versions_in committed area) name) ≡ Some made → name ≡ (area.title made.id).name
    named name made test seen = seen_entry (λ m. name ≡ (area.title m.id).name) committed test area.title name made
        (λ f lt is. same_text name (area.title f).name (and_parts (is_live (area.title f)) (same_name name (area.title f).name) is).1)
        (ap (value_seen test) (sym (names_here committed area name)) ∙ seen)
