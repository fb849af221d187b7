-- Rows that are gathered of all slots of a table are what these show, in whatever order the slots stand.
use Rattle.std.proofs.Common.{◌≡◌, ⊎_elim, inl, inr, ℕ, ℤ, Bool, true, false, cond, List, [], ◌∷◌, map, Option, None, Some, Err, Result, refl, sym, ◌∙◌, ap}
use Rattle.std.specs.Prelude.{T, ◌&&◌, is_some, IfOk}
use Rattle.std.specs.Ordering.{int_cmp, int_eq}
use Rattle.std.specs.Cmp.{int_cmp_total}
use Rattle.std.specs.FinMap.Entries.{find, find-put, is_sorted, is_sorted-put}
use Rattle.std.proofs.lemmas.Bool.{false≢true}
use Rattle.ctr_types.specs.declared.memory.OutOfMemory.{OutOfMemory}
use Rattle.ctr_types.specs.declared.value.Row.{Row}
use Rattle.ctr_types.specs.declared.value.Rows.{Rows}
use Rattle.ctr_versions.proofs.Keys.{known}
use Rattle.ctr_page.specs.declared.rows.Place.{Place}
use Rattle.ctr_area.specs.Areas.{Area}
use Rattle.ctr_area.specs.Chains.{slot_places}
use Rattle.ctr_area.specs.Sound.{AreKeyed, IsAmong}
use Rattle.ctr_record_laws.proofs.Gathering.{matches, match_key, match_used, is_match}
use Rattle.ctr_views.specs.chain_Visible.{visible_row}
use Rattle.ctr_views.specs.Scanning.{AreScanned, with_seen}
use Rattle.ctr_views.specs.chain_ReadRefusal.{ReadRefusal}
use Rattle.ctr_views.specs.chain_ReadRefusal.TheVariants as refusal
use Rattle.ctr_reading.specs.Reading.{as_told, GivesRows, GivesShown}
use Rattle.ctr_reading.specs.Gathering.{gathered_at, gathered, Gathers}

module _ (test : ℕ → Bool) (area : Area) where
  abbrev seen : Place → Option Row
  seen at = visible_row test area at

  -- ---- in order

  sorted_with : (key : ℤ) (o : Option Row) (rows : List (ℤ × Row)) → T (is_sorted int_cmp rows) → T (is_sorted int_cmp (with_seen key o rows))
  sorted_with key None rows sorted = sorted
  sorted_with key (Some row) rows sorted = is_sorted-put int_cmp int_cmp_total key row rows sorted

  sorted_at : (at : Place) (rows : List (ℤ × Row)) → T (is_sorted int_cmp rows) → T (is_sorted int_cmp (gathered_at test area at rows))
  sorted_at at rows sorted = elim (area.slot at).used as (λ b. T (is_sorted int_cmp (cond b (with_seen (area.slot at).key (seen at) rows) rows))) [
    | true ↦ sorted_with (area.slot at).key (seen at) rows sorted
    | false ↦ sorted
  ]

  sorted_all : (places : List Place) (rows : List (ℤ × Row)) → T (is_sorted int_cmp rows) → T (is_sorted int_cmp (gathered test area places rows))
  sorted_all [] rows sorted = sorted
  sorted_all (at ∷ places) rows sorted = sorted_all places (gathered_at test area at rows) (sorted_at at rows sorted)

  -- ---- under a key

  found_with : (q key : ℤ) (o : Option Row) (rows : List (ℤ × Row)) → find int_cmp q (with_seen key o rows) ≡ cond (int_eq q key && is_some o) o (find int_cmp q rows)
  found_with q key None rows = sym (kept (int_eq q key))
    where
      kept : (b : Bool) → cond (b && false) None (find int_cmp q rows) ≡ find int_cmp q rows
      kept true = refl
      kept false = refl
  found_with q key (Some row) rows = find-put int_cmp int_cmp_total q key row rows ∙ some_put (int_eq q key)
    where
      some_put : (b : Bool) → cond b (Some row) (find int_cmp q rows) ≡ cond (b && true) (Some row) (find int_cmp q rows)
      some_put true = refl
      some_put false = refl

  -- one slot more
  found_at : (key : ℤ) (at : Place) (rows : List (ℤ × Row)) → find int_cmp key (gathered_at test area at rows) ≡ cond (matches area.slot key at && is_some (seen at)) (seen at) (find int_cmp key rows)
  found_at key at rows = elim (area.slot at).used as (λ u. find int_cmp key (cond u (with_seen (area.slot at).key (seen at) rows) rows) ≡ cond ((u && int_eq key (area.slot at).key) && is_some (seen at)) (seen at) (find int_cmp key rows)) [
    | true ↦ found_with key (area.slot at).key (seen at) rows
    | false ↦ refl
  ]

  -- of another key
  away : (key : ℤ) (at : Place) (rows : List (ℤ × Row)) → matches area.slot key at ≡ false → find int_cmp key (gathered_at test area at rows) ≡ find int_cmp key rows
  away key at rows isnt = found_at key at rows ∙ ap (λ m. cond (m && is_some (seen at)) (seen at) (find int_cmp key rows)) isnt

  -- of this key
  here : (key : ℤ) (at : Place) (rows : List (ℤ × Row)) → matches area.slot key at ≡ true → (seen at ≡ None → find int_cmp key rows ≡ None) → find int_cmp key (gathered_at test area at rows) ≡ seen at
  here key at rows is none = found_at key at rows ∙ ap (λ m. cond (m && is_some (seen at)) (seen at) (find int_cmp key rows)) is ∙ by (seen at) none
    where
      by : (o : Option Row) → (o ≡ None → find int_cmp key rows ≡ None) → cond (is_some o) o (find int_cmp key rows) ≡ o
      by None gives = gives refl
      by (Some row) gives = refl

  -- where no slot has the key
  passed : (key : ℤ) (places : List Place) (rows : List (ℤ × Row)) → ((at : Place) → IsAmong at places → matches area.slot key at ≡ true → ⊥) → find int_cmp key (gathered test area places rows) ≡ find int_cmp key rows
  passed key [] rows none = refl
  passed key (b ∷ bs) rows none =
      passed key bs (gathered_at test area b rows) (λ at in_ is. none at (inr in_) is)
      ∙ known (matches area.slot key b) (λ yes_. absurd (none b (inl refl) yes_)) (λ no_. away key b rows no_)

  -- where one slot alone has it, behind that slot
  keeps : (key : ℤ) (at : Place) (places : List Place) (rows : List (ℤ × Row)) → ((b : Place) → IsAmong b places → matches area.slot key b ≡ true → b ≡ at) → find int_cmp key rows ≡ seen at
      → find int_cmp key (gathered test area places rows) ≡ seen at
  keeps key at [] rows alone is = is
  keeps key at (b ∷ bs) rows alone is =
      keeps key at bs (gathered_at test area b rows) (λ c in_ its. alone c (inr in_) its)
      (known (matches area.slot key b)
      (λ yes_. let same = ap seen (alone b (inl refl) yes_) in here key b rows yes_ (λ none. is ∙ sym same ∙ none) ∙ same)
      (λ no_. away key b rows no_ ∙ is))

  -- and up to it
  found : (key : ℤ) (at : Place) (places : List Place) (rows : List (ℤ × Row)) → IsAmong at places → matches area.slot key at ≡ true → ((b : Place) → IsAmong b places → matches area.slot key b ≡ true → b ≡ at)
      → find int_cmp key rows ≡ None → find int_cmp key (gathered test area places rows) ≡ seen at
  found key at [] rows in_ is alone none = absurd in_
  found key at (b ∷ bs) rows in_ is alone none = known (matches area.slot key b)
      (λ yes_. keeps key at bs (gathered_at test area b rows) (λ c there its. alone c (inr there) its) (here key b rows yes_ (λ e. none) ∙ ap seen (alone b (inl refl) yes_)))
      (λ no_. found key at bs (gathered_at test area b rows)
      (⊎_elim (λ same. absurd (false≢true (sym no_ ∙ ap (matches area.slot key) (sym same) ∙ is))) (λ there. there) in_)
      is (λ c there its. alone c (inr there) its) (away key b rows no_ ∙ none))

  pub gathered_scanned : (e : ℕ) → AreKeyed area → AreScanned test area e (gathered test area (slot_places area e) [])
  gathered_scanned e keyed = record {
    sorted = sorted_all (slot_places area e) [] tt;
    used = λ at used. found (area.slot at).key at (slot_places area e) [] used.0 (is_match area.slot (area.slot at).key at used.1 refl)
        (λ b in_ is. keyed.once e b at (in_, match_used area.slot (area.slot at).key b is) used (match_key area.slot (area.slot at).key b is)) refl;
    others = λ key none. passed key (slot_places area e) [] (λ at in_ is. none at (in_, match_used area.slot key at is) (match_key area.slot key at is));
  }

  some_mapped : (rows : List (ℤ × Row)) → (rows ≡ [] → ⊥) → map (λ (x : ℤ × Row). x.1) rows ≡ [] → ⊥
  some_mapped [] some is = some refl
  some_mapped (x ∷ xs) some is = absurd cc

  -- So rows that were gathered of all slots are shown: those that are given, or that memory is refused for.
  module _ (entry : ℕ) (keyed : AreKeyed area) where
    abbrev all : List (ℤ × Row)
    all = gathered test area (slot_places area entry) []

    pub given_shown : (rows : List (ℤ × Row)) (given : Result Rows OutOfMemory) → rows ≡ all → GivesRows (map (λ (x : ℤ × Row). x.1) rows) given → GivesShown test area entry given
    given_shown rows given are gives = (map (λ (x : ℤ × Row). x.1) rows, (all, gathered_scanned entry keyed, ap (map (λ (x : ℤ × Row). x.1)) are), gives)

    pub refused_shown : (S : Type 0) (refused : ReadRefusal) (rows : List (ℤ × Row)) → IfOk (as_told {T = S} (Err refused)) (Gathers all rows) → IfOk (as_told {T = Rows} (Err refused)) (GivesShown test area entry)
    refused_shown S (refusal.Store e) rows gathers = tt
    refused_shown S refusal.OutOfMemory rows gathers = (map (λ (x : ℤ × Row). x.1) all, (all, gathered_scanned entry keyed, refl), some_mapped all gathers)
