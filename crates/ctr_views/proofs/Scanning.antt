-- What a scan of the slots of a table gives is the rows that they show.
use Rattle.std.proofs.Common.{◌≡◌, ◌⊎◌, ⊎_elim, inl, inr, ℕ, ℤ, Bool, true, false, cond, List, [], ◌∷◌, Option, Some, None, refl, sym, ◌∙◌, ap, subst}
use Rattle.std.specs.Prelude.{T, ◌&&◌, is_some}
use Rattle.std.specs.Ordering.{int_cmp, int_eq}
use Rattle.std.specs.Cmp.{int_cmp_total}
use Rattle.std.specs.FinMap.Entries.{find, find-put, is_sorted, is_sorted-put, same_entries}
use Rattle.std.proofs.lemmas.Bool.{false≢true}
use Rattle.std.proofs.lemmas.Map.Lookups.{exact_signed}
use Rattle.ctr_types.specs.declared.value.Row.{Row}
use Rattle.ctr_versions.proofs.Keys.{known}
use Rattle.ctr_paged.specs.page_Place.{Place}
use Rattle.ctr_paged.specs.area_Areas.{Area}
use Rattle.ctr_paged.specs.area_Chains.{slot_places}
use Rattle.ctr_paged.specs.area_Sound.{AreKeyed, IsAmong, IsUsedSlot}
use Rattle.ctr_paged.proofs.record_laws_Gathering.{matches, match_key, match_used, is_match}
use Rattle.ctr_chain.specs.Visible.{visible_row}
use Rattle.ctr_views.specs.Scanning.{AreScanned, IsNoSlot, rows_scanned, with_seen}

module _ (test : ℕ → Bool) (area : Area) where
  abbrev seen : Place → Option Row
  seen at = visible_row test area at

  -- one of the places has a used slot of the key, or none has
  which : (key : ℤ) (places : List Place) → ((at : Place) × IsAmong at places × (matches area.slot key at ≡ true)) ⊎ ((at : Place) → IsAmong at places → matches area.slot key at ≡ true → ⊥)
  which key [] = inr (λ at in_ is. in_)
  which key (b ∷ bs) = known (matches area.slot key b)
      (λ yes_. inl (b, inl refl, yes_))
      (λ no_. ⊎_elim
      (λ rest. inl (rest.0, inr rest.1, rest.2))
      (λ none. inr (λ at in_ is. ⊎_elim (λ same. false≢true (sym no_ ∙ ap (matches area.slot key) (sym same) ∙ is)) (λ there. none at there is) in_))
      (which key bs))

  pub slot_or_none : (e : ℕ) (key : ℤ) → ((at : Place) × IsUsedSlot area e at × ((area.slot at).key ≡ key)) ⊎ IsNoSlot area e key
  slot_or_none e key = ⊎_elim
      (λ one. inl (one.0, (one.1, match_used area.slot key one.0 one.2), match_key area.slot key one.0 one.2))
      (λ none. inr (λ at used is. none at used.0 (is_match area.slot key at used.1 is)))
      (which key (slot_places area e))

  -- rows that are scanned are one list
  pub scanned_alike : (e : ℕ) (rows others : List (ℤ × Row)) → AreScanned test area e rows → AreScanned test area e others → rows ≡ others
  scanned_alike e rows others one two = same_entries int_cmp int_cmp_total exact_signed rows others one.sorted two.sorted
      (λ key. ⊎_elim
      (λ its. subst (λ k. find int_cmp k rows ≡ find int_cmp k others) its.2 (one.used its.0 its.1 ∙ sym (two.used its.0 its.1)))
      (λ none. one.others key none ∙ sym (two.others key none))
      (slot_or_none e key))

  -- ---- the scan

  abbrev scan : List Place → List (ℤ × Row)
  scan places = rows_scanned test area places

  sorted_with : (key : ℤ) (o : Option Row) (rows : List (ℤ × Row)) → T (is_sorted int_cmp rows) → T (is_sorted int_cmp (with_seen key o rows))
  sorted_with key None rows sorted = sorted
  sorted_with key (Some row) rows sorted = is_sorted-put int_cmp int_cmp_total key row rows sorted

  sorted_scan : (places : List Place) → T (is_sorted int_cmp (scan places))
  sorted_scan [] = tt
  sorted_scan (at ∷ places) =
      elim (area.slot at).used as (λ b. T (is_sorted int_cmp (cond b (with_seen (area.slot at).key (seen at) (scan places)) (scan places)))) [
        | true ↦ sorted_with (area.slot at).key (seen at) (scan places) (sorted_scan places)
        | false ↦ sorted_scan places
      ]

  found_with : (q key : ℤ) (o : Option Row) (rows : List (ℤ × Row)) → find int_cmp q (with_seen key o rows) ≡ cond (int_eq q key && is_some o) o (find int_cmp q rows)
  found_with q key None rows = sym (none_kept (int_eq q key))
    where
      none_kept : (b : Bool) → cond (b && false) None (find int_cmp q rows) ≡ find int_cmp q rows
      none_kept true = refl
      none_kept false = refl
  found_with q key (Some row) rows = find-put int_cmp int_cmp_total q key row rows ∙ some_put (int_eq q key)
    where
      some_put : (b : Bool) → cond b (Some row) (find int_cmp q rows) ≡ cond (b && true) (Some row) (find int_cmp q rows)
      some_put true = refl
      some_put false = refl

  kept : (b : Bool) (rest : Option Row) → cond (b && false) None rest ≡ rest
  kept true rest = refl
  kept false rest = refl

  -- one place more
  one_more : (key : ℤ) (b : Place) (bs : List Place) → find int_cmp key (scan (b ∷ bs)) ≡ cond (matches area.slot key b && is_some (seen b)) (seen b) (find int_cmp key (scan bs))
  one_more key b bs = elim (area.slot b).used as (λ u. find int_cmp key (cond u (with_seen (area.slot b).key (seen b) (scan bs)) (scan bs)) ≡ cond ((u && int_eq key (area.slot b).key) && is_some (seen b)) (seen b) (find int_cmp key (scan bs))) [
    | true ↦ found_with key (area.slot b).key (seen b) (scan bs)
    | false ↦ refl
  ]

  -- where the slots of a key show none, nothing is found
  scan_none : (key : ℤ) (places : List Place) → ((at : Place) → IsAmong at places → matches area.slot key at ≡ true → seen at ≡ None) → find int_cmp key (scan places) ≡ None
  scan_none key [] none = refl
  scan_none key (b ∷ bs) none =
      one_more key b bs
      ∙ known (matches area.slot key b)
      (λ yes_. ap (λ o. cond (matches area.slot key b && is_some o) o (find int_cmp key (scan bs))) (none b (inl refl) yes_) ∙ kept (matches area.slot key b) (find int_cmp key (scan bs)))
      (λ no_. ap (λ m. cond (m && is_some (seen b)) (seen b) (find int_cmp key (scan bs))) no_)
      ∙ scan_none key bs (λ at in_ is. none at (inr in_) is)

  -- the slot that alone has the key
  scan_here : (key : ℤ) (places : List Place) (at : Place) → IsAmong at places → matches area.slot key at ≡ true → ((b : Place) → IsAmong b places → matches area.slot key b ≡ true → b ≡ at)
      → find int_cmp key (scan places) ≡ seen at
  scan_here key [] at here is alone = absurd here
  scan_here key (b ∷ bs) at here is alone =
      one_more key b bs
      ∙ known (matches area.slot key b)
      (λ yes_. ap (λ m. cond (m && is_some (seen b)) (seen b) (find int_cmp key (scan bs))) yes_
      ∙ elim (seen b) as (λ o. seen b ≡ o → cond (is_some o) o (find int_cmp key (scan bs)) ≡ o) [
        | Some row ↦ λ some. refl
        | None ↦ λ none. scan_none key bs (λ c in_ its. ap seen (alone c (inr in_) its ∙ sym (alone b (inl refl) yes_)) ∙ none)
      ] refl
      ∙ ap seen (alone b (inl refl) yes_))
      (λ no_. ap (λ m. cond (m && is_some (seen b)) (seen b) (find int_cmp key (scan bs))) no_
      ∙ ⊎_elim (λ same. absurd (false≢true (sym no_ ∙ ap (matches area.slot key) (sym same) ∙ is))) (λ there. scan_here key bs at there is (λ c in_ its. alone c (inr in_) its)) here)

  -- The scan of all slots of a table gives what they show.
  pub all_scanned : (e : ℕ) → AreKeyed area → AreScanned test area e (scan (slot_places area e))
  all_scanned e keyed = record {
    sorted = sorted_scan (slot_places area e);
    used = λ at used. scan_here (area.slot at).key (slot_places area e) at used.0 (is_match area.slot (area.slot at).key at used.1 refl)
        (λ b in_ is. keyed.once e b at (in_, match_used area.slot (area.slot at).key b is) used (match_key area.slot (area.slot at).key b is));
    others = λ key none. scan_none key (slot_places area e) (λ at in_ is. absurd (none at (in_, match_used area.slot key at is) (match_key area.slot key at is)));
  }
