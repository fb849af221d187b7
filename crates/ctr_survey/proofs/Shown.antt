-- The rows that the slots of a table show are those of its entry with a version that is seen; and whether the table stands.
use Rattle.std.proofs.Common.{◌≡◌, ℕ, ℤ, Bool, true, false, cond, not, List, [], Option, None, Some, refl, sym, ◌∙◌, ap, subst, length}
use Rattle.std.specs.Prelude.{T, unwrap_or, ◌&&◌}
use Rattle.std.specs.Cmp.{int_cmp_total}
use Rattle.std.specs.Ordering.{int_cmp}
use Rattle.std.specs.FinMap.Entries.{is_sorted}
use Rattle.std.proofs.lemmas.List.{length-map}
use Rattle.ctr_types.specs.declared.value.Row.{Row}
use Rattle.ctr_meta.specs.Tables.{Tables}
use Rattle.ctr_versions.specs.Chains.{value_seen}
use Rattle.ctr_versions.specs.Listing.{entries_seen}
use Rattle.ctr_versions.proofs.Keys.{known}
use Rattle.ctr_versions.proofs.Listing.{find-shown, is_sorted-shown}
use Rattle.ctr_area.specs.Areas.{Area, RowVersion, Title}
use Rattle.ctr_area.specs.Chains.{slot_places}
use Rattle.ctr_area.specs.Images.{is_committed_in, is_live, is_standing, rows_of_entry}
use Rattle.ctr_area.specs.Sound.{AreKeyed}
use Rattle.ctr_record_laws.proofs.Gathering.{matches, is_match, match_key, match_used, sorted-gathered, found_here, none_found}
use Rattle.ctr_reading.specs.ctr_views.Scanning.{AreScanned}
use Rattle.ctr_reading.proofs.views_Scanning.{scanned_alike}
use Rattle.ctr_reading.specs.declared.sight.Sight.{Sight}
use Rattle.ctr_reading.specs.Reading.{AreShown, sight_sees}
use Rattle.ctr_survey.specs.declared.entries.MadeBy.{MadeBy}
use Rattle.ctr_survey.specs.Standing.{title_made_by, stands_made, CountsEntry, SeesCommitted}

module _ (test : ℕ → Bool) (area : Area) (e : ℕ) (keyed : AreKeyed area) where
  abbrev chains : List (ℤ × List RowVersion)
  chains = rows_of_entry area e

  chains_sorted : T (is_sorted int_cmp chains)
  chains_sorted = sorted-gathered area.older area.slot (slot_places area e)

  abbrev seen_in : Option (List RowVersion) → Option Row
  seen_in found = value_seen test (unwrap_or found [])

  all_scanned : AreScanned test area e (entries_seen test chains)
  all_scanned = record {
    sorted = is_sorted-shown int_cmp test chains chains_sorted;
    used = λ at used.
        let key = (area.slot at).key in
        find-shown int_cmp int_cmp_total test key chains chains_sorted
        ∙ ap seen_in (found_here area.older area.slot key (slot_places area e) at used.0 (is_match area.slot key at used.1 refl)
        (λ b in_ is. keyed.once e b at (in_, match_used area.slot key b is) used (match_key area.slot key b is)));
    others = λ key none.
        find-shown int_cmp int_cmp_total test key chains chains_sorted
        ∙ ap seen_in (none_found area.older area.slot key (slot_places area e)
        (λ b in_. known (matches area.slot key b) (λ is. absurd (none b (in_, match_used area.slot key b is) (match_key area.slot key b is))) (λ isnt. isnt)));
  }

  pub shown_many : (rows : List Row) → AreShown test area e None rows → length rows ≡ length (entries_seen test chains)
  shown_many rows (entries, scanned, is) = ap length is ∙ length-map entries (λ (x : ℤ × Row). x.1) ∙ ap length (scanned_alike test area e entries (entries_seen test chains) scanned all_scanned)

-- ---- whether a table stands

by_title : (test : ℕ → Bool) (title : Title) → is_standing test title ≡ stands_made test (title_made_by title)
by_title test title = elim (is_live title) as (λ b. (b && (test title.creator && not (test title.dropper))) ≡ stands_made test (cond b (Some (record { creator = title.creator; dropper = title.dropper })) None)) [
  | true ↦ refl
  | false ↦ refl
]

-- a table stands where who reads by the tables of the store sees who made it, and not who dropped it
pub told_standing : (tables kept : Tables) (sight : Sight) (title : Title) (made : Option MadeBy) (stands : Bool) → kept ≡ tables → made ≡ title_made_by title → stands ≡ stands_made (sight_sees kept sight) made
    → is_standing (sight_sees tables sight) title ≡ stands
told_standing tables kept sight title made stands same is told =
    by_title (sight_sees tables sight) title ∙ ap (stands_made (sight_sees tables sight)) (sym is) ∙ sym (ap (λ (t : Tables). stands_made (sight_sees t sight) made) same) ∙ sym told

-- what is counted by who sees all that is committed
pub counted_committed : (tables : Tables) (sight : Sight) (area : Area) (e : ℕ) (found : Option ℕ) → SeesCommitted tables sight → CountsEntry (sight_sees tables sight) area e found → CountsEntry (is_committed_in tables) area e found
counted_committed tables sight area e found seen counts =
    let alike : sight_sees tables sight ≡ is_committed_in tables = λ i x. seen x i in subst (λ (test : ℕ → Bool). CountsEntry test area e found) alike counts
