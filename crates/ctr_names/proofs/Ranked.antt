-- What the catalog has at a number is what the chain of a name shows there; and who is among the changes of it.
use Rattle.std.proofs.Common.{Bool, List, None, Option, Some, [], ap, arith, cond, false, refl, sym, true, ℕ, ⊎_elim, ◌+◌, ◌<◌, ◌∙◌, ◌∷◌, ◌≡◌, ◌≤◌, ◌⊎◌}
use Rattle.std.specs.List.{AllByRecursion}
use Rattle.std.specs.Option.{option_or}
use Rattle.std.specs.Prelude.{is_some}
use Rattle.std.proofs.lemmas.Bool.{cases_lt, false≢true, le-leb, leb-true}
use Rattle.ctr_types.specs.declared.value.Schema.{Schema}
use Rattle.ctr_record_laws.specs.versions_Chains.{AllTold, IsChangeTold, IsUnwritten, Numbers, by, is_by, last_write, value_seen}
use Rattle.ctr_record_laws.specs.versions_Versions.{schemas}
use Rattle.ctr_record_laws.proofs.versions_Undoing.{of_schemas}
use Rattle.ctr_record_laws.specs.meta_Tables.{Tables}
use Rattle.ctr_record_laws.specs.area_Areas.{Area, Title}
use Rattle.ctr_record_laws.specs.area_Images.{is_committed_in, is_live, is_named_so, is_standing, made_by_entry, name_chain}
use Rattle.ctr_record_laws.specs.Bounds.{IsInBounds}
use Rattle.ctr_record_laws.specs.Owed.{AgreeOnCommits}
use Rattle.ctr_names.specs.Stand.{NamesStand}
use Rattle.ctr_names.proofs.Chains.{entries_in}
use Rattle.ctr_names.proofs.Entries.{name_of}
use Rattle.ctr_names.proofs.Scan.{IsRanked, none_standing_shows, standing_shows}

module _ (low : ℕ) (tables : Tables) (area : Area) (number : Numbers) (agree : AgreeOnCommits number tables) (one : NamesStand low number area.title) (j : ℕ) (from : low ≤ j) (name : List ℕ) where
  abbrev committed : ℕ → Bool
  committed = is_committed_in tables

  abbrev sees : ℕ → Bool
  sees = by number j

  has_number : (d : ℕ) → committed d ≡ true → (k : ℕ) × (number d ≡ Some k)
  has_number d is = elim (number d) as (λ o. number d ≡ o → (k : ℕ) × (number d ≡ Some k)) [
    | None ↦ λ none. absurd (false≢true (ap is_some (sym none) ∙ agree d ∙ is))
    | Some k ↦ λ some. (k, some)
  ] refl

  seen_number : (d : ℕ) → sees d ≡ true → (k : ℕ) × (number d ≡ Some k) × (k ≤ j)
  seen_number d is = elim (number d) as (λ o. number d ≡ o → (k : ℕ) × (number d ≡ Some k) × (k ≤ j)) [
    | None ↦ λ none. absurd (false≢true (sym (ap (is_by j) none) ∙ is))
    | Some k ↦ λ some. (k, some, leb-true k j (sym (ap (is_by j) some) ∙ is))
  ] refl

  gone : (d : ℕ) → sees d ≡ true → committed d ≡ true
  gone d is = sym (agree d) ∙ ap is_some (seen_number d is).1

  ranked : (e f : ℕ) → e < 32 → f < 32 → is_named_so name (e, area.title e) ≡ true → is_named_so name (f, area.title f) ≡ true → IsRanked committed sees gone refl (e, area.title e) (f, area.title f)
  ranked e f lt_e lt_f is_e is_f le seen was =
      let of_f = seen_number (area.title f).dropper seen in
      let of_e = has_number (area.title e).dropper was in
      let its_e = name_of area.title name e is_e in
      let its_f = name_of area.title name f is_f in
      ap (is_by j) of_e.1 ∙ le-leb of_e.0 j (further of_e.0 of_f.0 (one.ranked e f of_e.0 of_f.0 lt_e lt_f its_e.0 its_f.0 (its_e.1 ∙ sym its_f.1) of_e.1 of_f.1 le) of_f.2)
    where
      further : (i k : ℕ) → i ≤ k → k ≤ j → i ≤ j
      further i k a b = omega (arith, a, b)

  -- An entry of the name that stands at the number is what the chain shows.
  pub found_shows : (f : ℕ) → f < 32 → is_named_so name (f, area.title f) ≡ true → is_standing sees (area.title f) ≡ true → value_seen sees (name_chain committed area.title name) ≡ Some (made_by_entry (f, area.title f))
  found_shows = standing_shows committed sees gone refl area.title name ranked (one.one j from)

  -- Where none stands, it shows none.
  pub none_shows : ((f : ℕ) → f < 32 → is_named_so name (f, area.title f) ≡ true → is_standing sees (area.title f) ≡ false) → value_seen sees (name_chain committed area.title name) ≡ None
  none_shows = none_standing_shows committed sees gone refl area.title name ranked (one.one j from)

-- nobody is seen at no number
pub nobody_seen : (number : Numbers) (tables : Tables) → AgreeOnCommits number tables → (j : ℕ) → by number j 0 ≡ false
nobody_seen number tables agree j = ap (is_by j) (none_number (number 0) refl)
  where
    none_number : (o : Option ℕ) → number 0 ≡ o → number 0 ≡ None
    none_number None is = is
    none_number (Some k) is = absurd (false≢true (sym (agree 0) ∙ ap is_some is))

-- ---- who changed a name

-- who is steady is unchanged
pub steady_none : {V : Type 0} (k : ℕ) (ws : List (Option (Option V))) → AllByRecursion IsUnwritten ws → last_write k ws ≡ None
steady_none k [] all = refl
steady_none k (w ∷ ws) all = (λ i. option_or (steady_none (k + 1) ws all.1 i) (cond (is_some (all.0 i)) (Some k) None))

-- Who made a table of a name or dropped it, with a number above n, is among those that changed it since.
pub told_entry : (number : Numbers) (n : ℕ) (writes : List (Option (Option Schema))) (test : ℕ → Bool) (title : ℕ → Title) (name : List ℕ) → AllTold number n writes (schemas (name_chain test title name))
    → (f : ℕ) → f < 32 → is_named_so name (f, title f) ≡ true → IsChangeTold number n writes (title f).creator × (((title f).dropper ≡ 0) ⊎ IsChangeTold number n writes (title f).dropper)
told_entry number n writes test title name told = entries_in (IsChangeTold number n writes) test title name (of_schemas (IsChangeTold number n writes) (name_chain test title name) told)

-- live entries are of the catalog
pub within_catalog : (area : Area) → IsInBounds area → (f : ℕ) → is_live (area.title f) ≡ true → f < 32
within_catalog area bounds f alive = ⊎_elim (λ lt. lt) (λ le. absurd (false≢true (sym (ap is_live (bounds.titles f le)) ∙ alive))) (cases_lt f 32)
