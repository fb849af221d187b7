-- Whatever record is logged next, pages that pass stay so: an action each.
use Rattle.std.proofs.Common.{◌≡◌, ⊎_elim, inl, inr, ℕ, zero, suc, ◌+◌, ◌<◌, ◌≤◌, ◌==◌, Bool, true, cond, List, [], ◌∷◌, length, replicate, slice_index, refl, sym, ◌∙◌, ap, subst, arith}
use Rattle.std.specs.List.{flat_map}
use Rattle.std.proofs.lemmas.Bool.{false≢true, eq-eqb}
use Rattle.ctr_actions.proofs.versions_Keys.{known}
use Rattle.ctr_actions.specs.meta_Tables.{Tables}
use Rattle.ctr_actions.specs.page_Header.{Header}
use Rattle.ctr_actions.specs.page_Place.{Place}
use Rattle.ctr_actions.specs.page_Columns.{kinds_of}
use Rattle.ctr_actions.specs.area_Checked.{kinds_at}
use Rattle.ctr_actions.specs.page_Places.{bucket_of}
use Rattle.ctr_actions.specs.area_Areas.{Title, Firsts, Older, Area, no_pages}
use Rattle.ctr_actions.specs.area_Chains.{pages_bound, older_bound, pages_from, table_pages, slot_places, older_places, places_along, Leads}
use Rattle.ctr_actions.specs.area_Changes.{new_title, empty_chains}
use Rattle.ctr_actions.specs.area_Images.{is_committed_in, entry_numbers}
use Rattle.ctr_actions.specs.area_Sound.{IsAmong, IsKeptFor, EndsIn, IsOfRows, IsOfVersions, along, page_of_item, owned_pages}
use Rattle.ctr_actions.proofs.area_Buckets.{each_of, of_bucket, nothing_from_0}
use Rattle.ctr_actions.specs.record_laws_Bounds.{IsInBounds}
use Rattle.ctr_actions.specs.record_laws_Owed.{Writing, OverHead, HeadMoves, PreviousKept, HeadKept, FirstVersion, RowMove, OwedByRow, OwedByFormat, FitsWriting, IsFirstPassing}
use Rattle.ctr_actions.proofs.record_laws_Ends.{behind_chain, bucket_chain, page_ends}
use Rattle.ctr_actions.proofs.record_laws_Format.{item_alone, item_page}
use Rattle.ctr_actions.proofs.record_laws_Members.{among_rest}
use Rattle.ctr_actions.proofs.record_laws_Unlinks.{above_zero}
use Rattle.ctr_actions.specs.Sites.{Site, IsSoundSite}
use Rattle.ctr_actions.specs.Actions.{Action, Begins, Allocates, Formats, Links, LinksOlder, Keeps, Writes, Creates, Drops, Commits, Frees, Uncreates, Undrops, Aborts, Reclaims, Reverts, Trims, Cuts, FreesOlder, MakesDead, Unlinks, UnlinksOlder, FreesEntry, Forgets, Checkpoints, Owes, site_after}
use Rattle.ctr_passed.specs.Laid.{RowsPagePasses, OlderPagePasses, LiesAs, LaidPasses}
use Rattle.ctr_passed.proofs.Pagewise.{bucket_at, PassedIn}
use Rattle.ctr_passed.proofs.Passing.{map_laid, page_laid, entry_laid, slot_laid, older_laid}
use Rattle.ctr_passed.proofs.Reshaped.{rows_read, older_read, in_front, behind_it, bucket_changed, versions_changed, title_changed, blanked, entry_changed}

-- read by an area with the same entries, headers and rooms
reread : (counted : ℕ) (pages : ℕ → List ℕ) (old new : Area) → new.title ≡ old.title → new.firsts ≡ old.firsts → new.header ≡ old.header → new.room ≡ old.room → PassedIn counted pages old → PassedIn counted pages new
reread counted pages old new titles firsts headers rooms passed = record {
  entries = passed.entries;
  rows = λ e b p lt in_. rows_read counted old new pages e b p (kinds e) (room p)
      (passed.rows e b p (subst (λ (f : ℕ → Firsts). b < length (f e).buckets) firsts lt) (subst (λ header. IsAmong p (pages_from pages_bound header (bucket_at old e b))) headers (subst (λ (f : ℕ → Firsts). IsAmong p (pages_from pages_bound new.header (slice_index (f e).buckets b))) firsts in_)));
  versions = λ e p in_. older_read counted old new pages e p (kinds e) (room p)
      (passed.versions e p (subst (λ header. IsAmong p (pages_from pages_bound header (old.firsts e).versions)) headers (subst (λ (f : ℕ → Firsts). IsAmong p (pages_from pages_bound new.header (f e).versions)) firsts in_)));
}
  where
    kinds : (e : ℕ) → kinds_at new e ≡ kinds_at old e
    kinds e = ap (λ (t : ℕ → Title). kinds_of (t e).columns) titles

    room : (p : ℕ) → new.room p ≡ old.room p
    room p = ap (λ (r : ℕ → ℕ). r p) rooms

-- ---- where a place of a table is

-- a version entry that a pointer leads to is one of the table's
pub along_older : (area : Area) (e : ℕ) (key : _) (n : ℕ) (at q : Place) → Leads n area.older (IsKeptFor area e key) at → IsAmong q (places_along n area.older at) → IsAmong q (older_places area e)
along_older area e key zero at q leads in_ = absurd in_
along_older area e key (suc n) at q leads in_ = known (at.page == 0)
    (λ is. absurd (subst (IsAmong q) (ap (λ b. cond b [] (at ∷ places_along n area.older (area.older at).pointer)) is) in_))
    (λ isnt. let there = subst (IsAmong q) (ap (λ b. cond b [] (at ∷ places_along n area.older (area.older at).pointer)) isnt) in_ in
    ⊎_elim
    (λ z. absurd (false≢true (sym isnt ∙ eq-eqb at.page 0 z)))
    (λ goes. ⊎_elim (λ is. subst (λ p. IsAmong p (older_places area e)) (sym is) goes.0.0) (λ more. along_older area e key n (area.older at).pointer q goes.1 more) there)
    leads)

-- the first that passes is one of them
pub first_in : (passes : ℕ → Bool) (older : Place → Older) (q : Place) (ps : List Place) → IsFirstPassing passes older q ps → IsAmong q ps
first_in passes older q [] first = absurd first
first_in passes older q (p ∷ ps) (inl here) = inl (sym here.0)
first_in passes older q (p ∷ ps) (inr later) = inr (first_in passes older q ps later.1)

-- the slot that a Row writes
pub row_here : (tables : Tables) (area : Area) (m : RowMove) → OwedByRow tables area m → IsAmong m.at (slot_places area m.entry)
row_here tables area m owed = by m.writing owed.fits
  where
    by : (w : Writing) → FitsWriting w (is_committed_in tables) area m.entry m.key m.at → IsAmong m.at (slot_places area m.entry)
    by OverHead fits = fits.0.0.0
    by HeadMoves fits = fits.0.0.0
    by (PreviousKept q) fits = fits.0.0.0
    by (HeadKept q) fits = fits.0.0.0
    by FirstVersion fits = of_bucket area m.at (bucket_of m.key) (area.firsts m.entry).buckets fits.here (nothing_from_0 area m.at)

module _ (site : Site) (bounds : IsInBounds site.area) (sound : IsSoundSite site) (pages new : ℕ → List ℕ) (passed : PassedIn site.counted pages site.area) where
  abbrev area : Area
  area = site.area

  -- a page of an allocation's item is in no chain, and is behind the catalog
  item_off : (x p : ℕ) → OwedByFormat site.tables x p → (e : ℕ) → IsAmong p (table_pages area e) → ⊥
  item_off x p owed e in_ = item_alone site.counted site.tables area bounds sound.owned p (item_page x p site.tables.items owed).1 e in_

  pub item_third : (x p : ℕ) → OwedByFormat site.tables x p → 3 ≤ p
  item_third x p owed = (each_of (λ p. (3 ≤ p) × (p < site.counted) × (area.taken p ≡ true)) p (owned_pages site.tables.items area) sound.owned.inside
      (among_rest p (flat_map (table_pages area) entry_numbers) (flat_map page_of_item site.tables.items) (item_page x p site.tables.items owed).1)).0

  not_zero : (p : ℕ) → 3 ≤ p → p ≡ 0 → ⊥
  not_zero p ge is = omega (arith, ge, is)

  empty : (q : ℕ) → IsAmong q (pages_from pages_bound area.header 0) → ⊥
  empty q in_ = subst (IsAmong q) (page_ends area.header pages_bound 0 refl) in_

  eight : (b q : ℕ) → IsAmong q (pages_from pages_bound area.header (slice_index empty_chains.buckets b)) → ⊥
  eight b q in_ = empty q (subst (λ f. IsAmong q (pages_from pages_bound area.header f)) (zeros 8 b) in_)
    where
      zeros : (n b : ℕ) → slice_index (replicate n 0) b ≡ 0
      zeros zero b = refl
      zeros (suc n) zero = refl
      zeros (suc n) (suc b) = zeros n b

  pub passed_on : (x : ℕ) (a : Action) → Owes x a site → LiesAs a area pages new → LaidPasses a (site_after x a site).counted (site_after x a site).area new → PassedIn (site_after x a site).counted new (site_after x a site).area
  passed_on x Begins owed lies own = map_laid site.counted site.tables area bounds sound pages new passed lies
  passed_on x (Allocates p) owed lies own = reread site.counted new area (site_after x (Allocates p) site).area refl refl refl refl (map_laid site.counted site.tables area bounds sound pages new passed lies)
  passed_on x (Formats p h) owed lies own =
      blanked site.counted site.tables area bounds sound new (page_laid site.counted site.tables area bounds sound pages new passed p (item_third x p owed) (item_off x p owed) lies) p h (item_off x p owed)
  passed_on x (Links p e b) owed lies own =
      bucket_changed site.counted new area e (entry_laid site.counted site.tables area bounds sound pages new passed e lies own.0) b p
      (λ q lt in_. ⊎_elim
      (λ is. subst (λ r. RowsPagePasses site.counted area new e b r) (sym is) (record { header = own.1.header; slots = own.1.slots }))
      (λ more. (entry_laid site.counted site.tables area bounds sound pages new passed e lies own.0).rows e b q lt (subst (λ f. IsAmong q (pages_from pages_bound area.header f)) (ap (λ (h : Header). h.next) owed.header) more))
      (in_front area.header p q (not_zero p (item_third x p owed.item)) in_))
  passed_on x (LinksOlder p e) owed lies own =
      versions_changed site.counted new area e (entry_laid site.counted site.tables area bounds sound pages new passed e lies own.0) p
      (λ q in_. ⊎_elim
      (λ is. subst (λ r. OlderPagePasses site.counted area new e r) (sym is) (record { header = own.1.header; older = own.1.older }))
      (λ more. (entry_laid site.counted site.tables area bounds sound pages new passed e lies own.0).versions e q (subst (λ f. IsAmong q (pages_from pages_bound area.header f)) (ap (λ (h : Header). h.next) owed.header) more))
      (in_front area.header p q (not_zero p (item_third x p owed.item)) in_))
  passed_on x (Keeps e at older) owed lies own = reread site.counted new area (site_after x (Keeps e at older) site).area refl refl refl refl (older_laid site.counted site.tables area bounds sound pages new passed e at owed.1.here lies own)
  passed_on x (Writes m) owed lies own = reread site.counted new area (site_after x (Writes m) site).area refl refl refl refl (slot_laid site.counted site.tables area bounds sound pages new passed m.entry m.at (row_here site.tables area m owed.1) lies own)
  passed_on x (Creates e name columns left) owed lies own =
      entry_changed site.counted site.tables area bounds sound new (entry_laid site.counted site.tables area bounds sound pages new passed e lies own) e (new_title x name columns) empty_chains left owed.1
      (λ b q lt in_. eight b q in_) empty
  passed_on x (Drops e) owed lies own = title_changed site.counted new area e (entry_laid site.counted site.tables area bounds sound pages new passed e lies own) (record (area.title e) { dropper = x }) refl
  passed_on x Commits owed lies own = map_laid site.counted site.tables area bounds sound pages new passed lies
  passed_on x (Frees p) owed lies own = reread site.counted new area (site_after x (Frees p) site).area refl refl refl refl (map_laid site.counted site.tables area bounds sound pages new passed lies)
  passed_on x (Uncreates e) owed lies own = title_changed site.counted new area e (entry_laid site.counted site.tables area bounds sound pages new passed e lies own) (record (area.title e) { state = 2 }) refl
  passed_on x (Undrops e) owed lies own = title_changed site.counted new area e (entry_laid site.counted site.tables area bounds sound pages new passed e lies own) (record (area.title e) { dropper = 0 }) refl
  passed_on x Aborts owed lies own = map_laid site.counted site.tables area bounds sound pages new passed lies
  passed_on x (Reclaims p) owed lies own = reread site.counted new area (site_after x (Reclaims p) site).area refl refl refl refl (map_laid site.counted site.tables area bounds sound pages new passed lies)
  passed_on x (Reverts e at way) owed lies own = reread site.counted new area (site_after x (Reverts e at way) site).area refl refl refl refl (slot_laid site.counted site.tables area bounds sound pages new passed e at owed.used.0 lies own)
  passed_on x (Trims passes e at way) owed lies own = reread site.counted new area (site_after x (Trims passes e at way) site).area refl refl refl refl (slot_laid site.counted site.tables area bounds sound pages new passed e at owed.used.0 lies own)
  passed_on x (Cuts passes e at q) owed lies own = reread site.counted new area (site_after x (Cuts passes e at q) site).area refl refl refl refl (older_laid site.counted site.tables area bounds sound pages new passed e q
      (along_older area e (area.slot at).key older_bound (area.slot at).pointer q (sound.pointers.lead e at owed.used) (first_in passes area.older q (along area at) owed.first)) lies own)
  passed_on x (FreesOlder e q) owed lies own = reread site.counted new area (site_after x (FreesOlder e q) site).area refl refl refl refl (older_laid site.counted site.tables area bounds sound pages new passed e q owed.here lies own)
  passed_on x (MakesDead passes e) owed lies own = title_changed site.counted new area e (entry_laid site.counted site.tables area bounds sound pages new passed e lies own) (record (area.title e) { state = 2 }) refl
  passed_on x (Unlinks p e b) owed lies own =
      let laid = entry_laid site.counted site.tables area bounds sound pages new passed e lies own in
      bucket_changed site.counted new area e laid b (area.header p).next
      (λ q lt in_. laid.rows e b q lt (subst (λ f. IsAmong q (pages_from pages_bound area.header f)) (sym owed.first) (behind_it area.header p q
      (behind_chain area.header p (area.header p).next (above_zero p owed.some) refl (IsOfRows e (0 + b)) (subst (EndsIn pages_bound area.header (IsOfRows e (0 + b))) owed.first (bucket_chain area e 0 b (area.firsts e).buckets owed.there (sound.readable.rows e)))).0 in_)))
  passed_on x (UnlinksOlder p e) owed lies own =
      let laid = entry_laid site.counted site.tables area bounds sound pages new passed e lies own in
      versions_changed site.counted new area e laid (area.header p).next
      (λ q in_. laid.versions e q (subst (λ f. IsAmong q (pages_from pages_bound area.header f)) (sym owed.first) (behind_it area.header p q
      (behind_chain area.header p (area.header p).next (above_zero p owed.some) refl (IsOfVersions e) (subst (EndsIn pages_bound area.header (IsOfVersions e)) owed.first (sound.readable.versions e))).0 in_)))
  passed_on x (FreesEntry e title left) owed lies own =
      entry_changed site.counted site.tables area bounds sound new (entry_laid site.counted site.tables area bounds sound pages new passed e lies own) e title no_pages left owed.2
      (λ b q lt in_. none b lt) empty
    where
      none : (b : ℕ) → b < 0 → ⊥
      none b lt = omega (arith, lt)
  passed_on x (Forgets y) owed lies own = map_laid site.counted site.tables area bounds sound pages new passed lies
  passed_on x (Checkpoints lists) owed lies own = map_laid site.counted site.tables area bounds sound pages new passed lies
