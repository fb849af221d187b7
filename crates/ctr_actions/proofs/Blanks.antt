-- An empty page that a transaction has allocated stays empty, with its header, over actions beside it.
use Rattle.std.proofs.Common.{◌≡◌, ◌≢◌, ℕ, cond, refl, sym, ◌∙◌, ap}
use Rattle.std.proofs.lemmas.Bool.{ne_eqb}
use Rattle.ctr_record_laws.specs.area_Areas.{Title, Firsts, Slot, Older, Area, nowhere, free_slot, free_older, no_pages}
use Rattle.ctr_record_laws.specs.area_Changes.{with_slot, with_older, new_title, empty_chains, ChangesEntry}
use Rattle.ctr_record_laws.specs.area_Images.{is_committed_in}
use Rattle.ctr_record_laws.proofs.Fitting.{fitting, place_of}
use Rattle.ctr_record_laws.proofs.OneSlot.{other_place, place_cases, slot_apart}
use Rattle.ctr_record_laws.proofs.Kept.{older_here, older_apart}
use Rattle.ctr_record_laws.specs.Bounds.{IsInBounds}
use Rattle.ctr_record_laws.specs.page_Header.{Header}
use Rattle.ctr_record_laws.specs.page_Place.{Place}
use Rattle.ctr_record_laws.specs.Owed.{slot_by, reverted_slot, trimmed_slot, cut_at, OwedByFormat, IsEmptyPage}
use Rattle.ctr_actions.specs.Sites.{Site, IsSoundSite}
use Rattle.ctr_actions.specs.Actions.{Action, Begins, Allocates, Formats, Links, LinksOlder, Keeps, Writes, Creates, Drops, Commits, Frees, Uncreates, Undrops, Aborts, Reclaims, Reverts, Trims, Cuts, FreesOlder, MakesDead, Unlinks, UnlinksOlder, FreesEntry, Forgets, Checkpoints, Owes, site_after}
use Rattle.ctr_actions.specs.Facts.{HasBlank, IsAway, IsBeside}
use Rattle.ctr_actions.proofs.Owners.{slot_elsewhere, older_elsewhere}

module _ (x p : ℕ) (s : Site) (bounds : IsInBounds s.area) (sound : IsSoundSite s) (mine : OwedByFormat s.tables x p) where
  pub header_stays : (y : ℕ) (a : Action) (h : Header) → Owes y a s → IsBeside a (HasBlank p h) → (site_after y a s).area.header p ≡ s.area.header p
  header_stays y Begins h owed beside = refl
  header_stays y (Allocates q) h owed beside = refl
  header_stays y (Formats q g) h owed beside = ap (λ b. cond b g (s.area.header p)) (ne_eqb p q beside)
  header_stays y (Links q f k) h owed beside = refl
  header_stays y (LinksOlder q f) h owed beside = refl
  header_stays y (Keeps f b older) h owed beside = refl
  header_stays y (Writes m) h owed beside = refl
  header_stays y (Creates f name columns left) h owed beside = owed.1.headers p
  header_stays y (Drops f) h owed beside = refl
  header_stays y Commits h owed beside = refl
  header_stays y (Frees q) h owed beside = refl
  header_stays y (Uncreates f) h owed beside = refl
  header_stays y (Undrops f) h owed beside = refl
  header_stays y Aborts h owed beside = refl
  header_stays y (Reclaims q) h owed beside = refl
  header_stays y (Reverts f b way) h owed beside = refl
  header_stays y (Trims passes f b way) h owed beside = refl
  header_stays y (Cuts passes f b r) h owed beside = refl
  header_stays y (FreesOlder f r) h owed beside = refl
  header_stays y (MakesDead passes f) h owed beside = refl
  header_stays y (Unlinks q f k) h owed beside = refl
  header_stays y (UnlinksOlder q f) h owed beside = refl
  header_stays y (FreesEntry f was left) h owed beside = owed.2.headers p
  header_stays y (Forgets z) h owed beside = refl
  header_stays y (Checkpoints lists) h owed beside = refl

  -- on another page another place is another place
  off : (b at : Place) → b.page ≡ p → at.page ≢ p → b ≢ at
  off b at here elsewhere is = elsewhere (sym (ap (λ (q : Place). q.page) is) ∙ here)

  slot_off : (at : Place) (slot : Slot) → at.page ≢ p → IsEmptyPage s.area p → IsEmptyPage (with_slot at slot s.area) p
  slot_off at slot elsewhere empty b here =
      (ap (λ (t : Slot). t.used) (slot_apart s.area at slot b (off b at here elsewhere)) ∙ (empty b here).0, (empty b here).1)

  older_off : (at : Place) (older : Older) → at.page ≢ p → IsEmptyPage s.area p → IsEmptyPage (with_older at older s.area) p
  older_off at older elsewhere empty b here =
      ((empty b here).0, ap (λ t. (cond t older (s.area.older b)).used) (other_place b at (off b at here elsewhere)) ∙ (empty b here).1)

  -- entries of another page's table come or go
  entry_off : (f : ℕ) (title : Title) (t : Firsts) (left : Area) (h : Header) → s.area.header p ≡ h → h.entry ≢ f → ChangesEntry f title t s.area left → IsEmptyPage s.area p → IsEmptyPage left p
  entry_off f title t left h is other changes empty b here =
      let elsewhere : (s.area.header b.page).entry ≢ f = λ same_. other (sym (ap (λ (g : Header). g.entry) (ap s.area.header here ∙ is)) ∙ same_) in
      (ap (λ (t : Slot). t.used) (changes.slots b elsewhere) ∙ (empty b here).0, ap (λ (t : Older). t.used) (changes.older b elsewhere) ∙ (empty b here).1)

  -- a version entry leads nowhere from now on
  cut_off : (r : Place) → IsEmptyPage s.area p → IsEmptyPage (cut_at r s.area) p
  cut_off r empty b here =
      let ending : Older = record (s.area.older r) { pointer = nowhere } in (
        (empty b here).0,
        place_cases b r
            (λ is. ap (λ (t : Older). t.used) (older_here s.area r ending b is) ∙ ap (λ (c : Place). (s.area.older c).used) (sym is))
            (λ isnt. ap (λ (t : Older). t.used) (older_apart s.area r ending b isnt)) ∙ (empty b here).1,
      )

  pub empty_stays : (y : ℕ) (a : Action) (h : Header) → Owes y a s → s.area.header p ≡ h → IsAway a (HasBlank p h) → IsBeside a (HasBlank p h) → IsEmptyPage s.area p → IsEmptyPage (site_after y a s).area p
  empty_stays y Begins h owed is away beside empty = empty
  empty_stays y (Allocates q) h owed is away beside empty = empty
  empty_stays y (Formats q g) h owed is away beside empty = λ b here.
      let other = ne_eqb b.page q (λ same_. beside (sym here ∙ same_)) in
      (ap (λ t. (cond t free_slot (s.area.slot b)).used) other ∙ (empty b here).0, ap (λ t. (cond t free_older (s.area.older b)).used) other ∙ (empty b here).1)
  empty_stays y (Links q f k) h owed is away beside empty = empty
  empty_stays y (LinksOlder q f) h owed is away beside empty = empty
  empty_stays y (Keeps f b older) h owed is away beside empty = older_off b older (older_elsewhere x p s bounds sound mine f b owed.1.here) empty
  empty_stays y (Writes m) h owed is away beside empty =
      let fits = fitting (is_committed_in s.tables) s.area m.entry m.key m.at m.writing owed.1.fits in
      slot_off m.at (slot_by m s.area) (slot_elsewhere x p s bounds sound mine m.entry m.at (place_of (is_committed_in s.tables) s.area m.entry m.key m.at fits)) empty
  empty_stays y (Creates f name columns left) h owed is away beside empty = entry_off f (new_title y name columns) empty_chains left h is away owed.1 empty
  empty_stays y (Drops f) h owed is away beside empty = empty
  empty_stays y Commits h owed is away beside empty = empty
  empty_stays y (Frees q) h owed is away beside empty = empty
  empty_stays y (Uncreates f) h owed is away beside empty = empty
  empty_stays y (Undrops f) h owed is away beside empty = empty
  empty_stays y Aborts h owed is away beside empty = empty
  empty_stays y (Reclaims q) h owed is away beside empty = empty
  empty_stays y (Reverts f b way) h owed is away beside empty = slot_off b (reverted_slot way s.area.older (s.area.slot b)) (slot_elsewhere x p s bounds sound mine f b owed.used.0) empty
  empty_stays y (Trims passes f b way) h owed is away beside empty = slot_off b (trimmed_slot way (s.area.slot b)) (slot_elsewhere x p s bounds sound mine f b owed.used.0) empty
  empty_stays y (Cuts passes f b r) h owed is away beside empty = cut_off r empty
  empty_stays y (FreesOlder f r) h owed is away beside empty = older_off r free_older (older_elsewhere x p s bounds sound mine f r owed.here) empty
  empty_stays y (MakesDead passes f) h owed is away beside empty = empty
  empty_stays y (Unlinks q f k) h owed is away beside empty = empty
  empty_stays y (UnlinksOlder q f) h owed is away beside empty = empty
  empty_stays y (FreesEntry f was left) h owed is away beside empty = entry_off f was no_pages left h is away owed.2 empty
  empty_stays y (Forgets z) h owed is away beside empty = empty
  empty_stays y (Checkpoints lists) h owed is away beside empty = empty
