-- Pages that pass, read by the area that a record leaves.
use Rattle.std.proofs.Common.{◌≡◌, ◌≢◌, ◌⊎◌, ⊎_elim, inl, inr, ℕ, zero, suc, ◌<◌, ◌==◌, cond, List, [], ◌∷◌, length, set, slice_index, refl, sym, ◌∙◌, ap, subst, arith}
use Rattle.std.proofs.lemmas.Bool.{eq-eqb, eqb-true, ne_eqb, cases_eq}
use Rattle.ctr_types.specs.declared.value.Kind.{Kind}
use Rattle.ctr_actions.proofs.versions_Keys.{known}
use Rattle.ctr_actions.specs.meta_Tables.{Tables}
use Rattle.ctr_actions.specs.page_Header.{Header}
use Rattle.ctr_actions.specs.page_Columns.{kinds_of, slot_start, kept_start}
use Rattle.ctr_actions.specs.page_Damage.{slot_check, kept_check}
use Rattle.ctr_actions.specs.area_Areas.{Title, Firsts, free_slot, free_older, Area}
use Rattle.ctr_actions.specs.area_Chains.{pages_bound, pages_from, table_pages}
use Rattle.ctr_actions.specs.area_Changes.{with_firsts, with_bucket, with_title, with_blank, room_by, ChangesEntry}
use Rattle.ctr_actions.specs.area_Checked.{Passes, kinds_at}
use Rattle.ctr_actions.specs.area_Sound.{IsAmong, IsSoundArea}
use Rattle.ctr_actions.specs.record_laws_Bounds.{IsInBounds}
use Rattle.ctr_actions.proofs.record_laws_Away.{IsSameOn, pages_same}
use Rattle.ctr_actions.proofs.record_laws_Ends.{steps, page_goes_on, page_ends}
use Rattle.ctr_passed.specs.Laid.{RowsPagePasses, OlderPagePasses}
use Rattle.ctr_passed.proofs.Pagewise.{bucket_at, PassedIn}
use Rattle.ctr_passed.proofs.Passing.{of_rows, of_versions, in_rows, in_versions}

-- ---- a page, read by another area

-- with the same columns and room
pub rows_read : (counted : ℕ) (old new : Area) (pages : ℕ → List ℕ) (e b p : ℕ) → kinds_at new e ≡ kinds_at old e → new.room p ≡ old.room p → RowsPagePasses counted old pages e b p → RowsPagePasses counted new pages e b p
rows_read counted old new pages e b p kinds room was = record {
  header = was.header;
  slots = λ n fits. subst (λ (ks : List Kind). Passes (slot_check ks counted (slot_start ks n) (pages p))) (sym kinds) (was.slots n (subst (λ m. n < m) room fits));
}

pub older_read : (counted : ℕ) (old new : Area) (pages : ℕ → List ℕ) (e p : ℕ) → kinds_at new e ≡ kinds_at old e → new.room p ≡ old.room p → OlderPagePasses counted old pages e p → OlderPagePasses counted new pages e p
older_read counted old new pages e p kinds room was = record {
  header = was.header;
  older = λ n fits. subst (λ (ks : List Kind). Passes (kept_check ks counted (kept_start ks n) (pages p))) (sym kinds) (was.older n (subst (λ m. n < m) room fits));
}

-- ---- chains that begin at another page

-- a shorter walk sees no more pages
shorter : (n : ℕ) (header : ℕ → Header) (first q : ℕ) → IsAmong q (pages_from n header first) → IsAmong q (pages_from (suc n) header first)
shorter zero header first q in_ = absurd in_
shorter (suc n) header first q in_ = known (first == 0)
    (λ is. absurd (subst (IsAmong q) (ap (λ b. cond b [] (first ∷ pages_from n header (header first).next)) is) in_))
    (λ isnt. subst (IsAmong q) (sym (ap (λ b. cond b [] (first ∷ pages_from (suc n) header (header first).next)) isnt))
    (⊎_elim (λ here. inl here) (λ there. inr (shorter n header (header first).next q there))
    (subst (IsAmong q) (ap (λ b. cond b [] (first ∷ pages_from n header (header first).next)) isnt) in_)))

-- a page in front of a chain
pub in_front : (header : ℕ → Header) (p q : ℕ) → (p ≡ 0 → ⊥) → IsAmong q (pages_from pages_bound header p) → (q ≡ p) ⊎ IsAmong q (pages_from pages_bound header (header p).next)
in_front header p q some in_ =
    let m = steps.0 in
    ⊎_elim (λ is. inl is) (λ there. inr (subst (λ n. IsAmong q (pages_from n header (header p).next)) (sym steps.1) (shorter m header (header p).next q there)))
    (subst (IsAmong q) (ap (λ n. pages_from n header p) steps.1 ∙ page_goes_on header m p some) in_)

pub behind_it : (header : ℕ → Header) (p q : ℕ) → pages_from pages_bound header p ≡ p ∷ pages_from pages_bound header (header p).next → IsAmong q (pages_from pages_bound header (header p).next) → IsAmong q (pages_from pages_bound header p)
behind_it header p q goes in_ = subst (IsAmong q) (sym goes) (inr in_)

no_chain : (header : ℕ → Header) (q : ℕ) → IsAmong q (pages_from pages_bound header 0) → ⊥
no_chain header q in_ = subst (IsAmong q) (page_ends header pages_bound 0 refl) in_

-- ---- other first pages of one entry

module _ (counted : ℕ) (pages : ℕ → List ℕ) (area : Area) (e : ℕ) (t : Firsts) (passed : PassedIn counted pages area) where
  abbrev changed : Area
  changed = with_firsts e t area

  here : changed.firsts e ≡ t
  here = ap (λ b. cond b t (area.firsts e)) (eq-eqb e e refl)

  apart : (f : ℕ) → f ≢ e → changed.firsts f ≡ area.firsts f
  apart f isnt = ap (λ b. cond b t (area.firsts f)) (ne_eqb f e isnt)

  -- the pages of the entry's chains pass
  pub firsts_changed : ((b p : ℕ) → b < length t.buckets → IsAmong p (pages_from pages_bound area.header (slice_index t.buckets b)) → RowsPagePasses counted area pages e b p)
      → ((p : ℕ) → IsAmong p (pages_from pages_bound area.header t.versions) → OlderPagePasses counted area pages e p) → PassedIn counted pages changed
  firsts_changed rows versions = record {
    entries = passed.entries;
    rows = λ f b p lt in_. rows_read counted area changed pages f b p refl refl (⊎_elim
        (λ is. subst (λ g. RowsPagePasses counted area pages g b p) (sym is)
        (rows b p (subst (λ (u : Firsts). b < length u.buckets) here (subst (λ g. b < length (changed.firsts g).buckets) is lt))
        (subst (λ (u : Firsts). IsAmong p (pages_from pages_bound area.header (slice_index u.buckets b))) here (subst (λ g. IsAmong p (pages_from pages_bound area.header (bucket_at changed g b))) is in_))))
        (λ isnt. passed.rows f b p (subst (λ (u : Firsts). b < length u.buckets) (apart f isnt) lt) (subst (λ (u : Firsts). IsAmong p (pages_from pages_bound area.header (slice_index u.buckets b))) (apart f isnt) in_))
        (cases_eq f e));
    versions = λ f p in_. older_read counted area changed pages f p refl refl (⊎_elim
        (λ is. subst (λ g. OlderPagePasses counted area pages g p) (sym is)
        (versions p (subst (λ (u : Firsts). IsAmong p (pages_from pages_bound area.header u.versions)) here (subst (λ g. IsAmong p (pages_from pages_bound area.header (changed.firsts g).versions)) is in_))))
        (λ isnt. passed.versions f p (subst (λ (u : Firsts). IsAmong p (pages_from pages_bound area.header u.versions)) (apart f isnt) in_))
        (cases_eq f e));
  }

-- one bucket begins at another page
pub set_there : (ps : List ℕ) (b k y : ℕ) → b < length (set ps k y) → (b < length ps) × (((b ≡ k) × (slice_index (set ps k y) b ≡ y)) ⊎ (slice_index (set ps k y) b ≡ slice_index ps b))
set_there [] b k y lt = absurd (omega (arith, lt))
set_there (p ∷ ps) zero zero y lt = (omega arith, inl (refl, refl))
set_there (p ∷ ps) (suc b) zero y lt = (lt, inr refl)
set_there (p ∷ ps) zero (suc k) y lt = (omega arith, inr refl)
set_there (p ∷ ps) (suc b) (suc k) y lt =
    let rest = set_there ps b k y (omega (arith, lt)) in
    (omega (arith, rest.0), ⊎_elim (λ one. inl (ap suc one.0, one.1)) (λ two. inr two) rest.1)

module _ (counted : ℕ) (pages : ℕ → List ℕ) (area : Area) (e : ℕ) (passed : PassedIn counted pages area) where
  pub bucket_changed : (k y : ℕ) → ((p : ℕ) → k < length (area.firsts e).buckets → IsAmong p (pages_from pages_bound area.header y) → RowsPagePasses counted area pages e k p) → PassedIn counted pages (with_firsts e (with_bucket k y (area.firsts e)) area)
  bucket_changed k y rows = firsts_changed counted pages area e (with_bucket k y (area.firsts e)) passed
      (λ b p lt in_. let its = set_there (area.firsts e).buckets b k y lt in ⊎_elim
      (λ one. subst (λ c. RowsPagePasses counted area pages e c p) (sym one.0) (rows p (subst (λ c. c < length (area.firsts e).buckets) one.0 its.0) (subst (λ f. IsAmong p (pages_from pages_bound area.header f)) one.1 in_)))
      (λ two. passed.rows e b p its.0 (subst (λ f. IsAmong p (pages_from pages_bound area.header f)) two in_)) its.1)
      (λ p in_. passed.versions e p in_)

  pub versions_changed : (y : ℕ) → ((p : ℕ) → IsAmong p (pages_from pages_bound area.header y) → OlderPagePasses counted area pages e p) → PassedIn counted pages (with_firsts e (record (area.firsts e) { versions = y }) area)
  versions_changed y versions = firsts_changed counted pages area e (record (area.firsts e) { versions = y }) passed (λ b p lt in_. passed.rows e b p lt in_) versions

  -- a title with the same columns
  pub title_changed : (u : Title) → u.columns ≡ (area.title e).columns → PassedIn counted pages (with_title e u area)
  title_changed u columns = record {
    entries = passed.entries;
    rows = λ f b p lt in_. rows_read counted area (with_title e u area) pages f b p (kinds f) refl (passed.rows f b p lt in_);
    versions = λ f p in_. older_read counted area (with_title e u area) pages f p (kinds f) refl (passed.versions f p in_);
  }
    where
      kinds : (f : ℕ) → kinds_at (with_title e u area) f ≡ kinds_at area f
      kinds f = ap kinds_of (known (f == e)
          (λ is. ap (λ b. (cond b u (area.title f)).columns) is ∙ columns ∙ ap (λ g. (area.title g).columns) (sym (eqb-true f e is)))
          (λ isnt. ap (λ b. (cond b u (area.title f)).columns) isnt))

-- ---- a page that no chain has is blank; an entry's chains are empty

module _ (counted : ℕ) (tables : Tables) (area : Area) (bounds : IsInBounds area) (sound : IsSoundArea counted tables area) (pages : ℕ → List ℕ) (passed : PassedIn counted pages area) where
  pub blanked : (p : ℕ) (h : Header) → ((e : ℕ) → IsAmong p (table_pages area e) → ⊥) → PassedIn counted pages (with_blank p h area)
  blanked p h alone = record {
    entries = passed.entries;
    rows = λ e b q lt in_.
        let was = subst (IsAmong q) (chain_same (bucket_at area e b) (λ r there. off e r (in_rows counted tables area bounds sound e b r lt there))) in_ in
        rows_read counted area (with_blank p h area) pages e b q refl (room_same q (off e q (in_rows counted tables area bounds sound e b q lt was))) (passed.rows e b q lt was);
    versions = λ e q in_.
        let was = subst (IsAmong q) (chain_same (area.firsts e).versions (λ r there. off e r (in_versions counted tables area bounds sound e r there))) in_ in
        older_read counted area (with_blank p h area) pages e q refl (room_same q (off e q (in_versions counted tables area bounds sound e q was))) (passed.versions e q was);
  }
    where
      off : (e q : ℕ) → IsAmong q (table_pages area e) → q ≢ p
      off e q in_ is = alone e (subst (λ r. IsAmong r (table_pages area e)) is in_)

      room_same : (q : ℕ) → q ≢ p → (with_blank p h area).room q ≡ area.room q
      room_same q isnt = ap (λ b. cond b (room_by area h) (area.room q)) (ne_eqb q p isnt)

      same_ : IsSameOn (λ q. q ≢ p) area (with_blank p h area)
      same_ = record {
        headers = λ q isnt. ap (λ b. cond b h (area.header q)) (ne_eqb q p isnt);
        rooms = room_same;
        slots = λ at isnt. ap (λ b. cond b free_slot (area.slot at)) (ne_eqb at.page p isnt);
        older = λ at isnt. ap (λ b. cond b free_older (area.older at)) (ne_eqb at.page p isnt);
      }

      chain_same : (first : ℕ) → ((r : ℕ) → IsAmong r (pages_from pages_bound area.header first) → r ≢ p) → pages_from pages_bound (with_blank p h area).header first ≡ pages_from pages_bound area.header first
      chain_same first all = pages_same (λ q. q ≢ p) area (with_blank p h area) same_ pages_bound first all

  -- an entry is another one, of which no chain has a page
  pub entry_changed : (e : ℕ) (u : Title) (t : Firsts) (new : Area) → ChangesEntry e u t area new
      → ((b q : ℕ) → b < length t.buckets → IsAmong q (pages_from pages_bound area.header (slice_index t.buckets b)) → ⊥) → ((q : ℕ) → IsAmong q (pages_from pages_bound area.header t.versions) → ⊥)
      → PassedIn counted pages new
  entry_changed e u t new changes no_rows no_versions = record {
    entries = passed.entries;
    rows = λ f b q lt in_. ⊎_elim
        (λ is. absurd (no_rows b q (subst (λ (v : Firsts). b < length v.buckets) (its f is) lt)
        (subst (λ (v : Firsts). IsAmong q (pages_from pages_bound area.header (slice_index v.buckets b))) (its f is) (subst (λ header. IsAmong q (pages_from pages_bound header (bucket_at new f b))) headers in_))))
        (λ isnt. let lt_was = subst (λ (v : Firsts). b < length v.buckets) (others f isnt) lt in
        let was = subst (λ (v : Firsts). IsAmong q (pages_from pages_bound area.header (slice_index v.buckets b))) (others f isnt) (subst (λ header. IsAmong q (pages_from pages_bound header (bucket_at new f b))) headers in_) in
        rows_read counted area new pages f b q (kinds f isnt) (changes.rooms q (λ is. isnt (sym (of_rows counted tables area bounds sound f b q lt_was was).1 ∙ is))) (passed.rows f b q lt_was was))
        (cases_eq f e);
    versions = λ f q in_. ⊎_elim
        (λ is. absurd (no_versions q (subst (λ (v : Firsts). IsAmong q (pages_from pages_bound area.header v.versions)) (its f is) (subst (λ header. IsAmong q (pages_from pages_bound header (new.firsts f).versions)) headers in_))))
        (λ isnt. let was = subst (λ (v : Firsts). IsAmong q (pages_from pages_bound area.header v.versions)) (others f isnt) (subst (λ header. IsAmong q (pages_from pages_bound header (new.firsts f).versions)) headers in_) in
        older_read counted area new pages f q (kinds f isnt) (changes.rooms q (λ is. isnt (sym (of_versions counted tables area bounds sound f q was).1 ∙ is))) (passed.versions f q was))
        (cases_eq f e);
  }
    where
      headers : new.header ≡ area.header
      headers = λ i q. changes.headers q i

      its : (f : ℕ) → f ≡ e → new.firsts f ≡ t
      its f is = changes.firsts f ∙ ap (λ b. cond b t (area.firsts f)) (eq-eqb f e is)

      others : (f : ℕ) → f ≢ e → new.firsts f ≡ area.firsts f
      others f isnt = changes.firsts f ∙ ap (λ b. cond b t (area.firsts f)) (ne_eqb f e isnt)

      kinds : (f : ℕ) → f ≢ e → kinds_at new f ≡ kinds_at area f
      kinds f isnt = ap (λ (v : Title). kinds_of v.columns) (changes.titles f ∙ ap (λ b. cond b u (area.title f)) (ne_eqb f e isnt))
