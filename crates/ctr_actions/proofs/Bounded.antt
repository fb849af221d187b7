-- What an action leaves is in its bounds.
use Rattle.std.proofs.Common.{◌≡◌, ⊎_elim, ℕ, ◌<◌, ◌≤◌, Bool, true, false, cond, length, drop, refl, sym, ◌∙◌, ap, subst, arith}
use Rattle.std.proofs.lemmas.Bool.{false≢true, eqb-true, ne_eqb, cases_lt}
use Rattle.std.specs.Prelude.{◌==◌}
use Rattle.ctr_record_laws.specs.area_Areas.{Title, Firsts, no_pages}
use Rattle.ctr_record_laws.specs.area_Changes.{with_title, with_firsts, with_bucket, room_by}
use Rattle.ctr_record_laws.specs.area_Images.{is_live}
use Rattle.ctr_record_laws.specs.page_Header.{Header}
use Rattle.ctr_record_laws.specs.rec_SlogItem.TheVariants.{CreateOf, DropOf}
use Rattle.ctr_record_laws.proofs.Bounds.{room_few}
use Rattle.ctr_record_laws.proofs.Links.{bucket_inside}
use Rattle.ctr_record_laws.proofs.Unlinks.{older_inside, above_zero}
use Rattle.ctr_record_laws.specs.Bounds.{IsInBounds}
use Rattle.ctr_record_laws.specs.value_Payload.{width}
use Rattle.ctr_record_laws.proofs.versions_Keys.{known}
use Rattle.ctr_actions.specs.Sites.{Site, IsSoundSite}
use Rattle.ctr_actions.specs.Actions.{Action, Begins, Allocates, Formats, Links, LinksOlder, Keeps, Writes, Creates, Drops, Commits, Frees, Uncreates, Undrops, Aborts, Reclaims, Reverts, Trims, Cuts, FreesOlder, MakesDead, Unlinks, UnlinksOlder, FreesEntry, Forgets, Checkpoints, Owes, site_after, LeavesBounds}
use Rattle.ctr_actions.proofs.Latest.{last_among}

none : {k : ℕ} → k < 0 → ⊥
none lt = omega (arith, lt)

not_free : {n : ℕ} → n ≡ 2 → n ≡ 0 → ⊥
not_free is zero_ = omega (arith, is, zero_)

module _ (x : ℕ) (s : Site) (bounds : IsInBounds s.area) (sound : IsSoundSite s) where
  beyond : (f e : ℕ) → e < 32 → 32 ≤ f → (f == e) ≡ false
  beyond f e lt le = ne_eqb f e (λ is. apart f e lt le is)
    where
      apart : (f e : ℕ) → e < 32 → 32 ≤ f → f ≡ e → ⊥
      apart f e lt le is = omega (arith, lt, le, is)

  title_in : (e : ℕ) (t : Title) → e < 32 → (t.state ≡ 0 → s.area.firsts e ≡ no_pages) → IsInBounds (with_title e t s.area)
  title_in e t lt free = record {
    titles = λ f le. ap (λ b. cond b t (s.area.title f)) (beyond f e lt le) ∙ bounds.titles f le;
    entries = bounds.entries;
    free = λ f is. known (f == e)
        (λ same_. subst (λ g. s.area.firsts g ≡ no_pages) (sym (eqb-true f e same_)) (free (subst (λ b. (cond b t (s.area.title f)).state ≡ 0) same_ is)))
        (λ other. bounds.free f (subst (λ b. (cond b t (s.area.title f)).state ≡ 0) other is));
    rooms = bounds.rooms;
  }

  firsts_in : (e : ℕ) (u : Firsts) → e < 32 → ((s.area.title e).state ≡ 0 → u ≡ no_pages) → IsInBounds (with_firsts e u s.area)
  firsts_in e u lt free = record {
    titles = bounds.titles;
    entries = λ f le. ap (λ b. cond b u (s.area.firsts f)) (beyond f e lt le) ∙ bounds.entries f le;
    free = λ f is. known (f == e)
        (λ same_. ap (λ b. cond b u (s.area.firsts f)) same_ ∙ free (subst (λ g. (s.area.title g).state ≡ 0) (eqb-true f e same_) is))
        (λ other. ap (λ b. cond b u (s.area.firsts f)) other ∙ bounds.free f is);
    rooms = bounds.rooms;
  }

  -- a live entry is one of the catalog
  live_inside : (e : ℕ) → is_live (s.area.title e) ≡ true → e < 32
  live_inside e alive = ⊎_elim (λ lt. lt) (λ le. absurd (false≢true (sym (ap is_live (bounds.titles e le)) ∙ alive))) (cases_lt e 32)

  blank_room : (here : Bool) (was : ℕ) → was ≤ 170 → (h : Header) → cond here (room_by s.area h) was ≤ 170
  blank_room here was le h =
      let few = room_few (h.kind == 1) (width (drop 1 (s.area.title h.entry).columns)) in
      elim here as (λ b. cond b (room_by s.area h) was ≤ 170) [ true ↦ few | false ↦ le ]

  pub bounded : (a : Action) → Owes x a s → LeavesBounds a s → IsInBounds (site_after x a s).area
  bounded Begins owed leaves = bounds
  bounded (Allocates q) owed leaves = record { titles = bounds.titles; entries = bounds.entries; free = bounds.free; rooms = bounds.rooms }
  bounded (Formats q g) owed leaves = record {
    titles = bounds.titles;
    entries = bounds.entries;
    free = bounds.free;
    rooms = λ r. blank_room (r == q) (s.area.room r) (bounds.rooms r) g;
  }
  bounded (Links q f k) owed leaves = firsts_in f (with_bucket k q (s.area.firsts f)) (bucket_inside s.area bounds f k owed.there) (λ free. absurd (none (subst (λ (u : Firsts). k < length u.buckets) (bounds.free f free) owed.there)))
  bounded (LinksOlder q f) owed leaves = firsts_in f (record (s.area.firsts f) { versions = q }) owed.there (λ free. absurd (leaves free))
  bounded (Keeps f b older) owed leaves = record { titles = bounds.titles; entries = bounds.entries; free = bounds.free; rooms = bounds.rooms }
  bounded (Writes m) owed leaves = record { titles = bounds.titles; entries = bounds.entries; free = bounds.free; rooms = bounds.rooms }
  bounded (Creates f name columns left) owed leaves = leaves
  bounded (Drops f) owed leaves = title_in f (record (s.area.title f) { dropper = x }) owed.inside (λ free. bounds.free f free)
  bounded Commits owed leaves = bounds
  bounded (Frees q) owed leaves = record { titles = bounds.titles; entries = bounds.entries; free = bounds.free; rooms = bounds.rooms }
  bounded (Uncreates f) owed leaves = title_in f (record (s.area.title f) { state = 2 }) (live_inside f (sound.names.creates x f (last_among x (CreateOf x f) s.tables.items owed).0).0) (λ free. absurd (not_free refl free))
  bounded (Undrops f) owed leaves = title_in f (record (s.area.title f) { dropper = 0 }) (live_inside f (sound.names.drops x f (last_among x (DropOf x f) s.tables.items owed).0).0) (λ free. bounds.free f free)
  bounded Aborts owed leaves = bounds
  bounded (Reclaims q) owed leaves = record { titles = bounds.titles; entries = bounds.entries; free = bounds.free; rooms = bounds.rooms }
  bounded (Reverts f b way) owed leaves = record { titles = bounds.titles; entries = bounds.entries; free = bounds.free; rooms = bounds.rooms }
  bounded (Trims passes f b way) owed leaves = record { titles = bounds.titles; entries = bounds.entries; free = bounds.free; rooms = bounds.rooms }
  bounded (Cuts passes f b r) owed leaves = record { titles = bounds.titles; entries = bounds.entries; free = bounds.free; rooms = bounds.rooms }
  bounded (FreesOlder f r) owed leaves = record { titles = bounds.titles; entries = bounds.entries; free = bounds.free; rooms = bounds.rooms }
  bounded (MakesDead passes f) owed leaves = title_in f (record (s.area.title f) { state = 2 }) owed.inside (λ free. absurd (not_free refl free))
  bounded (Unlinks q f k) owed leaves = firsts_in f (with_bucket k (s.area.header q).next (s.area.firsts f)) (bucket_inside s.area bounds f k owed.there) (λ free. absurd (none (subst (λ (u : Firsts). k < length u.buckets) (bounds.free f free) owed.there)))
  bounded (UnlinksOlder q f) owed leaves = firsts_in f (record (s.area.firsts f) { versions = (s.area.header q).next }) (older_inside s.area bounds q f owed.first owed.some) (λ free. absurd (above_zero q owed.some (sym owed.first ∙ ap (λ (u : Firsts). u.versions) (bounds.free f free))))
  bounded (FreesEntry f was left) owed leaves = leaves
  bounded (Forgets z) owed leaves = bounds
  bounded (Checkpoints lists) owed leaves = bounds
