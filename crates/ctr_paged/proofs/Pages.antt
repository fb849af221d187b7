-- Records on pages and version entries that show the same.
use Rattle.std.proofs.Common.{ℕ, true, false, refl}
use Rattle.ctr_model.specs.declared.state.State.{State}
use Rattle.ctr_rec.specs.declared.record.SlogItem.TheVariants.{AllocOf, FreeOf}
use Rattle.ctr_actions.specs.meta_Effects.{with_item, without_item}
use Rattle.ctr_names.specs.meta_Wanted.TheVariants.{Allocation, OfPage}
use Rattle.ctr_actions.specs.page_Header.{Header}
use Rattle.ctr_actions.specs.page_Place.{Place}
use Rattle.ctr_actions.specs.area_Areas.{Older, free_older}
use Rattle.ctr_actions.specs.area_Changes.{with_taken, with_blank, with_firsts, with_bucket, with_older}
use Rattle.ctr_actions.specs.area_Images.{is_committed_in}
use Rattle.ctr_actions.proofs.record_laws_Kept.{versions_stay, kept_chains}
use Rattle.ctr_names.proofs.record_laws_EntryLaws.{keep_sound, freed_chains, freed_sound}
use Rattle.ctr_actions.proofs.record_laws_Owning.{alloc_sound, free_sound}
use Rattle.ctr_actions.proofs.record_laws_Format.{format_sound}
use Rattle.ctr_actions.proofs.record_laws_Links.{bucket_inside, bucket_sound, older_sound}
use Rattle.ctr_actions.proofs.record_laws_Unlinks.{older_unlink_sound, older_inside, above_zero}
use Rattle.ctr_actions.specs.record_laws_Bounds.{IsInBounds}
use Rattle.ctr_actions.specs.record_laws_Owed.{OwedByKeep, IsInNoChain, OwedByAlloc, OwedByFree, OwedByFormat, OwedByLink, OwedByOlderLink, OwedByOlderUnlink}
use Rattle.ctr_names.proofs.record_laws_Shown.{taken_shows, format_shows, link_shows, older_shows}
use Rattle.ctr_actions.specs.Sites.{Site}
use Rattle.ctr_paged.specs.Paged.{Run, ShowsPaged}
use Rattle.ctr_paged.proofs.Carry.{drops_same, paged_same}

module _ (low : ℕ) (site : Site) (run : Run) (state : State) (paged : ShowsPaged low site run state) where
  pub alloc_shows : (x p : ℕ) → OwedByAlloc site.counted site.tables site.area x p → IsInBounds (with_taken p true site.area)
      → ShowsPaged low (record site { tables = with_item (AllocOf x p) site.tables; area = with_taken p true site.area }) run state
  alloc_shows x p owed bounds = paged_same low site run state paged (with_taken p true site.area) (with_item (AllocOf x p) site.tables) bounds (alloc_sound site.counted site.tables site.area x p paged.sound owed)
      (record { next = refl; opens = refl; aborted = refl }) (drops_same site.area.title) (taken_shows site.area p true (is_committed_in site.tables)).0

  pub free_shows : (p : ℕ) → OwedByFree site.tables p → IsInBounds (with_taken p false site.area)
      → ShowsPaged low (record site { tables = without_item (OfPage p) site.tables; area = with_taken p false site.area }) run state
  free_shows p owed bounds = paged_same low site run state paged (with_taken p false site.area) (without_item (OfPage p) site.tables) bounds (free_sound site.counted site.tables site.area p paged.sound owed)
      (record { next = refl; opens = refl; aborted = refl }) (drops_same site.area.title) (taken_shows site.area p false (is_committed_in site.tables)).0

  pub format_keeps : (x p : ℕ) (h : Header) → OwedByFormat site.tables x p → IsInBounds (with_blank p h site.area)
      → ShowsPaged low (record site { area = with_blank p h site.area }) run state
  format_keeps x p h owed bounds = paged_same low site run state paged (with_blank p h site.area) site.tables bounds (format_sound site.counted site.tables site.area x p h paged.bounds paged.sound owed)
      (record { next = refl; opens = refl; aborted = refl }) (drops_same site.area.title) (format_shows site.counted site.tables site.area x p h paged.bounds paged.sound owed (is_committed_in site.tables)).0

  pub link_keeps : (x p e bucket : ℕ) → OwedByLink site.tables site.area x p e bucket → IsInBounds (with_firsts e (with_bucket bucket p (site.area.firsts e)) site.area)
      → ShowsPaged low (record site { tables = without_item (Allocation x p) site.tables; area = with_firsts e (with_bucket bucket p (site.area.firsts e)) site.area }) run state
  link_keeps x p e bucket owed bounds = paged_same low site run state paged (with_firsts e (with_bucket bucket p (site.area.firsts e)) site.area) (without_item (Allocation x p) site.tables) bounds
      (bucket_sound site.counted site.tables site.area x p e paged.few paged.bounds paged.sound owed.item owed.empty (bucket_inside site.area paged.bounds e bucket owed.there) bucket owed.header owed.there)
      (record { next = refl; opens = refl; aborted = refl }) (drops_same site.area.title) (link_shows site.counted site.tables site.area x p e bucket paged.few paged.bounds paged.sound owed (is_committed_in site.tables)).0

  pub older_link_keeps : (x p e : ℕ) → OwedByOlderLink site.tables site.area x p e → IsInBounds (with_firsts e (record (site.area.firsts e) { versions = p }) site.area)
      → ShowsPaged low (record site { tables = without_item (Allocation x p) site.tables; area = with_firsts e (record (site.area.firsts e) { versions = p }) site.area }) run state
  older_link_keeps x p e owed bounds = paged_same low site run state paged (with_firsts e (record (site.area.firsts e) { versions = p }) site.area) (without_item (Allocation x p) site.tables) bounds
      (older_sound site.counted site.tables site.area x p e paged.few paged.bounds paged.sound owed.item owed.empty owed.there owed.header)
      (record { next = refl; opens = refl; aborted = refl }) (drops_same site.area.title) (older_shows site.area e p (is_committed_in site.tables)).0

  pub older_unlink_keeps : (p e : ℕ) → OwedByOlderUnlink site.area p e → IsInBounds (with_firsts e (record (site.area.firsts e) { versions = (site.area.header p).next }) site.area)
      → ShowsPaged low (record site { tables = with_item (FreeOf p) site.tables; area = with_firsts e (record (site.area.firsts e) { versions = (site.area.header p).next }) site.area }) run state
  older_unlink_keeps p e owed bounds = paged_same low site run state paged (with_firsts e (record (site.area.firsts e) { versions = (site.area.header p).next }) site.area) (with_item (FreeOf p) site.tables) bounds
      (older_unlink_sound site.counted site.tables site.area p e paged.sound (above_zero p owed.some) (older_inside site.area paged.bounds p e owed.first owed.some) owed.first owed.none)
      (record { next = refl; opens = refl; aborted = refl }) (drops_same site.area.title) (older_shows site.area e (site.area.header p).next (is_committed_in site.tables)).0

  pub keep_keeps : (e : ℕ) (at : Place) (older : Older) → OwedByKeep site.tables site.area e at older → IsInBounds (with_older at older site.area) → ShowsPaged low (record site { area = with_older at older site.area }) run state
  keep_keeps e at older owed bounds = paged_same low site run state paged (with_older at older site.area) site.tables bounds (keep_sound site.counted site.tables site.area e at older paged.sound owed)
      (record { next = refl; opens = refl; aborted = refl }) (drops_same site.area.title) (versions_stay site.area at older (kept_chains site.area at older owed.free paged.sound.pointers) (is_committed_in site.tables))

  pub free_entry_keeps : (q : Place) → IsInNoChain site.area q → IsInBounds (with_older q free_older site.area) → ShowsPaged low (record site { area = with_older q free_older site.area }) run state
  free_entry_keeps q none bounds = paged_same low site run state paged (with_older q free_older site.area) site.tables bounds (freed_sound site.area q none site.counted site.tables paged.sound)
      (record { next = refl; opens = refl; aborted = refl }) (drops_same site.area.title) (versions_stay site.area q free_older (freed_chains site.area q none) (is_committed_in site.tables))
