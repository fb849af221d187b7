-- No Row links a spare copy of what stands in another slot.
use Rattle.std.proofs.Common.{◌≡◌, ◌≢◌, ℕ, sym, ◌∙◌, ap, subst}
use Rattle.ctr_area.proofs.Buckets.{each_of, on_chain}
use Rattle.ctr_area.specs.Areas.{RowVersion, Older, Area}
use Rattle.ctr_area.specs.Chains.{pages_bound, pages_from, older_places}
use Rattle.ctr_area.specs.Images.{is_committed_in}
use Rattle.ctr_area.specs.Sound.{IsAmong, IsUsedSlot, IsOfVersions, AreReadable, IsSoundArea}
use Rattle.ctr_area.specs.meta_Tables.{Tables}
use Rattle.ctr_record_laws.specs.Owed.{Writing, OverHead, HeadMoves, PreviousKept, HeadKept, FirstVersion, FitsWriting, RowMove, OwedByRow}
use Rattle.ctr_area.specs.ctr_page.declared.rows.Place.{Place}
use Rattle.ctr_record_laws.specs.Loose.{Links, IsSpareFor}

-- a version entry is in the store of one table
entry_of : (area : Area) → AreReadable area → (e : ℕ) (q : Place) → IsAmong q (older_places area e) → (area.header q.page).entry ≡ e
entry_of area readable e q in_ =
    (each_of (λ r. IsOfVersions e (area.header r)) q.page (pages_from pages_bound area.header (area.firsts e).versions) (readable.versions e).0 (on_chain area (area.firsts e).versions q in_).0).1

module _ (counted : ℕ) (tables : Tables) (area : Area) (sound : IsSoundArea counted tables area) (e : ℕ) (at q : Place) (version : RowVersion)
    (used : IsUsedSlot area e at) (copy : IsSpareFor area e at version q) where
  -- a spare copy of another slot is at another place
  copies_apart : (f : ℕ) (b p : Place) (other : RowVersion) → IsUsedSlot area f b → IsSpareFor area f b other p → at ≢ b → p ≢ q
  copies_apart f b p other used_b copy_b apart is =
      let copied = subst (IsSpareFor area f b other) is copy_b in
      let same_table : f ≡ e = sym (entry_of area sound.readable f q copied.here) ∙ entry_of area sound.readable e q copy.here in
      apart (sound.keys.once e at b used (subst (λ f. IsUsedSlot area f b) same_table used_b)
      (ap (λ (j : Older). j.key) (sym copy.copy) ∙ ap (λ (j : Older). j.key) copied.copy))

  unlinks : (m : RowMove) → at ≢ m.at → (w : Writing) → FitsWriting w (is_committed_in tables) area m.entry m.key m.at → Links w q → ⊥
  unlinks m apart OverHead fits links = links
  unlinks m apart HeadMoves fits links = links
  unlinks m apart (PreviousKept p) fits links = copies_apart m.entry m.at p fits.2.0 fits.0.0 fits.2.2 apart links
  unlinks m apart (HeadKept p) fits links = copies_apart m.entry m.at p (area.slot m.at).head fits.0.0 fits.3 apart links
  unlinks m apart FirstVersion fits links = links

  pub row_unlinks : (m : RowMove) → OwedByRow tables area m → at ≢ m.at → Links m.writing q → ⊥
  row_unlinks m owed apart = unlinks m apart m.writing owed.fits
