-- Rows of other keys stand in other slots.
use Rattle.std.proofs.Common.{◌≡◌, ◌≢◌, ⊎_elim, ℕ, sym, ◌∙◌, ap, subst}
use Rattle.std.proofs.lemmas.Bool.{false≢true}
use Rattle.ctr_record_laws.proofs.area_Buckets.{each_of, on_chain}
use Rattle.ctr_record_laws.specs.area_Areas.{RowVersion, Older}
use Rattle.ctr_record_laws.specs.area_Chains.{pages_bound, pages_from, older_places}
use Rattle.ctr_record_laws.specs.area_Images.{is_committed_in}
use Rattle.ctr_record_laws.specs.area_Sound.{IsAmong, IsUsedSlot, IsOfVersions}
use Rattle.ctr_record_laws.proofs.Fitting.{fitting}
use Rattle.ctr_record_laws.proofs.Owned.{one_table}
use Rattle.ctr_record_laws.specs.Bounds.{IsInBounds}
use Rattle.ctr_record_laws.specs.Owed.{RowMove, OwedByRow}
use Rattle.ctr_record_laws.specs.Loose.{IsLoose, IsSpareFor}
use Rattle.ctr_record_laws.specs.page_Place.{Place}
use Rattle.ctr_actions.specs.Sites.{Site, IsSoundSite}
use Rattle.ctr_actions.specs.Facts.{IsOtherRow}

pub rows_apart : (s : Site) (m : RowMove) (e : ℕ) (at : Place) → IsInBounds s.area → IsSoundSite s → OwedByRow s.tables s.area m
    → IsUsedSlot s.area e at → IsOtherRow e (s.area.slot at).key m.entry m.key → at ≢ m.at
rows_apart s m e at bounds sound owed used other is = ⊎_elim
    (λ slot. other
    (one_table s.area bounds s.counted _ s.tables.items sound.owned m.entry e m.at slot.0.0 (subst (λ b. IsUsedSlot s.area e b) is used).0)
    (sym slot.1 ∙ ap (λ (b : Place). (s.area.slot b).key) (sym is)))
    (λ room. false≢true (sym room.free ∙ ap (λ (b : Place). (s.area.slot b).used) (sym is) ∙ used.1))
    (fitting (is_committed_in s.tables) s.area m.entry m.key m.at m.writing owed.fits)

pub slots_apart : (s : Site) (e f : ℕ) (at b : Place) → IsInBounds s.area → IsSoundSite s → IsUsedSlot s.area f b
    → IsUsedSlot s.area e at → IsOtherRow e (s.area.slot at).key f (s.area.slot b).key → at ≢ b
slots_apart s e f at b bounds sound theirs used other is = other
    (one_table s.area bounds s.counted _ s.tables.items sound.owned f e b theirs.0 (subst (λ c. IsUsedSlot s.area e c) is used).0)
    (ap (λ (c : Place). (s.area.slot c).key) (sym is))

-- a version entry's page names its table
of_table : (s : Site) (e : ℕ) (q : Place) → IsSoundSite s → IsAmong q (older_places s.area e) → (s.area.header q.page).entry ≡ e
of_table s e q sound in_ =
    let first = (s.area.firsts e).versions in
    (each_of (λ p. IsOfVersions e (s.area.header p)) q.page (pages_from pages_bound s.area.header first) (sound.readable.versions e).0 (on_chain s.area first q in_).0).1

pub copies_apart : (s : Site) (e f : ℕ) (at q r : Place) (version : RowVersion) → IsSoundSite s → IsLoose s.area f r (s.area.older r)
    → IsSpareFor s.area e at version q → IsOtherRow e (s.area.slot at).key f (s.area.older r).key → q ≢ r
copies_apart s e f at q r version sound freed spare other is = other
    (sym (of_table s f r sound freed.here) ∙ ap (λ (c : Place). (s.area.header c.page).entry) (sym is) ∙ of_table s e q sound spare.here)
    (ap (λ (c : Place). (s.area.older c).key) (sym is) ∙ ap (λ (o : Older). o.key) spare.copy)
