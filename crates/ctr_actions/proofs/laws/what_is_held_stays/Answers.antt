use Rattle.std.proofs.Common.{◌⊎◌, ⊎_elim, ◌≢◌, ◌≤◌, ℕ, true, false, refl, sym, ◌∙◌}
use Rattle.ctr_record_laws.specs.area_Areas.{Slot, RowVersion}
use Rattle.ctr_record_laws.specs.area_Chains.{pages_bound}
use Rattle.ctr_record_laws.specs.area_Changes.{with_bucket}
use Rattle.ctr_record_laws.specs.area_Sound.{IsUsedSlot}
use Rattle.ctr_record_laws.specs.page_Place.{Place}
use Rattle.ctr_record_laws.specs.Bounds.{IsInBounds}
use Rattle.ctr_record_laws.specs.Owed.{slot_by, reverted_slot, trimmed_slot}
use Rattle.ctr_record_laws.specs.Loose.{IsSpareFor, IsSameSlot}
use Rattle.ctr_actions.specs.Sites.{Site, IsSoundSite}
use Rattle.ctr_actions.specs.Actions.{Action, Begins, Allocates, Formats, Links, LinksOlder, Keeps, Writes, Creates, Drops, Commits, Frees, Uncreates, Undrops, Aborts, Reclaims, Reverts, Trims, Cuts, FreesOlder, MakesDead, Unlinks, UnlinksOlder, FreesEntry, Forgets, Checkpoints, Owes, site_after}
use Rattle.ctr_actions.specs.Facts.{Fact, IsOpen, HasPage, HasNoPageBut, HasBlank, HasSlot, HasCopy, HasTable, HoldsFact, IsAway, IsBeside}
use Rattle.ctr_actions.proofs.Opens.{open_stays}
use Rattle.ctr_actions.proofs.Items.{page_stays, only_stays}
use Rattle.ctr_actions.proofs.Beside.{beside_page, beside_blank, blank_page}
use Rattle.ctr_actions.proofs.Blanks.{header_stays, empty_stays}
use Rattle.ctr_actions.proofs.Stays.{title_stays, away_slot, unlinked}
use Rattle.ctr_actions.proofs.laws.what_is_held_stays.Goals as goal

pub returns : goal.returns
returns c = each
  where
    slot : (y : ℕ) (a : Action) (e : ℕ) (at : Place) (of : Slot) (s : Site) → IsInBounds s.area → s.counted ≤ pages_bound → IsSoundSite s → Owes y a s → IsAway a (HasSlot e at of)
        → IsUsedSlot s.area e at → IsSameSlot s.area (site_after y a s).area e at
    slot y Begins e at of s bounds few sound owed away used = record { used = used; same = refl }
    slot y (Allocates q) e at of s bounds few sound owed away used = record { used = used; same = refl }
    slot y (Formats q g) e at of s bounds few sound owed away used = c.records_on_pages_leave_a_slot.ensures.format s.counted s.tables s.area e at y q g bounds sound owed used
    slot y (Links q f k) e at of s bounds few sound owed away used = c.records_on_pages_leave_a_slot.ensures.link s.counted s.tables s.area e at y q f k few bounds sound owed used
    slot y (LinksOlder q f) e at of s bounds few sound owed away used = c.records_on_pages_leave_a_slot.ensures.versions s.area e at f q used
    slot y (Keeps f b older) e at of s bounds few sound owed away used = record { used = used; same = refl }
    slot y (Writes m) e at of s bounds few sound owed away used = c.records_elsewhere_leave_a_slot.ensures.slot s.area e at m.at (slot_by m s.area) away used
    slot y (Creates f name columns left) e at of s bounds few sound owed away used = c.records_on_titles_leave_a_slot.ensures.create s.counted s.tables s.area left e at y f name columns bounds sound owed.0 owed.1 used
    slot y (Drops f) e at of s bounds few sound owed away used = record { used = used; same = refl }
    slot y Commits e at of s bounds few sound owed away used = record { used = used; same = refl }
    slot y (Frees q) e at of s bounds few sound owed away used = record { used = used; same = refl }
    slot y (Uncreates f) e at of s bounds few sound owed away used = record { used = used; same = refl }
    slot y (Undrops f) e at of s bounds few sound owed away used = record { used = used; same = refl }
    slot y Aborts e at of s bounds few sound owed away used = record { used = used; same = refl }
    slot y (Reclaims q) e at of s bounds few sound owed away used = record { used = used; same = refl }
    slot y (Reverts f b way) e at of s bounds few sound owed away used = c.records_elsewhere_leave_a_slot.ensures.slot s.area e at b (reverted_slot way s.area.older (s.area.slot b)) away used
    slot y (Trims passes f b way) e at of s bounds few sound owed away used = c.records_elsewhere_leave_a_slot.ensures.slot s.area e at b (trimmed_slot way (s.area.slot b)) away used
    slot y (Cuts passes f b r) e at of s bounds few sound owed away used = record { used = used; same = refl }
    slot y (FreesOlder f r) e at of s bounds few sound owed away used = record { used = used; same = refl }
    slot y (MakesDead passes f) e at of s bounds few sound owed away used = record { used = used; same = refl }
    slot y (Unlinks q f k) e at of s bounds few sound owed away used = unlinked s e at f (with_bucket k (s.area.header q).next (s.area.firsts f)) away used
    slot y (UnlinksOlder q f) e at of s bounds few sound owed away used = c.records_on_pages_leave_a_slot.ensures.versions s.area e at f (s.area.header q).next used
    slot y (FreesEntry f was left) e at of s bounds few sound owed away used = c.records_on_titles_leave_a_slot.ensures.free s.counted s.tables s.area left e at f was sound owed.0 owed.2 used
    slot y (Forgets z) e at of s bounds few sound owed away used = record { used = used; same = refl }
    slot y (Checkpoints lists) e at of s bounds few sound owed away used = record { used = used; same = refl }

    copy : (y : ℕ) (a : Action) (e : ℕ) (at : Place) (v : RowVersion) (p : Place) (s : Site) → IsInBounds s.area → s.counted ≤ pages_bound → IsSoundSite s → Owes y a s → IsAway a (HasCopy e at v p)
        → IsUsedSlot s.area e at → IsSpareFor s.area e at v p → IsSpareFor (site_after y a s).area e at v p
    copy y Begins e at v p s bounds few sound owed away used spare = spare
    copy y (Allocates q) e at v p s bounds few sound owed away used spare = c.records_on_pages_leave_a_copy_spare.ensures.taken s.area e at p v q true spare
    copy y (Formats q g) e at v p s bounds few sound owed away used spare = c.records_on_pages_leave_a_copy_spare.ensures.format s.counted s.tables s.area e at p v y q g bounds sound owed used spare
    copy y (Links q f k) e at v p s bounds few sound owed away used spare = c.records_on_pages_leave_a_copy_spare.ensures.link s.tables s.area e at p v y q f k owed spare
    copy y (LinksOlder q f) e at v p s bounds few sound owed away used spare = c.records_on_pages_leave_a_copy_spare.ensures.older_link s.counted s.tables s.area e at p v y q f few bounds sound owed spare
    copy y (Keeps f b older) e at v p s bounds few sound owed away used spare = c.a_spare_copy_stays_spare.ensures.keep s.counted s.tables s.area e f at p b v older sound owed.1 spare
    copy y (Writes m) e at v p s bounds few sound owed away used spare = c.a_spare_copy_stays_spare.ensures.row s.counted s.tables s.area e at p v m sound owed.1 used away spare
    copy y (Creates f name columns left) e at v p s bounds few sound owed away used spare = c.records_on_titles_leave_a_copy_spare.ensures.create s.counted s.tables s.area left e at p v y f name columns bounds sound owed.0 owed.1 used spare
    copy y (Drops f) e at v p s bounds few sound owed away used spare = c.records_on_titles_leave_a_copy_spare.ensures.title s.area e at p v f (record (s.area.title f) { dropper = y }) spare
    copy y Commits e at v p s bounds few sound owed away used spare = spare
    copy y (Frees q) e at v p s bounds few sound owed away used spare = c.records_on_pages_leave_a_copy_spare.ensures.taken s.area e at p v q false spare
    copy y (Uncreates f) e at v p s bounds few sound owed away used spare = c.records_on_titles_leave_a_copy_spare.ensures.title s.area e at p v f (record (s.area.title f) { state = 2 }) spare
    copy y (Undrops f) e at v p s bounds few sound owed away used spare = c.records_on_titles_leave_a_copy_spare.ensures.title s.area e at p v f (record (s.area.title f) { dropper = 0 }) spare
    copy y Aborts e at v p s bounds few sound owed away used spare = spare
    copy y (Reclaims q) e at v p s bounds few sound owed away used spare = c.records_on_pages_leave_a_copy_spare.ensures.taken s.area e at p v q false spare
    copy y (Reverts f b way) e at v p s bounds few sound owed away used spare = c.a_spare_copy_stays_spare.ensures.revert s.counted s.tables s.area e f at p b v way sound owed away spare
    copy y (Trims passes f b way) e at v p s bounds few sound owed away used spare = c.a_spare_copy_stays_spare.ensures.trim s.area e at p b v way away spare
    copy y (Cuts passes f b r) e at v p s bounds few sound owed away used spare = c.a_spare_copy_stays_spare.ensures.cut passes s.area e f at p b r v owed spare
    copy y (FreesOlder f r) e at v p s bounds few sound owed away used spare = c.a_spare_copy_stays_spare.ensures.freed s.area e at p r v owed.unlinked (λ is. away (sym is)) spare
    copy y (MakesDead passes f) e at v p s bounds few sound owed away used spare = c.records_on_titles_leave_a_copy_spare.ensures.title s.area e at p v f (record (s.area.title f) { state = 2 }) spare
    copy y (Unlinks q f k) e at v p s bounds few sound owed away used spare = c.records_on_pages_leave_a_copy_spare.ensures.unlink s.counted s.tables s.area e at p v q f k sound owed spare
    copy y (UnlinksOlder q f) e at v p s bounds few sound owed away used spare = c.records_on_pages_leave_a_copy_spare.ensures.older_unlink s.area e at p v q f owed used spare
    copy y (FreesEntry f was left) e at v p s bounds few sound owed away used spare = c.records_on_titles_leave_a_copy_spare.ensures.free s.counted s.tables s.area left e at p v f was sound owed.0 owed.2 used spare
    copy y (Forgets z) e at v p s bounds few sound owed away used spare = spare
    copy y (Checkpoints lists) e at v p s bounds few sound owed away used spare = spare

    each : (x y : ℕ) (a : Action) (fact : Fact) (s : Site) → IsInBounds s.area → s.counted ≤ pages_bound → IsSoundSite s → Owes y a s → IsAway a fact → IsBeside a fact ⊎ (x ≢ y) → HoldsFact x fact s → HoldsFact x fact (site_after y a s)
    each x y a IsOpen s bounds few sound owed away either holds = open_stays x y a s either holds
    each x y a (HasPage p) s bounds few sound owed away either holds =
        page_stays x p s bounds sound holds y a owed (⊎_elim (λ beside. beside) (λ apart. beside_page x y p s bounds sound apart holds a owed) either)
    each x y a (HasNoPageBut ps) s bounds few sound owed away either holds = only_stays x y s ps holds a either
    each x y a (HasBlank p h) s bounds few sound owed away either holds =
        let beside = ⊎_elim (λ beside. beside) (λ apart. beside_blank x y p s bounds sound apart holds.0 a h owed) either in (
          page_stays x p s bounds sound holds.0 y a owed (blank_page a p h beside),
          empty_stays x p s bounds sound holds.0 y a h owed holds.2 away beside holds.1,
          header_stays x p s bounds sound holds.0 y a h owed beside ∙ holds.2,
        )
    each x y a (HasSlot e at of) s bounds few sound owed away either holds =
        let still = slot y a e at of s bounds few sound owed away holds.0 in
        (still.used, still.same ∙ holds.1)
    each x y a (HasCopy e at v p) s bounds few sound owed away either holds =
        let of = s.area.slot at in (
          (slot y a e at of s bounds few sound owed (away_slot a e at v p of away) holds.0).used,
          copy y a e at v p s bounds few sound owed away holds.0 holds.1,
        )
    each x y a (HasTable e title) s bounds few sound owed away either holds = title_stays y a e title s owed away ∙ holds
