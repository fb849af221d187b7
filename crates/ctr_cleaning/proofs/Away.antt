-- What the cleaner may do is away from what sessions carry, and moves the model nowhere.
use Rattle.std.proofs.Common.{◌≡◌, ◌≢◌, ℕ, ◌≤◌, ◌<◌, ℤ, Bool, true, List, Some, refl, sym, ◌∙◌, ap, subst, arith}
use Rattle.std.specs.Prelude.{◌&&◌, nat_lt}
use Rattle.std.specs.Ordering.{nat_cmp}
use Rattle.std.specs.FinMap.Entries.{find}
use Rattle.std.proofs.lemmas.Bool.{false≢true, and_parts, ltb-true, lt-ltb}
use Rattle.ctr_model.specs.declared.state.State.{State}
use Rattle.ctr_model.specs.declared.state.Transaction.{Transaction}
use Rattle.ctr_model.specs.Refusals.{has_lock}
use Rattle.ctr_versions.specs.Changes.{IsOld}
use Rattle.ctr_versions.specs.Chains.{Numbers}
use Rattle.ctr_versions.specs.Xids.{number_of}
use Rattle.ctr_versions.specs.Laws.{mark_of}
use Rattle.ctr_kept.specs.ctr_paged.page_Place.{Place}
use Rattle.ctr_kept.specs.ctr_paged.area_Areas.{RowVersion, Title, Slot}
use Rattle.ctr_kept.specs.ctr_paged.area_Images.{is_live, is_committed_in}
use Rattle.ctr_kept.specs.ctr_paged.area_Sound.{IsUsedSlot}
use Rattle.ctr_kept.specs.ctr_paged.record_laws_Bounds.{IsInBounds}
use Rattle.ctr_actions.specs.record_laws_Loose.{IsSpareFor}
use Rattle.ctr_kept.specs.ctr_paged.actions_Sites.{Site, IsSoundSite}
use Rattle.ctr_kept.specs.ctr_paged.actions_Actions.{Action, Begins, Allocates, Formats, Links, LinksOlder, Keeps, Writes, Creates, Drops, Commits, Frees, Uncreates, Undrops, Aborts, Reclaims, Reverts, Trims, Cuts, FreesOlder, MakesDead, Unlinks, UnlinksOlder, FreesEntry, Forgets, Checkpoints, Owes}
use Rattle.ctr_kept.specs.ctr_paged.actions_Facts.{Fact, IsOpen, HasPage, HasNoPageBut, HasBlank, HasSlot, HasCopy, HasTable, HoldsFact, IsAway}
use Rattle.ctr_actions.specs.Cleaning.{IsCleaning}
use Rattle.ctr_actions.specs.Facts.{IsOtherRow, IsOfNoTable}
use Rattle.ctr_kept.specs.ctr_paged.Paged.{engine_at}
use Rattle.ctr_kept.specs.ctr_paged.Shown.{Scene}
use Rattle.ctr_kept.specs.ctr_paged.Moving.{MovesTo, PassOld}
use Rattle.ctr_kept.specs.Carried.{IsUnderLock, HasItsTable, IsAwayFromAll}
use Rattle.ctr_cleaning.specs.Sparing.{IsUnlockedIn, IsOfFreeRow}

-- ---- away from what sessions carry

-- the laws of rows that aren't locked, and of tables that are live
pub record Laws : Type 0 where
  pub slots : (s : Site) (e f : ℕ) (at b : Place) → IsInBounds s.area → IsSoundSite s → IsUsedSlot s.area f b → IsUsedSlot s.area e at → IsOtherRow e (s.area.slot at).key f (s.area.slot b).key → at ≢ b
  pub copies : (s : Site) (x e f : ℕ) (at q r : Place) (version : RowVersion) → IsInBounds s.area → IsSoundSite s → Owes x (FreesOlder f r) s → IsSpareFor s.area e at version q
      → IsOtherRow e (s.area.slot at).key f (s.area.older r).key → q ≢ r
  pub tables : (x : ℕ) (a : Action) (s : Site) (e f : ℕ) → Owes x a s → IsOfNoTable a f → is_live (s.area.title e) ≡ true → e ≢ f
  pub dying : (y e : ℕ) (passes : ℕ → Bool) (site : Site) (scene : Scene) (facts : ℕ → List Fact) → Owes y (MakesDead passes e) site → IsAwayFromAll (MakesDead passes e) site scene facts

module _ (laws : Laws) (site : Site) (bounds : IsInBounds site.area) (sound : IsSoundSite site) (state : State) (s : ℕ) (t : Transaction) (at_work : find nat_cmp s state.sessions ≡ Some t) where
  -- a row that nobody has locked is another one than one that the session has locked
  other_row : (e f : ℕ) (key other : ℤ) → IsUnlockedIn state (site.area.title f).name other → has_lock (site.area.title e).name key t ≡ true → IsOtherRow e key f other
  other_row e f key other unlocked lock same same_key =
      false≢true (sym (unlocked s t at_work) ∙ (λ i. has_lock (site.area.title (same i)).name (same_key i) t) ∙ lock)

  slot_away : (e f : ℕ) (at b : Place) (slot : Slot) → IsUsedSlot site.area f b → IsUnlockedIn state (site.area.title f).name (site.area.slot b).key → IsUsedSlot site.area e at → site.area.slot at ≡ slot
      → has_lock (site.area.title e).name slot.key t ≡ true → at ≢ b
  slot_away e f at b slot theirs unlocked used is lock = laws.slots site e f at b bounds sound theirs used
      (other_row e f (site.area.slot at).key (site.area.slot b).key unlocked (subst (λ (v : Slot). has_lock (site.area.title e).name v.key t ≡ true) (sym is) lock))

  -- a table that is counted on is another one than one that is gone
  table_away : (x y e f : ℕ) (a : Action) (title : Title) → Owes y a site → IsOfNoTable a f → HoldsFact x (HasTable e title) site → IsUnderLock t (HasTable e title) site → e ≢ f
  table_away x y e f a title owed none holds under = laws.tables y a site e f owed none (ap is_live holds ∙ under.0)

  pub cleaned_away : (passes : ℕ → Bool) (x y : ℕ) (a : Action) (fact : Fact) → ((f : ℕ) → a ≡ MakesDead passes f → IsAway a fact) → IsCleaning passes a site → IsOfFreeRow state a site → Owes y a site → HoldsFact x fact site → IsUnderLock t fact site
      → HasItsTable x t fact site → IsAway a fact
  cleaned_away passes x y (Reverts f b way) (HasSlot e at slot) dying cleans free owed holds under its = slot_away e f at b slot owed.used free holds.0 holds.1 under
  cleaned_away passes x y (Reverts f b way) (HasCopy e at v q) dying cleans free owed holds under its = slot_away e f at b (site.area.slot at) owed.used free holds.0 refl under
  cleaned_away passes x y (Reverts f b way) IsOpen dying cleans free owed holds under its = tt
  cleaned_away passes x y (Reverts f b way) (HasPage p) dying cleans free owed holds under its = tt
  cleaned_away passes x y (Reverts f b way) (HasNoPageBut ps) dying cleans free owed holds under its = tt
  cleaned_away passes x y (Reverts f b way) (HasBlank p h) dying cleans free owed holds under its = tt
  cleaned_away passes x y (Reverts f b way) (HasTable e title) dying cleans free owed holds under its = tt
  cleaned_away passes x y (Trims test f b way) (HasSlot e at slot) dying cleans free owed holds under its = slot_away e f at b slot owed.used free holds.0 holds.1 under
  cleaned_away passes x y (Trims test f b way) (HasCopy e at v q) dying cleans free owed holds under its = slot_away e f at b (site.area.slot at) owed.used free holds.0 refl under
  cleaned_away passes x y (Trims test f b way) IsOpen dying cleans free owed holds under its = tt
  cleaned_away passes x y (Trims test f b way) (HasPage p) dying cleans free owed holds under its = tt
  cleaned_away passes x y (Trims test f b way) (HasNoPageBut ps) dying cleans free owed holds under its = tt
  cleaned_away passes x y (Trims test f b way) (HasBlank p h) dying cleans free owed holds under its = tt
  cleaned_away passes x y (Trims test f b way) (HasTable e title) dying cleans free owed holds under its = tt
  cleaned_away passes x y (FreesOlder f r) (HasCopy e at v q) dying cleans free owed holds under its = laws.copies site y e f at q r v bounds sound owed holds.1 (other_row e f (site.area.slot at).key (site.area.older r).key free under)
  cleaned_away passes x y (FreesOlder f r) (HasSlot e at slot) dying cleans free owed holds under its = tt
  cleaned_away passes x y (FreesOlder f r) IsOpen dying cleans free owed holds under its = tt
  cleaned_away passes x y (FreesOlder f r) (HasPage p) dying cleans free owed holds under its = tt
  cleaned_away passes x y (FreesOlder f r) (HasNoPageBut ps) dying cleans free owed holds under its = tt
  cleaned_away passes x y (FreesOlder f r) (HasBlank p h) dying cleans free owed holds under its = tt
  cleaned_away passes x y (FreesOlder f r) (HasTable e title) dying cleans free owed holds under its = tt
  cleaned_away passes x y (Unlinks p f b) (HasSlot e at slot) dying cleans free owed holds under its = let table = its e refl in table_away x y e f (Unlinks p f b) table.0 owed refl table.1 table.2
  cleaned_away passes x y (Unlinks p f b) (HasCopy e at v q) dying cleans free owed holds under its = let table = its e refl in table_away x y e f (Unlinks p f b) table.0 owed refl table.1 table.2
  cleaned_away passes x y (Unlinks p f b) IsOpen dying cleans free owed holds under its = tt
  cleaned_away passes x y (Unlinks p f b) (HasPage q) dying cleans free owed holds under its = tt
  cleaned_away passes x y (Unlinks p f b) (HasNoPageBut ps) dying cleans free owed holds under its = tt
  cleaned_away passes x y (Unlinks p f b) (HasBlank q h) dying cleans free owed holds under its = tt
  cleaned_away passes x y (Unlinks p f b) (HasTable e title) dying cleans free owed holds under its = tt
  cleaned_away passes x y (FreesEntry f was left) (HasTable e title) dying cleans free owed holds under its = table_away x y e f (FreesEntry f was left) title owed refl holds under
  cleaned_away passes x y (FreesEntry f was left) (HasBlank p h) dying cleans free owed holds under its = let table = its h.entry refl in table_away x y h.entry f (FreesEntry f was left) table.0 owed refl table.1 table.2
  cleaned_away passes x y (FreesEntry f was left) IsOpen dying cleans free owed holds under its = tt
  cleaned_away passes x y (FreesEntry f was left) (HasPage p) dying cleans free owed holds under its = tt
  cleaned_away passes x y (FreesEntry f was left) (HasNoPageBut ps) dying cleans free owed holds under its = tt
  cleaned_away passes x y (FreesEntry f was left) (HasSlot e at slot) dying cleans free owed holds under its = tt
  cleaned_away passes x y (FreesEntry f was left) (HasCopy e at v q) dying cleans free owed holds under its = tt
  cleaned_away passes x y (Cuts test f b q) fact dying cleans free owed holds under its = tt
  cleaned_away passes x y (UnlinksOlder p f) fact dying cleans free owed holds under its = tt
  cleaned_away passes x y (Reclaims p) fact dying cleans free owed holds under its = tt
  cleaned_away passes x y (Forgets z) fact dying cleans free owed holds under its = tt
  cleaned_away passes x y (MakesDead test f) fact dying cleans free owed holds under its = dying f (ap (λ u. MakesDead u f) cleans)
  cleaned_away passes x y Begins fact dying cleans free owed holds under its = absurd cleans
  cleaned_away passes x y (Allocates p) fact dying cleans free owed holds under its = absurd cleans
  cleaned_away passes x y (Formats p h) fact dying cleans free owed holds under its = absurd cleans
  cleaned_away passes x y (Links p f b) fact dying cleans free owed holds under its = absurd cleans
  cleaned_away passes x y (LinksOlder p f) fact dying cleans free owed holds under its = absurd cleans
  cleaned_away passes x y (Keeps f b older) fact dying cleans free owed holds under its = absurd cleans
  cleaned_away passes x y (Writes m) fact dying cleans free owed holds under its = absurd cleans
  cleaned_away passes x y (Creates f name columns left) fact dying cleans free owed holds under its = absurd cleans
  cleaned_away passes x y (Drops f) fact dying cleans free owed holds under its = absurd cleans
  cleaned_away passes x y Commits fact dying cleans free owed holds under its = absurd cleans
  cleaned_away passes x y (Frees p) fact dying cleans free owed holds under its = absurd cleans
  cleaned_away passes x y (Uncreates f) fact dying cleans free owed holds under its = absurd cleans
  cleaned_away passes x y (Undrops f) fact dying cleans free owed holds under its = absurd cleans
  cleaned_away passes x y Aborts fact dying cleans free owed holds under its = absurd cleans
  cleaned_away passes x y (Checkpoints lists) fact dying cleans free owed holds under its = absurd cleans

-- away from what each session carries
pub away_from_all : (laws : Laws) (passes : ℕ → Bool) (y : ℕ) (a : Action) (site : Site) (scene : Scene) (facts : ℕ → List Fact) → IsInBounds site.area → IsSoundSite site → IsCleaning passes a site → IsOfFreeRow scene.state a site → Owes y a site
    → IsAwayFromAll a site scene facts
away_from_all laws passes y a site scene facts bounds sound cleans free owed s b t held is_t fact in_ holds under its =
    cleaned_away laws site bounds sound scene.state s t is_t passes b.me y a fact dying cleans free owed holds under its
  where
    dying : (f : ℕ) → a ≡ MakesDead passes f → IsAway a fact
    dying f is = subst (λ (z : Action). IsAway z fact) (sym is) (laws.dying y f passes site scene facts (subst (λ (z : Action). Owes y z site) is owed) s b t held is_t fact in_ holds under its)

-- ---- nowhere in the model

-- who is seen by everyone below a mark is so below a lower one
old_below : (number : Numbers) (k low mark : ℕ) (committed : ℕ → Bool) → low ≤ mark → IsOld number k (λ x. committed x && nat_lt x mark) → IsOld number k (λ x. committed x && nat_lt x low)
old_below number k low mark committed le old x passes =
    let its = and_parts (committed x) (nat_lt x low) passes in
    old x (λ i. its.0 i && lt-ltb x mark (further (ltb-true x low its.1)) i)
  where
    further : x < low → x < mark
    further lt = omega (arith, lt, le)

module _ (low higher : ℕ) (site : Site) (scene : Scene) (le : low ≤ mark_of (engine_at site scene.run)) (old : PassOld higher (λ x. is_committed_in site.tables x && nat_lt x (mark_of (engine_at site scene.run))) site scene) where
  abbrev passes : ℕ → Bool
  passes = λ x. is_committed_in site.tables x && nat_lt x low

  seen : (test : ℕ → Bool) → test ≡ passes → PassOld higher test site scene
  seen test is = subst (λ (f : ℕ → Bool). PassOld higher f site scene) (sym is) (old_below (number_of (engine_at site scene.run).xids) higher low (mark_of (engine_at site scene.run)) (is_committed_in site.tables) le old)

  pub stays : (y : ℕ) (a : Action) → IsCleaning passes a site → MovesTo higher y a site scene scene
  stays y (Trims test f b way) cleans = (seen test cleans.0, refl)
  stays y (Cuts test f b q) cleans = (seen test cleans.0, refl)
  stays y (MakesDead test f) cleans = (seen test cleans, record { mark = low; is = λ x i. cleans i x }, refl)
  stays y (Reverts f b way) cleans = refl
  stays y (FreesOlder f r) cleans = refl
  stays y (Unlinks p f b) cleans = refl
  stays y (UnlinksOlder p f) cleans = refl
  stays y (FreesEntry f was left) cleans = refl
  stays y (Reclaims p) cleans = refl
  stays y (Forgets z) cleans = refl
  stays y Begins cleans = absurd cleans
  stays y (Allocates p) cleans = absurd cleans
  stays y (Formats p h) cleans = absurd cleans
  stays y (Links p f b) cleans = absurd cleans
  stays y (LinksOlder p f) cleans = absurd cleans
  stays y (Keeps f b older) cleans = absurd cleans
  stays y (Writes m) cleans = absurd cleans
  stays y (Creates f name columns left) cleans = absurd cleans
  stays y (Drops f) cleans = absurd cleans
  stays y Commits cleans = absurd cleans
  stays y (Frees p) cleans = absurd cleans
  stays y (Uncreates f) cleans = absurd cleans
  stays y (Undrops f) cleans = absurd cleans
  stays y Aborts cleans = absurd cleans
  stays y (Checkpoints lists) cleans = absurd cleans
