-- What others carry stays, whoever acts.
use Rattle.std.proofs.Common.{Bool, ◌≡◌, ◌≢◌, ⊎_elim, ℕ, ◌≤◌, ◌==◌, true, false, List, Some, refl, sym, ◌∙◌, ap, subst}
use Rattle.std.specs.Ordering.{nat_cmp}
use Rattle.std.specs.FinMap.Entries.{find}
use Rattle.std.proofs.lemmas.Bool.{false≢true, eqb-true}
use Rattle.ctr_model.specs.declared.state.Transaction.{Transaction}
use Rattle.ctr_model.specs.State.{has_name}
use Rattle.ctr_model.specs.Refusals.{has_lock}
use Rattle.ctr_legal.specs.Kept.{AreApart}
use Rattle.ctr_versions.proofs.Keys.{known}
use Rattle.ctr_versions.specs.Engine.{SessionHeld}
use Rattle.ctr_paged.specs.page_Place.{Place}
use Rattle.ctr_paged.specs.area_Areas.{Title, Slot}
use Rattle.ctr_paged.specs.area_Chains.{pages_bound}
use Rattle.ctr_paged.specs.area_Images.{is_live, is_committed_in}
use Rattle.ctr_paged.specs.area_Sound.{IsAmong}
use Rattle.ctr_paged.specs.record_laws_Bounds.{IsInBounds}
use Rattle.ctr_paged.specs.record_laws_Owed.{RowMove}
use Rattle.ctr_paged.specs.actions_Sites.{Site, IsSoundSite}
use Rattle.ctr_paged.specs.actions_Actions.{Action, Begins, Allocates, Formats, Links, LinksOlder, Keeps, Writes, Creates, Drops, Commits, Frees, Uncreates, Undrops, Aborts, Reclaims, Reverts, Trims, Cuts, FreesOlder, MakesDead, Unlinks, UnlinksOlder, FreesEntry, Forgets, Checkpoints, Owes, site_after}
use Rattle.ctr_paged.specs.actions_Facts.{Fact, IsOpen, HasPage, HasNoPageBut, HasBlank, HasSlot, HasCopy, HasTable, HoldsFact, IsAway}
use Rattle.ctr_paged.proofs.actions_Slots.{rows_apart}
use Rattle.ctr_paged.proofs.actions_Stays.{title_stays, away_slot}
use Rattle.ctr_paged.specs.Shown.{Scene}
use Rattle.ctr_kept.specs.Carried.{IsUnderLock, Covers, IsOfEntry, AreCarried, HasItsTable, IsAwayFrom}

-- ---- who may act is away from what another one counts on

module _ (site : Site) (bounds : IsInBounds site.area) (sound : IsSoundSite site) (t u : Transaction) (apart : AreApart u t) where
  rows_away : (y : ℕ) (m : RowMove) (e : ℕ) (at : Place) → Owes y (Writes m) site → Covers u (Writes m) site → HoldsFact y (HasSlot e at (site.area.slot at)) site → has_lock (site.area.title e).name (site.area.slot at).key t ≡ true → at ≢ m.at
  rows_away y m e at owed covers holds lock = rows_apart site m e at bounds sound owed.1 holds.0
      (λ same key. apart.locks (site.area.title e).name (site.area.slot at).key
      (subst (λ f. has_lock (site.area.title f).name (site.area.slot at).key u ≡ true) same (subst (λ k. has_lock (site.area.title m.entry).name k u ≡ true) key covers)) lock)

  tables_away : (x e f : ℕ) (title : Title) → has_name (site.area.title f).name u.holds ≡ true → HoldsFact x (HasTable e title) site → IsUnderLock t (HasTable e title) site → e ≢ f
  tables_away x e f title covers holds under same =
      let mine : has_name title.name u.holds ≡ true = subst (λ n. has_name n u.holds ≡ true) (ap (λ g. (site.area.title g).name) (sym same) ∙ ap (λ (v : Title). v.name) holds) covers in
      ⊎_elim (λ uses. apart.uses title.name mine uses) (λ holds_too. apart.holds title.name mine holds_too) under.1

  -- an entry that is free is another one than that of a live table
  free_away : (x e f : ℕ) (title : Title) → (site.area.title f).state ≡ 0 → HoldsFact x (HasTable e title) site → IsUnderLock t (HasTable e title) site → e ≢ f
  free_away x e f title free holds under same =
      false≢true (sym (ap (λ n. n == 1) free) ∙ ap (λ g. is_live (site.area.title g)) (sym same) ∙ ap is_live holds ∙ under.0)

  pub covered_away : (x y : ℕ) (a : Action) (fact : Fact) → Owes y a site → Covers u a site → HoldsFact x fact site → IsUnderLock t fact site → HasItsTable x t fact site → IsAway a fact
  covered_away x y (Writes m) (HasSlot e at slot) owed covers holds under its = rows_away y m e at owed covers (holds.0, refl) (subst (λ k. has_lock (site.area.title e).name k t ≡ true) (ap (λ (v : Slot). v.key) (sym holds.1)) under)
  covered_away x y (Writes m) (HasCopy e at v q) owed covers holds under its = rows_away y m e at owed covers (holds.0, refl) under
  covered_away x y (Writes m) IsOpen owed covers holds under its = tt
  covered_away x y (Writes m) (HasPage p) owed covers holds under its = tt
  covered_away x y (Writes m) (HasNoPageBut ps) owed covers holds under its = tt
  covered_away x y (Writes m) (HasBlank p h) owed covers holds under its = tt
  covered_away x y (Writes m) (HasTable e title) owed covers holds under its = tt
  covered_away x y (Creates f name columns left) (HasTable e title) owed covers holds under its = free_away x e f title owed.0.free holds under
  covered_away x y (Creates f name columns left) (HasBlank p h) owed covers holds under its = let table = its h.entry refl in free_away x h.entry f table.0 owed.0.free table.1 table.2
  covered_away x y (Creates f name columns left) IsOpen owed covers holds under its = tt
  covered_away x y (Creates f name columns left) (HasPage p) owed covers holds under its = tt
  covered_away x y (Creates f name columns left) (HasNoPageBut ps) owed covers holds under its = tt
  covered_away x y (Creates f name columns left) (HasSlot e at slot) owed covers holds under its = tt
  covered_away x y (Creates f name columns left) (HasCopy e at v q) owed covers holds under its = tt
  covered_away x y (Drops f) (HasTable e title) owed covers holds under its = tables_away x e f title covers holds under
  covered_away x y (Drops f) IsOpen owed covers holds under its = tt
  covered_away x y (Drops f) (HasPage p) owed covers holds under its = tt
  covered_away x y (Drops f) (HasNoPageBut ps) owed covers holds under its = tt
  covered_away x y (Drops f) (HasBlank p h) owed covers holds under its = tt
  covered_away x y (Drops f) (HasSlot e at slot) owed covers holds under its = tt
  covered_away x y (Drops f) (HasCopy e at v q) owed covers holds under its = tt
  covered_away x y (Uncreates f) (HasTable e title) owed covers holds under its = tables_away x e f title covers holds under
  covered_away x y (Uncreates f) IsOpen owed covers holds under its = tt
  covered_away x y (Uncreates f) (HasPage p) owed covers holds under its = tt
  covered_away x y (Uncreates f) (HasNoPageBut ps) owed covers holds under its = tt
  covered_away x y (Uncreates f) (HasBlank p h) owed covers holds under its = tt
  covered_away x y (Uncreates f) (HasSlot e at slot) owed covers holds under its = tt
  covered_away x y (Uncreates f) (HasCopy e at v q) owed covers holds under its = tt
  covered_away x y (Undrops f) (HasTable e title) owed covers holds under its = tables_away x e f title covers holds under
  covered_away x y (Undrops f) IsOpen owed covers holds under its = tt
  covered_away x y (Undrops f) (HasPage p) owed covers holds under its = tt
  covered_away x y (Undrops f) (HasNoPageBut ps) owed covers holds under its = tt
  covered_away x y (Undrops f) (HasBlank p h) owed covers holds under its = tt
  covered_away x y (Undrops f) (HasSlot e at slot) owed covers holds under its = tt
  covered_away x y (Undrops f) (HasCopy e at v q) owed covers holds under its = tt
  covered_away x y Begins fact owed covers holds under its = tt
  covered_away x y (Allocates p) fact owed covers holds under its = tt
  covered_away x y (Formats p h) fact owed covers holds under its = tt
  covered_away x y (Links p f b) fact owed covers holds under its = tt
  covered_away x y (LinksOlder p f) fact owed covers holds under its = tt
  covered_away x y (Keeps f b older) fact owed covers holds under its = tt
  covered_away x y (Frees p) fact owed covers holds under its = tt
  covered_away x y Commits fact owed covers holds under its = tt
  covered_away x y Aborts fact owed covers holds under its = tt
  covered_away x y (Reclaims p) fact owed covers holds under its = absurd covers
  covered_away x y (Reverts f b way) fact owed covers holds under its = absurd covers
  covered_away x y (Trims passes f b way) fact owed covers holds under its = absurd covers
  covered_away x y (Cuts passes f b q) fact owed covers holds under its = absurd covers
  covered_away x y (FreesOlder f q) fact owed covers holds under its = absurd covers
  covered_away x y (MakesDead passes f) fact owed covers holds under its = absurd covers
  covered_away x y (Unlinks p f b) fact owed covers holds under its = absurd covers
  covered_away x y (UnlinksOlder p f) fact owed covers holds under its = absurd covers
  covered_away x y (FreesEntry f title left) fact owed covers holds under its = absurd covers
  covered_away x y (Forgets z) fact owed covers holds under its = absurd covers
  covered_away x y (Checkpoints lists) fact owed covers holds under its = absurd covers

-- what is meant by the law of actions
abbrev pub AnotherLeaves : Type 0
AnotherLeaves = (x y : ℕ) (a : Action) (fact : Fact) (s : Site) → IsInBounds s.area → s.counted ≤ pages_bound → IsSoundSite s
    → x ≢ y → Owes y a s → IsAway a fact → HoldsFact x fact s → HoldsFact x fact (site_after y a s)

module _ (leaves : AnotherLeaves) (site : Site) (bounds : IsInBounds site.area) (few : site.counted ≤ pages_bound) (sound : IsSoundSite site)
    (y : ℕ) (a : Action) (owed : Owes y a site) where
  -- the lock or use is one of the same name and key still
  under_stays : (x : ℕ) (t : Transaction) (fact : Fact) → x ≢ y → IsAway a fact → HoldsFact x fact site → ((e : ℕ) → IsOfEntry fact e → (site_after y a site).area.title e ≡ site.area.title e) → IsUnderLock t fact site → IsUnderLock t fact (site_after y a site)
  under_stays x t IsOpen other away holds same under = tt
  under_stays x t (HasPage p) other away holds same under = tt
  under_stays x t (HasNoPageBut ps) other away holds same under = tt
  under_stays x t (HasBlank p h) other away holds same under = tt
  under_stays x t (HasSlot e at slot) other away holds same under = subst (λ (v : Title). has_lock v.name slot.key t ≡ true) (sym (same e refl)) under
  under_stays x t (HasCopy e at v q) other away holds same under =
      let slot_same = (leaves x y a (HasSlot e at (site.area.slot at)) site bounds few sound other owed (away_slot a e at v q (site.area.slot at) away) (holds.0, refl)).1 in
      subst (λ (w : Title). has_lock w.name ((site_after y a site).area.slot at).key t ≡ true) (sym (same e refl)) (subst (λ (w : Slot). has_lock (site.area.title e).name w.key t ≡ true) (sym slot_same) under)
  under_stays x t (HasTable e title) other away holds same under = under

  -- of one session: its facts stay, and the locks over them
  module _ (scene : Scene) (facts : ℕ → List Fact) (carried : AreCarried site scene facts) (s : ℕ) (b : SessionHeld) (t : Transaction)
      (at : find nat_cmp s scene.run.sessions ≡ Some b) (is_t : find nat_cmp s scene.state.sessions ≡ Some t) (other : b.me ≢ y) (away : IsAwayFrom a b.me t (facts s) site) where
    its_table : (fact : Fact) → IsAmong fact (facts s) → HasItsTable b.me t fact site
    its_table fact in_ e is = let table = carried.tables s fact e in_ is in (table.0, carried.held s b (HasTable e table.0) at table.1, carried.under s t (HasTable e table.0) is_t table.1)

    away_from : (fact : Fact) → IsAmong fact (facts s) → IsAway a fact
    away_from fact in_ = away fact in_ (carried.held s b fact at in_) (carried.under s t fact is_t in_) (its_table fact in_)

    pub held_stays : (fact : Fact) → IsAmong fact (facts s) → HoldsFact b.me fact (site_after y a site)
    held_stays fact in_ = leaves b.me y a fact site bounds few sound other owed (away_from fact in_) (carried.held s b fact at in_)

    pub lies_stays : (fact : Fact) → IsAmong fact (facts s) → IsUnderLock t fact (site_after y a site)
    lies_stays fact in_ = under_stays b.me t fact other (away_from fact in_) (carried.held s b fact at in_)
        (λ e is. let table = carried.tables s fact e in_ is in title_stays y a e table.0 site owed (away_from (HasTable e table.0) table.1)) (carried.under s t fact is_t in_)

  -- an action of nobody's: recovery's, or the cleaner's
  pub carried_all : (scene next : Scene) (facts : ℕ → List Fact) → AreCarried site scene facts → next.run.sessions ≡ scene.run.sessions → next.state.sessions ≡ scene.state.sessions
      → ((s : ℕ) (b : SessionHeld) → find nat_cmp s scene.run.sessions ≡ Some b → (t : Transaction) × (find nat_cmp s scene.state.sessions ≡ Some t))
      → ((s : ℕ) (t : Transaction) → find nat_cmp s scene.state.sessions ≡ Some t → (b : SessionHeld) × (find nat_cmp s scene.run.sessions ≡ Some b))
      → ((s : ℕ) (b : SessionHeld) → find nat_cmp s scene.run.sessions ≡ Some b → b.me ≢ y)
      → ((s : ℕ) (b : SessionHeld) (t : Transaction) → find nat_cmp s scene.run.sessions ≡ Some b → find nat_cmp s scene.state.sessions ≡ Some t → IsAwayFrom a b.me t (facts s) site)
      → AreCarried (site_after y a site) next facts
  carried_all scene next facts carried same_run same_state theirs back apart away = record {
    held = λ s b fact at in_.
        let was = ap (find nat_cmp s) (sym same_run) ∙ at in
        let t = theirs s b was in
        held_stays scene facts carried s b t.0 was t.1 (apart s b was) (away s b t.0 was t.1) fact in_;
    under = λ s t fact at in_.
        let was = ap (find nat_cmp s) (sym same_state) ∙ at in
        let b = back s t was in
        lies_stays scene facts carried s b.0 t b.1 was (apart s b.0 b.1) (away s b.0 t b.1 was) fact in_;
    tables = carried.tables;
  }

  -- An action of who has a number that no other session has: what the others carry stays, where it is away; and its own
  -- session carries what it now holds.
  pub carried_on : (r : ℕ) (scene next : Scene) (facts now : ℕ → List Fact) → AreCarried site scene facts
      → ((s : ℕ) → (s == r) ≡ false → find nat_cmp s next.run.sessions ≡ find nat_cmp s scene.run.sessions) → ((s : ℕ) → (s == r) ≡ false → find nat_cmp s next.state.sessions ≡ find nat_cmp s scene.state.sessions)
      → ((s : ℕ) → (s == r) ≡ false → now s ≡ facts s)
      → ((s : ℕ) (b : SessionHeld) → find nat_cmp s scene.run.sessions ≡ Some b → (t : Transaction) × (find nat_cmp s scene.state.sessions ≡ Some t))
      → ((s : ℕ) (t : Transaction) → find nat_cmp s scene.state.sessions ≡ Some t → (b : SessionHeld) × (find nat_cmp s scene.run.sessions ≡ Some b))
      → ((s : ℕ) (b : SessionHeld) → (s == r) ≡ false → find nat_cmp s scene.run.sessions ≡ Some b → b.me ≢ y)
      → ((s : ℕ) (b : SessionHeld) (t : Transaction) → (s == r) ≡ false → find nat_cmp s scene.run.sessions ≡ Some b → find nat_cmp s scene.state.sessions ≡ Some t → IsAwayFrom a b.me t (facts s) site)
      → ((b : SessionHeld) (fact : Fact) → find nat_cmp r next.run.sessions ≡ Some b → IsAmong fact (now r) → HoldsFact b.me fact (site_after y a site))
      → ((t : Transaction) (fact : Fact) → find nat_cmp r next.state.sessions ≡ Some t → IsAmong fact (now r) → IsUnderLock t fact (site_after y a site))
      → ((fact : Fact) (e : ℕ) → IsAmong fact (now r) → IsOfEntry fact e → (title : Title) × IsAmong (HasTable e title) (now r))
      → AreCarried (site_after y a site) next now
  carried_on r scene next facts now carried others transactions same theirs back apart away mine under tables = record {
    held = λ s b fact at in_. known (s == r)
        (λ one. let is = eqb-true s r one in mine b fact (ap (λ q. find nat_cmp q next.run.sessions) (sym is) ∙ at) (subst (λ q. IsAmong fact (now q)) is in_))
        (λ two. let was = sym (others s two) ∙ at in
        let t = theirs s b was in
        held_stays scene facts carried s b t.0 was t.1 (apart s b two was) (away s b t.0 two was t.1) fact (subst (IsAmong fact) (same s two) in_));
    under = λ s t fact at in_. known (s == r)
        (λ one. let is = eqb-true s r one in under t fact (ap (λ q. find nat_cmp q next.state.sessions) (sym is) ∙ at) (subst (λ q. IsAmong fact (now q)) is in_))
        (λ two. let was = sym (transactions s two) ∙ at in
        let b = back s t was in
        lies_stays scene facts carried s b.0 t b.1 was (apart s b.0 two b.1) (away s b.0 t two b.1 was) fact (subst (IsAmong fact) (same s two) in_));
    tables = λ s fact e in_ is. known (s == r)
        (λ one. let q = eqb-true s r one in
        let its = tables fact e (subst (λ q. IsAmong fact (now q)) q in_) is in
        (its.0, subst (λ q. IsAmong (HasTable e its.0) (now q)) (sym q) its.1))
        (λ two. let its = carried.tables s fact e (subst (IsAmong fact) (same s two) in_) is in (its.0, subst (IsAmong (HasTable e its.0)) (sym (same s two)) its.1));
  }

-- ---- a table that becomes dead

-- a table that is counted on has no dropper, and nobody passes by the number 0
pub dying_away : (site : Site) (y e : ℕ) (passes : ℕ → Bool) → Owes y (MakesDead passes e) site → (x : ℕ) (t : Transaction) (fact : Fact)
    → ((f : ℕ) → passes (site.area.title f).dropper ≡ false → f ≢ e) → HoldsFact x fact site → IsUnderLock t fact site → IsAway (MakesDead passes e) fact
dying_away site y e passes owed x t IsOpen apart holds under = tt
dying_away site y e passes owed x t (HasPage p) apart holds under = tt
dying_away site y e passes owed x t (HasNoPageBut ps) apart holds under = tt
dying_away site y e passes owed x t (HasBlank p h) apart holds under = tt
dying_away site y e passes owed x t (HasSlot f at slot) apart holds under = tt
dying_away site y e passes owed x t (HasCopy f at v q) apart holds under = tt
dying_away site y e passes owed x t (HasTable f title) apart holds under = apart f (ap passes (ap (λ (u : Title). u.dropper) holds ∙ under.2) ∙ nobody (passes 0) (owed.old 0))
  where
    nobody : (b : Bool) → (b ≡ true → is_committed_in site.tables 0 ≡ true) → b ≡ false
    nobody true is = absurd (false≢true (is refl))
    nobody false is = refl
