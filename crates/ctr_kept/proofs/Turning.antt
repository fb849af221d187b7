-- What one session's turn leaves of the rest: one lemma for turns with an action, and one for those without.
use Rattle.std.proofs.Common.{◌≡◌, ◌≢◌, ℕ, ◌==◌, true, false, cond, List, Some, refl, sym, ◌∙◌, ap, subst}
use Rattle.std.specs.Option.{option_map}
use Rattle.std.specs.Ordering.{nat_cmp}
use Rattle.std.specs.FinMap.Entries.{find}
use Rattle.std.proofs.lemmas.Bool.{false≢true, eqb-true, eq-eqb, ne_eqb}
use Rattle.ctr_model.specs.declared.state.Transaction.{Transaction}
use Rattle.ctr_model.specs.State.{transaction_of}
use Rattle.ctr_legal.specs.Kept.{IsKept}
use Rattle.ctr_versions.proofs.Keys.{known}
use Rattle.ctr_versions.specs.Engine.{SessionHeld}
use Rattle.ctr_versions.specs.Laws.{IsNoSessions}
use Rattle.ctr_meta.specs.Tables.{is_in}
use Rattle.ctr_paged.specs.sessions_Sessions.{IsDrawnFor}
use Rattle.ctr_paged.specs.area_Areas.{Title}
use Rattle.ctr_paged.specs.area_Sound.{IsAmong}
use Rattle.ctr_paged.specs.record_laws_Bounds.{IsInBounds}
use Rattle.ctr_paged.specs.actions_Sites.{Site}
use Rattle.ctr_paged.specs.actions_Actions.{Action, Owes, site_after}
use Rattle.ctr_paged.specs.actions_Facts.{Fact, HasTable, HoldsFact}
use Rattle.ctr_paged.specs.Shown.{Scene, IsShown}
use Rattle.ctr_paged.specs.Moving.{MovesTo}
use Rattle.ctr_paged.proofs.Moved.{moved}
use Rattle.ctr_kept.specs.Carried.{IsUnderLock, Covers, IsOfEntry, AreCarried}
use Rattle.ctr_kept.specs.Undo.{IsSessions, IsUndoLeft, CountsTo, Undo, SparesUndo}
use Rattle.ctr_kept.specs.Walk.{Mind, with_facts, HaveBegun, KeepsScene}
use Rattle.ctr_kept.proofs.Carried.{AnotherLeaves, covered_away, carried_on}
use Rattle.ctr_kept.proofs.LeftBy.{drawn_seat, left_by}
use Rattle.ctr_kept.proofs.Undo.{left_moved}
use Rattle.ctr_kept.proofs.Walking.{begun_moved}

-- what a session does isn't the giving back of another's page
spares : (me : Transaction) (a : Action) (site : Site) (u : Undo) → Covers me a site → SparesUndo a u
spares me a site u covers p is in_ = subst (λ b. Covers me b site) is covers

-- One session moves: the others, their transactions and their snapshots are as they were; what it has of its own is
-- in order; whoever undo has left isn't it; and while its number is open, a session has that.
pub record MovesOne (s : ℕ) (w : Mind) (since : List (ℕ × ℕ)) (mine : List Fact) (scene next : Scene) (site : Site) : Type 0 where
  pub sessions : (r : ℕ) → (r == s) ≡ false → find nat_cmp r next.run.sessions ≡ find nat_cmp r scene.run.sessions
  pub transactions : (r : ℕ) → (r == s) ≡ false → transaction_of next.state r ≡ transaction_of scene.state r
  pub snapshots : (r : ℕ) → (r == s) ≡ false → find nat_cmp r since ≡ find nat_cmp r w.since
  pub since_is : find nat_cmp s since ≡ option_map (λ (t : Transaction). t.snapshot) (transaction_of next.state s)
  pub drawn : (t : Transaction) (b : SessionHeld) → transaction_of next.state s ≡ Some t → find nat_cmp s next.run.sessions ≡ Some b → IsDrawnFor b t
  pub held : (b : SessionHeld) (fact : Fact) → find nat_cmp s next.run.sessions ≡ Some b → IsAmong fact mine → HoldsFact b.me fact site
  pub under : (t : Transaction) (fact : Fact) → transaction_of next.state s ≡ Some t → IsAmong fact mine → IsUnderLock t fact site
  pub tables : (fact : Fact) (e : ℕ) → IsAmong fact mine → IsOfEntry fact e → (title : Title) × IsAmong (HasTable e title) mine
  pub not_orphan : (b : SessionHeld) → find nat_cmp s next.run.sessions ≡ Some b → IsAmong b.me w.undo.orphans → ⊥
  pub seats : (b : SessionHeld) → find nat_cmp s scene.run.sessions ≡ Some b → is_in b.me site.tables.opens ≡ true → IsSessions next.run.sessions b.me

module _ (size : ℕ) (site : Site) (w : Mind) (scene : Scene) (kept : KeepsScene size site w scene) (s : ℕ) (since : List (ℕ × ℕ)) (mine : List Fact) (v : Mind)
    (run_is : v.since ≡ since) (facts_are : v.facts ≡ with_facts s mine w.facts) (undo_is : v.undo ≡ w.undo) (next : Scene) where
  here : with_facts s mine w.facts s ≡ mine
  here = ap (λ b. cond b mine (w.facts s)) (eq-eqb s s refl)

  apart : (r : ℕ) → (r == s) ≡ false → with_facts s mine w.facts r ≡ w.facts r
  apart r two = ap (λ b. cond b mine (w.facts r)) two

  module _ (site_now : Site) (moves : MovesOne s w since mine scene next site_now) where
    nobodys_now : (y : ℕ) → IsAmong y w.undo.orphans → IsNoSessions next.run.sessions y
    nobodys_now y in_ r b at same = known (r == s)
        (λ one. moves.not_orphan b (ap (λ q. find nat_cmp q next.run.sessions) (sym (eqb-true r s one)) ∙ at) (subst (λ z. IsAmong z w.undo.orphans) (sym same) in_))
        (λ two. kept.undo.0.nobodys y in_ r b (sym (moves.sessions r two) ∙ at) same)

    seats_now : (y : ℕ) → is_in y site_now.tables.opens ≡ true → IsSessions scene.run.sessions y → IsSessions next.run.sessions y
    seats_now y open_ its = known (its.s == s)
        (λ one. subst (IsSessions next.run.sessions) its.me (moves.seats its.session (ap (λ q. find nat_cmp q scene.run.sessions) (sym (eqb-true its.s s one)) ∙ its.at) (subst (λ z. is_in z site_now.tables.opens ≡ true) (sym its.me) open_)))
        (λ two. record { s = its.s; session = its.session; at = moves.sessions its.s two ∙ its.at; me = its.me })

    begun_now : HaveBegun v.since next
    begun_now = subst (λ l. HaveBegun l next) (sym run_is) (begun_moved s w.since since scene next moves.snapshots moves.sessions moves.transactions moves.since_is moves.drawn kept.begun)

  -- a turn without an action
  pub silent_scene : MovesOne s w since mine scene next site → IsShown kept.low site next → KeepsScene size site v next
  silent_scene moves shown = record {
    low = kept.low;
    shown = shown;
    begun = begun_now site moves;
    carried = subst (λ f. AreCarried site next f) (sym facts_are) (record {
      held = λ r b fact at in_. known (r == s)
          (λ one. let q = eqb-true r s one in moves.held b fact (ap (λ x. find nat_cmp x next.run.sessions) (sym q) ∙ at) (subst (IsAmong fact) (ap (with_facts s mine w.facts) q ∙ here) in_))
          (λ two. kept.carried.held r b fact (sym (moves.sessions r two) ∙ at) (subst (IsAmong fact) (apart r two) in_));
      under = λ r t fact is_t in_. known (r == s)
          (λ one. let q = eqb-true r s one in moves.under t fact (ap (transaction_of next.state) (sym q) ∙ is_t) (subst (IsAmong fact) (ap (with_facts s mine w.facts) q ∙ here) in_))
          (λ two. kept.carried.under r t fact (sym (moves.transactions r two) ∙ is_t) (subst (IsAmong fact) (apart r two) in_));
      tables = λ r fact e in_ is. known (r == s)
          (λ one. let q = ap (with_facts s mine w.facts) (eqb-true r s one) ∙ here in
          let its = moves.tables fact e (subst (IsAmong fact) q in_) is in (its.0, subst (IsAmong (HasTable e its.0)) (sym q) its.1))
          (λ two. let its = kept.carried.tables r fact e (subst (IsAmong fact) (apart r two) in_) is in (its.0, subst (IsAmong (HasTable e its.0)) (sym (apart r two)) its.1));
    });
    undo = subst (λ u. IsUndoLeft site.tables next.run.sessions u × CountsTo size u) (sym undo_is)
        (left_moved site.tables scene.run.sessions w.undo kept.undo.0 next.run.sessions (nobodys_now site moves) (seats_now site moves), kept.undo.1);
  }

  -- a turn with an action, by a number that no other session has and nobody whom undo has left
  pub action_scene : AnotherLeaves → IsKept scene.state → (me : Transaction) (y : ℕ) (a : Action) → transaction_of scene.state s ≡ Some me → Owes y a site → Covers me a site
      → ((r : ℕ) (c : SessionHeld) → (r == s) ≡ false → find nat_cmp r scene.run.sessions ≡ Some c → c.me ≢ y) → (IsAmong y w.undo.orphans → ⊥)
      → IsInBounds (site_after y a site).area → MovesTo kept.low y a site scene next → MovesOne s w since mine scene next (site_after y a site) → KeepsScene size (site_after y a site) v next
  action_scene leaves legal me y a is_me owed covers alone not_orphan bounds to moves =
      let paged = kept.shown.paged in record {
        low = kept.low;
        shown = moved kept.low site scene kept.shown y a next owed bounds to;
        begun = begun_now (site_after y a site) moves;
        carried = subst (λ f. AreCarried (site_after y a site) next f) (sym facts_are)
            (carried_on leaves site paged.bounds paged.few paged.sound y a owed s scene next w.facts (with_facts s mine w.facts) kept.carried moves.sessions moves.transactions apart
            (λ r c at_c. paged.modelled r c at_c) (λ r t is_t. let one = paged.shows.inside r t is_t in (one.0, one.1)) alone
            (λ r c t two at_c is_t fact in_ holds under its. covered_away site paged.bounds paged.sound t me (legal.apart s r me t (other r two) is_me is_t) c.me y a fact owed covers holds under its)
            (λ b fact at in_. moves.held b fact at (subst (IsAmong fact) here in_)) (λ t fact is_t in_. moves.under t fact is_t (subst (IsAmong fact) here in_))
            (λ fact e in_ is. let its = moves.tables fact e (subst (IsAmong fact) here in_) is in (its.0, subst (IsAmong (HasTable e its.0)) (sym here) its.1)));
        undo = subst (λ u. IsUndoLeft (site_after y a site).tables next.run.sessions u × CountsTo size u) (sym undo_is)
            (left, kept.undo.1);
      }
    where
      left : IsUndoLeft (site_after y a site).tables next.run.sessions w.undo
      left = left_by site kept.shown.paged.bounds kept.shown.paged.sound scene.run.sessions w.undo kept.undo.0 y not_orphan a owed (spares me a site w.undo covers)
          next.run.sessions (nobodys_now (site_after y a site) moves) (seats_now (site_after y a site) moves) (drawn_seat kept.low y a site scene next to)

      other : (r : ℕ) → (r == s) ≡ false → (s == r) ≡ false
      other r two = ne_eqb s r (λ is. false≢true (sym two ∙ eq-eqb r s (sym is)))
