-- A session counts on other facts, without a turn.
use Rattle.std.proofs.Common.{◌≡◌, ℕ, ◌≤◌, ◌==◌, true, false, cond, List, Some, refl, sym, ◌∙◌, ap, subst, arith}
use Rattle.std.proofs.lemmas.Bool.{eqb-true}
use Rattle.std.specs.Ordering.{nat_cmp}
use Rattle.std.specs.FinMap.Entries.{find}
use Rattle.ctr_model.specs.declared.state.Transaction.{Transaction}
use Rattle.ctr_model.specs.State.{transaction_of}
use Rattle.ctr_versions.specs.Engine.{SessionHeld}
use Rattle.ctr_versions.proofs.Keys.{some_is}
use Rattle.ctr_page.specs.declared.header.Header.{Header}
use Rattle.ctr_area.specs.Sound.{IsAmong}
use Rattle.ctr_rollback.specs.actions_Facts.{Fact, HasBlank, HoldsFact}
use Rattle.ctr_views.specs.actions_Sites.{Site}
use Rattle.ctr_rollback.specs.kept_Carried.{IsUnderLock}
use Rattle.ctr_rollback.specs.kept_Walk.{Mind, with_facts}
use Rattle.ctr_rollback.specs.kept_Turns.{Start, KeepsRun, InTransaction, Carries, carrying, scene_now, state_now}
use Rattle.ctr_rollback.proofs.kept_Turning.{MovesOne, silent_scene}
use Rattle.ctr_rollback.proofs.kept_Walking.{keeps_on}
use Rattle.ctr_rollback.specs.stops_Pages.{CountsOnNoMore}

at_once : (n : ℕ) → n ≤ n
at_once n = omega arith

module _ (c : Start) (now s : ℕ) (site : Site) (w : Mind) (keeps : KeepsRun c now site w) (seat : InTransaction c w s) (mine : List Fact) (carries : Carries seat.session.me seat.t mine site) where
  is_session : (b : SessionHeld) → find nat_cmp s w.run.sessions ≡ Some b → seat.session ≡ b
  is_session b at = some_is seat.session b (sym seat.at ∙ at)

  is_its : (t : Transaction) → transaction_of (state_now c w) s ≡ Some t → seat.t ≡ t
  is_its t at = some_is seat.t t (sym seat.is_t ∙ at)

  stays : MovesOne s w w.since mine (scene_now c w) (scene_now c w) site
  stays = record {
    sessions = λ r two. refl;
    transactions = λ r two. refl;
    snapshots = λ r two. refl;
    since_is = keeps.scene.begun.since_is s;
    drawn = λ t b is_t at. keeps.scene.begun.drawn s t b is_t at;
    held = λ b fact at in_. subst (λ (a : SessionHeld). HoldsFact a.me fact site) (is_session b at) (carries.held fact in_).0;
    under = λ t fact is_t in_. subst (λ (u : Transaction). IsUnderLock u fact site) (is_its t is_t) (carries.held fact in_).1;
    tables = carries.tables;
    not_orphan = λ b at in_. keeps.scene.undo.0.nobodys b.me in_ s b at refl;
    seats = λ b at open_. record { s = s; session = b; at = at; me = refl };
  }

  pub counts_now : KeepsRun c now site (carrying s mine w)
  counts_now = keeps_on c.lines c.moment c.base c.stuck c.size now site w keeps now site (carrying s mine w) (at_once now) refl
      (silent_scene c.size site w (scene_now c w) keeps.scene s w.since mine (carrying s mine w) refl refl refl (scene_now c w) stays keeps.scene.shown)
      keeps.rolls

-- no page more is counted on as empty
pub no_more : (s : ℕ) (w v : Mind) (mine : List Fact) → v.run.sessions ≡ w.run.sessions → v.facts ≡ with_facts s mine w.facts → ((p : ℕ) (h : Header) → IsAmong (HasBlank p h) mine → IsAmong (HasBlank p h) (w.facts s)) → CountsOnNoMore w v
no_more s w v mine same facts blank r b p h at in_ =
    let there = subst (λ (f : ℕ → List Fact). IsAmong (HasBlank p h) (f r)) facts in_ in
    (b, ap (find nat_cmp r) (sym same) ∙ at, by (r == s) refl there)
  where
    by : (x : _) → (r == s) ≡ x → IsAmong (HasBlank p h) (cond x mine (w.facts r)) → IsAmong (HasBlank p h) (w.facts r)
    by true one is = subst (λ q. IsAmong (HasBlank p h) (w.facts q)) (sym (eqb-true r s one)) (blank p h is)
    by false two is = is
