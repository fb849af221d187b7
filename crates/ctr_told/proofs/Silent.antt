-- Acts that log nothing, and what the session counts on behind them.
use Rattle.std.proofs.Common.{◌≡◌, ⊎_elim, ℕ, ◌==◌, true, false, cond, List, [], Some, refl, sym, ◌∙◌, ap, subst}
use Rattle.std.proofs.lemmas.Bool.{eqb-true}
use Rattle.std.specs.Ordering.{nat_cmp}
use Rattle.std.specs.FinMap.Entries.{find}
use Rattle.ctr_model.specs.declared.state.Transaction.{Transaction}
use Rattle.ctr_versions.specs.Engine.{SessionHeld}
use Rattle.ctr_area.specs.Sound.{IsAmong}
use Rattle.ctr_rollback.specs.actions_Facts.{Fact, IsOpen, HasBlank, HasNoPageBut}
use Rattle.ctr_views.specs.actions_Sites.{Site}
use Rattle.ctr_rollback.specs.kept_Walk.{Mind, with_facts}
use Rattle.ctr_rollback.specs.kept_Turns.{Start, KeepsRun, InTransaction, Carries, carrying}
use Rattle.ctr_rollback.proofs.kept_Tables.{UsesStill}
use Rattle.ctr_rollback.specs.stops_Pages.{CountsOnNoMore}
use Rattle.ctr_told.specs.Turning.{IdleCountsOn}
use Rattle.ctr_told.proofs.Idle.{carried_more, idle_more, idle_open, idle_none}

-- to count on the same is to count on no other facts
same_at : (s r : ℕ) (facts : ℕ → List Fact) (x : _) → (r == s) ≡ x → cond x (facts s) (facts r) ≡ facts r
same_at s r facts true one = ap facts (sym (eqb-true r s one))
same_at s r facts false two = refl

pub same_carried : (s : ℕ) (w : Mind) → carrying s (w.facts s) w ≡ w
same_carried s w = λ i. record w { facts = λ r. same_at s r w.facts (r == s) refl i }

-- what it counts on it carries
pub carries_its : (c : Start) (now s : ℕ) (site : Site) (w : Mind) → KeepsRun c now site w → (seat : InTransaction c w s) → Carries seat.session.me seat.t (w.facts s) site
carries_its c now s site w keeps seat = record {
  held = λ fact in_. (keeps.scene.carried.held s seat.session fact seat.at in_, keeps.scene.carried.under s seat.t fact seat.is_t in_);
  tables = λ fact e in_ is. keeps.scene.carried.tables s fact e in_ is;
}

-- between two statements, in whatever transaction
pub carries_idle : (c : Start) (now s : ℕ) (site : Site) (w : Mind) → KeepsRun c now site w → (seat : InTransaction c w s) (more : List Fact) → IdleCountsOn seat.session.me more (w.facts s) → (u : Transaction) → UsesStill seat.t u → Carries seat.session.me u (w.facts s) site
carries_idle c now s site w keeps seat more idle u uses = ⊎_elim
    (λ some. let held = keeps.scene.carried.held s seat.session in
    let its = idle_more more (w.facts s) some.2 in
    subst (λ l. Carries seat.session.me u l site) (sym some.2)
    (carried_more seat.session.me seat.t u site site more some.1 (λ f in_. keeps.scene.carried.under s seat.t f seat.is_t (its f in_)) uses (λ f in_. held f seat.at (its f in_))
    (held IsOpen seat.at (idle_open more (w.facts s) some.2)) (held (HasNoPageBut []) seat.at (idle_none more (w.facts s) some.2))))
    (λ none. subst (λ l. Carries seat.session.me u l site) (sym none.1) (record { held = λ fact in_. absurd in_; tables = λ fact e in_ is. absurd in_ }))
    idle

-- one session counts on nothing, and the others are held as they were: no page more is counted on as empty
pub none_more : (s : ℕ) (w v : Mind) → ((r : ℕ) → (r == s) ≡ false → find nat_cmp r v.run.sessions ≡ find nat_cmp r w.run.sessions) → v.facts ≡ with_facts s [] w.facts → CountsOnNoMore w v
none_more s w v others facts r b p h at in_ =
    by (r == s) refl (subst (λ (f : ℕ → List Fact). IsAmong (HasBlank p h) (f r)) facts in_)
  where
    by : (x : _) → (r == s) ≡ x → IsAmong (HasBlank p h) (cond x [] (w.facts r)) → (d : SessionHeld) × (find nat_cmp r w.run.sessions ≡ Some d) × IsAmong (HasBlank p h) (w.facts r)
    by true one is = absurd is
    by false two is = (b, sym (others r two) ∙ at, is)

-- what it counts on last is what it counts on
pub last_carried : (s : ℕ) (more : List Fact) (w v : Mind) → v.facts ≡ with_facts s [] w.facts → carrying s more v ≡ record v { facts = with_facts s more w.facts }
last_carried s more w v is = λ i. record v { facts = λ r. (ap (λ (f : ℕ → List Fact). cond (r == s) more (f r)) is ∙ twice (r == s) (w.facts r)) i }
  where
    twice : (x : _) (facts : List Fact) → cond x more (cond x [] facts) ≡ cond x more facts
    twice true facts = refl
    twice false facts = refl
