-- The steps of a walk: a turn with an entry, and one without.
use Rattle.std.proofs.Common.{◌≡◌, ℕ, ◌≤◌, ◌==◌, false, List, [], ◌∷◌, ◌++◌, Some, sym, ◌∙◌, ap, subst, arith}
use Rattle.std.specs.Option.{option_map}
use Rattle.std.specs.Ordering.{nat_cmp}
use Rattle.std.specs.FinMap.Entries.{find}
use Rattle.std.proofs.lemmas.Bool.{eqb-true}
use Rattle.ctr_types.specs.declared.statement.Line.{Line}
use Rattle.ctr_types.specs.declared.tape.Entry.{Entry}
use Rattle.ctr_model.specs.declared.state.Transaction.{Transaction}
use Rattle.ctr_model.specs.declared.tape.Point.{Point}
use Rattle.ctr_model.specs.Database.{Database}
use Rattle.ctr_model.specs.State.{transaction_of}
use Rattle.ctr_model.specs.Tape.{final, Legal, Comes, passed, at_start}
use Rattle.ctr_legal.proofs.Reached.{legal_push, final_push, tape_reached, start_reached}
use Rattle.ctr_legal.specs.Ready.{IsReached}
use Rattle.ctr_versions.proofs.Keys.{known}
use Rattle.ctr_versions.specs.Engine.{SessionHeld}
use Rattle.ctr_paged.specs.sessions_Sessions.{IsDrawnFor, ShowsBegun}
use Rattle.ctr_paged.specs.actions_Sites.{Site}
use Rattle.ctr_paged.specs.Paged.{engine_at}
use Rattle.ctr_paged.specs.Shown.{Scene}
use Rattle.ctr_paged.proofs.Begun.{begun_shows}
use Rattle.ctr_kept.specs.Walk.{Mind, HaveBegun, KeepsScene, AreAtRollback, Keeps}

-- one session moves: the others' snapshots and numbers are as they were
pub begun_moved : (s : ℕ) (since now : List (ℕ × ℕ)) (scene next : Scene)
    → ((r : ℕ) → (r == s) ≡ false → find nat_cmp r now ≡ find nat_cmp r since) → ((r : ℕ) → (r == s) ≡ false → find nat_cmp r next.run.sessions ≡ find nat_cmp r scene.run.sessions)
    → ((r : ℕ) → (r == s) ≡ false → transaction_of next.state r ≡ transaction_of scene.state r)
    → find nat_cmp s now ≡ option_map (λ (t : Transaction). t.snapshot) (transaction_of next.state s)
    → ((t : Transaction) (b : SessionHeld) → transaction_of next.state s ≡ Some t → find nat_cmp s next.run.sessions ≡ Some b → IsDrawnFor b t)
    → HaveBegun since scene → HaveBegun now next
begun_moved s since now scene next same others transactions here drawn begun = record {
  since_is = λ r. known (r == s)
      (λ one. subst (λ q. find nat_cmp q now ≡ option_map (λ (t : Transaction). t.snapshot) (transaction_of next.state q)) (sym (eqb-true r s one)) here)
      (λ two. same r two ∙ begun.since_is r ∙ ap (option_map (λ (t : Transaction). t.snapshot)) (sym (transactions r two)));
  drawn = λ r t b is_t at. known (r == s)
      (λ one. let q = eqb-true r s one in drawn t b (ap (transaction_of next.state) (sym q) ∙ is_t) (ap (λ x. find nat_cmp x next.run.sessions) (sym q) ∙ at))
      (λ two. begun.drawn r t b (sym (transactions r two) ∙ is_t) (sym (others r two) ∙ at));
}

module _ (lines : List Line) (moment : ℕ) (base : Database) (stuck : List (List ℕ)) (size now : ℕ) (site : Site) (w : Mind) where
  abbrev start : Point
  start = at_start moment base stuck

  abbrev point : Point
  point = final lines start w.tape

  module _ (keeps : Keeps lines start size now site w) where
    -- the laws of the model, and those of sessions, hold of it
    pub keeps_reached : IsReached lines point
    keeps_reached = tape_reached lines start w.tape (start_reached lines moment base stuck) keeps.legal

    pub keeps_begun : ShowsBegun keeps.scene.low (record { engine = engine_at site w.run; since = w.since }) point.state
    keeps_begun = begun_shows keeps.scene.low site w.run point.state w.since keeps.scene.shown.paged keeps.scene.begun.since_is keeps.scene.begun.drawn

    -- a turn without an entry keeps the same state
    pub keeps_on : (later : ℕ) (next : Site) (v : Mind) → now ≤ later → v.tape ≡ w.tape → KeepsScene size next v (record { run = v.run; state = point.state }) → AreAtRollback lines point v.run → Keeps lines start size later next v
    keeps_on later next v le same kept rolls = record {
      legal = subst (Legal lines start) (sym same) keeps.legal;
      later = further (subst (λ t. (final lines start t).moment ≤ now) (sym same) keeps.later) le;
      scene = subst (λ t. KeepsScene size next v (record { run = v.run; state = (final lines start t).state })) (sym same) kept;
      rolls = subst (λ t. AreAtRollback lines (final lines start t) v.run) (sym same) rolls;
    }
      where
        further : {a b c : ℕ} → a ≤ b → b ≤ c → a ≤ c
        further p q = omega (arith, p, q)

    -- a turn with an entry keeps the model's next state
    pub keeps_entry : (e : Entry) (next : Site) (v : Mind) → Comes lines point e → v.tape ≡ w.tape ++ e ∷ [] → KeepsScene size next v (record { run = v.run; state = (passed lines point e).state }) → AreAtRollback lines (passed lines point e) v.run → Keeps lines start size e.moment next v
    keeps_entry e next v comes longer kept rolls = record {
      legal = subst (Legal lines start) (sym longer) (legal_push lines start w.tape e keeps.legal comes);
      later = subst (λ (p : Point). p.moment ≤ e.moment) (sym at_end) (omega arith);
      scene = subst (λ (p : Point). KeepsScene size next v (record { run = v.run; state = p.state })) (sym at_end) kept;
      rolls = subst (λ (p : Point). AreAtRollback lines p v.run) (sym at_end) rolls;
    }
      where
        at_end : final lines start v.tape ≡ passed lines point e
        at_end = ap (final lines start) longer ∙ final_push lines start w.tape e
