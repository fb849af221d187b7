-- The low mark, and the low number that it stands for.
use Rattle.std.proofs.Common.{◌≡◌, ℕ, zero, suc, ◌≤◌, ◌<◌, true, false, cond, List, [], ◌∷◌, ◌++◌, Some, None, refl, sym, ◌∙◌, ap, subst, arith, ⊎_elim}
use Rattle.std.specs.Prelude.{unwrap_or, max, is_some}
use Rattle.std.specs.Ordering.{is_eq, nat_cmp}
use Rattle.std.specs.FinMap.Entries.{find}
use Rattle.std.proofs.lemmas.Bool.{false≢true, true≢false, cases_lt}
use Rattle.ctr_model.specs.declared.state.State.{State}
use Rattle.ctr_model.specs.declared.state.Transaction.{Transaction}
use Rattle.ctr_snap.specs.Seeing.{named, AreFrom}
use Rattle.ctr_snap.proofs.Least.{least_below}
use Rattle.ctr_versions.specs.Chains.{Numbers}
use Rattle.ctr_versions.specs.Changes.{IsOld}
use Rattle.ctr_versions.specs.Xids.{number_of, unanswered, taken, below_mark}
use Rattle.ctr_versions.specs.Engine.{SessionHeld, EngineHeld, ShowsState}
use Rattle.ctr_versions.specs.Laws.{sessions_named, mark_of}
use Rattle.ctr_versions.proofs.Xids.{taken_is_of, low_number}
use Rattle.ctr_versions.proofs.Cleaning.{below_number, raise_step}

-- ---- the highest number below a mark

pub highest : ℕ → Numbers → ℕ → ℕ
highest low f zero = low
highest low f (suc m) = max (highest low f m) (unwrap_or (f m) 0)

highest_from : (low : ℕ) (f : Numbers) (m : ℕ) → low ≤ highest low f m
unfolding highest
highest_from low f zero = omega arith
highest_from low f (suc m) = omega (arith, highest_from low f m)

highest_at : (low : ℕ) (f : Numbers) (m x k : ℕ) → x < m → f x ≡ Some k → k ≤ highest low f m
unfolding highest
highest_at low f zero x k lt is = absurd (beyond x lt)
  where
    beyond : (x : ℕ) → x < 0 → ⊥
    beyond x lt = omega (arith, lt)
highest_at low f (suc m) x k lt is = ⊎_elim
    (λ before. let rest : k ≤ highest low f m = highest_at low f m x k before is in omega (arith, rest))
    (λ ge. let here : k ≤ unwrap_or (f m) 0 = subst (λ o. k ≤ unwrap_or o 0) (sym (ap f (same x m ge lt) ∙ is)) (omega arith) in omega (arith, here))
    (cases_lt x m)
  where
    same : (x m : ℕ) → m ≤ x → x < suc m → m ≡ x
    same x m ge lt = omega (arith, ge, lt)

highest_within : (low : ℕ) (f : Numbers) (m b : ℕ) → low ≤ b → ((x k : ℕ) → x < m → f x ≡ Some k → k ≤ b) → highest low f m ≤ b
unfolding highest
highest_within low f zero b le each = le
highest_within low f (suc m) b le each =
    let rest : highest low f m ≤ b = highest_within low f m b le (λ x k lt is. each x k (omega (arith, lt)) is) in
    let here : unwrap_or (f m) 0 ≤ b = elim (f m) as (λ o. f m ≡ o → unwrap_or o 0 ≤ b) [ Some k ↦ λ is. each m k (omega arith) is | None ↦ λ is. omega arith ] refl in
    omega (arith, rest, here)

-- ---- what the mark is below

from_front : (mark : ℕ) (xs ys : List ℕ) → AreFrom mark (xs ++ ys) → AreFrom mark xs
from_front mark [] ys all = tt
from_front mark (x ∷ xs) ys all = (all.0, from_front mark xs ys all.1)

from_back : (mark : ℕ) (xs ys : List ℕ) → AreFrom mark (xs ++ ys) → AreFrom mark ys
from_back mark [] ys all = all
from_back mark (x ∷ xs) ys all = from_back mark xs ys all.1

-- of the first session, where it isn't within its rollback, and of the others
named_parts : (mark : ℕ) (e : ℕ × SessionHeld) (es : List (ℕ × SessionHeld)) → AreFrom mark (sessions_named (e ∷ es)) → (e.1.undoing ≡ false → AreFrom mark (named e.1.snapshot)) × AreFrom mark (sessions_named es)
named_parts mark e es all =
    elim e.1.undoing as (λ b. AreFrom mark (cond b (sessions_named es) (named e.1.snapshot ++ sessions_named es)) → (b ≡ false → AreFrom mark (named e.1.snapshot)) × AreFrom mark (sessions_named es)) [
      | true ↦ λ rest. (λ calm. absurd (true≢false calm), rest)
      | false ↦ λ both. (λ calm. from_front mark (named e.1.snapshot) (sessions_named es) both, from_back mark (named e.1.snapshot) (sessions_named es) both)
    ] all

from_named : (mark s : ℕ) (session : SessionHeld) (sessions : List (ℕ × SessionHeld)) → AreFrom mark (sessions_named sessions) → find nat_cmp s sessions ≡ Some session → session.undoing ≡ false → AreFrom mark (named session.snapshot)
from_named mark s session [] all is calm = absurd (false≢true (ap is_some is))
from_named mark s session (e ∷ es) all is calm =
    let parts = named_parts mark e es all in
    elim (is_eq (nat_cmp s e.0)) as (λ b. cond b (Some e.1) (find nat_cmp s es) ≡ Some session → AreFrom mark (named session.snapshot)) [
      | true ↦ λ one.
          let same : e.1 ≡ session = ap (λ o. unwrap_or o e.1) one in
          subst (λ (a : SessionHeld). AreFrom mark (named a.snapshot)) same (parts.0 (ap (λ (a : SessionHeld). a.undoing) same ∙ calm))
      | false ↦ λ rest. from_named mark s session es parts.1 rest calm
    ] is

-- ---- everyone sees what is committed below the mark

module _ (low : ℕ) (engine : EngineHeld) (state : State) (shows : ShowsState low engine state) where
  abbrev number : Numbers
  number = number_of engine.xids

  abbrev mark : ℕ
  mark = mark_of engine

  abbrev pub marked : ℕ
  marked = highest low number mark

  below : AreFrom mark (engine.xids.next ∷ unanswered engine.xids engine.answered ++ sessions_named engine.sessions)
  below = least_below engine.xids.next (unanswered engine.xids engine.answered ++ sessions_named engine.sessions)

  within_answered : (x k : ℕ) → x < mark → number x ≡ Some k → k ≤ state.answered
  within_answered x k lt is = subst (λ n. k ≤ n) shows.same_answered
      (low_number engine.xids (taken engine.xids engine.answered) engine.answered mark x k (taken_is_of engine.xids engine.answered shows.sound)
      (below.0, from_front mark (unanswered engine.xids engine.answered) (sessions_named engine.sessions) below.1) is lt)

  within_session : (s : ℕ) (t : Transaction) → (at : find nat_cmp s state.sessions ≡ Some t) → (shows.inside s t at).0.undoing ≡ false → (x k : ℕ) → x < mark → number x ≡ Some k → k ≤ t.snapshot
  within_session s t at calm x k lt is =
      let one = shows.inside s t at in
      low_number engine.xids one.0.snapshot t.snapshot mark x k one.2.snapshot
      (from_named mark s one.0 engine.sessions (from_back mark (unanswered engine.xids engine.answered) (sessions_named engine.sessions) below.1) one.1 calm) is lt

  pub marked_old : IsOld number marked (below_mark engine.xids mark)
  marked_old x passes = let one = below_number engine.xids mark x passes in (one.0, one.1, highest_at low number mark x one.0 one.2 one.1)

  pub marked_shows : ShowsState marked engine state
  marked_shows = raise_step low marked engine state (highest_from low number mark)
      (highest_within low number mark state.answered shows.lowest within_answered)
      shows
      (λ s t at calm. highest_within low number mark t.snapshot ((shows.inside s t at).2.from calm) (within_session s t at calm))
