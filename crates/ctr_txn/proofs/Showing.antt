-- The scene behind a turn without a record.
use Rattle.std.proofs.Common.{◌≡◌, ℕ, ◌<◌, arith, false, true, Option, Some, None, refl, sym, ◌∙◌, ap, subst, length}
use Rattle.std.specs.Prelude.{IfSome}
use Rattle.std.specs.Option.{option_map}
use Rattle.std.specs.Ordering.{nat_cmp}
use Rattle.std.specs.FinMap.Entries.{find}
use Rattle.ctr_model.specs.declared.state.State.{State}
use Rattle.ctr_model.specs.declared.state.Transaction.{Transaction}
use Rattle.ctr_model.specs.Maps.{without}
use Rattle.ctr_versions.specs.Xids.{taken}
use Rattle.ctr_meta.specs.Tables.{Tables}
use Rattle.ctr_paged.specs.actions_Sites.{Site}
use Rattle.ctr_paged.specs.Paged.{Run, xids_of}
use Rattle.ctr_paged.specs.Moving.{held_as, begun_now, answered_one}
use Rattle.ctr_paged.specs.Shown.{Scene, IsShown}
use Rattle.ctr_txn.specs.declared.txn.Asked.{Asked}
use Rattle.ctr_txn.specs.Numbered.{NumbersHeld}
use Rattle.ctr_txn.specs.Held.{TxnHeld, TxnsHeld, run_of, scene_with, txn_of, IsOneOfEight}
use Rattle.ctr_txn.specs.Steps.{SetsTxn, AnswersNext, txn_begun, txn_undoing}
use Rattle.ctr_txn.specs.Calls.{answered_state}
use Rattle.ctr_txn.proofs.Runs.{sets_run, ends_run, found_is, answers_run}

module _ (s : ℕ) (old new : TxnsHeld) (one : IsOneOfEight s) (eight : length old.sessions ≡ 8) (numbers : new.numbers ≡ old.numbers) where
  same_commits : (run : Run) → run.commits ≡ old.numbers.commits → record run { commits = new.numbers.commits } ≡ run
  same_commits run is = λ i. record { commits = (ap (λ (n : NumbersHeld). n.commits) numbers ∙ sym is) i; sessions = run.sessions; answered = run.answered }

  pub begun_run : (site : Site) (tables : Tables) → site.tables ≡ tables → SetsTxn s (Some (txn_begun tables old)) old new → run_of new ≡ held_as s (begun_now site (run_of old)) (run_of old)
  begun_run site tables is sets =
      sets_run s (txn_begun tables old) old new one eight sets ∙ same_commits (held_as s (txn_begun tables old).session (run_of old)) refl
      ∙ ap (λ (t : Tables). held_as s (record { me = 0; snapshot = taken (xids_of t old.numbers.commits) old.answered; undoing = false }) (run_of old)) (sym is)

  pub undoing_run : (t : TxnHeld) → SetsTxn s (Some (txn_undoing t)) old new → run_of new ≡ held_as s (record t.session { undoing = true }) (run_of old)
  undoing_run t sets = sets_run s (txn_undoing t) old new one eight sets ∙ same_commits (held_as s (record t.session { undoing = true }) (run_of old)) refl

  pub ended_run : SetsTxn s None old new → run_of new ≡ record (run_of old) { sessions = without nat_cmp s (run_of old).sessions }
  ended_run sets = ends_run s old new one sets ∙ same_commits (record (run_of old) { sessions = without nat_cmp s (run_of old).sessions }) refl

pub found_session : (s : ℕ) (a : TxnsHeld) (t : TxnHeld) → IsOneOfEight s → txn_of s a ≡ Some t → find nat_cmp s (run_of a).sessions ≡ Some t.session
found_session s a t one is = found_is s a one ∙ ap (option_map (λ (t : TxnHeld). t.session)) is

-- what is shown once a commit is answered, by the law of that turn
pub answered_shows : ((low : ℕ) (site : Site) (a : Scene) (s k : ℕ) (t : Transaction) → IsShown low site a → find nat_cmp s a.state.sessions ≡ Some t → t.asked ≡ Some k → a.state.answered < length a.state.asked → IsShown low site (answered_one s a))
    → (old new : TxnsHeld) (low : ℕ) (site : Site) (state : State) (t : Transaction) → IsShown low site (scene_with old state)
    → (result : Option (ℕ × Asked)) → IfSome result (λ r. AnswersNext r.0 r.1 old new)
    → IfSome result (λ r. find nat_cmp r.0 state.sessions ≡ Some t → t.asked ≡ Some r.1.k → IsShown low site (scene_with new (answered_state r.0 state)))
answered_shows law old new low site state t shown None next = tt
answered_shows law old new low site state t shown (Some r) next = λ at asks.
    subst (λ (run : Run). IsShown low site (record { run = run; state = answered_state r.0 state })) (sym (answers_run r.0 r.1 old new next))
    (law low site (scene_with old state) r.0 r.1.k t shown at asks more)
  where
    more : state.answered < length state.asked
    more =
        let counted = shown.paged.shows.counted in
        let same = shown.paged.shows.same_answered in
        let within = next.within in
        let first = next.next in
        omega (arith, counted, same, within, first)
