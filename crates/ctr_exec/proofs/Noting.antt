-- What is written down of a turn of an act, in terms of the sessions before it.
use Rattle.std.proofs.Common.{◌≡◌, ℕ, zero, suc, ◌+◌, ◌-◌, List, [], ◌∷◌, ◌++◌, length, Some, ◌∙◌, ap, subst}
use Rattle.std.specs.Prelude.{slice_get, slice_set, vec_len, vec_capacity, is_some}
use Rattle.std.specs.List.{AllByRecursion}
use Rattle.std.proofs.lemmas.Bool.{false≢true}
use Rattle.std.proofs.lemmas.List.{get_or-set_same}
use Rattle.ctr_locks.specs.Held.{LocksOfSession}
use Rattle.ctr_control.specs.txn_Held.{TxnsHeld, IsOneOfEight}
use Rattle.ctr_exec.specs.declared.acting.Acted.{Acted}
use Rattle.ctr_exec.specs.declared.runners.Runner.{Runner}
use Rattle.ctr_exec.specs.declared.runners.Stage.TheVariants as stage
use Rattle.ctr_exec.specs.declared.sessions.Sessions.{Sessions}
use Rattle.ctr_exec.specs.Runners.{runner_at, vacant}
use Rattle.ctr_exec.specs.Sessions.{AreSeated, entries_by, sessions_held_by, runner_by}
use Rattle.ctr_exec.proofs.Seats.{entries_taken, inside_here, runner_taken, set_twice}

-- what holds of each holds of the one at a place
pub all_at : {A : Type 0} (P : A → Type 0) (xs : List A) (i : ℕ) (x : A) → AllByRecursion P xs → slice_get xs i ≡ Some x → P x
all_at P [] zero x all is = absurd (false≢true (ap is_some is))
all_at P [] (suc i) x all is = absurd (false≢true (ap is_some is))
all_at P (y ∷ ys) zero x all is = subst P (cc is) all.0
all_at P (y ∷ ys) (suc i) x all is = all_at P ys i x all.1 is

module _ (h mid now : Sessions) (m : ℕ) (seats : AreSeated h m) (s : ℕ) (one : IsOneOfEight s) (txns : TxnsHeld) (locks : List (ℕ × LocksOfSession)) (l : Acted) (moment : ℕ)
    (same : mid ≡ record h { runners = mid.runners }) (taken : mid.runners.items ≡ slice_set h.runners.items (s - 1) (record (runner_at s h.runners.items) { stage = stage.Between }))
    (is : now ≡ record (record mid { txns = txns; locks = locks }) { tape = now.tape; runners = now.runners })
    (tape : now.tape.items ≡ mid.tape.items ++ entries_by s (runner_at s mid.runners.items) moment l)
    (len : vec_len now.tape ≡ vec_len mid.tape + length (entries_by s (runner_at s mid.runners.items) moment l))
    (capacity : vec_capacity now.tape ≡ vec_capacity mid.tape)
    (runners : now.runners.items ≡ slice_set mid.runners.items (s - 1) (runner_by l (runner_at s mid.runners.items))) where
  abbrev mine : Runner
  mine = runner_at s h.runners.items

  abbrev out : Runner
  out = record mine { stage = stage.Between }

  its : runner_at s mid.runners.items ≡ out
  its = ap (runner_at s) taken ∙ get_or-set_same h.runners.items (s - 1) out vacant (inside_here h m seats s one)

  pub script_now : now.script ≡ h.script
  script_now = ap (λ (z : Sessions). z.script) is ∙ ap (λ (z : Sessions). z.script) same

  pub stuck_now : now.stuck ≡ h.stuck
  stuck_now = ap (λ (z : Sessions). z.stuck) is ∙ ap (λ (z : Sessions). z.stuck) same

  pub txns_now : now.txns ≡ txns
  txns_now = ap (λ (z : Sessions). z.txns) is

  pub held_now : sessions_held_by now ≡ record { txns = txns; locks = locks }
  held_now = ap sessions_held_by is

  pub runners_now : now.runners.items ≡ slice_set h.runners.items (s - 1) (runner_by l mine)
  runners_now = runners ∙ (λ i. slice_set (taken i) (s - 1) (runner_by l (its i))) ∙ set_twice h.runners.items (s - 1) out (runner_by l out) ∙ ap (slice_set h.runners.items (s - 1)) (runner_taken l mine)

  entries_are : entries_by s (runner_at s mid.runners.items) moment l ≡ entries_by s mine moment l
  entries_are = ap (λ r. entries_by s r moment l) its ∙ entries_taken l s moment mine

  pub tape_now : now.tape.items ≡ h.tape.items ++ entries_by s mine moment l
  tape_now = tape ∙ (λ i. (same i).tape.items ++ entries_are i)

  pub len_now : vec_len now.tape ≡ vec_len h.tape + length (entries_by s mine moment l)
  len_now = len ∙ (λ i. vec_len (same i).tape + length (entries_are i))

  pub capacity_now : vec_capacity now.tape ≡ vec_capacity h.tape
  capacity_now = capacity ∙ ap (λ (z : Sessions). vec_capacity z.tape) same
