-- Nobody is in a transaction by the tape where nobody is by what the program has; and then nobody has a lock, and no number is below the next.
use Rattle.std.proofs.Common.{◌≡◌, ℕ, suc, ◌+◌, ◌-◌, ◌<◌, ◌≤◌, ℤ, false, List, [], ◌∷◌, ◌++◌, drop, length, Option, Some, None, refl, sym, ◌∙◌, ap, subst, arith}
use Rattle.std.specs.Prelude.{get_or, is_some, nat_lt}
use Rattle.std.specs.Option.{option_map}
use Rattle.std.specs.Ordering.{nat_cmp}
use Rattle.std.specs.FinMap.Entries.{find}
use Rattle.std.proofs.lemmas.Bool.{false≢true, ltb-true, ltb-false}
use Rattle.std.proofs.lemmas.List.{drop_all}
use Rattle.ctr_disk.specs.declared.disk.Disk.{Ghosts}
use Rattle.ctr_model.specs.declared.state.State.{State}
use Rattle.ctr_model.specs.declared.state.Transaction.{Transaction}
use Rattle.ctr_model.specs.State.{transaction_of}
use Rattle.ctr_snap.specs.Seeing.{least}
use Rattle.ctr_versions.proofs.Keys.{known}
use Rattle.ctr_versions.specs.Laws.{sessions_named}
use Rattle.ctr_area.specs.Sound.{xids_in}
use Rattle.ctr_locks.specs.Held.{held_by_session, session_locks}
use Rattle.ctr_locks.specs.Shows.{HasNothing, IsTheSame}
use Rattle.ctr_walk.specs.store_Store.{View}
use Rattle.ctr_exec.specs.ctr_control.kept_Turns.{Start, state_now}
use Rattle.ctr_exec.specs.ctr_control.kept_Walk.{Mind}
use Rattle.ctr_exec.specs.ctr_control.txn_Steps.{mark_in}
use Rattle.ctr_exec.specs.ctr_session_world.World.{names_in}
use Rattle.ctr_exec.specs.declared.sessions.Sessions.{Sessions}
use Rattle.ctr_exec.specs.Sessions.{ShowsSessions}
use Rattle.ctr_exec.specs.txn_Held.{TxnHeld, held_from, txn_of}
use Rattle.ctr_txn.proofs.Running.{find_held}
use Rattle.ctr_pass.specs.Sparing.{HaveNobody, IsNobodyInside}

-- where no session is in a transaction, none is held
none_held : (n : ℕ) (os : List (Option TxnHeld)) → ((i : ℕ) → get_or os i None ≡ None) → held_from n os ≡ []
none_held n [] none = refl
none_held n (None ∷ os) none = none_held (n + 1) os (λ i. none (suc i))
none_held n (Some t ∷ os) none = absurd (false≢true (ap is_some (sym (none 0))))

module _ {D : Type 0} (g : Ghosts D) (c : Start) (opened : D) (v : View D) (h : Sessions) (w : Mind) (shows : ShowsSessions g c opened v h w) where
  abbrev state : State
  state = state_now c w

  -- a session of the run is held so
  held : (s : ℕ) → find nat_cmp s w.run.sessions ≡ find nat_cmp s (held_from 1 h.txns.sessions)
  held s = λ i. find nat_cmp s (shows.world.run_is i).sessions

  pub has_nobody : IsNobodyInside state → HaveNobody h.txns
  has_nobody none s = by (txn_of s h.txns) refl
    where
      by : (o : Option TxnHeld) → txn_of s h.txns ≡ o → txn_of s h.txns ≡ None
      by None is = is
      by (Some t) is =
          let there = held (1 + (s - 1)) ∙ find_held 1 (s - 1) h.txns.sessions ∙ ap (option_map (λ (u : TxnHeld). u.session)) is in
          absurd (false≢true (ap is_some (sym (none (1 + (s - 1))) ∙ (shows.world.keeps.walks.scene.shown.paged.modelled (1 + (s - 1)) t.session there).1)))

  -- by place, from 0 on
  places : HaveNobody h.txns → (i : ℕ) → get_or h.txns.sessions i None ≡ None
  places none i = subst (λ n. get_or h.txns.sessions n None ≡ None) (omega arith) (none (suc i))

  pub is_outside : HaveNobody h.txns → IsNobodyInside state
  is_outside none s = by (transaction_of state s) refl
    where
      nobody : (s : ℕ) → find nat_cmp s (held_from 1 h.txns.sessions) ≡ None
      nobody s = ap (find nat_cmp s) (none_held 1 h.txns.sessions (places none))

      by : (o : Option Transaction) → transaction_of state s ≡ o → transaction_of state s ≡ None
      by None is = is
      by (Some t) is =
          let one = shows.world.keeps.walks.scene.shown.paged.shows.inside s t is in
          absurd (false≢true (ap is_some (sym (nobody s) ∙ sym (held s) ∙ one.1)))

  pub unlocked : IsNobodyInside state → (r f : ℕ) (key : ℤ) → session_locks r f key h.locks ≡ false
  unlocked none r f key =
      let nothing : HasNothing (held_by_session r h.locks) = subst (λ (o : Option Transaction). IsTheSame (names_in v.now) (held_by_session r h.locks) o) (none r) (shows.world.locks r) in
      nothing.locks f key

  -- all that asked are answered, so that no number is unanswered or named
  pub mark_is_next : (state.answered < length state.asked → (s : ℕ) × (t : Transaction) × (transaction_of state s ≡ Some t)) → IsNobodyInside state → v.now.tables.opens ≡ []
      → mark_in v.now.tables h.txns ≡ v.now.tables.next
  mark_is_next waits none opens = λ i. least v.now.tables.next ((xids_in (opens i) ++ answered i) ++ sessions_named (nobody i))
    where
      numbers : length h.txns.numbers.commits ≡ length state.asked
      numbers = sym (λ i. length (shows.world.run_is i).commits) ∙ shows.world.keeps.walks.scene.shown.paged.shows.counted

      so_many : h.txns.answered ≡ state.answered
      so_many = sym (λ i. (shows.world.run_is i).answered) ∙ shows.world.keeps.walks.scene.shown.paged.shows.same_answered

      all : length state.asked ≤ state.answered
      all = known (nat_lt state.answered (length state.asked))
          (λ more. let one = waits (ltb-true state.answered (length state.asked) more) in absurd (false≢true (ap is_some (sym (none one.0) ∙ one.2))))
          (λ no. ltb-false state.answered (length state.asked) no)

      answered : drop h.txns.answered h.txns.numbers.commits ≡ []
      answered = drop_all h.txns.answered h.txns.numbers.commits (omega (arith, numbers, so_many, all))

      nobody : held_from 1 h.txns.sessions ≡ []
      nobody = none_held 1 h.txns.sessions (places (has_nobody none))
