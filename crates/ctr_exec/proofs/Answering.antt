-- Sessions in a World, once a commit is answered.
use Rattle.std.proofs.Common.{◌≡◌, ⊎_elim, ℕ, ◌+◌, ◌-◌, ◌==◌, false, List, [], ◌∷◌, ◌++◌, Option, None, Some, refl, sym, ◌∙◌, ap, subst, arith}
use Rattle.std.specs.Prelude.{is_some, option_and_then, slice_set}
use Rattle.std.specs.List.{AllByRecursion}
use Rattle.std.proofs.lemmas.Bool.{false≢true}
use Rattle.std.proofs.lemmas.List.{append_assoc, append-nil}
use Rattle.ctr_disk.specs.declared.disk.Disk.{Ghosts}
use Rattle.ctr_types.specs.declared.tape.Act.TheVariants as act
use Rattle.ctr_types.specs.declared.tape.Entry.{Entry}
use Rattle.ctr_types.specs.declared.tape.Reply.TheVariants as reply
use Rattle.ctr_model.specs.declared.state.State.{State}
use Rattle.ctr_model.specs.declared.state.Transaction.{Transaction}
use Rattle.ctr_model.specs.Laws.{IsSoundState, SnapshotsStay}
use Rattle.ctr_model.specs.State.{transaction_of}
use Rattle.ctr_model.specs.Tape.{IsNextAct, Legal}
use Rattle.ctr_store.specs.Store.{View}
use Rattle.ctr_actions.specs.Facts.{Fact}
use Rattle.ctr_control.specs.kept_Turns.{Start, point_now, start_point, state_now}
use Rattle.ctr_control.specs.kept_Walk.{Mind}
use Rattle.ctr_control.specs.txn_Held.{TxnsHeld, IsOneOfEight}
use Rattle.ctr_control.specs.txn_Asked.{Asked}
use Rattle.ctr_locks.specs.Held.{LocksOfSession}
use Rattle.ctr_control.specs.Answers.{IsAnswered, answer_by}
use Rattle.ctr_control.specs.ctr_session_world.Told.{IsIdleBy}
use Rattle.ctr_control.specs.ctr_session_world.World.{SessionsHeld, InWorld}
use Rattle.ctr_exec.specs.declared.runners.Runner.{Runner}
use Rattle.ctr_exec.specs.declared.runners.Stage.TheVariants as stage
use Rattle.ctr_exec.specs.declared.sessions.Sessions.{Sessions}
use Rattle.ctr_exec.specs.Runners.{made_at, after_act, runner_at}
use Rattle.ctr_exec.specs.Acting.{WantsRoom}
use Rattle.ctr_exec.specs.Sessions.{AreAnswers, AreSeated, ShowsSessions, LeadsTo, sessions_held_by, noted_entry}
use Rattle.ctr_exec.proofs.Points.{act_ends, answered_gone, last_comes, state_is}
use Rattle.ctr_exec.proofs.Shown.{RowsStay, idle_for}
use Rattle.ctr_exec.proofs.Entered.{its_act, state_told, shows_told}

-- who is asked has a transaction
someone : (o : Option Transaction) (k : ℕ) → option_and_then (λ (me : Transaction). me.asked) o ≡ Some k → (t : Transaction) × (o ≡ Some t)
someone None k is = absurd (false≢true (ap is_some is))
someone (Some t) k is = (t, refl)

module _ {D : Type 0} (g : Ghosts D) (c : Start) (opened : D) (v : View D) (h now : Sessions) (w : Mind) (before : ShowsSessions g c opened v h w) (s : ℕ) (asked : Asked) (one : IsOneOfEight s)
    (answered : IsAnswered {h = sessions_held_by h} (record { mind = w; world = before.world }) (s, asked) (sessions_held_by now)) (m : ℕ) (seats : AreSeated h m) (sound : IsSoundState (state_now c w)) (rows : RowsStay) (views : SnapshotsStay)
    (script : now.script ≡ h.script) (stuck : now.stuck ≡ h.stuck) (runners : now.runners.items ≡ slice_set h.runners.items (s - 1) (after_act stage.Between (runner_at s h.runners.items)))
    (tape : now.tape.items ≡ h.tape.items ++ noted_entry s (runner_at s h.runners.items) act.Answer (reply.Answered asked.k) (g.moment_of v.disk) ∷ []) where
  abbrev mine : Runner
  mine = runner_at s h.runners.items

  abbrev u : Mind
  u = answered.mind

  abbrev e : Entry
  e = noted_entry s mine act.Answer (reply.Answered asked.k) (g.moment_of v.disk)

  same : answer_by (point_now c w) (g.moment_of v.disk) (s, asked) ≡ e
  same = λ i. record e { statement = ((before.each s one).progress i).finished + 1 }

  longer : u.tape ≡ w.tape ++ e ∷ []
  longer = answered.tape ∙ ap (λ x. w.tape ++ x ∷ []) same

  legal : Legal c.lines (start_point c) (w.tape ++ e ∷ [])
  legal = subst (Legal c.lines (start_point c)) longer answered.world.keeps.walks.legal

  -- it is of a statement of the session
  next : IsNextAct c.lines (point_now c w) e
  next = ⊎_elim (λ is. is) (λ is. absurd (none is.session)) (last_comes c.lines (start_point c) w.tape e legal).one_of
    where
      none : s ≡ 0 → ⊥
      none zero_ = let low = one.from in omega (arith, low, zero_)

  facts : (q : ℕ) → (q == s) ≡ false → u.facts q ≡ w.facts q
  facts q two = ap (λ (f : ℕ → List Fact). f q) answered.facts

  -- which is in no transaction then
  gone : transaction_of (state_now c u) s ≡ None
  gone =
      let me = someone (transaction_of (state_now c w) s) ((state_now c w).answered + 1) next.2.in_turn in
      ap (λ (z : State). transaction_of z s) (state_told g c opened v h now w before.each s one next.0 next.1 sound rows views act.Answer (reply.Answered asked.k) u answered.world longer facts)
      ∙ ap (λ (z : State). transaction_of z s) (state_is c.lines (point_now c w) e next.0 next.1)
      ∙ answered_gone (state_now c w) s asked.k (Some next.0) me.0 me.1

  pub shows_answered : ShowsSessions g c opened v now u
  shows_answered =
      shows_told g c opened v h now w before.each s one next.0 next.1 sound rows views act.Answer (reply.Answered asked.k) u answered.world longer facts m m seats script stuck before.lines before.tape before.stuck stage.Between
      (act_ends (state_now c w) s mine.finished next.0 act.Answer (reply.Answered asked.k) (made_at mine.stage)
      (its_act g c opened v h now w before.each s one next.0 next.1 sound rows views act.Answer (reply.Answered asked.k) u answered.world longer facts) refl)
      (λ other is. idle_for other (subst (λ o. IsIdleBy o (u.facts s)) (sym gone) tt)) runners tape

  -- it goes on so
  pub goes_answer : LeadsTo before AreAnswers v now
  goes_answer = record {
    mind = u;
    shows = shows_answered;
    entries = e ∷ [];
    tape = longer;
    are_such = (refl, tt);
    moments = (refl, tt);
    causes = (tt, tt);
    undo = answered.undo;
    names = λ e there. refl;
  }

pub answers_append : (xs ys : List Entry) → AreAnswers xs → AreAnswers ys → AreAnswers (xs ++ ys)
answers_append [] ys first rest = rest
answers_append (x ∷ xs) ys first rest = (first.0, answers_append xs ys first.1 rest)

pub moments_append : (n : ℕ) (xs ys : List Entry) → AllByRecursion (λ (e : Entry). e.moment ≡ n) xs → AllByRecursion (λ (e : Entry). e.moment ≡ n) ys → AllByRecursion (λ (e : Entry). e.moment ≡ n) (xs ++ ys)
moments_append n [] ys first rest = rest
moments_append n (x ∷ xs) ys first rest = (first.0, moments_append n xs ys first.1 rest)

-- an answer wants no room
pub answers_want : {D : Type 0} (a b : View D) (es : List Entry) → AreAnswers es → AllByRecursion (λ (e : Entry). WantsRoom e.act e.reply a b) es
answers_want a b [] all = tt
answers_want a b (e ∷ es) all = (subst (λ x. WantsRoom x e.reply a b) (sym all.0) tt, answers_want a b es all.1)

-- and once more are answered behind it, with them
pub goes_then : {D : Type 0} (g : Ghosts D) (c : Start) (opened : D) (v : View D) (h mid last : Sessions) (w : Mind) (before : ShowsSessions g c opened v h w) (first : LeadsTo before AreAnswers v mid) → LeadsTo first.shows AreAnswers v last → LeadsTo before AreAnswers v last
goes_then g c opened v h mid last w before first rest = record {
  mind = rest.mind;
  shows = rest.shows;
  entries = first.entries ++ rest.entries;
  tape = rest.tape ∙ ap (λ l. l ++ rest.entries) first.tape ∙ append_assoc w.tape first.entries rest.entries;
  are_such = answers_append first.entries rest.entries first.are_such rest.are_such;
  moments = moments_append (g.moment_of v.disk) first.entries rest.entries first.moments rest.moments;
  causes = answers_want v v (first.entries ++ rest.entries) (answers_append first.entries rest.entries first.are_such rest.are_such);
  undo = rest.undo ∙ first.undo;
  names = λ e there. refl;
}

-- none is answered
pub answers_none : {D : Type 0} (g : Ghosts D) (c : Start) (opened : D) (v : View D) (h : Sessions) (w : Mind) (before : ShowsSessions g c opened v h w) (txns : TxnsHeld) (locks : List (ℕ × LocksOfSession)) → txns ≡ h.txns → locks ≡ h.locks
    → LeadsTo before AreAnswers v (record h { txns = txns; locks = locks })
answers_none g c opened v h w before txns locks same_txns same_locks = record {
  mind = w;
  shows = record {
    world = subst (λ (z : SessionsHeld). InWorld g c opened v z w) (λ i. record { txns = sym same_txns i; locks = sym same_locks i }) before.world;
    lines = before.lines;
    tape = before.tape;
    stuck = before.stuck;
    each = before.each;
  };
  entries = [];
  tape = sym (append-nil w.tape);
  are_such = tt;
  moments = tt;
  causes = tt;
  undo = refl;
  names = λ e there. refl;
}
