-- Sessions in a World behind a turn of an act of one of them.
use Rattle.std.proofs.Common.{◌≡◌, inl, inr, ℕ, ◌+◌, ◌-◌, ◌≤◌, ◌==◌, List, [], ◌∷◌, ◌++◌, Some, Ok, refl, sym, ◌∙◌, ap, subst, arith}
use Rattle.std.specs.Prelude.{slice_get, slice_set}
use Rattle.std.proofs.lemmas.Bool.{eqb-true}
use Rattle.std.proofs.lemmas.List.{append-nil}
use Rattle.ctr_disk.specs.declared.disk.Disk.{Ghosts}
use Rattle.ctr_types.specs.declared.statement.Script.{Script}
use Rattle.ctr_types.specs.declared.statement.Statement.{Statement}
use Rattle.ctr_types.specs.declared.tape.Act.{Act}
use Rattle.ctr_types.specs.declared.tape.Act.TheVariants as act
use Rattle.ctr_types.specs.declared.tape.Reply.{Reply}
use Rattle.ctr_types.specs.declared.tape.Reply.TheVariants as reply
use Rattle.ctr_model.specs.declared.tape.Point.{Point}
use Rattle.ctr_model.specs.declared.tape.Progress.{Progress}
use Rattle.ctr_model.specs.Laws.{IsSoundState, SnapshotsStay}
use Rattle.ctr_model.specs.Tape.{acts_of, advanced, progress_of, statement_of}
use Rattle.ctr_versions.proofs.Keys.{known, some_is}
use Rattle.ctr_store.specs.Store.{View}
use Rattle.ctr_control.specs.kept_Turns.{Start, point_now, state_now}
use Rattle.ctr_control.specs.kept_Walk.{Mind}
use Rattle.ctr_control.specs.txn_Held.{TxnsHeld, IsOneOfEight, number_drawn}
use Rattle.ctr_control.specs.ctr_rollback.declared.rolling.Rolled.TheVariants.{Undone, Back}
use Rattle.ctr_control.specs.ctr_session_world.Told.{IsNextOf, IsActTold, IsKeptOn}
use Rattle.ctr_exec.specs.declared.acting.Acted.{Acted}
use Rattle.ctr_exec.specs.declared.acting.Acted.TheVariants as acted
use Rattle.ctr_exec.specs.declared.runners.Runner.{Runner}
use Rattle.ctr_exec.specs.declared.runners.Stage.{Stage}
use Rattle.ctr_exec.specs.declared.runners.Stage.TheVariants as stage
use Rattle.ctr_exec.specs.declared.sessions.Sessions.{Sessions}
use Rattle.ctr_exec.specs.Acting.{IsMidway, LeavesAct, RollsAct, TurnOfAct, WantsRoom, WentByAct}
use Rattle.ctr_exec.specs.Runners.{made_at, finished_with, after_act, runner_at}
use Rattle.ctr_exec.specs.Sessions.{TakesAct, AreSeated, IsRollingBack, RollsTurn, IsSeatedAt, ShowsSessions, LeadsTo, AreOfTurn, sessions_held_by, noted_entry, entries_by, runner_by}
use Rattle.ctr_exec.proofs.Points.{act_ends, lock_goes, ask_goes}
use Rattle.ctr_exec.proofs.Seats.{its, theirs, goes_with}
use Rattle.ctr_exec.proofs.Shown.{RowsStay, idle_for, same_point, others_kept}
use Rattle.ctr_exec.proofs.Entered.{its_act, shows_told}

module _ {D : Type 0} (g : Ghosts D) (c : Start) (opened : D) (a b : View D) (h now : Sessions) (w : Mind) (before : ShowsSessions g c opened a h w) (s : ℕ) (one : IsOneOfEight s) (statement : Statement)
    (here : statement_of h.script.lines s ((runner_at s h.runners.items).finished + 1) ≡ Some statement) (time : g.moment_of a.disk ≤ g.moment_of b.disk) where
  abbrev pub mine : Runner
  mine = runner_at s h.runners.items

  abbrev seat : IsSeatedAt c w s mine
  seat = before.each s one

  pub there : statement_of c.lines s (mine.finished + 1) ≡ Some statement
  there = ap (λ ls. statement_of ls s (mine.finished + 1)) (sym before.lines) ∙ here

  -- its statement comes next
  abbrev pub next : IsNextOf g c opened a b (sessions_held_by h) s statement (made_at mine.stage)
  next = record {
    mind = w;
    world = before.world;
    e = record { n = mine.finished + 1; later = g.moment_of b.disk; in_call = time; statement = statement; is_it = there };
    is = refl;
    number = ap (λ (p : Progress). p.finished + 1) (sym seat.progress);
    made_is = ap (λ (p : Progress). p.made) seat.progress;
    at_end = refl;
  }

  -- and so it is in the middle of it
  pub at_stage : IsMidway c s statement w mine.stage
  at_stage = seat.at statement there

  module _ (m n : ℕ) (seats : AreSeated h m) (script : now.script ≡ h.script) (stuck : now.stuck ≡ h.stuck) (sound : IsSoundState (state_now c w)) (rows : RowsStay) (views : SnapshotsStay) where
    lines_now : now.script.lines ≡ c.lines
    lines_now = ap (λ (sc : Script). sc.lines) script ∙ before.lines

    -- ---- nothing is told

    module _ (kept : IsKeptOn next (sessions_held_by now)) (at : Stage) (same : made_at at ≡ made_at mine.stage) (is_at : IsMidway c s statement kept.mind at)
        (runners : now.runners.items ≡ slice_set h.runners.items (s - 1) (record mine { stage = at })) (tape : now.tape.items ≡ h.tape.items) where
      abbrev v : Mind
      v = kept.mind

      point : point_now c v ≡ point_now c w
      point = same_point c w v s sound kept.others rows views kept.tape

      own : IsSeatedAt c v s (record mine { stage = at })
      own = record {
        progress = ap (λ (p : Point). progress_of p s) point ∙ seat.progress ∙ ap (λ k. record { finished = mine.finished; made = k }) (sym same);
        at = λ other is. subst (λ z. IsMidway c s z v at) (some_is statement other (sym there ∙ is)) is_at;
      }

      each : (q : ℕ) → IsOneOfEight q → IsSeatedAt c v q (runner_at q now.runners.items)
      each q other = known (q == s)
          (λ is. subst (λ i. IsSeatedAt c v i (runner_at i now.runners.items)) (sym (eqb-true q s is))
          (subst (IsSeatedAt c v s) (sym (its h now m n seats s one (record mine { stage = at }) script runners)) own))
          (λ two. subst (IsSeatedAt c v q) (sym (theirs h now m n seats s one (record mine { stage = at }) script runners q other two))
          (others_kept c w v s sound kept.others rows views kept.tape q (runner_at q h.runners.items) two (before.each q other)))

      pub goes_on : LeadsTo before (AreOfTurn s) b now
      goes_on = record {
        mind = v;
        shows = record {
          world = kept.world;
          lines = lines_now;
          tape = tape ∙ before.tape ∙ sym kept.tape;
          stuck = stuck ∙ before.stuck ∙ ap (λ (p : Point). p.state.stuck) (sym point);
          each = each;
        };
        entries = [];
        tape = kept.tape ∙ sym (append-nil w.tape);
        are_such = inr tt;
        moments = tt;
        causes = tt;
        undo = kept.undo;
        names = kept.names;
      }

    -- ---- an act is told

    module _ (x : Act) (r : Reply) (told : IsActTold next (sessions_held_by now) x r) where
      abbrev u : Mind
      u = told.mind

      abbrev acts : slice_get (acts_of (state_now c w) s statement) (made_at mine.stage) ≡ Some x
      acts = its_act g c opened b h now w before.each s one statement there sound rows views x r u told.world told.tape told.others

      module _ (y : Stage) (led : advanced (acts_of (state_now c w) s statement) r (record { finished = mine.finished; made = made_at mine.stage }) ≡ record { finished = finished_with y mine.finished; made = made_at y })
          (is_at : (other : Statement) → statement_of c.lines s (finished_with y mine.finished + 1) ≡ Some other → IsMidway c s other u y)
          (runners : now.runners.items ≡ slice_set h.runners.items (s - 1) (after_act y mine)) (tape : now.tape.items ≡ h.tape.items ++ noted_entry s mine x r (g.moment_of b.disk) ∷ [])
          (rolls : IsRollingBack s h → RollsTurn s h a b (noted_entry s mine x r (g.moment_of b.disk) ∷ [])) (wants : WantsRoom x r a b) where
        pub goes_told : TakesAct before s b now
        goes_told = (
          record {
            mind = u;
            shows = shows_told g c opened b h now w before.each s one statement there sound rows views x r u told.world told.tape told.others m n seats script stuck before.lines before.tape before.stuck y led is_at runners tape;
            entries = noted_entry s mine x r (g.moment_of b.disk) ∷ [];
            tape = told.tape;
            are_such = inl (one_at_most, (refl, tt));
            moments = (refl, tt);
            causes = (wants, tt);
            undo = told.undo;
            names = told.names;
          },
          inl refl,
          rolls,
        )
          where
            one_at_most : 1 ≤ 1
            one_at_most = omega arith

    -- ---- whatever the turn came to

    none_made : made_at mine.stage ≡ 0 → (acts : List Act) (x : Act) → slice_get acts (made_at mine.stage) ≡ Some x → slice_get acts 0 ≡ Some x
    none_made none acts x is = subst (λ i. slice_get acts i ≡ Some x) none is

    pub turned : (l : Acted) (txns : TxnsHeld) → LeavesAct mine.stage s statement txns n l → WentByAct a b l → (IsRollingBack s h → RollsAct (number_drawn s h.txns) a b l) → TurnOfAct next (sessions_held_by now) (Ok l) → now.runners.items ≡ slice_set h.runners.items (s - 1) (runner_by l mine)
        → now.tape.items ≡ h.tape.items ++ entries_by s mine (g.moment_of b.disk) l → TakesAct before s b now
    unfolding goes_on
    turned (acted.On at) txns leaves went rolls turn runners tape =
        (goes_on turn.0 at leaves.0 turn.1 runners (tape ∙ append-nil h.tape.items), inr went, λ at_it. let its = rolls at_it in record { rolled = Undone; rolls = its.0; told = refl; logged = its.1 })
    turned (acted.Granted at) txns leaves went rolls turn runners tape =
        goes_told act.Lock reply.Granted turn.0 at
        (ap (λ k. advanced (acts_of (state_now c w) s statement) reply.Granted (record { finished = mine.finished; made = k })) leaves.0
        ∙ lock_goes (state_now c w) s mine.finished statement (none_made leaves.0 (acts_of (state_now c w) s statement) act.Lock (acts act.Lock reply.Granted turn.0))
        ∙ (λ i. record { finished = sym (goes_with at mine.finished leaves.1) i; made = sym leaves.1 i }))
        (λ other is. subst (λ z. IsMidway c s z turn.0.mind at) (some_is statement other (sym there ∙ ap (λ f. statement_of c.lines s (f + 1)) (sym (goes_with at mine.finished leaves.1)) ∙ is)) turn.1)
        runners tape (λ at_it. absurd (rolls at_it)) tt
    turned (acted.Asked k) txns leaves went rolls turn runners tape =
        goes_told act.Ask (reply.Asked k) turn stage.Asked
        (ap (λ i. advanced (acts_of (state_now c w) s statement) (reply.Asked k) (record { finished = mine.finished; made = i })) leaves.0
        ∙ ask_goes (state_now c w) s mine.finished statement k (none_made leaves.0 (acts_of (state_now c w) s statement) act.Ask (acts act.Ask (reply.Asked k) turn)))
        (λ other is. tt)
        runners tape (λ at_it. absurd (rolls at_it)) tt
    turned (acted.Ended x r) txns leaves went rolls turn runners tape =
        goes_told x r turn.0 stage.Between
        (act_ends (state_now c w) s mine.finished statement x r (made_at mine.stage) (acts x r turn.0) leaves.1)
        (λ other is. idle_for other turn.1)
        runners tape (λ at_it. let its = rolls at_it in record { rolled = Back; rolls = its.1; told = refl; logged = its.2 }) turn.2
