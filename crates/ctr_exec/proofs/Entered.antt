-- Sessions in a World behind an entry of one of them.
use Rattle.std.proofs.Common.{◌≡◌, ⊎_elim, ℕ, ◌+◌, ◌-◌, ◌==◌, false, [], ◌∷◌, ◌++◌, Some, refl, sym, ◌∙◌, ap, subst, arith}
use Rattle.std.specs.Prelude.{slice_get, slice_set}
use Rattle.std.proofs.lemmas.Bool.{eqb-true}
use Rattle.ctr_disk.specs.declared.disk.Disk.{Ghosts}
use Rattle.ctr_types.specs.declared.statement.Script.{Script}
use Rattle.ctr_types.specs.declared.statement.Statement.{Statement}
use Rattle.ctr_types.specs.declared.tape.Act.{Act}
use Rattle.ctr_types.specs.declared.tape.Entry.{Entry}
use Rattle.ctr_types.specs.declared.tape.Reply.{Reply}
use Rattle.ctr_model.specs.declared.state.State.{State}
use Rattle.ctr_model.specs.declared.tape.Point.{Point}
use Rattle.ctr_model.specs.declared.tape.Progress.{Progress}
use Rattle.ctr_model.specs.Laws.{IsSoundState, SnapshotsStay}
use Rattle.ctr_model.specs.Tape.{acts_of, advanced, progress_of, statement_of, passed, IsNextAct, IsRelease, Legal}
use Rattle.ctr_versions.proofs.Keys.{known, some_is}
use Rattle.ctr_store.specs.Store.{View}
use Rattle.ctr_control.specs.kept_Turns.{Start, point_now, start_point, state_now}
use Rattle.ctr_control.specs.kept_Walk.{Mind}
use Rattle.ctr_control.specs.txn_Held.{IsOneOfEight}
use Rattle.ctr_control.specs.ctr_session_world.World.{InWorld}
use Rattle.ctr_exec.specs.declared.runners.Runner.{Runner}
use Rattle.ctr_exec.specs.declared.runners.Stage.{Stage}
use Rattle.ctr_exec.specs.declared.sessions.Sessions.{Sessions}
use Rattle.ctr_exec.specs.Acting.{IsMidway}
use Rattle.ctr_exec.specs.Runners.{made_at, finished_with, after_act, runner_at}
use Rattle.ctr_exec.specs.Sessions.{AreSeated, IsSeatedAt, ShowsSessions, sessions_held_by, noted_entry}
use Rattle.ctr_exec.proofs.Points.{last_comes, never_released, same_stuck, progress_mine, state_is}
use Rattle.ctr_exec.proofs.Seats.{its, theirs}
use Rattle.ctr_exec.proofs.Shown.{RowsStay, next_point, others_told}

module _ {D : Type 0} (g : Ghosts D) (c : Start) (opened : D) (b : View D) (h now : Sessions) (w : Mind) (before : (q : ℕ) → IsOneOfEight q → IsSeatedAt c w q (runner_at q h.runners.items)) (s : ℕ) (one : IsOneOfEight s)
    (statement : Statement) (there : statement_of c.lines s ((runner_at s h.runners.items).finished + 1) ≡ Some statement) (sound : IsSoundState (state_now c w)) (rows : RowsStay) (views : SnapshotsStay)
    (x : Act) (r : Reply) (u : Mind) (world : InWorld g c opened b (sessions_held_by now) u) (longer : u.tape ≡ w.tape ++ noted_entry s (runner_at s h.runners.items) x r (g.moment_of b.disk) ∷ [])
    (facts : (q : ℕ) → (q == s) ≡ false → u.facts q ≡ w.facts q) where
  abbrev mine : Runner
  mine = runner_at s h.runners.items

  abbrev e : Entry
  e = noted_entry s mine x r (g.moment_of b.disk)

  legal : Legal c.lines (start_point c) (w.tape ++ e ∷ [])
  legal = subst (Legal c.lines (start_point c)) longer world.keeps.walks.legal

  -- it is the next act of the statement
  pub its_act : slice_get (acts_of (state_now c w) s statement) (made_at mine.stage) ≡ Some x
  its_act = ⊎_elim acts released (last_comes c.lines (start_point c) w.tape e legal).one_of
    where
      none : s ≡ 0 → ⊥
      none zero_ = let low = one.from in omega (arith, low, zero_)

      acts : IsNextAct c.lines (point_now c w) e → slice_get (acts_of (state_now c w) s statement) (made_at mine.stage) ≡ Some x
      acts is =
          let same = some_is is.0 statement (sym is.1 ∙ there) in
          ap (λ (p : Progress). slice_get (acts_of (state_now c w) s statement) p.made) (sym (before s one).progress)
          ∙ subst (λ z. slice_get (acts_of (state_now c w) s z) (progress_of (point_now c w) s).made ≡ Some x) same is.2.next_act

      released : IsRelease (point_now c w) e → slice_get (acts_of (state_now c w) s statement) (made_at mine.stage) ≡ Some x
      released is = absurd (none is.session)

  point_told : point_now c u ≡ passed c.lines (point_now c w) e
  point_told = next_point c w u s sound facts rows views e longer refl statement there

  progress_told : progress_of (point_now c u) s ≡ advanced (acts_of (state_now c w) s statement) r (record { finished = mine.finished; made = made_at mine.stage })
  progress_told = ap (λ (p : Point). progress_of p s) point_told ∙ progress_mine c.lines (point_now c w) e statement there ∙ ap (advanced (acts_of (state_now c w) s statement) r) (before s one).progress

  -- the state that it leaves
  pub state_told : state_now c u ≡ (passed c.lines (point_now c w) e).state
  state_told = ap (λ (p : Point). p.state) point_told

  stuck_told : (state_now c u).stuck ≡ (state_now c w).stuck
  stuck_told = ap (λ (z : State). z.stuck) state_told ∙ ap (λ (z : State). z.stuck) (state_is c.lines (point_now c w) e statement there)
      ∙ same_stuck (state_now c w) s x (Some statement) r (never_released (state_now c w) s statement x (made_at mine.stage) its_act)

  module _ (m n : ℕ) (seats : AreSeated h m) (script : now.script ≡ h.script) (stuck : now.stuck ≡ h.stuck) (lines : h.script.lines ≡ c.lines) (tape_was : h.tape.items ≡ w.tape) (stuck_was : h.stuck ≡ (state_now c w).stuck)
      (y : Stage) (led : advanced (acts_of (state_now c w) s statement) r (record { finished = mine.finished; made = made_at mine.stage }) ≡ record { finished = finished_with y mine.finished; made = made_at y })
      (is_at : (other : Statement) → statement_of c.lines s (finished_with y mine.finished + 1) ≡ Some other → IsMidway c s other u y)
      (runners : now.runners.items ≡ slice_set h.runners.items (s - 1) (after_act y mine)) (tape : now.tape.items ≡ h.tape.items ++ e ∷ []) where
    own : IsSeatedAt c u s (after_act y mine)
    own = record { progress = progress_told ∙ led; at = is_at }

    each : (q : ℕ) → IsOneOfEight q → IsSeatedAt c u q (runner_at q now.runners.items)
    each q other = known (q == s)
        (λ is. subst (λ i. IsSeatedAt c u i (runner_at i now.runners.items)) (sym (eqb-true q s is))
        (subst (IsSeatedAt c u s) (sym (its h now m n seats s one (after_act y mine) script runners)) own))
        (λ two. subst (IsSeatedAt c u q) (sym (theirs h now m n seats s one (after_act y mine) script runners q other two))
        (others_told c w u s sound facts rows views e longer refl statement there q (runner_at q h.runners.items) two (before q other)))

    -- and so the sessions are in the World
    pub shows_told : ShowsSessions g c opened b now u
    shows_told = record {
      world = world;
      lines = ap (λ (sc : Script). sc.lines) script ∙ lines;
      tape = tape ∙ ap (λ l. l ++ e ∷ []) tape_was ∙ sym longer;
      stuck = stuck ∙ stuck_was ∙ sym stuck_told;
      each = each;
    }
