-- Turns over a World, by what they say: those of a line's session, and those between two lines.
use Rattle.std.proofs.Common.{◌≡◌, ◌≢◌, ◌⊎◌, ◌∙◌, inl, inr, ⊎_elim, ℕ, ◌+◌, ◌-◌, ◌<◌, ◌≤◌, List, [], ◌++◌, length, Some, None, refl, sym, ap, subst, arith}
use Rattle.std.specs.Prelude.{slice_get}
use Rattle.std.specs.List.{AllByRecursion}
use Rattle.ctr_types.specs.declared.statement.Line.{Line}
use Rattle.ctr_types.specs.declared.tape.Actor.{Actor}
use Rattle.ctr_types.specs.declared.tape.Actor.TheVariants as actor
use Rattle.ctr_types.specs.declared.tape.Act.TheVariants as act
use Rattle.ctr_types.specs.declared.tape.Entry.{Entry}
use Rattle.ctr_types.specs.declared.tape.Turn.{Turn}
use Rattle.ctr_types.specs.declared.tape.Turn.TheVariants as turn
use Rattle.ctr_disk.specs.declared.disk.Disk.{Ghosts}
use Rattle.ctr_legal.proofs.Tapes.{final_append}
use Rattle.ctr_model.specs.declared.tape.Point.{Point}
use Rattle.ctr_model.specs.declared.tape.Progress.{Progress}
use Rattle.ctr_model.specs.Tape.{at_start, final, progress_of, statements_of, statements_on, IsSerial}
use Rattle.ctr_world.specs.txn_Held.{IsOneOfEight}
use Rattle.ctr_serial.specs.Lines.{count_in}
use Rattle.ctr_serial.proofs.Lists.{count_front, count_mine, serial_front}
use Rattle.ctr_world.proofs.exec_Places.{count_of, runner_of}
use Rattle.ctr_world.specs.exec_Runner.{Runner}
use Rattle.ctr_world.specs.exec_sessions_Sessions.{Sessions}
use Rattle.ctr_world.specs.exec_Order.{IsTapeOrdered, IsReleaseEntry, StandInOrder, led_from}
use Rattle.ctr_world.specs.exec_Runners.{AreRunners, runner_at, IsRunnerOf}
use Rattle.ctr_world.specs.Held.{Held}
use Rattle.ctr_world.specs.Opened.{IsRunLine}
use Rattle.ctr_world.specs.Turns.{EndsTurn, HasStatementLeft}
use Rattle.ctr_run.specs.Lines.{InLine, IsBetween, RanLines, RanOrStopped}
use Rattle.ctr_world.proofs.Adding.{all_append}
use Rattle.ctr_run.proofs.Order.{all_as, only_recovery, order_behind, recovery_adds_none}
use Rattle.ctr_run.proofs.Turning.{begins_line, of_line, serial_in, turn_comes, turned, Within}

-- what a World says of where it stands
pub record Stands {D : Type 0} (g : Ghosts D) (start : ℕ) (lines : List Line) (w : Held D) : Type 0 where
  pub going : w.stop ≡ None → IsTapeOrdered start (g.moment_of w.running.store.disk) w.running.sessions
  pub seats : w.stop ≡ None → (length w.running.sessions.runners.items ≡ 8) × AreRunners lines 1 w.running.sessions.runners.items
  pub lines_are : w.running.sessions.script.lines ≡ lines

-- ---- entries behind a tape

module _ (start : ℕ) (lines : List Line) (h now : Sessions) (script : h.script.lines ≡ lines) (script_now : now.script.lines ≡ lines) (es : List Entry) (tape : now.tape.items ≡ h.tape.items ++ es)
    (order : StandInOrder now.script.lines (at_start start [] []) now.tape.items) where
  abbrev first : Point
  first = at_start start [] []

  pub behind : StandInOrder lines (led_from start h) es
  behind = subst (λ (ls : List Line). StandInOrder lines (final ls first h.tape.items) es) (sym script)
      (order_behind lines first h.tape.items es (subst (StandInOrder lines first) tape (subst (λ (ls : List Line). StandInOrder ls first now.tape.items) script_now order)))

  pub led : led_from start now ≡ final lines (led_from start h) es
  led = (λ i. final (script_now i) first (tape i)) ∙ final_append lines first h.tape.items es ∙ ap (λ (ls : List Line). final lines (final ls first h.tape.items) es) (sym script)

-- ---- a session's place

module _ {D : Type 0} (g : Ghosts D) (start : ℕ) (lines : List Line) (w : Held D) (stands : Stands g start lines w) (going : w.stop ≡ None) (s : ℕ) (one : IsOneOfEight s) where
  abbrev mine : Runner
  mine = runner_at s w.running.sessions.runners.items

  pub finished_is : (progress_of (led_from start w.running.sessions) s).finished ≡ mine.finished
  finished_is = ap (λ (x : Progress). x.finished) ((stands.going going).each s one)

  same_session : (s : ℕ) → 1 ≤ s → 1 + (s - 1) ≡ s
  same_session s some = omega (arith, some)

  inside : (m : ℕ) → m ≡ 8 → s - 1 < m
  inside m is = let from = one.from in let to = one.to in omega (arith, from, to, is)

  runs_lines : IsRunnerOf lines s mine
  runs_lines = let seats = stands.seats going in
      subst (λ r. IsRunnerOf lines r mine) (same_session s one.from) (runner_of lines 1 w.running.sessions.runners.items (s - 1) seats.1 (inside (length w.running.sessions.runners.items) seats.0))

  -- as many statements has it
  pub has_places : length mine.places ≡ length (statements_of s lines)
  has_places = ap (λ (ps : List ℕ). length ps) runs_lines.places ∙ count_of s 0 lines

-- ---- a line's own turns

one_more : (before m n : ℕ) → m ≡ before → before ≡ n → m ≡ n + 1 → ⊥
one_more before m n same is more = omega (arith, same, is, more)

module _ {D : Type 0} (g : Ghosts D) (start : ℕ) (lines : List Line) (runs : AllByRecursion IsRunLine lines) (k : ℕ) (l : Line) (there : slice_get lines k ≡ Some l) where
  abbrev s : ℕ
  s = l.session

  abbrev n : ℕ
  n = count_in lines k s

  pub one : IsOneOfEight l.session
  one = of_line lines runs k l there

  -- The line goes on and its session has finished as many statements as before; or it is finished, and it has one more. Or the World is stopped.
  abbrev pub Goes : ℕ → Held D → Type 0
  Goes before w = ((w.stop ≡ None) × (before ≡ n)
      × ((((runner_at s w.running.sessions.runners.items).finished ≡ n) × InLine start lines k l w.running.sessions)
      ⊎ (((runner_at s w.running.sessions.runners.items).finished ≡ n + 1) × RanLines start lines (k + 1) w.running.sessions)))
      ⊎ ((w.stop ≢ None) × IsSerial lines w.running.sessions.tape.items)

  pub begins : (before : ℕ) (w : Held D) → Stands g start lines w → before ≡ (runner_at s w.running.sessions.runners.items).finished → RanOrStopped start lines k w → Goes before w
  begins before w stands is (inl (going, ran)) =
      let at : (runner_at s w.running.sessions.runners.items).finished ≡ n = sym (finished_is g start lines w stands going s one) ∙ ap (λ (x : Progress). x.finished) (ran.each s one) in
      inl (going, is ∙ at, inl (at, begins_line lines runs k l there one.from start w.running.sessions ran))
  begins before w stands is (inr stopped) = inr stopped

  -- the session has a statement left
  pub left_in : (w : Held D) → Stands g start lines w → w.stop ≡ None → (runner_at s w.running.sessions.runners.items).finished ≡ n → HasStatementLeft s w.running.sessions
  left_in w stands going at =
      let places = has_places g start lines w stands going s one in
      record { one = one; more = omega (arith, at, places, count_mine lines k l there, count_front s lines (k + 1)) }

  within : (w : Held D) → InLine start lines k l w.running.sessions → Within lines runs k l there one.from (led_from start w.running.sessions)
  within w at = record { finished = at.finished; others = at.others }

  -- what a turn of the session leaves
  pub goes_on : (before : ℕ) (t : Turn) (w v : Held D) → Stands g start lines w → (v.stop ≡ None → Stands g start lines v) → before ≡ n → w.stop ≡ None
      → (runner_at s w.running.sessions.runners.items).finished ≡ n → InLine start lines k l w.running.sessions → EndsTurn g t (actor.Session s) w v → Goes before v
  goes_on before turn.Went w v stands after is going at line says =
      let adds = says.2 in
      let such = adds.are_such in
      let es : List Entry = such.0 ++ such.1 in
      let now = after says.1 in
      let tape = adds.tape ∙ ap (λ (m : List Entry). w.running.sessions.tape.items ++ m) such.2 in
      let order = (now.going says.1).order in
      let led_is = led start lines w.running.sessions v.running.sessions stands.lines_are now.lines_are es tape order in
      let comes = turn_comes lines runs k l there one.from (led_from start w.running.sessions) (within w line) such.0 such.1 (behind start lines w.running.sessions v.running.sessions stands.lines_are now.lines_are es tape order) such.3 such.4 in
      let there_now = sym (finished_is g start lines v now says.1 s one) in
      inl (
        says.1,
        is,
        ⊎_elim
            (λ still. inl (there_now ∙ still.finished, still))
            (λ over. inr (there_now ∙ ap (λ (x : Progress). x.finished) (over.each s one) ∙ count_mine lines k l there, over))
            (turned lines runs k l there one.from start w.running.sessions v.running.sessions line es tape led_is comes),
      )
  goes_on before turn.Idle w v stands after is going at line says = absurd says.2
  goes_on before turn.Short w v stands after is going at line says = absurd says.2
  goes_on before turn.Over w v stands after is going at line says = absurd (says.1 (left_in w stands going at))
  goes_on before turn.Stopped w v stands after is going at line says = inr (says.0, subst (IsSerial lines) (sym says.1) (serial_in lines runs k l there one.from start w.running.sessions line))

  -- a turn that is taken while as many statements are finished as before
  pub goes_next : (before : ℕ) (t : Turn) (w v : Held D) → Stands g start lines w → (v.stop ≡ None → Stands g start lines v) → (runner_at s w.running.sessions.runners.items).finished ≡ before → Goes before w
      → EndsTurn g t (actor.Session s) w v → Goes before v
  goes_next before t w v stands after test (inl (going, is, inl (at, line))) says = goes_on before t w v stands after is going at line says
  goes_next before t w v stands after test (inl (going, is, inr (at, ran))) says = absurd (one_more before (runner_at s w.running.sessions.runners.items).finished n test is at)
  goes_next before turn.Went w v stands after test (inr stopped) says = absurd (stopped.0 says.0)
  goes_next before turn.Idle w v stands after test (inr stopped) says = absurd (stopped.0 says.0)
  goes_next before turn.Short w v stands after test (inr stopped) says = absurd (stopped.0 says.0)
  goes_next before turn.Over w v stands after test (inr stopped) says = absurd (stopped.0 says.0)
  goes_next before turn.Stopped w v stands after test (inr stopped) says = subst (Goes before) (sym (says.3 stopped.0)) (inr stopped)

  -- one that doesn't go stops the World, or it was stopped
  pub stops_here : (before : ℕ) (t : Turn) (w v : Held D) → Stands g start lines w → (t ≡ turn.Went → ⊥) → (runner_at s w.running.sessions.runners.items).finished ≡ before → Goes before w
      → EndsTurn g t (actor.Session s) w v → RanOrStopped start lines (k + 1) v
  stops_here before turn.Went w v stands not test goes says = absurd (not refl)
  stops_here before turn.Idle w v stands not test goes says = absurd says.2
  stops_here before turn.Short w v stands not test goes says = absurd says.2
  stops_here before turn.Over w v stands not test (inl (going, is, inl (at, line))) says = absurd (says.1 (left_in w stands going at))
  stops_here before turn.Over w v stands not test (inl (going, is, inr (at, ran))) says = absurd (one_more before (runner_at s w.running.sessions.runners.items).finished n test is at)
  stops_here before turn.Over w v stands not test (inr stopped) says = absurd (stopped.0 says.0)
  stops_here before turn.Stopped w v stands not test (inl (going, is, inl (at, line))) says = inr (says.0, subst (IsSerial lines) (sym says.1) (serial_in lines runs k l there one.from start w.running.sessions line))
  stops_here before turn.Stopped w v stands not test (inl (going, is, inr (at, ran))) says = absurd (one_more before (runner_at s w.running.sessions.runners.items).finished n test is at)
  stops_here before turn.Stopped w v stands not test (inr stopped) says = subst (RanOrStopped start lines (k + 1)) (sym (says.3 stopped.0)) (inr stopped)

  -- one that isn't gone on with has ended, or the World is stopped
  pub over : (before : ℕ) (w : Held D) → ((runner_at s w.running.sessions.runners.items).finished ≡ before → ⊥) → Goes before w → RanOrStopped start lines (k + 1) w
  over before w test (inl (going, is, inl (at, line))) = absurd (test (at ∙ sym is))
  over before w test (inl (going, is, inr (at, ran))) = inl (going, ran)
  over before w test (inr stopped) = inr stopped

-- ---- between two lines

by_recovery : (es : List Entry) → AllByRecursion IsReleaseEntry es → AllByRecursion (λ (e : Entry). IsReleaseEntry e ⊎ (e.act ≡ act.Answer)) es
by_recovery es all = all_as IsReleaseEntry (λ (e : Entry). IsReleaseEntry e ⊎ (e.act ≡ act.Answer)) (λ e is. inl is) es all

by_answers : (es : List Entry) → AllByRecursion (λ (e : Entry). e.act ≡ act.Answer) es → AllByRecursion (λ (e : Entry). IsReleaseEntry e ⊎ (e.act ≡ act.Answer)) es
by_answers es all = all_as (λ (e : Entry). e.act ≡ act.Answer) (λ (e : Entry). IsReleaseEntry e ⊎ (e.act ≡ act.Answer)) (λ e is. inr is) es all

module _ {D : Type 0} (g : Ghosts D) (start : ℕ) (lines : List Line) (runs : AllByRecursion IsRunLine lines) (k : ℕ) where
  rests_with : (w v : Held D) → Stands g start lines w → Stands g start lines v → v.stop ≡ None → RanLines start lines k w.running.sessions → (es : List Entry)
      → v.running.sessions.tape.items ≡ w.running.sessions.tape.items ++ es → AllByRecursion (λ (e : Entry). IsReleaseEntry e ⊎ (e.act ≡ act.Answer)) es → RanLines start lines k v.running.sessions
  rests_with w v stands now going ran es tape such =
      let order = (now.going going).order in
      let h = w.running.sessions in
      let more = only_recovery lines runs k (led_from start h) ran.each es (behind start lines h v.running.sessions stands.lines_are now.lines_are es tape order) such in
      record {
        tape = ap statements_on tape ∙ recovery_adds_none h.tape.items es more.0 ∙ ran.tape;
        each = λ s one. ap (λ (z : Point). progress_of z s) (led start lines h v.running.sessions stands.lines_are now.lines_are es tape order) ∙ more.1 s one;
      }

  went : (a : Actor) → IsBetween a → (w v : Held D) → Stands g start lines w → (v.stop ≡ None → Stands g start lines v) → RanLines start lines k w.running.sessions → EndsTurn g turn.Went a w v → RanLines start lines k v.running.sessions
  went (actor.Session s) none w v stands after ran says = absurd none
  went actor.Undo none w v stands after ran says =
      let adds = says.2 in
      let such = adds.are_such in
      let all = all_append (λ (e : Entry). IsReleaseEntry e ⊎ (e.act ≡ act.Answer)) such.0 such.1 (by_recovery such.0 such.3.1) (by_answers such.1 such.4) in
      rests_with w v stands (after says.1) says.1 ran (such.0 ++ such.1) (adds.tape ∙ ap (λ (m : List Entry). w.running.sessions.tape.items ++ m) such.2) all
  went actor.Flusher none w v stands after ran says = rests_with w v stands (after says.1) says.1 ran says.2.entries says.2.tape (by_answers says.2.entries says.2.are_such)
  went actor.Cleaner none w v stands after ran says = rests_with w v stands (after says.1) says.1 ran says.2.entries says.2.tape (by_answers says.2.entries says.2.are_such)

  -- what a turn between two lines leaves
  pub rests : (t : Turn) (a : Actor) → IsBetween a → (w v : Held D) → Stands g start lines w → (v.stop ≡ None → Stands g start lines v) → EndsTurn g t a w v → RanOrStopped start lines k w → RanOrStopped start lines k v
  rests turn.Went a between w v stands after says (inl (going, ran)) = inl (says.1, went a between w v stands after ran says)
  rests turn.Idle a between w v stands after says (inl (going, ran)) = inl (says.1, subst (RanLines start lines k) (sym says.3.sessions) ran)
  rests turn.Short a between w v stands after says (inl (going, ran)) = inl (says.1, subst (RanLines start lines k) (sym says.3.sessions) ran)
  rests turn.Over a between w v stands after says ran = subst (RanOrStopped start lines k) (sym says.2) ran
  rests turn.Stopped a between w v stands after says (inl (going, ran)) = inr (says.0, subst (IsSerial lines) (sym says.1) (serial_front lines k w.running.sessions.tape.items ran.tape))
  rests turn.Went a between w v stands after says (inr stopped) = absurd (stopped.0 says.0)
  rests turn.Idle a between w v stands after says (inr stopped) = absurd (stopped.0 says.0)
  rests turn.Short a between w v stands after says (inr stopped) = absurd (stopped.0 says.0)
  rests turn.Stopped a between w v stands after says (inr stopped) = subst (RanOrStopped start lines k) (sym (says.3 stopped.0)) (inr stopped)
