-- The tape stands in order behind each turn, whatever the disk tells.
use Rattle.std.proofs.Common.{◌≡◌, inl, inr, ℕ, ◌+◌, ◌-◌, ◌≤◌, ◌==◌, false, List, [], ◌∷◌, ◌++◌, Some, Result, Ok, Err, refl, sym, ◌∙◌, ap, subst, arith}
use Rattle.std.specs.Prelude.{slice_get, slice_set}
use Rattle.std.specs.List.{AllByRecursion}
use Rattle.std.proofs.lemmas.Bool.{eqb-true}
use Rattle.std.proofs.lemmas.List.{append_assoc, append-nil}
use Rattle.ctr_disk.specs.declared.fault.StoreFault.{StoreFault}
use Rattle.ctr_types.specs.declared.statement.Line.{Line}
use Rattle.ctr_types.specs.declared.statement.Script.{Script}
use Rattle.ctr_types.specs.declared.statement.Statement.{Statement}
use Rattle.ctr_types.specs.declared.statement.Statement.TheVariants as st
use Rattle.ctr_types.specs.declared.tape.Act.{Act}
use Rattle.ctr_types.specs.declared.tape.Act.TheVariants as act
use Rattle.ctr_types.specs.declared.tape.Entry.{Entry}
use Rattle.ctr_types.specs.declared.tape.Reply.{Reply}
use Rattle.ctr_types.specs.declared.tape.Reply.TheVariants as reply
use Rattle.ctr_model.specs.declared.state.State.{State}
use Rattle.ctr_model.specs.declared.tape.Point.{Point}
use Rattle.ctr_model.specs.declared.tape.Progress.{Progress}
use Rattle.ctr_model.specs.Tape.{acts_of, advanced, at_start, final, passed, progress_of, statement_of}
use Rattle.ctr_legal.proofs.Reached.{final_push}
use Rattle.ctr_versions.proofs.Keys.{known}
use Rattle.ctr_control.specs.kept_Turns.{release_entry}
use Rattle.ctr_locks.specs.Held.{LocksOfSession}
use Rattle.ctr_control.specs.txn_Held.{TxnsHeld, IsOneOfEight}
use Rattle.ctr_control.specs.txn_Asked.{Asked}
use Rattle.ctr_control.specs.txn_Steps.{AnswersNext}
use Rattle.ctr_exec.specs.declared.acting.Acted.{Acted}
use Rattle.ctr_exec.specs.declared.acting.Acted.TheVariants as acted
use Rattle.ctr_exec.specs.declared.runners.Runner.{Runner}
use Rattle.ctr_exec.specs.declared.runners.Stage.{Stage}
use Rattle.ctr_exec.specs.declared.runners.Stage.TheVariants as stage
use Rattle.ctr_exec.specs.declared.sessions.Sessions.{Sessions}
use Rattle.ctr_exec.specs.Acting.{IsActAt, LeavesAct}
use Rattle.ctr_exec.specs.Order.{Adds, AddsOrFails, IsNextInOrder, IsTapeOrdered, StandInOrder, led_from}
use Rattle.ctr_exec.specs.Runners.{IsUnbegun, finished_with, after_act, made_at, runner_at}
use Rattle.ctr_exec.specs.Sessions.{AreAnswers, AreOfTurn, AreSeated, IsReleased, entries_by, noted_entry, runner_by}
use Rattle.ctr_exec.proofs.Answering.{answers_append, moments_append}
use Rattle.ctr_exec.proofs.Places.{fresh_at}
use Rattle.ctr_exec.proofs.Points.{act_ends, ask_goes, lock_goes, progress_mine, progress_other}
use Rattle.ctr_exec.proofs.Seats.{goes_with, its, one_made, theirs, waits}

-- ---- entries

-- how far a session's runner is
abbrev pub far : Runner → Progress
far r = record { finished = r.finished; made = made_at r.stage }

-- one more stands in order behind those that do
in_order_push : (lines : List Line) (p : Point) (es : List Entry) (e : Entry) → StandInOrder lines p es → StandInOrder lines (final lines p es) (e ∷ []) → StandInOrder lines p (es ++ e ∷ [])
in_order_push lines p [] e first rest = rest
in_order_push lines p (x ∷ es) e first rest = (first.0, first.1, in_order_push lines (passed lines p x) es e first.2 rest)

-- ---- time alone passes

earlier : (a b c : ℕ) → a ≤ b → b ≤ c → a ≤ c
earlier a b c first rest = omega (arith, first, rest)

pub at_once : (n : ℕ) → n ≤ n
at_once n = omega arith

pub ordered_later : (start before moment : ℕ) (h : Sessions) (txns : TxnsHeld) (locks : List (ℕ × LocksOfSession)) → before ≤ moment → IsTapeOrdered start before h → IsTapeOrdered start moment (record h { txns = txns; locks = locks })
ordered_later start before moment h txns locks le is = record { order = is.order; later = earlier (led_from start h).moment before moment is.later le; each = is.each }

-- ---- one session goes on

module _ (h now : Sessions) (m : ℕ) (seats : AreSeated h m) (s : ℕ) (one : IsOneOfEight s) (script : now.script ≡ h.script) (start before moment : ℕ) (le : before ≤ moment) (is : IsTapeOrdered start before h) where
  abbrev mine : Runner
  mine = runner_at s h.runners.items

  abbrev lines : List Line
  lines = h.script.lines

  -- where the tape has led before
  abbrev p : Point
  p = led_from start h

  -- the tape as it is now, by the script as it was
  order_now : (es : List Entry) → now.tape.items ≡ es → StandInOrder lines (at_start start [] []) es → StandInOrder now.script.lines (at_start start [] []) now.tape.items
  order_now es tape order = subst (λ (sc : Script). StandInOrder sc.lines (at_start start [] []) now.tape.items) (sym script) (subst (StandInOrder lines (at_start start [] [])) (sym tape) order)

  led_now : (es : List Entry) → now.tape.items ≡ es → led_from start now ≡ final lines (at_start start [] []) es
  led_now es tape = λ i. final (script i).lines (at_start start [] []) (tape i)

  -- each session is as far as its runner, by the one that moved
  module _ (q : Point) (led : led_from start now ≡ q) (x : Runner) (runners : now.runners.items ≡ slice_set h.runners.items (s - 1) x) (mine_is : progress_of q s ≡ far x)
      (other_is : (t : ℕ) → (t == s) ≡ false → progress_of q t ≡ progress_of p t) where
    each_now : (t : ℕ) → IsOneOfEight t → progress_of (led_from start now) t ≡ far (runner_at t now.runners.items)
    each_now t other = ap (λ (z : Point). progress_of z t) led ∙ known (t == s)
        (λ same. subst (λ i. progress_of q i ≡ far (runner_at i now.runners.items)) (sym (eqb-true t s same)) (mine_is ∙ ap far (sym (its h now m m seats s one x script runners))))
        (λ two. other_is t two ∙ is.each t other ∙ ap far (sym (theirs h now m m seats s one x script runners t other two)))

  -- nothing is told
  pub ordered_on : (at : Stage) → made_at at ≡ made_at mine.stage → now.runners.items ≡ slice_set h.runners.items (s - 1) (record mine { stage = at }) → now.tape.items ≡ h.tape.items → IsTapeOrdered start moment now
  ordered_on at made runners tape = record {
    order = order_now h.tape.items tape is.order;
    later = let same = ap (λ (z : Point). z.moment) (led_now h.tape.items tape) in let later = is.later in omega (arith, same, later, le);
    each = each_now p (led_now h.tape.items tape) (record mine { stage = at }) runners (is.each s one ∙ ap (λ k. record { finished = mine.finished; made = k }) (sym made)) (λ t two. refl);
  }

  -- an act is told
  module _ (statement : Statement) (here : statement_of h.script.lines s ((runner_at s h.runners.items).finished + 1) ≡ Some statement) (x : Act) (r : Reply) (y : Stage) (act_is : IsActAt s statement (made_at mine.stage) x)
      (goes : (state : State) → advanced (acts_of state s statement) r (far mine) ≡ record { finished = finished_with y mine.finished; made = made_at y })
      (runners : now.runners.items ≡ slice_set h.runners.items (s - 1) (after_act y mine)) (tape : now.tape.items ≡ h.tape.items ++ noted_entry s mine x r moment ∷ []) where
    abbrev e : Entry
    e = noted_entry s mine x r moment

    next : IsNextInOrder lines p e
    next = record {
      statement = statement;
      is_it = here;
      number = ap (λ (z : Progress). z.finished + 1) (sym (is.each s one));
      next_act = ap (λ (z : Progress). slice_get (acts_of p.state s statement) z.made) (is.each s one) ∙ act_is p.state;
    }

    led_told : led_from start now ≡ passed lines p e
    led_told = led_now (h.tape.items ++ e ∷ []) tape ∙ final_push lines (at_start start [] []) h.tape.items e

    pub ordered_told : IsTapeOrdered start moment now
    ordered_told = record {
      order = order_now (h.tape.items ++ e ∷ []) tape (in_order_push lines (at_start start [] []) h.tape.items e is.order (earlier p.moment before moment is.later le, inl next, tt));
      later = let same : (led_from start now).moment ≡ moment = ap (λ (z : Point). z.moment) led_told in omega (arith, same);
      each = each_now (passed lines p e) led_told (after_act y mine) runners
          (progress_mine lines p e statement here ∙ ap (advanced (acts_of p.state s statement) r) (is.each s one) ∙ goes p.state)
          (λ t two. progress_other lines p e statement here t two);
    }

-- ---- what a turn adds

-- nothing
pub adds_none : (s before moment : ℕ) (h : Sessions) → before ≤ moment → Adds (AreOfTurn s) before moment h h
adds_none s before moment h le = record {
  entries = [];
  tape = sym (append-nil h.tape.items);
  are_such = inr tt;
  moments = tt;
  script = refl;
  stuck = refl;
  order = λ start is. ordered_later start before moment h h.txns h.locks le is;
}

-- so does a call that leaves the sessions alone
pub adds_alone : {T : Type 0} (s before moment : ℕ) (h : Sessions) (result : Result T StoreFault) → before ≤ moment → AddsOrFails (AreOfTurn s) before moment h h result
adds_alone s before moment h (Ok x) le = adds_none s before moment h le
adds_alone s before moment h (Err e) le = (refl, refl)

-- a turn of an act
module _ (h now : Sessions) (m : ℕ) (seats : AreSeated h m) (s : ℕ) (one : IsOneOfEight s) (script : now.script ≡ h.script) (stuck : now.stuck ≡ h.stuck) (before moment : ℕ) (le : before ≤ moment) (statement : Statement)
    (here : statement_of h.script.lines s ((runner_at s h.runners.items).finished + 1) ≡ Some statement) (txns : TxnsHeld) (n : ℕ) where
  abbrev me : Runner
  me = runner_at s h.runners.items

  adds_told : (x : Act) (r : Reply) (y : Stage) → IsActAt s statement (made_at me.stage) x → ((state : State) → advanced (acts_of state s statement) r (far me) ≡ record { finished = finished_with y me.finished; made = made_at y })
      → now.runners.items ≡ slice_set h.runners.items (s - 1) (after_act y me) → now.tape.items ≡ h.tape.items ++ noted_entry s me x r moment ∷ [] → Adds (AreOfTurn s) before moment h now
  adds_told x r y act_is goes runners tape = record {
    entries = noted_entry s me x r moment ∷ [];
    tape = tape;
    are_such = inl (at_once 1, (refl, tt));
    moments = (refl, tt);
    script = script;
    stuck = stuck;
    order = λ start is. ordered_told h now m seats s one script start before moment le is statement here x r y act_is goes runners tape;
  }

  -- the act at a place, by the stage
  act_at : (x : Act) → made_at me.stage ≡ 0 → IsActAt s statement 0 x → IsActAt s statement (made_at me.stage) x
  act_at x none is = subst (λ k. IsActAt s statement k x) (sym none) is

  pub adds_acted : (l : Acted) → LeavesAct me.stage s statement txns n l → now.runners.items ≡ slice_set h.runners.items (s - 1) (runner_by l me) → now.tape.items ≡ h.tape.items ++ entries_by s me moment l → Adds (AreOfTurn s) before moment h now
  adds_acted (acted.On at) leaves runners tape = record {
    entries = [];
    tape = tape;
    are_such = inr tt;
    moments = tt;
    script = script;
    stuck = stuck;
    order = λ start is. ordered_on h now m seats s one script start before moment le is at leaves.0 runners (tape ∙ append-nil h.tape.items);
  }
  adds_acted (acted.Granted at) leaves runners tape =
      adds_told act.Lock reply.Granted at (act_at act.Lock leaves.0 leaves.3)
      (λ state. ap (λ k. advanced (acts_of state s statement) reply.Granted (record { finished = me.finished; made = k })) leaves.0
      ∙ lock_goes state s me.finished statement (leaves.3 state)
      ∙ (λ i. record { finished = sym (goes_with at me.finished leaves.1) i; made = sym leaves.1 i }))
      runners tape
  adds_acted (acted.Asked k) leaves runners tape =
      adds_told act.Ask (reply.Asked k) stage.Asked (act_at act.Ask leaves.0 ask_first)
      (λ state. ap (λ i. advanced (acts_of state s statement) (reply.Asked k) (record { finished = me.finished; made = i })) leaves.0 ∙ ask_goes state s me.finished statement k (ask_first state))
      runners tape
    where
      ask_first : IsActAt s statement 0 act.Ask
      ask_first = subst (λ z. IsActAt s z 0 act.Ask) (sym leaves.1) (λ state. refl)
  adds_acted (acted.Ended x r) leaves runners tape = adds_told x r stage.Between leaves.0 (λ state. act_ends state s me.finished statement x r (made_at me.stage) (leaves.0 state) leaves.1) runners tape

-- ---- answers

pub answers_none_added : (before moment : ℕ) (h : Sessions) (txns : TxnsHeld) (locks : List (ℕ × LocksOfSession)) → before ≤ moment → Adds AreAnswers before moment h (record h { txns = txns; locks = locks })
answers_none_added before moment h txns locks le = record {
  entries = [];
  tape = sym (append-nil h.tape.items);
  are_such = tt;
  moments = tt;
  script = refl;
  stuck = refl;
  order = λ start is. ordered_later start before moment h txns locks le is;
}

-- who waits is answered by the second act of its COMMIT
module _ (h now : Sessions) (m : ℕ) (seats : AreSeated h m) (s : ℕ) (asked : Asked) (after : TxnsHeld) (next : AnswersNext s asked h.txns after) where
  abbrev waiting : Runner
  waiting = runner_at s h.runners.items

  its_commit : statement_of h.script.lines s (waiting.finished + 1) ≡ Some st.Commit
  its_commit = seats.commits s next.one (waits h m seats s asked after next)

  its_answer : IsActAt s st.Commit (made_at waiting.stage) act.Answer
  its_answer = subst (λ k. IsActAt s st.Commit k act.Answer) (sym (one_made h m seats s asked after next)) (λ state. refl)

  pub answer_added : (before moment : ℕ) → before ≤ moment → now.script ≡ h.script → now.stuck ≡ h.stuck → now.runners.items ≡ slice_set h.runners.items (s - 1) (after_act stage.Between waiting)
      → now.tape.items ≡ h.tape.items ++ noted_entry s waiting act.Answer (reply.Answered asked.k) moment ∷ [] → Adds AreAnswers before moment h now
  answer_added before moment le script stuck runners tape = record {
    entries = noted_entry s waiting act.Answer (reply.Answered asked.k) moment ∷ [];
    tape = tape;
    are_such = (refl, tt);
    moments = (refl, tt);
    script = script;
    stuck = stuck;
    order = λ start is.
        ordered_told h now m seats s next.one script start before moment le is st.Commit its_commit act.Answer (reply.Answered asked.k) stage.Between its_answer
        (λ state. act_ends state s waiting.finished st.Commit act.Answer (reply.Answered asked.k) (made_at waiting.stage) (its_answer state) refl) runners tape;
  }

-- and once more are answered behind it, with them
pub adds_then : (before moment : ℕ) (h mid last : Sessions) → Adds AreAnswers before moment h mid → Adds AreAnswers moment moment mid last → Adds AreAnswers before moment h last
adds_then before moment h mid last first rest = record {
  entries = first.entries ++ rest.entries;
  tape = rest.tape ∙ ap (λ l. l ++ rest.entries) first.tape ∙ append_assoc h.tape.items first.entries rest.entries;
  are_such = answers_append first.entries rest.entries first.are_such rest.are_such;
  moments = moments_append moment first.entries rest.entries first.moments rest.moments;
  script = rest.script ∙ first.script;
  stuck = rest.stuck ∙ first.stuck;
  order = λ start is. rest.order start (first.order start is);
}

-- answers are what a turn may add
pub adds_answers : (s before moment : ℕ) (h now : Sessions) → Adds AreAnswers before moment h now → Adds (AreOfTurn s) before moment h now
adds_answers s before moment h now adds = record {
  entries = adds.entries;
  tape = adds.tape;
  are_such = inr adds.are_such;
  moments = adds.moments;
  script = adds.script;
  stuck = adds.stuck;
  order = adds.order;
}

-- ---- as a script begins

pub ordered_new : (h : Sessions) → h.tape.items ≡ [] → AllByRecursion IsUnbegun h.runners.items → (start now : ℕ) → start ≤ now → IsTapeOrdered start now h
ordered_new h none fresh start now le = record {
  order = subst (StandInOrder h.script.lines (at_start start [] [])) (sym none) tt;
  later = let same : (led_from start h).moment ≡ start = ap (λ (z : Point). z.moment) led in omega (arith, same, le);
  each = λ s one. let at = fresh_at h.runners.items (s - 1) fresh in
      ap (λ (z : Point). progress_of z s) led ∙ (λ i. record { finished = sym at.none i; made = made_at (sym at.between i) });
}
  where
    led : led_from start h ≡ at_start start [] []
    led = ap (final h.script.lines (at_start start [] [])) none

-- ---- recovery

module _ (h now : Sessions) (name : List ℕ) (moment : ℕ) (released : IsReleased name moment h now) (start before : ℕ) (le : before ≤ moment) (is : IsTapeOrdered start before h) where
  abbrev from : Point
  from = led_from start h

  abbrev entry : Entry
  entry = release_entry name moment

  script_same : now.script ≡ h.script
  script_same = ap (λ (z : Sessions). z.script) released.same

  led_released : led_from start now ≡ passed h.script.lines from entry
  led_released = (λ i. final (script_same i).lines (at_start start [] []) (released.tape i)) ∙ final_push h.script.lines (at_start start [] []) h.tape.items entry

  pub ordered_released : IsTapeOrdered start moment now
  ordered_released = record {
    order = subst (λ (sc : Script). StandInOrder sc.lines (at_start start [] []) now.tape.items) (sym script_same)
        (subst (StandInOrder h.script.lines (at_start start [] [])) (sym released.tape)
        (in_order_push h.script.lines (at_start start [] []) h.tape.items entry is.order
        (earlier from.moment before moment is.later le, inr (record { name = name; act = refl; session = refl; statement = refl; released = refl }), tt)));
    later = let same : (led_from start now).moment ≡ moment = ap (λ (z : Point). z.moment) led_released in omega (arith, same);
    each = λ s one. ap (λ (z : Point). progress_of z s) led_released ∙ is.each s one ∙ ap (λ (z : Sessions). far (runner_at s z.runners.items)) (sym released.same);
  }
