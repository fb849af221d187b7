-- What a session counts on between two of its statements, behind a reply that it was told.
use Rattle.std.proofs.Common.{◌≡◌, ◌⊎◌, ⊎_elim, inl, inr, ℕ, ◌+◌, ◌<◌, ◌==◌, true, cond, List, [], ◌∷◌, ◌++◌, Option, Some, None, refl, sym, ◌∙◌, ap, subst, arith}
use Rattle.std.specs.Prelude.{is_some}
use Rattle.std.specs.List.{AllByRecursion}
use Rattle.std.proofs.lemmas.Bool.{false≢true, eqb-true}
use Rattle.ctr_disk.specs.declared.disk.Disk.{Ghosts}
use Rattle.ctr_types.specs.declared.statement.Line.{Line}
use Rattle.ctr_types.specs.declared.statement.Statement.{Statement}
use Rattle.ctr_types.specs.declared.tape.Act.{Act}
use Rattle.ctr_types.specs.declared.tape.Act.TheVariants as act
use Rattle.ctr_types.specs.declared.tape.Entry.{Entry}
use Rattle.ctr_types.specs.declared.tape.Reply.{Reply}
use Rattle.ctr_types.specs.declared.tape.Reply.TheVariants as reply
use Rattle.ctr_model.specs.declared.state.State.{State}
use Rattle.ctr_model.specs.declared.state.Transaction.{Transaction}
use Rattle.ctr_model.specs.declared.tape.Point.{Point}
use Rattle.ctr_model.specs.Refusals.{table_of}
use Rattle.ctr_model.specs.Reply.{next_from, next_state, on_table, reply_from, with_read, with_use, MayStandFor}
use Rattle.ctr_model.specs.State.{begun, transaction_of}
use Rattle.ctr_model.specs.Tape.{final, passed, progress_of, statement_of, Comes, IsActOf, Legal}
use Rattle.ctr_model.proofs.Sessions.{find-put-same, find-without-same}
use Rattle.ctr_legal.specs.Laws.{RepliesTell}
use Rattle.ctr_legal.specs.Ready.{TellsOf}
use Rattle.ctr_versions.proofs.Keys.{known, some_is}
use Rattle.ctr_meta.specs.Tables.{heads_at, is_in}
use Rattle.ctr_area.specs.Sound.{IsAmong, xids_in}
use Rattle.ctr_told.specs.actions_Facts.{Fact, IsOpen}
use Rattle.ctr_told.specs.actions_Sites.{site_of}
use Rattle.ctr_told.specs.store_Store.{View}
use Rattle.ctr_told.proofs.kept_Walking.{keeps_reached}
use Rattle.ctr_told.specs.kept_Walk.{Mind}
use Rattle.ctr_told.specs.kept_Turns.{Start, entry_of, point_now, start_point, state_now}
use Rattle.ctr_session_world.specs.World.{SessionsHeld, InWorld}
use Rattle.ctr_session_world.specs.Told.{CountsBehindReply, CountsOnTables, IsIdleBy, IsIdleIn, IsNextOf, IsActTold}
use Rattle.ctr_session_world.proofs.Standing.{told_state}

-- ---- who counts on tables

-- whoever is open is one of them
open_is : (P : ℕ → Type 0) (x : ℕ) (ps : List (ℕ × ℕ)) → AllByRecursion P (xids_in ps) → is_in x ps ≡ true → P x
open_is P x [] all is = absurd (false≢true is)
open_is P x (p ∷ ps) all is = known (x == p.0)
    (λ one. subst P (sym (eqb-true x p.0 one)) all.0)
    (λ two. open_is P x ps all.1 (sym (ap (λ b. is_some (cond b (Some p.1) (heads_at x ps))) two) ∙ is))

none_above : (n : ℕ) → 0 < n → n ≡ 0 → ⊥
none_above n some none = omega (arith, some, none)

module _ {D : Type 0} (g : Ghosts D) (c : Start) (opened : D) (v : View D) (h : SessionsHeld) (w : Mind) (s : ℕ) (world : InWorld g c opened v h w) (counts : CountsOnTables (w.facts s)) where
  -- its transaction has a number, and so it is a writer of the model
  counts_writer : (t : Transaction) → transaction_of (state_now c w) s ≡ Some t → t.writer ≡ true
  counts_writer t is_t =
      let shows = world.keeps.walks.scene.shown.paged.shows in
      let its = shows.inside s t is_t in
      let here = world.keeps.walks.scene.carried.held s its.0 IsOpen its.1 (subst (λ (l : List Fact). IsAmong IsOpen l) (sym counts.2) (inl refl)) in
      let drawn = open_is (λ x. (0 < x) × (x < v.now.tables.next)) its.0.me v.now.tables.opens shows.sound.live here in
      known t.writer (λ yes. yes) (λ no. absurd (none_above its.0.me drawn.0 ((world.keeps.walks.scene.begun.drawn s t its.0 is_t its.1).reader no)))

  pub counts_idle : IsIdleIn c w s
  counts_idle = by (transaction_of (state_now c w) s) refl
    where
      by : (o : Option Transaction) → transaction_of (state_now c w) s ≡ o → IsIdleBy o (w.facts s)
      by None is = tt
      by (Some t) is = (λ yes. counts, λ no. absurd (false≢true (sym no ∙ counts_writer t is)))

-- ---- by the model's reply

-- rows that are read leave a writer one, and a reader one
read_writer : (o : Option (List ℕ)) (me : Transaction) → (on_table with_use o me).writer ≡ me.writer
read_writer None me = refl
read_writer (Some name) me = refl

idle_same : (t u : Transaction) (was now : List Fact) → u.writer ≡ t.writer → now ≡ was → IsIdleBy (Some t) was → IsIdleBy (Some u) now
idle_same t u was now writer same idle = (
  λ yes. subst CountsOnTables (sym same) (idle.0 (sym writer ∙ yes)),
  λ no. same ∙ idle.1 (sym writer ∙ no),
)

module _ (state : State) (s : ℕ) (statement : Statement) (was now : List Fact) where
  abbrev Left : Act → Option Transaction → Reply → Type 0
  Left x o r = CountsOnTables now ⊎ IsIdleBy (transaction_of (next_from state s o x (Some statement) r) s) now

  left_outside : (x : Act) (r : Reply) → transaction_of state s ≡ None → TellsOf state s None statement x r → CountsBehindReply r was now → Left x None r
  left_outside x (reply.Began n) is tells counts = inr (subst (λ o. IsIdleBy o now) (sym (find-put-same s (begun n) state.sessions)) (λ yes. absurd (false≢true yes), λ no. counts))
  left_outside x reply.Granted is tells counts = absurd tells
  left_outside x (reply.Rows rows) is tells counts = absurd tells
  left_outside x reply.Done is tells counts = absurd tells
  left_outside x (reply.Asked k) is tells counts = absurd tells
  left_outside x reply.ReadOnly is tells counts = absurd tells
  left_outside x (reply.Answered k) is tells counts = absurd tells
  left_outside x reply.RolledBack is tells counts = absurd tells
  left_outside x reply.Released is tells counts = absurd tells
  left_outside x (reply.Refused why) is tells counts = inr (subst (λ o. IsIdleBy o now) (sym is) tt)

  left_inside : (x : Act) (r : Reply) (me : Transaction) → transaction_of state s ≡ Some me → TellsOf state s (Some me) statement x r → ((k : ℕ) → r ≡ reply.Asked k → ⊥) → IsIdleBy (Some me) was → CountsBehindReply r was now → Left x (Some me) r
  left_inside x (reply.Began n) me is tells unasked idle counts = absurd tells
  left_inside x reply.Granted me is tells unasked idle counts = inl counts
  left_inside x (reply.Rows rows) me is tells unasked idle counts =
      inr (subst (λ o. IsIdleBy o now) (sym (find-put-same s (with_read (Some statement) me) state.sessions)) (idle_same me (with_read (Some statement) me) was now (read_writer (table_of statement) me) counts idle))
  left_inside x reply.Done me is tells unasked idle counts = inl counts
  left_inside x (reply.Asked k) me is tells unasked idle counts = absurd (unasked k refl)
  left_inside x reply.ReadOnly me is tells unasked idle counts = inr (subst (λ o. IsIdleBy o now) (sym (find-without-same s state.sessions)) tt)
  left_inside x (reply.Answered k) me is tells unasked idle counts = inr (subst (λ o. IsIdleBy o now) (sym (find-without-same s state.sessions)) tt)
  left_inside x reply.RolledBack me is tells unasked idle counts = inr (subst (λ o. IsIdleBy o now) (sym (find-without-same s state.sessions)) tt)
  left_inside x reply.Released me is tells unasked idle counts = absurd tells
  left_inside x (reply.Refused why) me is tells unasked idle counts = inr (subst (λ o. IsIdleBy o now) (sym is) (idle_same me me was now refl counts idle))

  pub left_by : (x : Act) (r : Reply) (o : Option Transaction) → transaction_of state s ≡ o → TellsOf state s o statement x r → ((k : ℕ) → r ≡ reply.Asked k → ⊥) → IsIdleBy o was → CountsBehindReply r was now → Left x o r
  left_by x r None is tells unasked idle counts = left_outside x r is tells counts
  left_by x r (Some me) is tells unasked idle counts = left_inside x r me is tells unasked idle counts

  -- behind a ROLLBACK a session is in no transaction
  pub none_left : (r : Reply) (o : Option Transaction) → transaction_of state s ≡ o → (r ≡ reply_from state s o act.Rollback statement) ⊎ MayStandFor statement (reply_from state s o act.Rollback statement) r
      → transaction_of (next_from state s o act.Rollback (Some statement) r) s ≡ None
  none_left r None is (inl same) = ap (λ q. transaction_of (next_from state s None act.Rollback (Some statement) q) s) same ∙ is
  none_left r None is (inr other) = absurd other
  none_left r (Some me) is (inl same) = ap (λ q. transaction_of (next_from state s (Some me) act.Rollback (Some statement) q) s) same ∙ find-without-same s state.sessions
  none_left r (Some me) is (inr other) = absurd other

-- ---- on the tape

-- the last entry of a legal tape may come where the ones before it led
last_comes : (lines : List Line) (p : Point) (es : List Entry) (e : Entry) → Legal lines p (es ++ e ∷ []) → Comes lines (final lines p es) e
last_comes lines p [] e legal = legal.0
last_comes lines p (x ∷ es) e legal = last_comes lines (passed lines p x) es e legal.1

no_number : (n f : ℕ) → n ≡ f + 1 → n ≡ 0 → ⊥
no_number n f is none = omega (arith, is, none)

module _ {D : Type 0} (g : Ghosts D) (c : Start) (opened : D) (a b : View D) (h : SessionsHeld) (s : ℕ) (statement : Statement) (made : ℕ) (next : IsNextOf g c opened a b h s statement made) (now : SessionsHeld) (x : Act) (r : Reply)
    (told : IsActTold next now x r) where
  abbrev point : Point
  point = point_now c next.mind

  abbrev state : State
  state = state_now c next.mind

  given : statement_of c.lines s next.e.n ≡ Some statement
  given = next.e.is_it ∙ ap (λ q. Some q) next.is

  -- it was told of its statement
  its_act : IsActOf statement point (entry_of s next.e x r)
  its_act = ⊎_elim
      (λ act_of. subst (λ q. IsActOf q point (entry_of s next.e x r)) (some_is act_of.0 statement (sym act_of.1 ∙ given)) act_of.2)
      (λ release. absurd (no_number next.e.n (progress_of point s).finished next.number release.statement))
      (last_comes c.lines (start_point c) next.mind.tape (entry_of s next.e x r) (subst (Legal c.lines (start_point c)) told.tape told.world.keeps.walks.legal)).one_of

  its_tells : RepliesTell → TellsOf state s (transaction_of state s) statement x r
  its_tells replies =
      let reached = keeps_reached c.lines c.moment c.base c.stuck c.size (g.moment_of a.disk) (site_of a.now) next.mind next.world.keeps.walks in
      (replies state s statement x r reached.kept (reached.ready s statement x (record { given = ap (statement_of c.lines s) (sym next.number) ∙ given; next_act = its_act.next_act })) its_act.in_turn its_act.allowed).tells

  state_is : state_now c told.mind ≡ next_state state s x (Some statement) r
  state_is = told_state g c opened a b h s statement made next x r told.mind told.tape

  -- it counts on tables, or on what it did before
  pub idle_behind : RepliesTell → IsIdleIn c next.mind s ⊎ CountsOnTables (told.mind.facts s) → ((k : ℕ) → r ≡ reply.Asked k → ⊥) → IsIdleIn c told.mind s
  idle_behind replies either unasked = ⊎_elim
      (λ idle. ⊎_elim
      (λ counts. counts_idle g c opened b now told.mind s told.world counts)
      (λ left. subst (λ (q : State). IsIdleBy (transaction_of q s) (told.mind.facts s)) (sym state_is) left)
      (left_by state s statement (next.mind.facts s) (told.mind.facts s) x r (transaction_of state s) refl (its_tells replies) unasked idle told.counts))
      (λ counts. counts_idle g c opened b now told.mind s told.world counts)
      either

-- and behind a ROLLBACK on nothing
pub idle_rolled : {D : Type 0} (g : Ghosts D) (c : Start) (opened : D) (a b : View D) (h : SessionsHeld) (s : ℕ) (statement : Statement) (made : ℕ) (next : IsNextOf g c opened a b h s statement made) (now : SessionsHeld) (r : Reply)
    → (told : IsActTold next now act.Rollback r) → IsIdleIn c told.mind s
idle_rolled g c opened a b h s statement made next now r told =
    let state = state_now c next.mind in
    let none = none_left state s statement (next.mind.facts s) (told.mind.facts s) r (transaction_of state s) refl (its_act g c opened a b h s statement made next now act.Rollback r told).allowed in
    subst (λ o. IsIdleBy o (told.mind.facts s)) (sym (ap (λ (q : State). transaction_of q s) (state_is g c opened a b h s statement made next now act.Rollback r told) ∙ none)) tt
