-- A commit that is answered in a World: the program answers the session that the model does.
use Rattle.std.proofs.Common.{◌≡◌, ◌≢◌, ℕ, zero, suc, ◌+◌, ◌-◌, ◌<◌, ◌≤◌, ◌==◌, true, false, cond, List, [], ◌∷◌, ◌++◌, length, Some, None, refl, sym, ◌∙◌, ap, subst, arith}
use Rattle.std.specs.Prelude.{nat_lt, ◌&&◌, not, slice_get, is_some}
use Rattle.std.specs.Option.{option_map}
use Rattle.std.specs.Ordering.{nat_cmp}
use Rattle.std.specs.FinMap.Entries.{find}
use Rattle.std.proofs.lemmas.Bool.{false≢true, eqb-true, and_parts, ltb-true}
use Rattle.ctr_disk.specs.declared.disk.Disk.{Ghosts}
use Rattle.ctr_types.specs.declared.tape.Act.TheVariants as act
use Rattle.ctr_types.specs.declared.tape.Reply.TheVariants as reply
use Rattle.ctr_snap.specs.Seeing.{has}
use Rattle.ctr_model.specs.declared.state.State.{State}
use Rattle.ctr_model.specs.declared.state.Transaction.{Transaction}
use Rattle.ctr_model.specs.declared.tape.Point.{Point}
use Rattle.ctr_model.specs.Maps.{without}
use Rattle.ctr_model.specs.State.{transaction_of, without_transaction}
use Rattle.ctr_model.specs.Tape.{progress_of}
use Rattle.ctr_model.proofs.Sessions.{find-without-other, find-without-same}
use Rattle.ctr_legal.proofs.Reached.{waiting_answered}
use Rattle.ctr_legal.specs.Laws.{IsAnsweredNext}
use Rattle.ctr_legal.specs.Ready.{IsReached}
use Rattle.ctr_versions.proofs.Keys.{known, some_is}
use Rattle.ctr_versions.proofs.Xids.{number_committed}
use Rattle.ctr_versions.specs.Engine.{SessionHeld}
use Rattle.ctr_versions.specs.Xids.{Xids, number_of, place_from}
use Rattle.ctr_actions.specs.Sites.{Site, site_of}
use Rattle.ctr_writing.specs.ctr_session_world.paged_Paged.{Run, xids_of}
use Rattle.ctr_store.specs.Store.{View}
use Rattle.ctr_locks.specs.Held.{LocksOfSession, FreesAll, OfSession, locks_key}
use Rattle.ctr_locks.specs.Shows.{ShowsKeyLocks, ReleaseLeavesLocks}
use Rattle.ctr_writing.proofs.ctr_session_world.kept_Walking.{keeps_reached}
use Rattle.ctr_writing.specs.ctr_session_world.kept_Walk.{Mind}
use Rattle.ctr_writing.specs.ctr_session_world.kept_Turns.{Start, InTransaction, KeepsRun, MayCome, Telling, entry_of, point_now, state_now, telling}
use Rattle.ctr_writing.specs.ctr_session_world.stops_World.{KeepsWorld}
use Rattle.ctr_writing.specs.ctr_session_world.txn_Asked.{Asked}
use Rattle.ctr_writing.specs.ctr_session_world.txn_Held.{AreTxns, TxnHeld, TxnsHeld, run_of}
use Rattle.ctr_writing.specs.ctr_session_world.txn_Steps.{AnswersNext}
use Rattle.ctr_writing.proofs.ctr_session_world.ctr_told.Answered.{answer_leaves}
use Rattle.ctr_writing.specs.ctr_session_world.ctr_told.Turning.{answered_mind}
use Rattle.ctr_control.specs.Answers.{IsAnswered}
use Rattle.ctr_writing.specs.ctr_session_world.World.{InWorld, AreInTables, AreInOrder, names_in}
use Rattle.ctr_writing.proofs.ctr_session_world.Alike.{gone_in_order}
use Rattle.ctr_writing.proofs.ctr_session_world.Standing.{RunFinds}

-- ---- places

early : (k x : ℕ) (ys : List ℕ) → 0 < place_from k x ys → k ≤ place_from k x ys
early k x [] some = omega (arith, some)
early k x (y ∷ ys) some = elim (x == y) as (λ b. 0 < cond b k (place_from (k + 1) x ys) → k ≤ cond b k (place_from (k + 1) x ys)) [
  | true ↦ λ some. omega arith
  | false ↦ λ some. below (place_from (k + 1) x ys) (early (k + 1) x ys some)
] some
  where
    below : (n : ℕ) → k + 1 ≤ n → k ≤ n
    below n le = omega (arith, le)

-- what stands at a place from which on its own is counted
pub place_at : (k x j : ℕ) (ys : List ℕ) → 0 < k → place_from k x ys ≡ k + j → slice_get ys j ≡ Some x
place_at k x j [] some is = absurd (omega (arith, some, is))
place_at k x zero (y ∷ ys) some is = known (x == y)
    (λ one. ap Some (sym (eqb-true x y one)))
    (λ two. absurd (apart (place_from (k + 1) x ys) (sym (ap (λ b. cond b k (place_from (k + 1) x ys)) two) ∙ is) (early (k + 1) x ys)))
  where
    apart : (n : ℕ) → n ≡ k + 0 → (0 < n → k + 1 ≤ n) → ⊥
    apart n is above = let le = above (omega (arith, some, is)) in omega (arith, is, le)
place_at k x (suc j) (y ∷ ys) some is = known (x == y)
    (λ one. absurd (omega_not k (sym (ap (λ b. cond b k (place_from (k + 1) x ys)) one) ∙ is)))
    (λ two. place_at (k + 1) x j ys (omega arith) (sym (ap (λ b. cond b k (place_from (k + 1) x ys)) two) ∙ is ∙ on))
  where
    omega_not : (n : ℕ) → n ≡ n + suc j → ⊥
    omega_not n is = omega (arith, is)

    on : k + suc j ≡ k + 1 + j
    on = omega arith

-- a transaction with a number of this run stands at its place among those that asked
number_at : (xids : Xids) (x k : ℕ) → number_of xids x ≡ Some (k + 1) → (0 < x) × (slice_get xids.commits k ≡ Some x)
number_at xids x k is =
    let committed = number_committed xids x (k + 1) is in
    let drawn = and_parts (nat_lt 0 x) (nat_lt x xids.next && (not (has x xids.live) && not (has x xids.aborted))) committed in
    let place = some_is (place_from 1 x xids.commits) (k + 1) (sym (ap (λ b. cond b (Some (place_from 1 x xids.commits)) None) committed) ∙ is) in
    (ltb-true 0 x drawn.0, place_at 1 x k xids.commits (omega arith) (place ∙ swapped k))
  where
    swapped : (k : ℕ) → k + 1 ≡ 1 + k
    swapped k = omega arith

-- ---- whose it is

-- a session has this number, which asked for the commit at this place
pub record HasAskedAt (w : Mind) (s k : ℕ) : Type 0 where
  pub session : SessionHeld
  pub at : find nat_cmp s w.run.sessions ≡ Some session
  pub some : 0 < session.me
  pub place : slice_get w.run.commits k ≡ Some session.me

module _ (c : Start) (now : ℕ) (site : Site) (w : Mind) (keeps : KeepsRun c now site w) where
  pub asked_at : (s k : ℕ) (t : Transaction) → transaction_of (state_now c w) s ≡ Some t → t.asked ≡ Some (k + 1) → HasAskedAt w s k
  asked_at s k t is_t asked =
      let its = keeps.scene.shown.paged.shows.inside s t is_t in
      let number = number_at (xids_of site.tables w.run.commits) its.0.me k (its.2.asked (k + 1) asked) in
      record { session = its.0; at = its.1; some = number.0; place = number.1 }

  -- two that asked for one commit are one
  pub one_asked : (s r k : ℕ) → HasAskedAt w s k → HasAskedAt w r k → s ≡ r
  one_asked s r k a b = keeps.scene.shown.paged.shows.apart s r a.session b.session a.at b.at a.some (some_is a.session.me b.session.me (sym a.place ∙ b.place))

-- ---- the session that is answered

module _ {D : Type 0} (g : Ghosts D) (c : Start) (opened : D) (v : View D) (old : TxnsHeld) (locks : List (ℕ × LocksOfSession)) (w : Mind)
    (world : InWorld g c opened v (record { txns = old; locks = locks }) w) (s : ℕ) (q : Asked) (m : TxnsHeld) (next : AnswersNext s q old m) (held : AreTxns old) (finds : RunFinds) where
  abbrev state : State
  state = state_now c w

  abbrev point : Point
  point = point_now c w

  abbrev moment : ℕ
  moment = g.moment_of v.disk

  abbrev k : ℕ
  k = state.answered

  keeps_run : KeepsRun c moment (site_of v.now) w
  keeps_run = world.keeps.walks

  same_answered : old.answered ≡ k
  same_answered = sym (ap (λ (r : Run). r.answered) world.run_is) ∙ keeps_run.scene.shown.paged.shows.same_answered

  pub number_is : q.k ≡ k + 1
  number_is = next.next ∙ ap (λ n. n + 1) same_answered

  waits : k < length state.asked
  waits = below q.k (length old.numbers.commits) (length state.asked) next.within
      (ap (λ (r : Run). length r.commits) (sym world.run_is) ∙ keeps_run.scene.shown.paged.shows.counted) number_is
    where
      below : (n many asked : ℕ) → n ≤ many → many ≡ asked → n ≡ k + 1 → k < asked
      below n many asked le is one = omega (arith, le, is, one)

  pub reached : IsReached c.lines point
  reached = keeps_reached c.lines c.moment c.base c.stuck c.size moment (site_of v.now) w keeps_run

  pub at_here : find nat_cmp s w.run.sessions ≡ Some next.t.session
  at_here = ap (λ (r : Run). find nat_cmp s r.sessions) world.run_is ∙ finds s old next.one ∙ ap (option_map (λ (t : TxnHeld). t.session)) next.there

  -- by the program it stands at the place of the next commit
  asked_here : HasAskedAt w s k
  asked_here =
      let its = (held.each (s - 1) next.t next.there).asked q next.is_asked in record {
        session = next.t.session;
        at = at_here;
        some = its.1;
        place = ap (λ (r : Run). slice_get r.commits k) world.run_is ∙ ap (slice_get old.numbers.commits) (one_less q.k k number_is) ∙ its.2;
      }
    where
      one_less : (n m : ℕ) → n ≡ m + 1 → m ≡ n - 1
      one_less n m is = omega (arith, is)

  -- and so it is the one that the model answers
  pub answered_next : IsAnsweredNext c.lines point moment s
  answered_next =
      let first = waiting_answered c.lines point moment reached keeps_run.later waits in
      let there = asked_at c moment (site_of v.now) w keeps_run first.0 k first.1.me first.1.there first.1.asked in
      subst (IsAnsweredNext c.lines point moment) (one_asked c moment (site_of v.now) w keeps_run first.0 s k there asked_here) first.1

  abbrev pub seat : InTransaction c w s
  seat = record { session = next.t.session; t = answered_next.me; at = at_here; is_t = answered_next.there }

  pub at_once : (n : ℕ) → n ≤ n
  at_once n = omega arith

  abbrev pub e : Telling c moment s
  e =
      let answers = reached.waiting s answered_next.me (k + 1) answered_next.there answered_next.asked in
      record { n = (progress_of point s).finished + 1; later = moment; in_call = at_once moment; statement = answers.0; is_it = answers.1.given }

  pub answer_comes : MayCome c w e act.Answer (reply.Answered (k + 1))
  answer_comes = answered_next.comes

  -- ---- the World behind its answer

  abbrev pub w1 : Mind
  w1 = telling e act.Answer (reply.Answered (k + 1)) w (answered_mind s w)

  abbrev gone_state : State
  gone_state = without_transaction s (record state { answered = k + 1 })

  module _ (left : List (ℕ × LocksOfSession)) (runs : run_of m ≡ record (run_of old) { sessions = without nat_cmp s (run_of old).sessions; answered = old.answered + 1 })
      (frees : OfSession s FreesAll locks left) (shows : ReleaseLeavesLocks) (keeps : KeepsWorld g c opened v w1) where
    is_state : state_now c w1 ≡ gone_state
    is_state = answer_leaves c moment s w seat e w1 refl

    tables_now : AreInTables v.now left gone_state w.facts
    tables_now r f key u is at = known (r == s)
        (λ one. absurd (false≢true (ap is_some (sym (find-without-same s state.sessions) ∙ ap (transaction_of gone_state) (sym (eqb-true r s one)) ∙ at))))
        (λ two. world.tables r f key u (ap (locks_key f key) (sym (frees.others r two)) ∙ is) (sym (find-without-other r s state.sessions two) ∙ at))

    answered_world : InWorld g c opened v (record { txns = m; locks = left }) w1
    answered_world = record {
      keeps = keeps;
      run_is = ap (λ (r : Run). record r { sessions = without nat_cmp s r.sessions; answered = r.answered + 1 }) world.run_is ∙ sym runs;
      locks = subst (λ (z : State). ShowsKeyLocks (names_in v.now) left z) (sym is_state) (shows (names_in v.now) s locks left (record state { answered = k + 1 }) frees world.locks);
      tables = subst (λ (z : State). AreInTables v.now left z w.facts) (sym is_state) tables_now;
      in_order = subst AreInOrder (sym is_state) (gone_in_order s (record state { answered = k + 1 }) world.in_order);
    }

    pub answered_told : IsAnswered {h = record { txns = old; locks = locks }} (record { mind = w; world = world }) (s, q) (record { txns = m; locks = left })
    answered_told = record {
      mind = w1;
      world = answered_world;
      tape = ap (λ n. w.tape ++ entry_of s e act.Answer (reply.Answered n) ∷ []) (sym number_is);
      facts = refl;
      undo = refl;
    }

-- a list has nothing, or something
pub by_list : {A : Type 0} {P : Type 0} (l : List A) → (l ≡ [] → P) → (l ≢ [] → P) → P
by_list [] nothing some = nothing refl
by_list (x ∷ xs) nothing some = some (λ is. absurd cc)
