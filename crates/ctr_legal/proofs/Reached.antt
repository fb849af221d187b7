-- Wherever a legal tape leads, the state keeps what it is to keep and each session is ready.
use Rattle.std.proofs.Common.{◌≡◌, ⊎_elim, inl, ℕ, zero, suc, ◌+◌, ◌<◌, ◌==◌, Bool, true, false, cond, not, List, [], ◌∷◌, ◌++◌, length, Option, Some, None, refl, sym, ◌∙◌, ap, subst, arith}
use Rattle.std.specs.Prelude.{unwrap_or, is_some, nat_le, ◌&&◌, ◌||◌, slice_get, option_and_then}
use Rattle.std.proofs.lemmas.Bool.{false≢true, true≢false, eqb-true, and_parts}
use Rattle.ctr_types.specs.declared.statement.Statement.{Statement}
use Rattle.ctr_types.specs.declared.statement.Line.{Line}
use Rattle.ctr_types.specs.declared.tape.Act.{Act}
use Rattle.ctr_types.specs.declared.tape.Act.TheVariants as act
use Rattle.ctr_types.specs.declared.tape.Entry.{Entry}
use Rattle.ctr_types.specs.declared.tape.Reply.TheVariants as reply
use Rattle.ctr_model.specs.declared.state.State.{State}
use Rattle.ctr_model.specs.declared.state.Transaction.{Transaction}
use Rattle.ctr_model.specs.declared.tape.Point.{Point}
use Rattle.ctr_model.specs.declared.tape.Progress.{Progress}
use Rattle.ctr_model.specs.Database.{Database, table_at, after}
use Rattle.ctr_model.specs.State.{same_name, has_name, rows_at, transaction_of, at_rest}
use Rattle.ctr_model.specs.Reply.{without_name, reply_from, next_from, next_state}
use Rattle.ctr_model.specs.Tape.{acts_of, statement_of, progress_of, goes_on, advanced, Comes, IsActOf, IsRelease, passed_by, passed, final, Legal, at_start}
use Rattle.ctr_model.proofs.Sessions.{known, find-put-other, find-put-same}
use Rattle.ctr_versions.proofs.Keys.{some_is}
use Rattle.ctr_legal.specs.Kept.{IsKept}
use Rattle.ctr_legal.specs.Laws.{WaitingAreAnswered}
use Rattle.ctr_legal.specs.Ready.{MayWrite, IsUnasked, IsReady, IsNext, IsReached}
use Rattle.ctr_legal.proofs.Ready.{ComesTo, comes_to, acts_same, next_act, first_ready, ask_goes_on, answer_next}
use Rattle.ctr_legal.proofs.Keep.{clash}

-- ---- a session that others leave alone stays ready

granted_stays : (state next : State) (statement : Statement) (t : Transaction) → rows_at next t.snapshot ≡ rows_at state t.snapshot → MayWrite state t statement → MayWrite next t statement
granted_stays state next statement t same given = record {
  locks = given.locks;
  unasked = given.unasked;
  writer = given.writer;
  under = given.under;
  there = λ name is keyed. ap (λ db. is_some (table_at (after t.own db) name)) same ∙ given.there name is keyed;
}

ready_stays : (state next : State) (statement : Statement) (a : Act) (o : Option Transaction) → ((t : Transaction) → o ≡ Some t → rows_at next t.snapshot ≡ rows_at state t.snapshot) → IsReady state statement a o → IsReady next statement a o
ready_stays state next statement act.Begin o same ready = ready
ready_stays state next statement act.Read o same ready = ready
ready_stays state next statement act.Lock o same ready = ready
ready_stays state next statement act.Write None same ready = ready
ready_stays state next statement act.Write (Some t) same ready = granted_stays state next statement t (same t refl) ready
ready_stays state next statement act.Ask o same ready = ready
ready_stays state next statement act.Answer o same ready = tt
ready_stays state next statement act.Rollback o same ready = ready
ready_stays state next statement (act.Release name) o same ready = absurd ready

-- a name that is among fewer was among all
still_named : (n name : List ℕ) (names : List (List ℕ)) → has_name n (without_name name names) ≡ true → has_name n names ≡ true
still_named n name [] is = is
still_named n name (m ∷ ms) is = elim (same_name m name) as (λ b. has_name n (cond (not b) (m ∷ without_name name ms) (without_name name ms)) ≡ true → (same_name m n || has_name n ms) ≡ true) [
  | true ↦ λ rest. ap (λ b. same_name m n || b) (still_named n name ms rest) ∙ last (same_name m n)
  | false ↦ elim (same_name m n) as (λ b. (b || has_name n (without_name name ms)) ≡ true → (b || has_name n ms) ≡ true) [ true ↦ λ is. refl | false ↦ still_named n name ms ]
] is
  where
    last : (b : Bool) → (b || true) ≡ true
    last true = refl
    last false = refl

-- ---- one entry

module _ (lines : List Line) (p : Point) (e : Entry) (reached : IsReached lines p) where
  -- an act of a session
  module _ (statement : Statement) (at : statement_of lines e.session e.statement ≡ Some statement) (is : IsActOf statement p e) where
    abbrev s : ℕ
    s = e.session

    abbrev next : State
    next = next_state p.state s e.act (Some statement) e.reply

    abbrev now : Point
    now = passed_by (Some statement) p e

    abbrev before : Progress
    before = progress_of p s

    abbrev acts : List Act
    acts = acts_of p.state s statement

    abbrev goes : Bool
    goes = goes_on e.reply && nat_le (before.made + 2) (length acts)

    abbrev further : Progress
    further = record before { made = before.made + 1 }

    abbrev ended : Progress
    ended = record { finished = before.finished + 1; made = 0 }

    here : statement_of lines s (before.finished + 1) ≡ Some statement
    here = ap (statement_of lines s) (sym is.number) ∙ at

    moved : ComesTo p.state next s statement e.act e.reply
    moved = comes_to p.state s statement e.act e.reply reached.kept (reached.ready s statement e.act (record { given = here; next_act = is.next_act })) is.in_turn is.allowed

    mine_now : progress_of now s ≡ advanced acts e.reply before
    mine_now = ap (λ o. unwrap_or o (record { finished = 0; made = 0 })) (find-put-same s (advanced acts e.reply before) p.progress)

    on : goes ≡ true → progress_of now s ≡ further
    on is_on = mine_now ∙ ap (λ b. cond b further ended) is_on

    ends : goes ≡ false → progress_of now s ≡ ended
    ends is_off = mine_now ∙ ap (λ b. cond b further ended) is_off

    others_now : (q : ℕ) → (q == s) ≡ false → progress_of now q ≡ progress_of p q
    others_now q two = ap (λ o. unwrap_or o (record { finished = 0; made = 0 })) (find-put-other q s (advanced acts e.reply before) p.progress two)

    -- after an Ask that goes on
    asks_on : e.act ≡ act.Ask → goes_on e.reply ≡ true → goes ≡ true
    asks_on ask goes_ = ap (λ b. b && nat_le (before.made + 2) (length acts)) goes_ ∙ ask_goes_on p.state s statement before.made (is.next_act ∙ ap (λ o. Some o) ask)

    -- the act of its own that comes next
    mine_ready : (statement_ : Statement) (a : Act) → IsNext lines now s statement_ a → IsReady next statement_ a (transaction_of next s)
    mine_ready statement_ a next_ = known goes
        (λ is_on.
        let stays : statement ≡ statement_ = some_is statement statement_ (sym here ∙ ap (λ (g : Progress). statement_of lines s (g.finished + 1)) (sym (on is_on)) ∙ next_.given) in
        let following : slice_get acts (suc before.made) ≡ Some a =
        ap (λ n. slice_get acts n) (plus before.made) ∙ ap (λ (g : Progress). slice_get acts g.made) (sym (on is_on)) ∙ ap (λ acts. slice_get acts (progress_of now s).made) (acts_same p.state next s statement)
        ∙ ap (λ t. slice_get (acts_of next s t) (progress_of now s).made) stays ∙ next_.next_act in
        subst (λ t. IsReady next t a (transaction_of next s)) stays
        (⊎_elim
        (λ lock. subst (λ b. IsReady next statement b (transaction_of next s)) (sym lock.1) (moved.goes lock.0 (and_parts (goes_on e.reply) (nat_le (before.made + 2) (length acts)) is_on).0))
        (λ ask. subst (λ b. IsReady next statement b (transaction_of next s)) (sym ask.1) tt)
        (next_act p.state s statement before.made e.act a is.next_act following)))
        (λ is_off. first_ready next next s statement_ a (transaction_of next s)
        (⊎_elim (λ unasked. unasked) (λ ask. absurd (clash goes is_off (asks_on ask.0 ask.1))) moved.either)
        (ap (λ (g : Progress). slice_get (acts_of next s statement_) g.made) (sym (ends is_off)) ∙ next_.next_act))
      where
        plus : (n : ℕ) → suc n ≡ n + 1
        plus n = omega arith

    -- another session's
    other_ready : (q : ℕ) → (q == s) ≡ false → (statement_ : Statement) (a : Act) → IsNext lines now q statement_ a → IsReady next statement_ a (transaction_of next q)
    other_ready q two statement_ a next_ =
        let old = reached.ready q statement_ a (record {
          given = ap (λ (g : Progress). statement_of lines q (g.finished + 1)) (sym (others_now q two)) ∙ next_.given;
          next_act = ap (λ (g : Progress). slice_get (acts_of p.state q statement_) g.made) (sym (others_now q two)) ∙ ap (λ acts. slice_get acts (progress_of now q).made) (acts_same p.state next q statement_) ∙ next_.next_act;
        }) in
        subst (IsReady next statement_ a) (sym (moved.others q two))
        (ready_stays p.state next statement_ a (transaction_of p.state q) (λ t at_t. moved.rows t.snapshot (reached.kept.fits q t at_t).snapshot) old)

    mine_waiting : (t : Transaction) (k : ℕ) → transaction_of next s ≡ Some t → t.asked ≡ Some k → (statement : Statement) × IsNext lines now s statement act.Answer
    mine_waiting t k at_s asked = ⊎_elim
        (λ unasked. absurd (true≢false (ap is_some (sym asked ∙ subst IsUnasked at_s unasked))))
        (λ ask.
        let step = on (asks_on ask.0 ask.1) in (
          statement,
          record {
            given = ap (λ (g : Progress). statement_of lines s (g.finished + 1)) step ∙ here;
            next_act = ap (λ (g : Progress). slice_get (acts_of next s statement) g.made) step ∙ ap (λ acts. slice_get acts (before.made + 1)) (acts_same next p.state s statement) ∙ ap (λ n. slice_get acts n) (sym (plus before.made))
                ∙ answer_next p.state s statement before.made (is.next_act ∙ ap (λ o. Some o) ask.0);
          },
        ))
        moved.either
      where
        plus : (n : ℕ) → suc n ≡ n + 1
        plus n = omega arith

    other_waiting : (q : ℕ) → (q == s) ≡ false → (t : Transaction) (k : ℕ) → transaction_of next q ≡ Some t → t.asked ≡ Some k → (statement : Statement) × IsNext lines now q statement act.Answer
    other_waiting q two t k at_q asked =
        let old = reached.waiting q t k (sym (moved.others q two) ∙ at_q) asked in (
          old.0,
          record {
            given = ap (λ (g : Progress). statement_of lines q (g.finished + 1)) (others_now q two) ∙ old.1.given;
            next_act = ap (λ (g : Progress). slice_get (acts_of next q old.0) g.made) (others_now q two) ∙ ap (λ acts. slice_get acts (progress_of p q).made) (acts_same next p.state q old.0) ∙ old.1.next_act;
          },
        )

    act_reached : IsReached lines now
    act_reached = record {
      kept = moved.kept;
      ready = λ q statement_ a. known (q == s)
          (λ one. subst (λ r. IsNext lines now r statement_ a → IsReady next statement_ a (transaction_of next r)) (sym (eqb-true q s one)) (mine_ready statement_ a))
          (λ two. other_ready q two statement_ a);
      waiting = λ q t k. known (q == s)
          (λ one. subst (λ r. transaction_of next r ≡ Some t → t.asked ≡ Some k → (statement : Statement) × IsNext lines now r statement act.Answer) (sym (eqb-true q s one)) (mine_waiting t k))
          (λ two. other_waiting q two t k);
    }

  -- fewer names are held by recovery
  fewer_kept : (name : List ℕ) → IsKept (record p.state { stuck = without_name name p.state.stuck })
  fewer_kept name = let kept = reached.kept in record { answered = kept.answered; fits = kept.fits; covered = kept.covered; clear = λ s t at. let c = kept.clear s t at in record { uses = λ n stuck is. c.uses n (still_named n name p.state.stuck stuck) is; holds = λ n stuck is. c.holds n (still_named n name p.state.stuck stuck) is }; apart = kept.apart; firm = kept.firm; readers = kept.readers; pending = kept.pending }

  abbrev Still : State → Type 0
  Still next = IsKept next × ((q : ℕ) → transaction_of next q ≡ transaction_of p.state q) × ((j : ℕ) → rows_at next j ≡ rows_at p.state j)

  -- recovery gives a name free
  release_reached : IsRelease p e → IsReached lines (passed_by None p e)
  release_reached is =
      let next : State = next_state p.state e.session e.act None e.reply in
      let still : Still (next_state p.state e.session (act.Release is.name) None reply.Released) = elim (transaction_of p.state e.session) as (λ o. Still (next_from p.state e.session o (act.Release is.name) None reply.Released)) [
        | Some me ↦ (reached.kept, λ q. refl, λ j. refl)
        | None ↦ (fewer_kept is.name, λ q. refl, λ j. refl)
      ] in
      let moved : Still next = subst (λ a. Still (next_state p.state e.session a None e.reply)) (sym is.act) (subst (λ r. Still (next_state p.state e.session (act.Release is.name) None r)) (sym is.released) still) in
      record {
        kept = moved.0;
        ready = λ q statement a next_. subst (IsReady next statement a) (sym (moved.1 q))
            (ready_stays p.state next statement a (transaction_of p.state q) (λ t at_t. moved.2 t.snapshot) (reached.ready q statement a (record { given = next_.given; next_act = ap (λ acts. slice_get acts (progress_of p q).made) (acts_same p.state next q statement) ∙ next_.next_act })));
        waiting = λ q t k at_q asked. let old = reached.waiting q t k (sym (moved.1 q) ∙ at_q) asked in (old.0, record { given = old.1.given; next_act = ap (λ acts. slice_get acts (progress_of p q).made) (acts_same next p.state q old.0) ∙ old.1.next_act });
      }

  pub entry_reached : Comes lines p e → IsReached lines (passed lines p e)
  entry_reached comes = ⊎_elim
      (λ next. subst (λ o. IsReached lines (passed_by o p e)) (sym next.1) (act_reached next.0 next.1 next.2))
      (λ release. subst (λ o. IsReached lines (passed_by o p e)) (sym (ap (λ n. statement_of lines e.session n) release.statement)) (release_reached release))
      comes.one_of

-- ---- a tape

pub tape_reached : (lines : List Line) (p : Point) (es : List Entry) → IsReached lines p → Legal lines p es → IsReached lines (final lines p es)
tape_reached lines p [] reached legal = reached
tape_reached lines p (e ∷ es) reached legal = tape_reached lines (passed lines p e) es (entry_reached lines p e reached legal.0) legal.1

pub start_reached : (lines : List Line) (moment : ℕ) (base : Database) (stuck : List (List ℕ)) → IsReached lines (at_start moment base stuck)
start_reached lines moment base stuck = record {
  kept = record {
    answered = omega arith;
    fits = λ s t at. absurd (false≢true (ap is_some at));
    covered = λ s t at. absurd (false≢true (ap is_some at));
    clear = λ s t at. absurd (false≢true (ap is_some at));
    apart = λ s r t u two at at_r. absurd (false≢true (ap is_some at));
    firm = λ s t at. absurd (false≢true (ap is_some at));
    readers = λ s t at. absurd (false≢true (ap is_some at));
    pending = λ j own le is. absurd (false≢true (ap is_some is));
  };
  waiting = λ s t k at asked. absurd (false≢true (ap is_some at));
  ready = λ s statement a next. first_ready (at_rest base stuck) (at_rest base stuck) s statement a None tt next.next_act;
}

-- ---- an entry more

pub final_push : (lines : List Line) (p : Point) (es : List Entry) (e : Entry) → final lines p (es ++ e ∷ []) ≡ passed lines (final lines p es) e
final_push lines p [] e = refl
final_push lines p (x ∷ es) e = final_push lines (passed lines p x) es e

pub legal_push : (lines : List Line) (p : Point) (es : List Entry) (e : Entry) → Legal lines p es → Comes lines (final lines p es) e → Legal lines p (es ++ e ∷ [])
legal_push lines p [] e legal comes = (comes, tt)
legal_push lines p (x ∷ es) e legal comes = (legal.0, legal_push lines (passed lines p x) es e legal.1 comes)

-- ---- commits that wait

got_at : {X : Type 0} (xs : List X) (j : ℕ) → j < length xs → (x : X) × (slice_get xs j ≡ Some x)
got_at [] j lt = absurd (none_below j lt)
  where
    none_below : (j : ℕ) → j < 0 → ⊥
    none_below j lt = omega (arith, lt)
got_at (x ∷ xs) zero lt = (x, refl)
got_at (x ∷ xs) (suc j) lt = got_at xs j (omega (arith, lt))

pub waiting_answered : WaitingAreAnswered
waiting_answered lines p moment reached later waiting =
    let own = got_at p.state.asked p.state.answered waiting in
    let first = reached.kept.pending p.state.answered own.0 (omega arith) own.1 in
    let s = first.0 in
    let me = first.1.me in
    let next = reached.waiting s me (p.state.answered + 1) first.1.there first.1.asked in (
      s,
      record {
        me = me;
        there = first.1.there;
        asked = first.1.asked;
        comes = record {
          later = later;
          one_of = inl (
            next.0,
            next.1.given,
            record {
              number = refl;
              next_act = next.1.next_act;
              in_turn = ap (option_and_then (λ (t : Transaction). t.asked)) first.1.there ∙ first.1.asked;
              allowed = inl (sym (ap (λ o. reply_from p.state s o act.Answer next.0) first.1.there));
            },
          );
        };
      },
    )
