-- Sessions that have asked for their commits wait with numbers of their own.
use Rattle.std.proofs.Common.{◌≡◌, ◌⊎◌, inl, inr, ⊎_elim, ℕ, ◌+◌, ◌<◌, ◌==◌, true, false, List, [], ◌∷◌, length, Option, Some, None, refl, sym, ◌∙◌, ap, subst, arith}
use Rattle.std.specs.Prelude.{is_some}
use Rattle.std.proofs.lemmas.Bool.{false≢true, eqb-true, eq-eqb}
use Rattle.ctr_types.specs.declared.statement.Statement.{Statement}
use Rattle.ctr_types.specs.declared.statement.Line.{Line}
use Rattle.ctr_types.specs.declared.tape.Act.{Act}
use Rattle.ctr_types.specs.declared.tape.Act.TheVariants as act
use Rattle.ctr_types.specs.declared.tape.Reply.{Reply}
use Rattle.ctr_types.specs.declared.tape.Reply.TheVariants as reply
use Rattle.ctr_types.specs.declared.tape.Entry.{Entry}
use Rattle.ctr_model.specs.declared.state.State.{State}
use Rattle.ctr_model.specs.declared.state.Transaction.{Transaction}
use Rattle.ctr_model.specs.declared.tape.Point.{Point}
use Rattle.ctr_model.specs.State.{transaction_of}
use Rattle.ctr_model.specs.Reply.{next_from, next_state}
use Rattle.ctr_model.specs.Tape.{statement_of, progress_of, goes_on, Comes, IsActOf, passed, passed_by, final, Legal, at_start}
use Rattle.ctr_model.proofs.Sessions.{known, find-put-same}
use Rattle.ctr_versions.proofs.Keys.{some_is}
use Rattle.ctr_legal.specs.Kept.{IsKept}
use Rattle.ctr_legal.specs.Laws.{IsTold, HaveOwnNumbers, NumbersAreOwn}
use Rattle.ctr_legal.specs.Ready.{TellsOf, IsUnasked, IsReached}
use Rattle.ctr_legal.proofs.Ready.{apart_acts, replies_tell}
use Rattle.ctr_legal.proofs.Reached.{entry_reached, start_reached}

-- ---- one act

module _ (state : State) (s : ℕ) (statement : Statement) (a : Act) where
  -- a session asks by a reply with the next number
  record Asks (o : Option Transaction) (r : Reply) : Type 0 where
    k : ℕ
    me : Transaction
    reply_is : r ≡ reply.Asked k
    there : o ≡ Some me
    number : k ≡ length state.asked + 1

  asks : (o : Option Transaction) (r : Reply) → TellsOf state s o statement a r → a ≡ act.Ask → goes_on r ≡ true → Asks o r
  asks None (reply.Began n) tells is goes = apart_acts a act.Begin act.Ask tells.0 is refl
  asks None reply.Granted tells is goes = absurd tells
  asks None (reply.Rows rows) tells is goes = absurd tells
  asks None reply.Done tells is goes = absurd tells
  asks None (reply.Asked k) tells is goes = absurd tells
  asks None reply.ReadOnly tells is goes = absurd tells
  asks None (reply.Answered k) tells is goes = absurd tells
  asks None reply.RolledBack tells is goes = absurd tells
  asks None reply.Released tells is goes = absurd tells
  asks None (reply.Refused why) tells is goes = absurd (false≢true goes)
  asks (Some me) (reply.Began n) tells is goes = absurd tells
  asks (Some me) reply.Granted tells is goes = apart_acts a act.Lock act.Ask tells.0 is refl
  asks (Some me) (reply.Rows rows) tells is goes = apart_acts a act.Read act.Ask tells.0 is refl
  asks (Some me) reply.Done tells is goes = apart_acts a act.Write act.Ask tells.0 is refl
  asks (Some me) (reply.Asked k) tells is goes = record { k = k; me = me; reply_is = refl; there = refl; number = tells.3 }
  asks (Some me) reply.ReadOnly tells is goes = absurd (false≢true goes)
  asks (Some me) (reply.Answered k) tells is goes = apart_acts a act.Answer act.Ask tells.0 is refl
  asks (Some me) reply.RolledBack tells is goes = apart_acts a act.Rollback act.Ask tells.0 is refl
  asks (Some me) reply.Released tells is goes = absurd tells
  asks (Some me) (reply.Refused why) tells is goes = absurd (false≢true goes)

  -- what is answered stays, or the session's own commit is
  abbrev Answers : State → Option Transaction → Type 0
  Answers next o = (next.answered ≡ state.answered) ⊎ ((next.answered ≡ state.answered + 1) × ((me : Transaction) × (o ≡ Some me) × (me.asked ≡ Some (state.answered + 1))))

  answers : (o : Option Transaction) (r : Reply) → TellsOf state s o statement a r → Answers (next_from state s o a (Some statement) r) o
  answers None (reply.Began n) tells = inl refl
  answers None reply.Granted tells = inl refl
  answers None (reply.Rows rows) tells = inl refl
  answers None reply.Done tells = inl refl
  answers None (reply.Asked k) tells = inl refl
  answers None reply.ReadOnly tells = inl refl
  answers None (reply.Answered k) tells = inl refl
  answers None reply.RolledBack tells = inl refl
  answers None reply.Released tells = absurd tells
  answers None (reply.Refused why) tells = inl refl
  answers (Some me) (reply.Began n) tells = inl refl
  answers (Some me) reply.Granted tells = inl refl
  answers (Some me) (reply.Rows rows) tells = inl refl
  answers (Some me) reply.Done tells = inl refl
  answers (Some me) (reply.Asked k) tells = inl refl
  answers (Some me) reply.ReadOnly tells = inl refl
  answers (Some me) (reply.Answered k) tells = inr (refl, (me, refl, tells.1))
  answers (Some me) reply.RolledBack tells = inl refl
  answers (Some me) reply.Released tells = absurd tells
  answers (Some me) (reply.Refused why) tells = inl refl

  module _ (r : Reply) (kept : IsKept state) (told : IsTold state s statement a r) (before : HaveOwnNumbers state) where
    abbrev next : State
    next = next_state state s a (Some statement) r

    -- a number that the session has then is the one behind all that were asked for
    record Mine (k : ℕ) : Type 0 where
      number : k ≡ length state.asked + 1
      answered : next.answered ≡ state.answered

    unasked : (o : Option Transaction) (t : Transaction) (k : ℕ) → IsUnasked o → o ≡ Some t → t.asked ≡ Some k → Mine k
    unasked None t k none at asked = absurd (false≢true (ap is_some at))
    unasked (Some u) t k none at asked = absurd (false≢true (ap is_some (sym none ∙ ap (λ (x : Transaction). x.asked) (some_is u t at) ∙ asked)))

    asked_now : (t : Transaction) (k : ℕ) → transaction_of next s ≡ Some t → t.asked ≡ Some k → (made : Asks (transaction_of state s) r) → Mine k
    asked_now t k at asked made =
        let with : next ≡ next_from state s (Some made.me) a (Some statement) (reply.Asked made.k) =
        ap (λ q. next_from state s (transaction_of state s) a (Some statement) q) made.reply_is ∙ ap (λ o. next_from state s o a (Some statement) (reply.Asked made.k)) made.there in
        let mine : Some (record made.me { asked = Some made.k }) ≡ Some t = sym (find-put-same s (record made.me { asked = Some made.k }) state.sessions) ∙ ap (λ (x : State). transaction_of x s) (sym with) ∙ at in
        let same : made.k ≡ k = some_is made.k k (ap (λ (x : Transaction). x.asked) (some_is (record made.me { asked = Some made.k }) t mine) ∙ asked) in
        record { number = sym same ∙ made.number; answered = ap (λ (x : State). x.answered) with }

    mine : (t : Transaction) (k : ℕ) → transaction_of next s ≡ Some t → t.asked ≡ Some k → Mine k
    mine t k at asked = ⊎_elim
        (λ none. unasked (transaction_of next s) t k none at asked)
        (λ by. asked_now t k at asked (asks (transaction_of state s) r told.tells by.0 by.1))
        told.own

    others_wait : (q k : ℕ) (t : Transaction) → (q == s) ≡ false → transaction_of state q ≡ Some t → t.asked ≡ Some k → next.answered < k
    others_wait q k t two at asked = ⊎_elim
        (λ same. let lt = before.waits q k t at asked in omega (arith, same, lt))
        (λ more. let lt = before.waits q k t at asked in
        omega (arith, more.0, lt, (λ (is : k ≡ state.answered + 1). before.own q s k t more.1.0 two at more.1.1 asked (more.1.2 ∙ ap Some (sym is)))))
        (answers (transaction_of state s) r told.tells)

    clash : (q k : ℕ) (t u : Transaction) → (q == s) ≡ false → transaction_of state q ≡ Some t → t.asked ≡ Some k → transaction_of next s ≡ Some u → u.asked ≡ Some k → ⊥
    clash q k t u two at asked at_s asked_s =
        let high = (kept.fits q t at).number k asked in
        let is = (mine u k at_s asked_s).number in
        omega (arith, high, is)

    pub act_own : HaveOwnNumbers next
    act_own = record {
      waits = λ q k t at asked. known (q == s)
          (λ same. let m = mine t k (ap (transaction_of next) (sym (eqb-true q s same)) ∙ at) asked in let le = kept.answered in omega (arith, m.number, m.answered, le))
          (λ two. others_wait q k t two (sym (told.others q two) ∙ at) asked);
      own = λ q r_ k t u two at at_r asked asked_r. known (q == s)
          (λ same. known (r_ == s)
          (λ same_r. absurd (false≢true (sym two ∙ eq-eqb q r_ (eqb-true q s same ∙ sym (eqb-true r_ s same_r)))))
          (λ two_r. clash r_ k u t two_r (sym (told.others r_ two_r) ∙ at_r) asked_r (ap (transaction_of next) (sym (eqb-true q s same)) ∙ at) asked))
          (λ two_q. known (r_ == s)
          (λ same_r. clash q k t u two_q (sym (told.others q two_q) ∙ at) asked (ap (transaction_of next) (sym (eqb-true r_ s same_r)) ∙ at_r) asked_r)
          (λ two_r. before.own q r_ k t u two (sym (told.others q two_q) ∙ at) (sym (told.others r_ two_r) ∙ at_r) asked asked_r));
    }

-- ---- a tape

module _ (lines : List Line) (p : Point) (e : Entry) (reached : IsReached lines p) (before : HaveOwnNumbers p.state) where
  entry_of : (statement : Statement) → statement_of lines e.session e.statement ≡ Some statement → IsActOf statement p e → HaveOwnNumbers (passed lines p e).state
  entry_of statement named is =
      let given : statement_of lines e.session ((progress_of p e.session).finished + 1) ≡ Some statement = ap (statement_of lines e.session) (sym is.number) ∙ named in
      let ready = reached.ready e.session statement e.act (record { given = given; next_act = is.next_act }) in
      let told = replies_tell p.state e.session statement e.act e.reply reached.kept ready is.in_turn is.allowed in
      subst (λ o. HaveOwnNumbers (passed_by o p e).state) (sym named) (act_own p.state e.session statement e.act e.reply reached.kept told before)

  released_own : (name : List ℕ) → HaveOwnNumbers (next_state p.state e.session (act.Release name) None reply.Released)
  released_own name = elim (transaction_of p.state e.session) as (λ o. HaveOwnNumbers (next_from p.state e.session o (act.Release name) None reply.Released)) [
    | Some me ↦ before
    | None ↦ record { waits = before.waits; own = before.own }
  ]

  entry_own : Comes lines p e → HaveOwnNumbers (passed lines p e).state
  entry_own comes = ⊎_elim
      (λ next. entry_of next.0 next.1 next.2)
      (λ release. subst (λ o. HaveOwnNumbers (passed_by o p e).state) (sym (ap (λ n. statement_of lines e.session n) release.statement))
      (subst (λ a. HaveOwnNumbers (next_state p.state e.session a None e.reply)) (sym release.act)
      (subst (λ r. HaveOwnNumbers (next_state p.state e.session (act.Release release.name) None r)) (sym release.released) (released_own release.name))))
      comes.one_of

own_on : (lines : List Line) (p : Point) (es : List Entry) → IsReached lines p → HaveOwnNumbers p.state → Legal lines p es → HaveOwnNumbers (final lines p es).state
own_on lines p [] reached before legal = before
own_on lines p (e ∷ es) reached before legal = own_on lines (passed lines p e) es (entry_reached lines p e reached legal.0) (entry_own lines p e reached before legal.0) legal.1

pub numbers_own : NumbersAreOwn
numbers_own lines moment base stuck tape legal = own_on lines (at_start moment base stuck) tape (start_reached lines moment base stuck)
    (record { waits = λ s k t at. absurd (false≢true (ap is_some at)); own = λ s r k t u two at. absurd (false≢true (ap is_some at)) }) legal
