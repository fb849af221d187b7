-- Entries that stand in order, by how far each session is.
use Rattle.std.proofs.Common.{◌≡◌, ◌⊎◌, ◌∙◌, inl, inr, ⊎_elim, ℕ, zero, suc, ◌+◌, ◌≤◌, ◌==◌, Bool, true, false, cond, List, [], ◌∷◌, ◌++◌, length, map, Some, None, refl, sym, ap, subst, arith}
use Rattle.std.specs.Prelude.{◌&&◌, nat_le, slice_get}
use Rattle.std.specs.List.{filter, AllByRecursion}
use Rattle.std.proofs.lemmas.Bool.{eqb-true}
use Rattle.std.proofs.Math.Seq.{take-length}
use Rattle.ctr_types.specs.declared.statement.Line.{Line}
use Rattle.ctr_types.specs.declared.statement.Statement.{Statement}
use Rattle.ctr_types.specs.declared.statement.Statement.TheVariants as st
use Rattle.ctr_types.specs.declared.tape.Act.{Act}
use Rattle.ctr_types.specs.declared.tape.Act.TheVariants as act
use Rattle.ctr_types.specs.declared.tape.Entry.{Entry}
use Rattle.ctr_types.specs.declared.tape.Reply.{Reply}
use Rattle.ctr_model.specs.declared.state.State.{State}
use Rattle.ctr_model.specs.declared.tape.Point.{Point}
use Rattle.ctr_model.specs.declared.tape.Progress.{Progress}
use Rattle.ctr_model.specs.Tape.{acts_of, advanced, final, goes_on, is_release, passed, passed_by, progress_of, statement_of, statements_of, statements_on, with_statement}
use Rattle.ctr_world.specs.txn_Held.{IsOneOfEight}
use Rattle.ctr_world.specs.exec_Order.{IsNextInOrder, IsReleaseEntry, StandInOrder}
use Rattle.ctr_world.specs.exec_Sessions.{AreAnswers}
use Rattle.ctr_world.specs.Opened.{IsRunLine}
use Rattle.ctr_run.specs.Lines.{IsAtRest}

-- ---- lists

pub none_there : {X : Type 0} (m : ℕ) (x : X) → slice_get [] m ≡ Some x → ⊥
none_there zero x is = absurd (cc is)
none_there (suc m) x is = absurd (cc is)

pub all_as : (P Q : Entry → Type 0) → ((e : Entry) → P e → Q e) → (es : List Entry) → AllByRecursion P es → AllByRecursion Q es
all_as P Q maps [] all = tt
all_as P Q maps (e ∷ es) all = (maps e all.0, all_as P Q maps es all.1)

-- what stands behind some entries
pub order_behind : (lines : List Line) (p : Point) (xs ys : List Entry) → StandInOrder lines p (xs ++ ys) → StandInOrder lines (final lines p xs) ys
order_behind lines p [] ys order = order
order_behind lines p (x ∷ xs) ys order = order_behind lines (passed lines p x) xs ys order.2

-- recovery's entries are of no statement
abbrev pub AreRecoverys : List Entry → Type 0
AreRecoverys es = AllByRecursion (λ (e : Entry). is_release e.act ≡ true) es

none_of : (es : List Entry) → AreRecoverys es → statements_on es ≡ []
none_of [] all = refl
none_of (e ∷ es) all = ap (λ b. cond b (statements_on es) (with_statement (e.session, e.statement) (statements_on es))) all.0 ∙ none_of es all.1

pub recovery_adds_none : (xs es : List Entry) → AreRecoverys es → statements_on (xs ++ es) ≡ statements_on xs
recovery_adds_none [] es all = none_of es all
recovery_adds_none (x ∷ xs) es all = ap (λ ys. cond (is_release x.act) ys (with_statement (x.session, x.statement) ys)) (recovery_adds_none xs es all)

-- ---- acts

no_answer_first : (state : State) (s : ℕ) (statement : Statement) → slice_get (acts_of state s statement) 0 ≡ Some act.Answer → ⊥
no_answer_first state s st.Begin is = absurd (cc is)
no_answer_first state s st.Commit is = absurd (cc is)
no_answer_first state s st.Rollback is = absurd (cc is)
no_answer_first state s (st.Create table schema) is = absurd (cc is)
no_answer_first state s (st.DropTable table) is = absurd (cc is)
no_answer_first state s (st.Insert table values) is = absurd (cc is)
no_answer_first state s (st.Select table at) is = absurd (cc is)
no_answer_first state s (st.Update table sets at) is = absurd (cc is)
no_answer_first state s (st.Delete table at) is = absurd (cc is)

-- behind an answer no act of its statement comes
none_behind_two : (a b : Act) (m : ℕ) → (a ≡ act.Answer → ⊥) → slice_get (a ∷ b ∷ []) m ≡ Some act.Answer → nat_le (m + 2) 2 ≡ false
none_behind_two a b zero first is = absurd (first (cc is))
none_behind_two a b (suc zero) first is = refl
none_behind_two a b (suc (suc m)) first is = absurd (none_there m act.Answer is)

none_behind_one : (a : Act) (m : ℕ) → (a ≡ act.Answer → ⊥) → slice_get (a ∷ []) m ≡ Some act.Answer → nat_le (m + 2) 1 ≡ false
none_behind_one a zero first is = absurd (first (cc is))
none_behind_one a (suc m) first is = absurd (none_there m act.Answer is)

answer_last : (state : State) (s : ℕ) (statement : Statement) (m : ℕ) → slice_get (acts_of state s statement) m ≡ Some act.Answer → nat_le (m + 2) (length (acts_of state s statement)) ≡ false
answer_last state s st.Begin m is = none_behind_one act.Begin m (λ same. cc same) is
answer_last state s st.Commit m is = none_behind_two act.Ask act.Answer m (λ same. cc same) is
answer_last state s st.Rollback m is = none_behind_one act.Rollback m (λ same. cc same) is
answer_last state s (st.Create table schema) m is = none_behind_two act.Lock act.Write m (λ same. cc same) is
answer_last state s (st.DropTable table) m is = none_behind_two act.Lock act.Write m (λ same. cc same) is
answer_last state s (st.Insert table values) m is = none_behind_two act.Lock act.Write m (λ same. cc same) is
answer_last state s (st.Select table at) m is = none_behind_one act.Read m (λ same. cc same) is
answer_last state s (st.Update table sets at) m is = none_behind_two act.Lock act.Write m (λ same. cc same) is
answer_last state s (st.Delete table at) m is = none_behind_two act.Lock act.Write m (λ same. cc same) is

-- the statement goes on, or it is finished
pub goes_or_ends : (acts : List Act) (r : Reply) (p : Progress) → (advanced acts r p ≡ record p { made = p.made + 1 }) ⊎ (advanced acts r p ≡ record { finished = p.finished + 1; made = 0 })
goes_or_ends acts r p = by (goes_on r && nat_le (p.made + 2) (length acts))
  where
    by : (b : Bool) → (cond b (record p { made = p.made + 1 }) (record { finished = p.finished + 1; made = 0 }) ≡ record p { made = p.made + 1 })
        ⊎ (cond b (record p { made = p.made + 1 }) (record { finished = p.finished + 1; made = 0 }) ≡ record { finished = p.finished + 1; made = 0 })
    by true = inl refl
    by false = inr refl

ends_last : (acts : List Act) (r : Reply) (p : Progress) → nat_le (p.made + 2) (length acts) ≡ false → advanced acts r p ≡ record { finished = p.finished + 1; made = 0 }
ends_last acts r p last = by (goes_on r)
  where
    by : (b : Bool) → cond (b && nat_le (p.made + 2) (length acts)) (record p { made = p.made + 1 }) (record { finished = p.finished + 1; made = 0 }) ≡ record { finished = p.finished + 1; made = 0 }
    by true = ap (λ c. cond c (record p { made = p.made + 1 }) (record { finished = p.finished + 1; made = 0 })) last
    by false = refl

-- ---- entries

module _ (lines : List Line) (p : Point) (e : Entry) where
  -- the entry is an answer, where its session has told an act of its statement, which is finished then
  pub answer_ends : (next : IsNextInOrder lines p e) → e.act ≡ act.Answer
      → advanced (acts_of p.state e.session next.statement) e.reply (progress_of p e.session) ≡ record { finished = (progress_of p e.session).finished + 1; made = 0 }
  answer_ends next is = ends_last (acts_of p.state e.session next.statement) e.reply (progress_of p e.session) (answer_last p.state e.session next.statement (progress_of p e.session).made (next.next_act ∙ ap Some is))

  pub answer_begun : IsNextInOrder lines p e → e.act ≡ act.Answer → (progress_of p e.session).made ≡ 0 → ⊥
  answer_begun next is none = no_answer_first p.state e.session next.statement (ap (slice_get (acts_of p.state e.session next.statement)) (sym none) ∙ next.next_act ∙ ap Some is)

  -- recovery's entry is of no statement
  no_number : IsReleaseEntry e → statement_of lines e.session e.statement ≡ None
  no_number release = ap (statement_of lines e.session) release.statement

  pub not_next : IsReleaseEntry e → IsNextInOrder lines p e → ⊥
  not_next release next = cc (sym (no_number release) ∙ next.is_it)

  pub release_leaves : IsReleaseEntry e → (q : ℕ) → progress_of (passed lines p e) q ≡ progress_of p q
  release_leaves release q = ap (λ o. progress_of (passed_by o p e) q) (no_number release)

  pub no_answer : IsReleaseEntry e → e.act ≡ act.Answer → ⊥
  no_answer release is = cc (sym release.act ∙ is)

-- ---- sessions

some_in : (q : ℕ) (ls : List Line) → AllByRecursion IsRunLine ls → (m : ℕ) (x : Statement) → slice_get (statements_of q ls) m ≡ Some x → IsOneOfEight q
some_in q [] all m x is = absurd (none_there m x is)
some_in q (l ∷ ls) all m x is = by (l.session == q) refl (some_in q ls all.1 m x) is
  where
    by : (b : Bool) → (l.session == q) ≡ b → (slice_get (statements_of q ls) m ≡ Some x → IsOneOfEight q)
        → slice_get (map (λ (k : Line). k.statement) (cond b (l ∷ filter (λ (k : Line). k.session == q) ls) (filter (λ (k : Line). k.session == q) ls))) m ≡ Some x → IsOneOfEight q
    by true same rest here = subst IsOneOfEight (eqb-true l.session q same) (record { from = all.0.least; to = all.0.most })
    by false apart rest here = rest here

-- who has a statement is one of the eight
pub is_of_eight : (lines : List Line) → AllByRecursion IsRunLine lines → (q m : ℕ) (x : Statement) → statement_of lines q m ≡ Some x → IsOneOfEight q
is_of_eight lines all q zero x is = absurd (cc is)
is_of_eight lines all q (suc m) x is = some_in q lines all m x is

-- ---- all at rest

-- each session has finished the statements of the first lines, and is in the middle of none
abbrev pub AllRest : List Line → ℕ → Point → Type 0
AllRest lines k p = (s : ℕ) → IsOneOfEight s → IsAtRest lines k p s

module _ (lines : List Line) (runs : AllByRecursion IsRunLine lines) (k : ℕ) where
  made_none : (p : Point) → AllRest lines k p → (e : Entry) → IsNextInOrder lines p e → (progress_of p e.session).made ≡ 0
  made_none p rest e next = ap (λ (x : Progress). x.made) (rest e.session (is_of_eight lines runs e.session e.statement next.statement next.is_it))

  -- no answer comes
  pub none_answered : (p : Point) → AllRest lines k p → (es : List Entry) → StandInOrder lines p es → AreAnswers es → es ≡ []
  none_answered p rest [] order all = refl
  none_answered p rest (e ∷ es) order all = absurd (⊎_elim (λ next. answer_begun lines p e next all.0 (made_none p rest e next)) (λ release. no_answer lines p e release all.0) order.1)

  -- recovery releases names, and that is all
  pub only_recovery : (p : Point) → AllRest lines k p → (es : List Entry) → StandInOrder lines p es → AllByRecursion (λ (e : Entry). IsReleaseEntry e ⊎ (e.act ≡ act.Answer)) es
      → AreRecoverys es × AllRest lines k (final lines p es)
  only_recovery p rest [] order all = (tt, rest)
  only_recovery p rest (e ∷ es) order all =
      let release : IsReleaseEntry e = ⊎_elim (λ next. ⊎_elim (λ is. absurd (not_next lines p e is next)) (λ is. absurd (answer_begun lines p e next is (made_none p rest e next))) all.0) (λ is. is) order.1 in
      let more = only_recovery (passed lines p e) (λ s one. release_leaves lines p e release s ∙ rest s one) es order.2 all.1 in
      ((ap is_release release.act, more.0), more.1)

-- ---- at the end

none_past : (xs : List Statement) (m : ℕ) (x : Statement) → length xs ≤ m → slice_get xs m ≡ Some x → ⊥
none_past [] m x out is = none_there m x is
none_past (y ∷ ys) zero x out is = absurd (omega (arith, out))
none_past (y ∷ ys) (suc m) x out is = none_past ys m x (omega (arith, out)) is

one_on : (n : ℕ) → n + 1 ≡ suc n
one_on n = omega arith

-- where all lines were run no session has a statement more
pub only_recovery_ends : (lines : List Line) → AllByRecursion IsRunLine lines → (p : Point) → AllRest lines (length lines) p → (es : List Entry) → StandInOrder lines p es → AreRecoverys es
only_recovery_ends lines runs p rest [] order = tt
only_recovery_ends lines runs p rest (e ∷ es) order =
    let release : IsReleaseEntry e = ⊎_elim (λ next. absurd (beyond next)) (λ is. is) order.1 in
    (ap is_release release.act, only_recovery_ends lines runs (passed lines p e) (λ s one. release_leaves lines p e release s ∙ rest s one) es order.2)
  where
    beyond : IsNextInOrder lines p e → ⊥
    beyond next =
        let at = rest e.session (is_of_eight lines runs e.session e.statement next.statement next.is_it) in
        let all : (progress_of p e.session).finished ≡ length (statements_of e.session lines) = ap (λ (x : Progress). x.finished) at ∙ ap (λ ls. length (statements_of e.session ls)) (take-length lines) in
        none_past (statements_of e.session lines) (progress_of p e.session).finished next.statement (omega (arith, all)) (subst (λ n. statement_of lines e.session n ≡ Some next.statement) (next.number ∙ one_on (progress_of p e.session).finished) next.is_it)
