-- Commits are answered, the one that asked first or all that wait, whoever flushed.
use Rattle.std.proofs.Common.{◌≡◌, ⊎_elim, inl, inr, None, ℕ, zero, suc, ◌+◌, ◌<◌, ◌≤◌, ◌==◌, List, [], ◌∷◌, ◌++◌, length, true, Option, Some, refl, sym, ◌∙◌, ap, subst, arith}
use Rattle.std.specs.Prelude.{is_some}
use Rattle.std.specs.Option.{option_map}
use Rattle.std.specs.Ordering.{nat_cmp}
use Rattle.std.specs.FinMap.Entries.{find}
use Rattle.std.proofs.lemmas.Bool.{false≢true, eqb-true}
use Rattle.ctr_types.specs.declared.statement.Line.{Line}
use Rattle.ctr_types.specs.declared.tape.Entry.{Entry}
use Rattle.ctr_types.specs.declared.tape.Act.TheVariants as act
use Rattle.ctr_types.specs.declared.tape.Reply.TheVariants as reply
use Rattle.ctr_model.specs.declared.state.State.{State}
use Rattle.ctr_model.specs.declared.state.Transaction.{Transaction}
use Rattle.ctr_model.specs.declared.tape.Point.{Point}
use Rattle.ctr_model.specs.Database.{Database}
use Rattle.ctr_model.specs.Maps.{without}
use Rattle.ctr_model.specs.Reply.{next_from}
use Rattle.ctr_model.specs.State.{transaction_of, without_transaction}
use Rattle.ctr_model.specs.Tape.{progress_of, statement_of, final, at_start}
use Rattle.ctr_model.proofs.Sessions.{find-without-other, find-without-same}
use Rattle.ctr_legal.specs.Laws.{answer_entry, IsAnsweredNext}
use Rattle.ctr_legal.proofs.Reached.{waiting_answered, final_push}
use Rattle.ctr_meta.specs.Tables.{Tables, is_in}
use Rattle.ctr_versions.proofs.Keys.{known, some_is}
use Rattle.ctr_versions.specs.Engine.{SessionHeld}
use Rattle.ctr_versions.specs.Laws.{IsNoSessions}
use Rattle.ctr_versions.specs.Xids.{number_of}
use Rattle.ctr_paged.specs.actions_Sites.{Site}
use Rattle.ctr_paged.specs.actions_Facts.{Fact}
use Rattle.ctr_paged.specs.Paged.{xids_of}
use Rattle.ctr_paged.specs.Shown.{Scene}
use Rattle.ctr_paged.specs.Moving.{answered_one}
use Rattle.ctr_paged.proofs.Shown.{shown_answered}
use Rattle.ctr_paged.proofs.Tables.{agree}
use Rattle.ctr_paged.proofs.record_laws_Heads.{listed_open}
use Rattle.ctr_kept.specs.Carried.{AreCarried}
use Rattle.ctr_kept.specs.Turns.{AnswersEach}
use Rattle.ctr_kept.specs.Walk.{Mind, scene_of, HaveBegun, KeepsScene, Keeps}
use Rattle.ctr_kept.proofs.Rolling.{rolls_moved}
use Rattle.ctr_kept.specs.Undo.{IsSessions}
use Rattle.ctr_kept.proofs.Undo.{left_moved}
use Rattle.ctr_kept.proofs.Walking.{begun_moved, keeps_reached, keeps_entry}

-- ---- a session is gone: of the others nothing has changed

still_there : {X : Type 0} (s r : ℕ) (x : X) (m : List (ℕ × X)) → find nat_cmp r (without nat_cmp s m) ≡ Some x → find nat_cmp r m ≡ Some x
still_there s r x m at = known (r == s)
    (λ one. absurd (false≢true (ap is_some (sym (ap (λ q. find nat_cmp q (without nat_cmp s m)) (eqb-true r s one) ∙ find-without-same s m) ∙ at))))
    (λ two. sym (find-without-other r s m two) ∙ at)

carried_fewer : (s : ℕ) (site : Site) (scene : Scene) (facts : ℕ → List Fact) → AreCarried site scene facts → AreCarried site (answered_one s scene) facts
carried_fewer s site scene facts carried = record {
  held = λ r b fact at in_. carried.held r b fact (still_there s r b scene.run.sessions at) in_;
  under = λ r t fact at in_. carried.under r t fact (still_there s r t scene.state.sessions at) in_;
  tables = carried.tables;
}

nobodys_fewer : (s y : ℕ) (sessions : List (ℕ × SessionHeld)) → IsNoSessions sessions y → IsNoSessions (without nat_cmp s sessions) y
nobodys_fewer s y sessions nobodys r b at = nobodys r b (still_there s r b sessions at)

-- who has a commit number isn't open
numbered_closed : (tables : Tables) (commits : List ℕ) (x k : ℕ) → number_of (xids_of tables commits) x ≡ Some k → is_in x tables.opens ≡ true → ⊥
numbered_closed tables commits x k is open_ = false≢true (sym (listed_open tables x (inl open_)) ∙ sym (agree tables commits x) ∙ ap is_some is)

begun_fewer : (s : ℕ) (since : List (ℕ × ℕ)) (scene : Scene) → HaveBegun since scene → HaveBegun (without nat_cmp s since) (answered_one s scene)
begun_fewer s since scene begun = begun_moved s since (without nat_cmp s since) scene (answered_one s scene)
    (λ r two. find-without-other r s since two) (λ r two. find-without-other r s scene.run.sessions two) (λ r two. find-without-other r s scene.state.sessions two)
    (find-without-same s since ∙ ap (option_map (λ (t : Transaction). t.snapshot)) (sym (find-without-same s scene.state.sessions)))
    (λ t b is_t at. absurd (false≢true (ap is_some (sym (find-without-same s scene.run.sessions) ∙ at)))) begun

module _ (lines : List Line) (moment : ℕ) (base : Database) (stuck : List (List ℕ)) (size now : ℕ) (site : Site) (w : Mind)
    (keeps : Keeps lines (at_start moment base stuck) size now site w) where
  abbrev point : Point
  point = final lines (at_start moment base stuck) w.tape

  abbrev scene : Scene
  scene = scene_of lines (at_start moment base stuck) w

  abbrev answered_mind : ℕ → ℕ → Mind
  answered_mind s later = record w {
    run = record w.run { sessions = without nat_cmp s w.run.sessions; answered = w.run.answered + 1 };
    since = without nat_cmp s w.since;
    tape = w.tape ++ answer_entry point s later ∷ [];
  }

  -- the commit that was asked first is answered, whoever flushed; nothing else moves
  pub answer_turn : (later : ℕ) → now ≤ later → point.state.answered < length point.state.asked → (s : ℕ) × Keeps lines (at_start moment base stuck) size later site (answered_mind s later)
      × ((final lines (at_start moment base stuck) (w.tape ++ answer_entry point s later ∷ [])).state ≡ without_transaction s (record point.state { answered = point.state.answered + 1 })) × IsAnsweredNext lines point later s
  answer_turn later le more =
      let next = waiting_answered lines point later (keeps_reached lines moment base stuck size now site w keeps) (further keeps.later le) more in
      (next.0, one next.0 next.1, leads next.0 next.1, next.1)
    where
      further : {a b c : ℕ} → a ≤ b → b ≤ c → a ≤ c
      further p q = omega (arith, p, q)

      leads : (s : ℕ) → IsAnsweredNext lines point later s → (final lines (at_start moment base stuck) (w.tape ++ answer_entry point s later ∷ [])).state ≡ without_transaction s (record point.state { answered = point.state.answered + 1 })
      leads s next = ap (λ (p : Point). p.state) (final_push lines (at_start moment base stuck) w.tape (answer_entry point s later))
          ∙ ap (λ (o : Option Transaction). next_from point.state s o act.Answer (statement_of lines s ((progress_of point s).finished + 1)) (reply.Answered (point.state.answered + 1))) next.there

      -- the one who goes asked for a commit, so its number isn't open
      seats : (s : ℕ) → IsAnsweredNext lines point later s → (y : ℕ) → is_in y site.tables.opens ≡ true → IsSessions w.run.sessions y → IsSessions (without nat_cmp s w.run.sessions) y
      seats s next y open_ its = known (its.s == s)
          (λ one. let held = keeps.scene.shown.paged.shows.inside s next.me next.there in
          let same = some_is its.session held.0 (sym its.at ∙ ap (λ q. find nat_cmp q w.run.sessions) (eqb-true its.s s one) ∙ held.1) in
          absurd (numbered_closed site.tables w.run.commits y (point.state.answered + 1) (subst (λ x. number_of (xids_of site.tables w.run.commits) x ≡ Some (point.state.answered + 1)) (sym (ap (λ (d : SessionHeld). d.me) same) ∙ its.me) (held.2.asked (point.state.answered + 1) next.asked)) open_))
          (λ two. record { s = its.s; session = its.session; at = find-without-other its.s s w.run.sessions two ∙ its.at; me = its.me })

      one : (s : ℕ) → IsAnsweredNext lines point later s → Keeps lines (at_start moment base stuck) size later site (answered_mind s later)
      one s next = keeps_entry lines moment base stuck size now site w keeps (answer_entry point s later) site (answered_mind s later) next.comes refl
          (subst (λ (o : Option Transaction). KeepsScene size site (answered_mind s later) (record { run = (answered_mind s later).run; state = next_from point.state s o act.Answer (statement_of lines s ((progress_of point s).finished + 1)) (reply.Answered (point.state.answered + 1)) })) (sym next.there) (record {
            low = keeps.scene.low;
            shown = shown_answered keeps.scene.low site scene keeps.scene.shown s (point.state.answered + 1) next.me next.there next.asked more;
            begun = begun_fewer s w.since scene keeps.scene.begun;
            carried = carried_fewer s site scene w.facts keeps.scene.carried;
            undo = (left_moved site.tables w.run.sessions w.undo keeps.scene.undo.0 (without nat_cmp s w.run.sessions) (λ y in_. nobodys_fewer s y w.run.sessions (keeps.scene.undo.0.nobodys y in_)) (seats s next), keeps.scene.undo.1);
          }))
          (rolls_moved lines point (answer_entry point s later) next.comes w.run (answered_mind s later).run keeps.rolls (λ r two. find-without-other r s w.run.sessions two)
          (λ b at undoing. absurd (false≢true (ap is_some (sym (find-without-same s w.run.sessions) ∙ at)))))

-- ---- all that wait are answered

pub answers_all : (lines : List Line) (moment : ℕ) (base : Database) (stuck : List (List ℕ)) (size later : ℕ) (site : Site) (n now : ℕ) (w : Mind) → Keeps lines (at_start moment base stuck) size now site w → now ≤ later
    → length (final lines (at_start moment base stuck) w.tape).state.asked ≡ (final lines (at_start moment base stuck) w.tape).state.answered + n → AnswersEach (record { lines = lines; moment = moment; base = base; stuck = stuck; size = size }) later site w n
answers_all lines moment base stuck size later site zero now w keeps le is = record {
  mind = w;
  entries = [];
  keeps = record { legal = keeps.legal; later = up keeps.later le; scene = keeps.scene; rolls = keeps.rolls };
  tape = nothing w.tape;
  moments = tt;
  are_answers = tt;
  many = refl;
  answered = omega arith;
  asked = refl;
  facts = refl;
  undo = refl;
  commits = refl;
  each = λ s. inl (refl, refl);
}
  where
    up : {a b c : ℕ} → a ≤ b → b ≤ c → a ≤ c
    up p q = omega (arith, p, q)

    nothing : (l : List Entry) → l ≡ l ++ []
    nothing [] = refl
    nothing (x ∷ l) = ap (λ m. x ∷ m) (nothing l)
answers_all lines moment base stuck size later site (suc n) now w keeps le is =
    let one = answer_turn lines moment base stuck size now site w keeps later le (more (length (final lines (at_start moment base stuck) w.tape).state.asked) (final lines (at_start moment base stuck) w.tape).state.answered is) in
    let w1 = answered_mind lines moment base stuck size now site w keeps one.0 later in
    let state_is = one.2 in
    let answered_next = one.3 in
    let rest = answers_all lines moment base stuck size later site n later w1 one.1 (omega arith)
    (ap (λ (st : State). length st.asked) state_is ∙ next (length (final lines (at_start moment base stuck) w.tape).state.asked) (final lines (at_start moment base stuck) w.tape).state.answered is ∙ ap (λ (st : State). st.answered + n) (sym state_is)) in record {
      mind = rest.mind;
      entries = answer_entry (final lines (at_start moment base stuck) w.tape) one.0 later ∷ rest.entries;
      keeps = rest.keeps;
      tape = rest.tape ∙ joined w.tape (answer_entry (final lines (at_start moment base stuck) w.tape) one.0 later) rest.entries;
      moments = (refl, rest.moments);
      are_answers = (refl, rest.are_answers);
      many = ap suc rest.many;
      answered = rest.answered ∙ ap (λ (st : State). st.answered + n) state_is ∙ last (final lines (at_start moment base stuck) w.tape).state.answered;
      asked = rest.asked ∙ ap (λ (st : State). st.asked) state_is;
      facts = rest.facts;
      undo = rest.undo;
      commits = rest.commits;
      each = λ s. known (s == one.0)
          (λ here. let at = eqb-true s one.0 here in
          let gone : transaction_of (final lines (at_start moment base stuck) w1.tape).state s ≡ None = ap (λ (st : State). transaction_of st s) state_is ∙ ap (λ q. find nat_cmp q (without nat_cmp one.0 (final lines (at_start moment base stuck) w.tape).state.sessions)) at ∙ find-without-same one.0 (final lines (at_start moment base stuck) w.tape).state.sessions in
          inr (
            answered_next.me,
            (final lines (at_start moment base stuck) w.tape).state.answered + 1,
            ap (transaction_of (final lines (at_start moment base stuck) w.tape).state) at ∙ answered_next.there,
            answered_next.asked,
            ⊎_elim (λ same. same.0 ∙ gone) (λ other. other.4) (rest.each s),
          ))
          (λ apart. let state_same : transaction_of (final lines (at_start moment base stuck) w1.tape).state s ≡ transaction_of (final lines (at_start moment base stuck) w.tape).state s =
          ap (λ (st : State). transaction_of st s) state_is ∙ find-without-other s one.0 (final lines (at_start moment base stuck) w.tape).state.sessions apart in
          ⊎_elim
          (λ same. inl (same.0 ∙ state_same, same.1 ∙ find-without-other s one.0 w.run.sessions apart))
          (λ other. inr (other.0, other.1, sym state_same ∙ other.2, other.3, other.4)) (rest.each s));
    }
  where
    more : (l a : ℕ) → l ≡ a + suc n → a < l
    more l a is = omega (arith, is)

    next : (l a : ℕ) → l ≡ a + suc n → l ≡ a + 1 + n
    next l a is = omega (arith, is)

    last : (a : ℕ) → a + 1 + n ≡ a + suc n
    last a = omega arith

    joined : (l : List Entry) (e : Entry) (es : List Entry) → (l ++ e ∷ []) ++ es ≡ l ++ e ∷ es
    joined [] e es = refl
    joined (x ∷ l) e es = ap (λ m. x ∷ m) (joined l e es)
