-- Recovery, whose acts are of no session, is never in a transaction.
use Rattle.std.proofs.Common.{◌≡◌, inl, inr, ⊎_elim, ℕ, ◌<◌, ◌==◌, zero, suc, false, cond, List, [], ◌∷◌, map, Option, Some, None, refl, sym, ◌∙◌, ap, subst, arith}
use Rattle.std.specs.Prelude.{is_some, slice_get}
use Rattle.std.specs.List.{filter}
use Rattle.std.proofs.lemmas.Bool.{false≢true, eqb-true, ne_eqb}
use Rattle.ctr_types.specs.declared.statement.Line.{Line}
use Rattle.ctr_types.specs.declared.statement.Statement.{Statement}
use Rattle.ctr_types.specs.declared.tape.Act.TheVariants as act
use Rattle.ctr_types.specs.declared.tape.Reply.TheVariants as reply
use Rattle.ctr_types.specs.declared.tape.Entry.{Entry}
use Rattle.ctr_model.specs.declared.state.Transaction.{Transaction}
use Rattle.ctr_model.specs.declared.tape.Point.{Point}
use Rattle.ctr_types.specs.declared.tape.Act.{Act}
use Rattle.ctr_types.specs.declared.tape.Reply.{Reply}
use Rattle.ctr_model.specs.declared.state.State.{State}
use Rattle.ctr_model.specs.Reply.{next_from, next_state, next_inside}
use Rattle.ctr_model.specs.State.{transaction_of}
use Rattle.ctr_model.specs.Tape.{statement_of, statements_of, final, passed, Legal, Comes}
use Rattle.ctr_model.proofs.Outside.{next_outside-cases}
use Rattle.ctr_model.proofs.Sessions.{find-put-other, find-without-other}
use Rattle.ctr_versions.proofs.Keys.{known}
use Rattle.ctr_paged.specs.area_Sound.{IsAmong}

abbrev no_statements : List Statement
no_statements = []

no_statement : (lines : List Line) → ((l : Line) → IsAmong l lines → 0 < l.session) → (n : ℕ) → statement_of lines 0 n ≡ None
no_statement lines some zero = refl
no_statement lines some (suc n) = ap (λ ss. slice_get ss n) (none lines some) ∙ nothing n
  where
    none : (ls : List Line) → ((l : Line) → IsAmong l ls → 0 < l.session) → statements_of 0 ls ≡ []
    none [] some = refl
    none (l ∷ ls) some = ap (λ b. map (λ (m : Line). m.statement) (cond b (l ∷ filter (λ m. m.session == 0) ls) (filter (λ m. m.session == 0) ls))) (ne_eqb l.session 0 (λ is. zero_not l.session (some l (inl refl)) is))
        ∙ none ls (λ m in_. some m (inr in_))
      where
        zero_not : (s : ℕ) → 0 < s → s ≡ 0 → ⊥
        zero_not s lt is = omega (arith, lt, is)

    nothing : (n : ℕ) → slice_get no_statements n ≡ None
    nothing zero = refl
    nothing (suc n) = refl

-- ---- an act of a session moves no other one

module _ (state : State) (s t : ℕ) (other : (s == t) ≡ false) where
  inside_stays : (me : Transaction) (a : Act) (of : Option Statement) (r : Reply) → transaction_of (next_inside state t me a of r) s ≡ transaction_of state s
  inside_stays me a of (reply.Began n) = refl
  inside_stays me a of reply.Granted = find-put-other s t _ state.sessions other
  inside_stays me a of (reply.Rows rows) = find-put-other s t _ state.sessions other
  inside_stays me a of reply.Done = find-put-other s t _ state.sessions other
  inside_stays me a of (reply.Asked k) = find-put-other s t _ state.sessions other
  inside_stays me a of reply.ReadOnly = find-without-other s t state.sessions other
  inside_stays me a of (reply.Answered k) = find-without-other s t state.sessions other
  inside_stays me a of reply.RolledBack = find-without-other s t state.sessions other
  inside_stays me a of reply.Released = refl
  inside_stays me a of (reply.Refused why) = refl

  others_stay : (a : Act) (of : Option Statement) (r : Reply) → transaction_of (next_state state t a of r) s ≡ transaction_of state s
  others_stay a of r = elim (transaction_of state t) as (λ f. transaction_of (next_from state t f a of r) s ≡ transaction_of state s) [
    | Some me ↦ inside_stays me a of r
    | None ↦ next_outside-cases (λ r new. transaction_of new s ≡ transaction_of state s) state t (λ n. find-put-other s t _ state.sessions other) (λ r. refl) (λ name. refl) a of r
  ]

module _ (lines : List Line) (some : (l : Line) → IsAmong l lines → 0 < l.session) where
  one_stays : (p : Point) (e : Entry) → Comes lines p e → transaction_of p.state 0 ≡ None → transaction_of (passed lines p e).state 0 ≡ None
  one_stays p e comes none = known (0 == e.session)
      (λ is. let here : 0 ≡ e.session = eqb-true 0 e.session is in
      ⊎_elim
      (λ next. absurd (false≢true (ap is_some (sym (ap (λ s. statement_of lines s e.statement) (sym here) ∙ no_statement lines some e.statement) ∙ next.1))))
      (λ release. (λ i. transaction_of (next_state p.state (release.session i) (release.act i) (statement_of lines e.session e.statement) (release.released i)) 0)
      ∙ subst (λ (o : Option Transaction). transaction_of (next_from p.state 0 o (act.Release release.name) (statement_of lines e.session e.statement) reply.Released) 0 ≡ None) (sym none) none)
      comes.one_of)
      (λ apart. others_stay p.state 0 e.session apart e.act (statement_of lines e.session e.statement) e.reply ∙ none)

  pub none_stays : (p : Point) (es : List Entry) → Legal lines p es → transaction_of p.state 0 ≡ None → transaction_of (final lines p es).state 0 ≡ None
  none_stays p [] legal none = none
  none_stays p (e ∷ es) legal none = none_stays (passed lines p e) es legal.1 (one_stays p e legal.0 none)
