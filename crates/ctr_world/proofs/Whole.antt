-- Where no session has a statement left, the tape is whole.
use Rattle.std.proofs.Common.{◌≡◌, ⊎_elim, ℕ, zero, suc, ◌<◌, ◌==◌, false, cond, List, [], ◌∷◌, length, map, Option, Some, None, refl, sym, ◌∙◌, ap, subst, arith}
use Rattle.std.specs.Prelude.{is_some, slice_get}
use Rattle.std.specs.List.{AllByRecursion, filter}
use Rattle.std.proofs.lemmas.Bool.{false≢true, eqb-true}
use Rattle.ctr_types.specs.declared.statement.Line.{Line}
use Rattle.ctr_types.specs.declared.statement.Statement.{Statement}
use Rattle.ctr_types.specs.declared.tape.Entry.{Entry}
use Rattle.ctr_model.specs.declared.tape.Point.{Point}
use Rattle.ctr_model.specs.declared.tape.Progress.{Progress}
use Rattle.ctr_model.specs.Tape.{IsWhole, final, passed, passed_by, progress_of, statement_of, statements_of}
use Rattle.ctr_legal.proofs.Answered.{order}
use Rattle.ctr_versions.proofs.Keys.{known}
use Rattle.ctr_pass.specs.txn_Held.{IsOneOfEight}
use Rattle.ctr_pass.specs.exec_sessions_Sessions.{Sessions}
use Rattle.ctr_pass.specs.exec_Runners.{runner_at, made_at}
use Rattle.ctr_pass.specs.exec_Sessions.{AreSeated}
use Rattle.ctr_pass.proofs.exec_Places.{count_of}
use Rattle.ctr_pass.proofs.exec_Points.{progress_other}
use Rattle.ctr_pass.proofs.exec_Seats.{runner_here}
use Rattle.ctr_world.specs.Opened.{IsRunLine}
use Rattle.ctr_world.specs.Turns.{HasStatementLeft}

-- ---- who is none of the eight

-- has no line
none_of : (s : ℕ) → (IsOneOfEight s → ⊥) → (lines : List Line) → AllByRecursion IsRunLine lines → statements_of s lines ≡ []
none_of s other [] all = refl
none_of s other (l ∷ ls) all =
    let least = all.0.least in
    let most = all.0.most in
    let not_this : (l.session == s) ≡ false = known (l.session == s) (λ is. absurd (other (subst IsOneOfEight (eqb-true l.session s is) (record { from = least; to = most })))) (λ no. no) in
    ap (λ b. map (λ (m : Line). m.statement) (cond b (l ∷ filter (λ (m : Line). m.session == s) ls) (filter (λ (m : Line). m.session == s) ls))) not_this ∙ none_of s other ls all.1

no_statement : (lines : List Line) (s n : ℕ) → statements_of s lines ≡ [] → statement_of lines s n ≡ None
no_statement lines s zero none = refl
no_statement lines s (suc n) none = ap (λ (l : List Statement). slice_get l n) none

-- and makes no progress
one_still : (lines : List Line) (s : ℕ) → statements_of s lines ≡ [] → (p : Point) (e : Entry) (o : Option Statement) → statement_of lines e.session e.statement ≡ o → progress_of (passed lines p e) s ≡ progress_of p s
one_still lines s none p e None is = ap (λ (q : Option Statement). progress_of (passed_by q p e) s) is
one_still lines s none p e (Some statement) is = progress_other lines p e statement is s
    (known (s == e.session) (λ same. absurd (false≢true (ap is_some (sym (no_statement lines e.session e.statement (ap (λ q. statements_of q lines) (sym (eqb-true s e.session same)) ∙ none)) ∙ is)))) (λ no. no))

none_moves : (lines : List Line) (s : ℕ) → statements_of s lines ≡ [] → (p : Point) (es : List Entry) → progress_of (final lines p es) s ≡ progress_of p s
none_moves lines s none p [] = refl
none_moves lines s none p (e ∷ es) = none_moves lines s none (passed lines p e) es ∙ one_still lines s none p e (statement_of lines e.session e.statement) refl

-- ---- all

module _ (h : Sessions) (counted : ℕ) (seats : AreSeated h counted) (lines : AllByRecursion IsRunLine h.script.lines) (over : (s : ℕ) → HasStatementLeft s h → ⊥) where
  own_whole : (s : ℕ) → IsOneOfEight s → (runner_at s h.runners.items).finished ≡ length (statements_of s h.script.lines)
  own_whole s one =
      let of = runner_here h counted seats s one in
      let places = ap length of.places ∙ count_of s 0 h.script.lines in
      let within = of.within in
      let full : (runner_at s h.runners.items).finished < length (runner_at s h.runners.items).places → ⊥ = λ more. over s (record { one = one; more = more }) in
      omega (arith, within, full, places)

  -- a tape from a point at which nobody has made progress, which has led each session to where it is
  pub whole_from : (p : Point) (es : List Entry) → p.progress ≡ [] → ((s : ℕ) → IsOneOfEight s → progress_of (final h.script.lines p es) s ≡ record { finished = (runner_at s h.runners.items).finished; made = made_at (runner_at s h.runners.items).stage })
      → IsWhole h.script.lines (final h.script.lines p es)
  whole_from p es begins each s = ⊎_elim
      (λ least. ⊎_elim
      (λ most. let one : IsOneOfEight s = record { from = least; to = most } in ap (λ (q : Progress). q.finished) (each s one) ∙ own_whole s one)
      (λ high. outside (λ one. let most = one.to in omega (arith, high, most)))
      (order s 8))
      (λ low. outside (λ one. let least = one.from in omega (arith, low, least)))
      (order 1 s)
    where
      outside : (IsOneOfEight s → ⊥) → (progress_of (final h.script.lines p es) s).finished ≡ length (statements_of s h.script.lines)
      outside other =
          let none = none_of s other h.script.lines lines in
          ap (λ (q : Progress). q.finished) (none_moves h.script.lines s none p es) ∙ begun ∙ sym (ap length none)
        where
          begun : (progress_of p s).finished ≡ 0
          begun = ap (λ (q : Point). (progress_of q s).finished) (λ i. record p { progress = begins i })
