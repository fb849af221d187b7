-- Turns of a line's session: its statement goes on, or it is finished.
use Rattle.std.proofs.Common.{◌≡◌, ◌⊎◌, ◌∙◌, inl, inr, ⊎_elim, ℕ, ◌+◌, ◌<◌, ◌≤◌, ◌==◌, Bool, true, false, List, [], ◌∷◌, ◌++◌, length, Some, refl, sym, ap, subst, arith, append_assoc}
use Rattle.std.specs.Prelude.{slice_get}
use Rattle.std.specs.List.{AllByRecursion}
use Rattle.std.proofs.lemmas.List.{append-nil, length-append}
use Rattle.std.proofs.lemmas.Bool.{false≢true, eqb-true, eq-eqb}
use Rattle.ctr_types.specs.declared.statement.Line.{Line}
use Rattle.ctr_types.specs.declared.tape.Act.TheVariants as act
use Rattle.ctr_types.specs.declared.tape.Entry.{Entry}
use Rattle.ctr_model.specs.declared.tape.Point.{Point}
use Rattle.ctr_model.specs.declared.tape.Progress.{Progress}
use Rattle.ctr_model.specs.Tape.{acts_of, advanced, final, passed, progress_of, statements_on, IsSerial}
use Rattle.ctr_world.specs.txn_Held.{IsOneOfEight}
use Rattle.ctr_serial.specs.Lines.{count_in, HasLines, IsEntryOfLine}
use Rattle.ctr_serial.proofs.Lists.{serial_front, line_more, count_mine, count_other}
use Rattle.ctr_serial.proofs.Walking.{line_has}
use Rattle.ctr_world.proofs.exec_Points.{never_released, progress_mine, progress_other}
use Rattle.ctr_world.specs.exec_sessions_Sessions.{Sessions}
use Rattle.ctr_world.specs.exec_Order.{IsNextInOrder, StandInOrder, led_from}
use Rattle.ctr_world.specs.exec_Sessions.{AreAnswers, AreOfTurn}
use Rattle.ctr_world.specs.Opened.{IsRunLine}
use Rattle.ctr_run.specs.Lines.{IsAtRest, InLine, RanLines}
use Rattle.ctr_world.proofs.Adding.{all_append}
use Rattle.ctr_run.proofs.Order.{answer_begun, answer_ends, goes_or_ends, is_of_eight, no_answer, none_answered, AllRest}

not_zero : (s : ℕ) → 1 ≤ s → s ≡ 0 → ⊥
not_zero s some is = absurd (omega (arith, some, is))

other_way : (q s : ℕ) → (q == s) ≡ false → (s == q) ≡ false
other_way q s apart = by (s == q) refl
  where
    by : (b : Bool) → (s == q) ≡ b → (s == q) ≡ false
    by true same = absurd (false≢true (sym apart ∙ eq-eqb q s (sym (eqb-true s q same))))
    by false other = other

-- the line's session is one of the eight
pub of_line : (lines : List Line) → AllByRecursion IsRunLine lines → (k : ℕ) (l : Line) → slice_get lines k ≡ Some l → IsOneOfEight l.session
of_line lines runs k l there = let is = line_has IsRunLine lines k l runs there in record { from = is.least; to = is.most }

module _ (lines : List Line) (runs : AllByRecursion IsRunLine lines) (k : ℕ) (l : Line) (there : slice_get lines k ≡ Some l) (least : 1 ≤ l.session) where
  abbrev pub s : ℕ
  s = l.session

  abbrev pub n : ℕ
  n = count_in lines k s

  -- the line's statement isn't finished, and the other sessions are at rest
  pub record Within (p : Point) : Type 0 where
    pub finished : (progress_of p s).finished ≡ n
    pub others : (q : ℕ) → IsOneOfEight q → (q == s) ≡ false → IsAtRest lines k p q

  abbrev Mine : Entry → Type 0
  Mine e = IsEntryOfLine s (n + 1) e

  -- some entries came, all of the line's statement, which goes on or is finished
  abbrev pub Comes : Point → List Entry → Type 0
  Comes p es = AllByRecursion Mine es × (Within (final lines p es) ⊎ ((0 < length es) × AllRest lines (k + 1) (final lines p es)))

  module _ (p : Point) (w : Within p) (e : Entry) (next : IsNextInOrder lines p e) (mine : e.session ≡ s) where
    abbrev advanced_of : Progress
    advanced_of = advanced (acts_of p.state e.session next.statement) e.reply (progress_of p e.session)

    pub entry_mine : Mine e
    entry_mine = (
      mine,
      next.number ∙ ap (λ q. (progress_of p q).finished + 1) mine ∙ ap (λ m. m + 1) w.finished,
      never_released p.state e.session next.statement e.act (progress_of p e.session).made next.next_act,
    )

    own_progress : progress_of (passed lines p e) s ≡ advanced_of
    own_progress = subst (λ q. progress_of (passed lines p e) q ≡ advanced_of) mine (progress_mine lines p e next.statement next.is_it)

    others_still : (q : ℕ) → IsOneOfEight q → (q == s) ≡ false → IsAtRest lines k (passed lines p e) q
    others_still q one apart = progress_other lines p e next.statement next.is_it q (subst (λ r. (q == r) ≡ false) (sym mine) apart) ∙ w.others q one apart

    goes_on : progress_of (passed lines p e) s ≡ record (progress_of p s) { made = (progress_of p s).made + 1 } → Within (passed lines p e)
    goes_on is = record { finished = ap (λ (x : Progress). x.finished) is ∙ w.finished; others = others_still }

    ends : progress_of (passed lines p e) s ≡ record { finished = (progress_of p s).finished + 1; made = 0 } → AllRest lines (k + 1) (passed lines p e)
    ends is q one = by (q == s) refl
      where
        by : (b : Bool) → (q == s) ≡ b → IsAtRest lines (k + 1) (passed lines p e) q
        by true same = subst (IsAtRest lines (k + 1) (passed lines p e)) (sym (eqb-true q s same)) (is ∙ ap (λ m. record { finished = m; made = 0 }) (ap (λ m. m + 1) w.finished ∙ sym (count_mine lines k l there)))
        by false apart = others_still q one apart ∙ ap (λ m. record { finished = m; made = 0 }) (sym (count_other q lines k l there (other_way q s apart)))

    one_more : Within (passed lines p e) ⊎ AllRest lines (k + 1) (passed lines p e)
    one_more = ⊎_elim
        (λ more. inl (goes_on (own_progress ∙ subst (λ q. advanced_of ≡ record (progress_of p q) { made = (progress_of p q).made + 1 }) mine more)))
        (λ over. inr (ends (own_progress ∙ subst (λ q. advanced_of ≡ record { finished = (progress_of p q).finished + 1; made = 0 }) mine over)))
        (goes_or_ends (acts_of p.state e.session next.statement) e.reply (progress_of p e.session))

    answered : e.act ≡ act.Answer → AllRest lines (k + 1) (passed lines p e)
    answered is = ends (own_progress ∙ subst (λ q. advanced_of ≡ record { finished = (progress_of p q).finished + 1; made = 0 }) mine (answer_ends lines p e next is))

  -- an answer is the line's session's
  answer_mine : (p : Point) → Within p → (e : Entry) → IsNextInOrder lines p e → e.act ≡ act.Answer → e.session ≡ s
  answer_mine p w e next is = by (e.session == s) refl
    where
      by : (b : Bool) → (e.session == s) ≡ b → e.session ≡ s
      by true same = eqb-true e.session s same
      by false apart = absurd (answer_begun lines p e next is (ap (λ (x : Progress). x.made) (w.others e.session (is_of_eight lines runs e.session e.statement next.statement next.is_it) apart)))

  -- behind the line's end no answer comes
  ended : (p : Point) (e : Entry) (es : List Entry) → AllRest lines (k + 1) (passed lines p e) → StandInOrder lines (passed lines p e) es → AreAnswers es → Mine e → Comes p (e ∷ es)
  ended p e es rest order all mine =
      let none = none_answered lines runs (k + 1) (passed lines p e) rest es order all in
      subst (λ (l : List Entry). Comes p (e ∷ l)) (sym none) ((mine, tt), inr (omega arith, rest))

  answers_come : (p : Point) → Within p → (es : List Entry) → StandInOrder lines p es → AreAnswers es → Comes p es
  answers_come p w [] order all = (tt, inl w)
  answers_come p w (e ∷ es) order all =
      let next : IsNextInOrder lines p e = ⊎_elim (λ is. is) (λ release. absurd (no_answer lines p e release all.0)) order.1 in
      let mine = answer_mine p w e next all.0 in
      ended p e es (answered p w e next mine all.0) order.2 all.1 (entry_mine p w e next mine)

  own_comes : (p : Point) → Within p → (own es : List Entry) → StandInOrder lines p (own ++ es) → length own ≤ 1 → AllByRecursion (λ (e : Entry). e.session ≡ s) own → AreAnswers es → Comes p (own ++ es)
  own_comes p w [] es order few all answers = answers_come p w es order answers
  own_comes p w (e ∷ f ∷ own) es order few all answers = absurd (omega (arith, few))
  own_comes p w (e ∷ []) es order few all answers =
      let next : IsNextInOrder lines p e = ⊎_elim (λ is. is) (λ release. absurd (not_zero s least (sym all.0 ∙ release.session))) order.1 in
      let mine = entry_mine p w e next all.0 in
      ⊎_elim
      (λ goes. let rest = answers_come (passed lines p e) goes es order.2 answers in ((mine, rest.0), ⊎_elim (λ still. inl still) (λ over. inr (omega (arith, over.0), over.1)) rest.1))
      (λ over. ended p e es over order.2 answers mine)
      (one_more p w e next all.0)

  -- what a turn of the session adds
  pub turn_comes : (p : Point) → Within p → (own es : List Entry) → StandInOrder lines p (own ++ es) → AreOfTurn s own → AreAnswers es → Comes p (own ++ es)
  turn_comes p w own es order of answers = ⊎_elim
      (λ one. own_comes p w own es order one.0 one.1 answers)
      (λ all. answers_come p w (own ++ es) order (all_append (λ (e : Entry). e.act ≡ act.Answer) own es all answers))
      of

  -- ---- the line

  module _ (start : ℕ) where
    pub begins_line : (h : Sessions) → RanLines start lines k h → InLine start lines k l h
    begins_line h ran = record {
      front = h.tape.items;
      mine = [];
      tape = sym (append-nil h.tape.items);
      before = ran.tape;
      own = tt;
      finished = finished_at;
      others = λ q one apart. ran.each q one;
    }
      where
        finished_at : (progress_of (led_from start h) s).finished ≡ n
        finished_at = ap (λ (x : Progress). x.finished) (ran.each s (of_line lines runs k l there))

    -- a tape with the entries of the line that came so far
    pub serial_in : (h : Sessions) → InLine start lines k l h → IsSerial lines h.tape.items
    serial_in h at = by at.mine at.own at.tape
      where
        by : (mine : List Entry) → AllByRecursion Mine mine → h.tape.items ≡ at.front ++ mine → IsSerial lines h.tape.items
        by [] own is = serial_front lines k h.tape.items (ap statements_on (is ∙ append-nil at.front) ∙ at.before)
        by (e ∷ es) own is = serial_front lines (k + 1) h.tape.items (ap statements_on is ∙ line_more lines k l at.front e es there at.before own)

    module _ (h now : Sessions) (at : InLine start lines k l h) (es : List Entry) (tape : now.tape.items ≡ h.tape.items ++ es) (led_is : led_from start now ≡ final lines (led_from start h) es) (comes : Comes (led_from start h) es) where
      tape_is : now.tape.items ≡ at.front ++ (at.mine ++ es)
      tape_is = tape ∙ ap (λ (t : List Entry). t ++ es) at.tape ∙ append_assoc at.front at.mine es

      all_own : AllByRecursion Mine (at.mine ++ es)
      all_own = all_append Mine at.mine es at.own comes.0

      has_more : (mine : List Entry) → AllByRecursion Mine mine → now.tape.items ≡ at.front ++ mine → 0 < length mine → HasLines lines (k + 1) now.tape.items
      has_more [] own is none = absurd (omega (arith, none))
      has_more (e ∷ rest) own is some = ap statements_on is ∙ line_more lines k l at.front e rest there at.before own

      pub turned : InLine start lines k l now ⊎ RanLines start lines (k + 1) now
      turned = ⊎_elim
          (λ still. inl (record {
            front = at.front;
            mine = at.mine ++ es;
            tape = tape_is;
            before = at.before;
            own = all_own;
            finished = ap (λ (z : Point). (progress_of z s).finished) led_is ∙ still.finished;
            others = λ q one apart. ap (λ (z : Point). progress_of z q) led_is ∙ still.others q one apart;
          }))
          (λ over. inr (record {
            tape = has_more (at.mine ++ es) all_own tape_is (omega (arith, over.0, length-append at.mine es));
            each = λ q one. ap (λ (z : Point). progress_of z q) led_is ∙ over.1 q one;
          }))
          comes.1
