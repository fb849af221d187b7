-- A pass is kept while others are at work.
use Rattle.std.proofs.Common.{◌≡◌, ⊎_elim, ℕ, ◌+◌, false, List, [], ◌∷◌, ◌++◌, length, length-append, Option, Some, None, sym, ◌∙◌, ap, subst, arith}
use Rattle.ctr_types.specs.declared.statement.Line.{Line}
use Rattle.ctr_types.specs.declared.tape.Entry.{Entry}
use Rattle.ctr_model.specs.declared.state.State.{State as ModelState}
use Rattle.ctr_model.specs.declared.tape.Point.{Point}
use Rattle.ctr_model.specs.Tape.{final}
use Rattle.ctr_walk.specs.redo_States.{State}
use Rattle.ctr_actions.specs.Sites.{Site, site_of}
use Rattle.ctr_cleaner.specs.cursor_Position.{Position}
use Rattle.ctr_cleaner.specs.cursor_Pass.{start, next_position, GoesBy}
use Rattle.ctr_cleaner.specs.cursor_Standing.{IsPosition}
use Rattle.ctr_cleaner.specs.Finding.{HasNothingAt}
use Rattle.ctr_pass.specs.declared.pass.Pass.{Pass}
use Rattle.ctr_pass.specs.declared.pass.Phase.{Phase}
use Rattle.ctr_pass.specs.declared.pass.Phase.TheVariants.{Disturbed, Calm, Idle}
use Rattle.ctr_pass.specs.Keeping.{PassedOver, HasNoneOpen, HasFoundNone, IsInPhase, KeepsPass, StaysUnder, StaysOrLogs}
use Rattle.ctr_pass.specs.Passing.{some_end}
use Rattle.ctr_pass.proofs.Enduring.{Endures, more_endures, was_outside}
use Rattle.ctr_pass.proofs.Noted.{calm_says, calm_before}

-- ---- more pages are counted

module _ (leads : (y : Position) (s : Site) (more : ℕ) → next_position (record s { counted = more }) y ≡ next_position s y)
    (finds : (low more : ℕ) (x : Position) (s : State) → HasNothingAt (λ e key. Unit {0}) low x s → HasNothingAt (λ e key. Unit {0}) low x (record s { counted = more }))
    (s : State) (more : ℕ)
  where
    goes_grown : (x : Option Position) (ps : List Position) (y : Option Position) → GoesBy (site_of s) x ps y → GoesBy (site_of (record s { counted = more })) x ps y
    goes_grown x [] y goes = goes
    goes_grown x (p ∷ ps) y goes = (
      goes.0,
      subst (λ o. GoesBy (site_of (record s { counted = more })) o ps y) (sym (leads p (site_of s) more)) (goes_grown (next_position (site_of s) p) ps y goes.1),
    )

    passed_grown : (to : Option Position) → HasFoundNone s to → HasFoundNone (record s { counted = more }) to
    passed_grown to has = record {
      passed = has.passed;
      goes = goes_grown (Some start) has.passed to has.goes;
      found = λ x in_. finds s.tables.next more x s (has.found x in_);
    }

    pub phase_grown : (f : Phase) (n : ℕ) (at : Position) → IsInPhase f n at s → IsInPhase f n at (record s { counted = more })
    phase_grown Disturbed n at is = tt
    phase_grown Calm n at is = passed_grown (Some at) is
    phase_grown Idle n at is = (passed_grown None is.0, is.1)

-- ---- beside others

-- all are at rest before entries by which no transaction ends, where they are behind them
rest_before : (lines : List Line) (first : Point) (v u : PassedOver) (es : List Entry) → v.led ≡ (final lines first v.tape).state → u.led ≡ (final lines first u.tape).state
    → u.tape ≡ v.tape ++ es → some_end es ≡ false → u.state ≡ record v.state { counted = u.state.counted } → HasNoneOpen u → HasNoneOpen v
rest_before lines first v u es led now grows still same rest = record {
  nobody = λ s. was_outside v.led u.led s endures (rest.nobody s);
  opens = sym (ap (λ (t : State). t.tables.opens) same) ∙ rest.opens;
}
  where
    behind : Endures v.led (final lines first (v.tape ++ es)).state
    behind = subst (λ (q : ModelState). Endures q (final lines first (v.tape ++ es)).state) (sym led) (more_endures lines first v.tape es still)

    endures : Endures v.led u.led
    endures = subst (Endures v.led) (sym (now ∙ ap (λ l. (final lines first l).state) grows)) behind

-- nothing is said of a pass behind a record
pub kept_logged : (p : Pass) (v u : PassedOver) (es : List Entry) → KeepsPass p v → u.tape ≡ v.tape ++ es → u.next ≡ v.next + 1 → KeepsPass p u
kept_logged p v u es keeps grows logged = record {
  before = omega (arith, keeps.before, logged);
  seen = omega (arith, keeps.seen, ap length grows ∙ length-append v.tape es);
  stands = λ same. absurd (later same);
  phase = λ calm rest. absurd (later (calm_says p u.next u.tape calm).0);
}
  where
    later : p.next ≡ u.next → ⊥
    later same = omega (arith, keeps.before, logged, same)

module _ (positions : (y : Position) (s : Site) (more : ℕ) → (IsPosition y s → IsPosition y (record s { counted = more })) × (next_position (record s { counted = more }) y ≡ next_position s y))
    (finds : (low more : ℕ) (x : Position) (s : State) → HasNothingAt (λ e key. Unit {0}) low x s → HasNothingAt (λ e key. Unit {0}) low x (record s { counted = more }))
    (lines : List Line) (first : Point) (p : Pass) (v u : PassedOver) (es : List Entry) (keeps : KeepsPass p v)
    (led : v.led ≡ (final lines first v.tape).state) (now : u.led ≡ (final lines first u.tape).state) (grows : u.tape ≡ v.tape ++ es)
  where
    kept_still : StaysUnder v u → KeepsPass p u
    kept_still still = record {
      before = omega (arith, keeps.before, still.next);
      seen = omega (arith, keeps.seen, ap length grows ∙ length-append v.tape es);
      stands = λ same. subst (λ (t : State). IsPosition p.at (site_of t)) (sym still.state) ((positions p.at (site_of v.state) more).0 (keeps.stands (same ∙ still.next)));
      phase = λ calm rest.
          let was = calm_before p v.next u.next v.tape es u.tape keeps.seen still.next grows calm in
          let is = keeps.phase was.0 (rest_before lines first v u es led now grows was.1 still.state rest) in
          subst (IsInPhase p.phase u.undos p.at) (sym still.state)
          (phase_grown (λ y s n. (positions y s n).1) finds v.state more p.phase u.undos p.at
          (subst (λ n. IsInPhase p.phase n p.at v.state) (sym still.undos) is));
    }
      where
        more : ℕ
        more = u.state.counted

    pub kept_beside : StaysOrLogs v u → KeepsPass p u
    kept_beside goes = ⊎_elim kept_still (kept_logged p v u es keeps grows) goes
