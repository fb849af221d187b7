-- A pass is kept by a turn of the cleaner.
use Rattle.std.proofs.Common.{◌≡◌, ⊎_elim, ℕ, ◌≤◌, ℤ, true, false, cond, List, [], ◌∷◌, ◌++◌, length, Option, Some, None, refl, sym, ◌∙◌, ap, subst, arith}
use Rattle.ctr_model.specs.declared.state.State.{State as ModelState}
use Rattle.ctr_model.specs.State.{transaction_of}
use Rattle.ctr_versions.proofs.Keys.{known}
use Rattle.ctr_locks.specs.Held.{LocksOfSession, session_locks}
use Rattle.ctr_area.specs.Chains.{pages_bound}
use Rattle.ctr_walk.specs.redo_States.{State}
use Rattle.ctr_walk.specs.record_effects_Standing.{IsDatabaseState}
use Rattle.ctr_actions.specs.Sites.{Site, IsSoundSite, site_of}
use Rattle.ctr_actions.specs.Actions.{Action}
use Rattle.ctr_actions.specs.Records.{Does}
use Rattle.ctr_actions.proofs.record_laws_Members.{among_parts}
use Rattle.ctr_cleaner.specs.cursor_Position.{Position}
use Rattle.ctr_cleaner.specs.cursor_Pass.{start, next_position, GoesBy}
use Rattle.ctr_cleaner.specs.cursor_Standing.{IsPosition, TakesPage}
use Rattle.ctr_cleaner.specs.clean_Lists.{HasNoFree}
use Rattle.ctr_cleaner.specs.declared.done.CleanTurn.{CleanTurn}
use Rattle.ctr_cleaner.specs.declared.done.CleanTurn.TheVariants as did
use Rattle.ctr_cleaner.specs.Finding.{IsFreeRow, HasNothingAt}
use Rattle.ctr_cleaner.specs.Turning.{Heeded, CleansFreely, PassesPosition, LeavesPosition, TurnsAt, next_cleaned}
use Rattle.ctr_pass.specs.declared.going.Went.{Went}
use Rattle.ctr_pass.specs.declared.pass.Pass.{Pass}
use Rattle.ctr_pass.specs.declared.pass.Phase.{Phase}
use Rattle.ctr_pass.specs.declared.pass.Phase.TheVariants.{Disturbed, Calm, Idle}
use Rattle.ctr_pass.specs.Keeping.{PassedOver, HasNoneOpen, HasFoundNone, IsInPhase, KeepsPass, TurnsUnder}
use Rattle.ctr_pass.specs.Passing.{noted, phase_over, pass_on, pass_behind}
use Rattle.ctr_pass.proofs.Noted.{calm_says, undisturbed}

-- a pass that begins has passed nothing
pub begins : (s : State) → HasFoundNone s (Some start)
begins s = record { passed = []; goes = refl; found = λ x in_. absurd in_ }

-- A pass that has come to a position where there is nothing to do has come to the one behind it.
further : (s : State) (x : Position) (y : Option Position)
    → ((z : Option Position) (passed : List Position) → GoesBy (site_of s) z passed (Some x) → GoesBy (site_of s) z (passed ++ x ∷ []) (next_position (site_of s) x))
    → HasFoundNone s (Some x) → HasNothingAt (λ e key. Unit {0}) s.tables.next x s → next_position (site_of s) x ≡ y → HasFoundNone s y
further s x y goes_on has here behind = record {
  passed = has.passed ++ x ∷ [];
  goes = subst (GoesBy (site_of s) (Some start) (has.passed ++ x ∷ [])) behind (goes_on (Some start) has.passed has.goes);
  found = λ z in_. ⊎_elim (has.found z) (λ last. ⊎_elim (λ same. subst (λ w. HasNothingAt (λ e key. Unit {0}) s.tables.next w s) (sym same) here) (λ none. absurd none) last) (among_parts z has.passed (x ∷ []) in_);
}

module _
    (goes_on : (s : Site) (x : Option Position) (y : Position) (passed : List Position) → GoesBy s x passed (Some y) → GoesBy s x (passed ++ y ∷ []) (next_position s y))
    (leads : (s : State) (x y : Position) → IsDatabaseState s → IsPosition x (site_of s) → next_position (site_of s) x ≡ Some y → IsPosition y (site_of s))
    (stays : (x : ℕ) (y : Position) (a : Action) (s t : State) → Does x a s t → s.counted ≤ pages_bound → IsSoundSite (site_of s) → (TakesPage a y → ⊥) → IsPosition y (site_of s) → IsPosition y (site_of t))
    (alone : (locks : List (ℕ × LocksOfSession)) (low : ℕ) (x : Position) (s : State) → ((r f : ℕ) (key : ℤ) → session_locks r f key locks ≡ false) → HasNothingAt (IsFreeRow locks s) low x s → HasNothingAt (λ e key. Unit {0}) low x s)
    (p : Pass) (h : Heeded) (w : Went) (v u : PassedOver) (keeps : KeepsPass p v) (database : IsDatabaseState v.state)
    (busy : (noted p v.next v.tape).phase ≡ Idle → ⊥) (turns : TurnsUnder p h w v u)
  where
    abbrev pass : Pass
    pass = noted p v.next v.tape

    sees : length v.tape ≤ length u.tape
    sees = omega (arith, ap length turns.tape)

    -- ---- a record was logged

    logged : (turn : CleanTurn) → CleansFreely h w.from turn v.state u.state → KeepsPass (record pass { at = w.from; next = u.next; phase = Disturbed }) u
    logged turn cleans = record {
      before = omega arith;
      seen = sees;
      stands = λ same. stays v.state.tables.next w.from cleans.action v.state u.state cleans.acts.does database.few database.sound cleans.stays turns.went.0;
      phase = λ calm rest. tt;
    }

    -- ---- there was nothing to do

    module _ (y : Option Position) (passes : PassesPosition h w.from y v.state u.state) (unlogged : u.next ≡ v.next) where
      rested : HasNoneOpen u → HasNoneOpen v
      rested rest = record {
        nobody = λ s. ap (λ (q : ModelState). transaction_of q s) (sym turns.led) ∙ rest.nobody s;
        opens = ap (λ (t : State). t.tables.opens) (sym passes.same) ∙ rest.opens;
      }

      -- nothing was found so far, and nothing at this position
      goes_further : h.may.unlink ≡ true → pass.phase ≡ Calm → HasNoneOpen u → HasFoundNone u.state y
      goes_further may is rest =
          let was = undisturbed p v.next v.tape Calm (λ no. cc no) is in
          let still = rested rest in
          let heeds = turns.heeds still in
          let has : HasFoundNone v.state (Some p.at) = subst (λ f. IsInPhase f v.undos p.at v.state) was.1 (keeps.phase was.0 still) in
          let here = turns.from (calm_says p v.next v.tape was.0).0 in
          let none = alone h.locks h.low w.from v.state heeds.locks (passes.nothing (may, heeds.free)) in
          subst (λ (s : State). HasFoundNone s y) (sym passes.same)
          (further v.state w.from y (λ z passed. goes_on (site_of v.state) z w.from passed) (subst (λ x. HasFoundNone v.state (Some x)) (sym here) has)
          (subst (λ n. HasNothingAt (λ e key. Unit {0}) n w.from v.state) heeds.low none) passes.behind)

      free : HasNoFree u.undos u.state.tables
      free = subst (λ (s : State). HasNoFree u.undos s.tables) (sym passes.same) (subst (λ n. HasNoFree n v.state.tables) (turns.spared ∙ sym turns.undos) passes.free)

      -- it goes on to a position
      phase_on : (f : Phase) (z : Position) → y ≡ Some z → pass.phase ≡ f → h.may.unlink ≡ true → HasNoneOpen u → IsInPhase f u.undos z u.state
      phase_on Disturbed z to is may rest = tt
      phase_on Calm z to is may rest = subst (HasFoundNone u.state) to (goes_further may is rest)
      phase_on Idle z to is may rest = absurd (busy is)

      -- or is over
      phase_back : (f : Phase) → y ≡ None → pass.phase ≡ f → HasNoneOpen u → IsInPhase (phase_over h.may.unlink f) u.undos start u.state
      phase_back Disturbed to is rest = begins u.state
      phase_back Calm to is rest = known h.may.unlink
          (λ may. subst (λ b. IsInPhase (cond b Idle Calm) u.undos start u.state) (sym may) (subst (HasFoundNone u.state) to (goes_further may is rest), free))
          (λ no. subst (λ b. IsInPhase (cond b Idle Calm) u.undos start u.state) (sym no) (begins u.state))
      phase_back Idle to is rest = absurd (busy is)

    moved : (z : Position) → PassesPosition h w.from (Some z) v.state u.state → u.next ≡ v.next → KeepsPass (pass_on h.may.unlink (Some z) pass) u
    moved z passes unlogged = record {
      before = omega (arith, unlogged);
      seen = sees;
      stands = λ same. subst (λ (s : State). IsPosition z (site_of s)) (sym passes.same) (leads v.state w.from z database turns.went.0 passes.behind);
      phase = λ calm rest. known h.may.unlink
          (λ may. subst (λ b. IsInPhase (cond b pass.phase Disturbed) u.undos z u.state) (sym may) (phase_on (Some z) passes unlogged pass.phase z refl refl may rest))
          (λ no. subst (λ b. IsInPhase (cond b pass.phase Disturbed) u.undos z u.state) (sym no) tt);
    }

    over : PassesPosition h w.from None v.state u.state → u.next ≡ v.next → KeepsPass (pass_on h.may.unlink None pass) u
    over passes unlogged = record {
      before = omega (arith, unlogged);
      seen = sees;
      stands = λ same. omega arith;
      phase = λ calm rest. phase_back None passes unlogged pass.phase refl refl rest;
    }

    -- ---- it wasn't seen whether there is anything to do

    left_on : (y : Option Position) → LeavesPosition h w.from y v.state u.state → u.next ≡ v.next → KeepsPass (pass_on h.may.unlink y (record pass { phase = Disturbed })) u
    left_on (Some z) leaves unlogged = record {
      before = omega (arith, unlogged);
      seen = sees;
      stands = λ same. subst (λ (s : State). IsPosition z (site_of s)) (sym leaves.same) (leads v.state w.from z database turns.went.0 leaves.behind);
      phase = λ calm rest. known h.may.unlink
          (λ may. subst (λ b. IsInPhase (cond b Disturbed Disturbed) u.undos z u.state) (sym may) tt)
          (λ no. subst (λ b. IsInPhase (cond b Disturbed Disturbed) u.undos z u.state) (sym no) tt);
    }
    left_on None leaves unlogged = record {
      before = omega (arith, unlogged);
      seen = sees;
      stands = λ same. omega arith;
      phase = λ calm rest. begins u.state;
    }

    by_its : (turn : CleanTurn) → TurnsAt h w.from v.state u.state turn → u.next ≡ next_cleaned turn v.next → KeepsPass (pass_behind pass w.from turn h.may.unlink u.next) u
    by_its did.Cleaned cleans next = logged did.Cleaned cleans
    by_its did.Unlinked cleans next = logged did.Unlinked cleans
    by_its did.Reclaimed cleans next = logged did.Reclaimed cleans
    by_its (did.Moved z) passes next = moved z passes next
    by_its did.Over passes next = over passes next
    by_its (did.Left y) leaves next = left_on y leaves next

    pub kept_by_turn : KeepsPass (pass_behind pass w.from w.did h.may.unlink u.next) u
    kept_by_turn = by_its w.did turns.went.1 turns.next
