use Rattle.std.proofs.Common.{◌≡◌, ℕ, Bool, true, false, not, cond, List, [], ◌∷◌, Some, refl, ◌∙◌, ap, map, arith}
use Rattle.std.specs.Prelude.{◌&&◌, ◌||◌, ◌==◌, is_some, nat_lt, nat_eq}
use Rattle.std.specs.Map.{lookup}
use Rattle.std.proofs.lemmas.Bool.Decides.{nat_tests}
use Rattle.ctr_types.specs.declared.xid.Fate.TheVariants.{Open, Aborted, Committed, Later}
use Rattle.ctr_snap.specs.Seeing.{has, is_committed}
use Rattle.ctr_meta.specs.Tables.{is_in, fate_in}
use Rattle.ctr_survey.proofs.laws.a_snapshot_of_now_sees_what_is_committed.Goals as goal

-- who is listed is who is open
listed_open : (x : ℕ) (ps : List (ℕ × ℕ)) → has x (map (λ (p : ℕ × ℕ). p.0) ps) ≡ is_in x ps
listed_open x [] = refl
listed_open x (p ∷ ps) = elim (x == p.0) as (λ b. (b || has x (map (λ (q : ℕ × ℕ). q.0) ps)) ≡ is_some (cond b (Some p.1) (lookup (nat_eq x) ps))) [
  | true ↦ refl
  | false ↦ listed_open x ps
]

somebody : (x : ℕ) → not (x == 0) ≡ nat_lt 0 x
somebody x = grind (arith, nat_tests)

-- by whether it is open, aborted, and drawn
by_fate : (open_ aborted drawn : Bool) → (is_committed (cond open_ Open (cond aborted Aborted (cond drawn Committed Later))) && (drawn && not open_)) ≡ (drawn && (not open_ && not aborted))
by_fate true aborted true = refl
by_fate true aborted false = refl
by_fate false true true = refl
by_fate false true false = refl
by_fate false false true = refl
by_fate false false false = refl

pub returns : goal.returns
returns c = λ tables x.
    let open_ = is_in x tables.opens in
    let drawn = nat_lt x tables.next in
    ap (λ b. not (x == 0) && (is_committed (fate_in x tables) && (drawn && not b))) (listed_open x tables.opens)
    ∙ ap (λ b. not (x == 0) && b) (by_fate open_ (is_in x tables.aborted) drawn)
    ∙ ap (λ b. b && (drawn && (not open_ && not (is_in x tables.aborted)))) (somebody x)
