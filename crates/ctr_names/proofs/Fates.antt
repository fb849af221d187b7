-- How a transaction stands by the tables is how it stands by its number.
use Rattle.std.proofs.Common.{suc, zero, Bool, List, None, Option, Some, [], ap, arith, cond, false, inl, inr, not, refl, sym, true, ℕ, ⊎_elim, ◌<◌, ◌==◌, ◌∙◌, ◌∷◌, ◌≡◌}
use Rattle.std.specs.Prelude.{is_some, nat_le, nat_lt, unwrap_or, ◌&&◌, ◌||◌}
use Rattle.std.proofs.Math.Bool.{and-true}
use Rattle.std.proofs.lemmas.Bool.{cases_eq, cases_lt, eq-eqb, false≢true, le-leb, le-ltb, lt-leb, lt-ltb, ne_eqb}
use Rattle.ctr_snap.specs.Seeing.{SnapshotTaken, has, is_committed, is_own, sees, sees_or_own}
use Rattle.ctr_types.specs.declared.xid.Fate.{Fate}
use Rattle.ctr_types.specs.declared.xid.Fate.TheVariants as fate
use Rattle.ctr_record_laws.specs.versions_Chains.{above, is_by}
use Rattle.ctr_record_laws.specs.versions_Engine.{IsSeenIfOld, SessionHeld, session_sees}
use Rattle.ctr_record_laws.specs.versions_Xids.{IsSnapshotOf, Xids, fate_of, has_committed, number_of, place_from}
use Rattle.ctr_record_laws.proofs.versions_Keys.{known}
use Rattle.ctr_record_laws.proofs.versions_Xids.{committed_fate, number_committed, sees_is}
use Rattle.ctr_record_laws.specs.meta_Seen.{xid_is_changed, xid_is_seen}
use Rattle.ctr_record_laws.specs.meta_Tables.{Tables, fate_in, heads_at, is_in}
use Rattle.ctr_record_laws.specs.area_Areas.{Area}
use Rattle.ctr_record_laws.specs.area_Images.{is_committed_in}
use Rattle.ctr_record_laws.specs.area_Sound.{IsSoundArea, xids_in}
use Rattle.ctr_record_laws.specs.Owed.{AgreeOnCommits}
use Rattle.ctr_record_laws.proofs.Heads.{listed_drawn, listed_open}
use Rattle.ctr_names.specs.Search.{IsNumberOf, IsOfTables, finds}

pub has_in : (x : ℕ) (ps : List (ℕ × ℕ)) → has x (xids_in ps) ≡ is_in x ps
has_in x [] = refl
has_in x (p ∷ ps) = elim (x == p.0) as (λ b. (b || has x (xids_in ps)) ≡ is_some (cond b (Some p.1) (heads_at x ps))) [ true ↦ refl | false ↦ has_in x ps ]

module _ (tables : Tables) (xids : Xids) (xids_are : IsOfTables tables xids) where
  live_in : (x : ℕ) → has x xids.live ≡ is_in x tables.opens
  live_in x = ap (has x) xids_are.live ∙ has_in x tables.opens

  gone_in : (x : ℕ) → has x xids.aborted ≡ is_in x tables.aborted
  gone_in x = ap (has x) xids_are.aborted ∙ has_in x tables.aborted

  -- who is committed by the tables has a commit number
  pub committed_same : (x : ℕ) → has_committed xids x ≡ is_committed_in tables x
  committed_same x = λ i. nat_lt 0 x && (nat_lt x (xids_are.next i) && (not (live_in x i) && not (gone_in x i)))

  pub agrees : AgreeOnCommits (number_of xids) tables
  agrees x = some_if (has_committed xids x) ∙ committed_same x
    where
      some_if : (b : Bool) → is_some (cond b (Some (place_from 1 x xids.commits)) None) ≡ b
      some_if true = refl
      some_if false = refl

module _ (counted : ℕ) (tables : Tables) (area : Area) (sound : IsSoundArea counted tables area) (xids : Xids) (xids_are : IsOfTables tables xids) where
  pub fates_same : (x : ℕ) → 0 < x → fate_of xids x ≡ fate_in x tables
  fates_same x some = known (is_in x tables.opens)
      (λ live. (λ i. cond ((committed_same tables xids xids_are x ∙ listed_open tables x (inl live)) i) fate.Committed (cond ((live_in tables xids xids_are x ∙ live) i) fate.Open (cond (nat_lt 0 x && nat_lt x xids.next) fate.Aborted fate.Later)))
      ∙ sym (ap (λ b. cond b fate.Open (cond (is_in x tables.aborted) fate.Aborted (cond (nat_lt x tables.next) fate.Committed fate.Later))) live))
      (λ closed. known (is_in x tables.aborted)
      (λ gone. (λ i. cond ((committed_same tables xids xids_are x ∙ listed_open tables x (inr gone)) i) fate.Committed (cond ((live_in tables xids xids_are x ∙ closed) i) fate.Open (cond (lt-ltb 0 x some i && (ap (nat_lt x) xids_are.next ∙ lt-ltb x tables.next (listed_drawn tables.next area tables sound.below x (inr gone)).1) i) fate.Aborted fate.Later)))
      ∙ sym (λ i. cond (closed i) fate.Open (cond (gone i) fate.Aborted (cond (nat_lt x tables.next) fate.Committed fate.Later))))
      (λ left. (λ i. cond ((committed_same tables xids xids_are x ∙ (λ j. lt-ltb 0 x some j && (nat_lt x tables.next && (not (closed j) && not (left j)))) ∙ and-true (nat_lt x tables.next)) i) fate.Committed (cond ((live_in tables xids xids_are x ∙ closed) i) fate.Open (cond (lt-ltb 0 x some i && nat_lt x (xids_are.next i)) fate.Aborted fate.Later)))
      ∙ either (nat_lt x tables.next)
      ∙ sym (λ i. cond (closed i) fate.Open (cond (left i) fate.Aborted (cond (nat_lt x tables.next) fate.Committed fate.Later)))))
    where
      either : (b : Bool) → cond b fate.Committed (cond b fate.Aborted fate.Later) ≡ cond b fate.Committed fate.Later
      either true = refl
      either false = refl

  -- what the catalog's test says of a transaction is what a session finds
  pub found_same : (session : SessionHeld) (me : Option ℕ) → IsNumberOf session me → (x : ℕ) → xid_is_seen tables session.snapshot me x ≡ finds xids session x
  found_same session me is x = ⊎_elim
      (λ none. ap (λ b. not b && sees_or_own session.snapshot me (fate_in x tables) x) (eq-eqb x 0 none) ∙ sym (ap (λ b. not b && session_sees xids session x) (eq-eqb x 0 none)))
      (λ some. (λ i. not (x == 0) && (own me is some i || sees session.snapshot (sym (fates_same x (above some)) i) x)))
      (cases_eq x 0)
    where
      above : (x ≡ 0 → ⊥) → 0 < x
      above some = ⊎_elim (λ lt. lt) (λ le. absurd (some (omega (arith, le)))) (cases_lt 0 x)

      own : (o : Option ℕ) → IsNumberOf session o → (x ≡ 0 → ⊥) → is_own o x ≡ (x == session.me)
      own None none some = sym (ap (λ m. x == m) none ∙ ne_eqb x 0 some)
      own (Some m) is some = ap (λ m. x == m) is

  -- A transaction is changed, for the catalog's test and a row's, exactly where its commit's number is above that of the
  -- snapshot; one that was committed before the run the snapshot has seen.
  pub changed_same : (snapshot : SnapshotTaken) (n : ℕ) → IsSnapshotOf xids snapshot n → (y : ℕ) → IsSeenIfOld xids snapshot y → xid_is_changed tables snapshot y ≡ is_some (above n (number_of xids y))
  changed_same snapshot n stands y if_old = ⊎_elim
      (λ none. ap (λ b. not b && changes (fate_in y tables)) (eq-eqb y 0 none) ∙ sym (ap (λ o. is_some (above n o)) (ap (number_of xids) none)))
      (λ some. (λ i. not (ne_eqb y 0 some i) && changes (sym (fates_same y (above_zero some)) i))
      ∙ (λ i. committed_fate xids y i && not (sees snapshot (fate_of xids y) y))
      ∙ of_number (number_of xids y) refl)
      (cases_eq y 0)
    where
      changes : Fate → Bool
      changes f = is_committed f && not (sees snapshot f y)

      above_zero : (y ≡ 0 → ⊥) → 0 < y
      above_zero some = ⊎_elim (λ lt. lt) (λ le. absurd (some (omega (arith, le)))) (cases_lt 0 y)

      never : (k : ℕ) → suc k ≡ 0 → ⊥
      never k is = omega (arith, is)

      no_number : (b : Bool) (k : ℕ) → cond b (Some k) None ≡ None → b ≡ false
      no_number true k is = absurd (false≢true (sym (ap is_some is)))
      no_number false k is = refl

      turned : (k : ℕ) → not (nat_le k n) ≡ is_some (cond (nat_lt n k) (Some k) None)
      turned k = ⊎_elim
          (λ lt. (λ i. not (lt-leb k n lt i)) ∙ sym (ap (λ b. is_some (cond b (Some k) None)) (lt-ltb n k lt)))
          (λ le. (λ i. not (le-leb k n le i)) ∙ sym (ap (λ b. is_some (cond b (Some k) None)) (le-ltb n k le)))
          (cases_lt n k)

      of_number : (o : Option ℕ) → number_of xids y ≡ o → (has_committed xids y && not (sees snapshot (fate_of xids y) y)) ≡ is_some (above n (number_of xids y))
      of_number None none = ap (λ b. b && not (sees snapshot (fate_of xids y) y)) (no_number (has_committed xids y) (place_from 1 y xids.commits) none) ∙ sym (ap (λ o. is_some (above n o)) none)
      of_number (Some zero) old = (λ i. number_committed xids y zero old i && not ((sees_is xids snapshot y ∙ (λ j. number_committed xids y zero old j && if_old old j)) i))
          ∙ sym (ap (λ b. is_some {T = ℕ} (cond b (Some 0) None)) (le-ltb n 0 (omega arith))) ∙ sym (ap (λ o. is_some (above n o)) old)
      of_number (Some (suc k)) new = (λ i. number_committed xids y (suc k) new i && not ((stands.sees_by y (λ old. never k (ap (λ (o : Option ℕ). unwrap_or o 0) (sym new ∙ old))) ∙ ap (is_by n) new) i))
          ∙ turned (suc k) ∙ sym (ap (λ o. is_some (above n o)) new)
