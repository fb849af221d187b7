-- The transactions of tables, to an engine of versions.
use Rattle.std.proofs.Common.{◌≡◌, ℕ, suc, ◌+◌, ◌<◌, ◌≤◌, ◌==◌, Bool, true, false, cond, List, [], ◌∷◌, length, Some, None, refl, sym, ◌∙◌, ap, subst, arith}
use Rattle.std.proofs.lemmas.Bool.{false≢true, le-leb, eqb-true}
use Rattle.std.specs.List.{AllByRecursion}
use Rattle.std.specs.Prelude.{◌&&◌, ◌||◌, not, nat_lt, is_some}
use Rattle.ctr_actions.specs.area_Areas.{Area}
use Rattle.ctr_actions.specs.area_Images.{is_committed_in}
use Rattle.ctr_actions.specs.area_Sound.{xids_in, IsSoundArea}
use Rattle.ctr_actions.specs.meta_Tables.{Tables, is_in, heads_at}
use Rattle.ctr_actions.proofs.record_laws_Members.{all_parts}
use Rattle.ctr_actions.proofs.record_laws_Xids.{in_among, not_both}
use Rattle.ctr_actions.specs.record_laws_Owed.{AgreeOnCommits}
use Rattle.ctr_paged.specs.Paged.{xids_of}
use Rattle.ctr_snap.specs.Seeing.{has}
use Rattle.ctr_versions.proofs.Keys.{known}
use Rattle.ctr_versions.specs.Chains.{by, is_by}
use Rattle.ctr_versions.specs.Xids.{place_from, has_committed, number_of, IsOnce, AreSound}

pub has_in : (x : ℕ) (ps : List (ℕ × ℕ)) → has x (xids_in ps) ≡ is_in x ps
has_in x [] = refl
has_in x (p ∷ ps) = elim (x == p.0) as (λ b. (b || has x (xids_in ps)) ≡ is_some (cond b (Some p.1) (heads_at x ps))) [ true ↦ refl | false ↦ has_in x ps ]

pub committed_same : (tables : Tables) (commits : List ℕ) (x : ℕ) → has_committed (xids_of tables commits) x ≡ is_committed_in tables x
committed_same tables commits x = λ i. nat_lt 0 x && (nat_lt x tables.next && (not (has_in x tables.opens i) && not (has_in x tables.aborted i)))

-- who is committed by the tables has a commit number
pub agree : (tables : Tables) (commits : List ℕ) → AgreeOnCommits (number_of (xids_of tables commits)) tables
agree tables commits x = some_if (has_committed (xids_of tables commits) x) ∙ committed_same tables commits x
  where
    some_if : (b : Bool) → is_some (cond b (Some (place_from 1 x commits)) None) ≡ b
    some_if true = refl
    some_if false = refl

place_within : (k x : ℕ) (xs : List ℕ) → place_from (suc k) x xs ≤ k + length xs
place_within k x [] = omega arith
place_within k x (y ∷ ys) = elim (x == y) as (λ b. cond b (suc k) (place_from (suc k + 1) x ys) ≤ k + suc (length ys)) [
  | true ↦ omega arith
  | false ↦ let rest : place_from (suc k + 1) x ys ≤ suc k + length ys = subst (λ m. place_from m x ys ≤ suc k + length ys) (next k) (place_within (suc k) x ys) in after (place_from (suc k + 1) x ys) k (length ys) rest
]
  where
    next : (k : ℕ) → suc (suc k) ≡ suc k + 1
    next k = omega arith

    after : (p k n : ℕ) → p ≤ suc k + n → p ≤ k + suc n
    after p k n le = omega (arith, le)

-- at the number of all that asked, who is committed by the tables is seen
pub by_all : (tables : Tables) (commits : List ℕ) (j x : ℕ) → length commits ≤ j → by (number_of (xids_of tables commits)) j x ≡ is_committed_in tables x
by_all tables commits j x le = seen_if (has_committed (xids_of tables commits) x) ∙ committed_same tables commits x
  where
    further : (p n : ℕ) → p ≤ 0 + n → n ≤ j → p ≤ j
    further p n a b = omega (arith, a, b)

    seen_if : (b : Bool) → is_by j (cond b (Some (place_from 1 x commits)) None) ≡ b
    seen_if true = le-leb (place_from 1 x commits) j (further (place_from 1 x commits) (length commits) (place_within 0 x commits) le)
    seen_if false = refl

-- The transactions of sound tables are in order, with commits that are committed, each once.
pub xids_sound : (counted : ℕ) (tables : Tables) (area : Area) (commits : List ℕ) → IsSoundArea counted tables area → 0 < tables.next
    → AllByRecursion (λ x. has_committed (xids_of tables commits) x ≡ true) commits → IsOnce commits → AreSound (xids_of tables commits)
xids_sound counted tables area commits sound some all once = record {
  first = some;
  gone = its.1;
  live = its.0;
  apart = λ x here. (
    known (has x commits) (λ is. absurd (not_here x here (committed_of x commits all is))) (λ isnt. isnt),
    known (has x (xids_in tables.aborted)) (λ is. absurd (not_both (xids_in tables.opens) (xids_in tables.aborted) x sound.below.once (in_among x tables.opens (sym (has_in x tables.opens) ∙ here)) (in_among x tables.aborted (sym (has_in x tables.aborted) ∙ is)))) (λ isnt. isnt),
  );
  commits = all;
  once = once;
}
  where
    its : AllByRecursion (λ x. (0 < x) × (x < tables.next)) (xids_in tables.opens) × AllByRecursion (λ x. (0 < x) × (x < tables.next)) (xids_in tables.aborted)
    its = all_parts (λ x. (0 < x) × (x < tables.next)) (xids_in tables.opens) (xids_in tables.aborted) sound.below.drawn

    committed_of : (x : ℕ) (xs : List ℕ) → AllByRecursion (λ x. has_committed (xids_of tables commits) x ≡ true) xs → has x xs ≡ true → has_committed (xids_of tables commits) x ≡ true
    committed_of x [] all here = absurd (false≢true here)
    committed_of x (y ∷ ys) all here = known (x == y)
        (λ is. subst (λ z. has_committed (xids_of tables commits) z ≡ true) (sym (eqb-true x y is)) all.0)
        (λ isnt. committed_of x ys all.1 (sym (ap (λ b. b || has x ys) isnt) ∙ here))

    none_live : (a b c : Bool) → (a && (b && (not true && c))) ≡ false
    none_live true true c = refl
    none_live true false c = refl
    none_live false b c = refl

    not_here : (x : ℕ) → has x (xids_in tables.opens) ≡ true → has_committed (xids_of tables commits) x ≡ true → ⊥
    not_here x here is = false≢true (sym (none_live (nat_lt 0 x) (nat_lt x tables.next) (not (has x (xids_in tables.aborted)))) ∙ ap (λ b. nat_lt 0 x && (nat_lt x tables.next && (not b && not (has x (xids_in tables.aborted))))) (sym here) ∙ is)

-- who is committed alike has the same number
pub number_alike : (old new : Tables) (commits : List ℕ) (y : ℕ) → is_committed_in new y ≡ is_committed_in old y → number_of (xids_of new commits) y ≡ number_of (xids_of old commits) y
number_alike old new commits y same = ap (λ b. cond b (Some (place_from 1 y commits)) None) (committed_same new commits y ∙ same ∙ sym (committed_same old commits y))
