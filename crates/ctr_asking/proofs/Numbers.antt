-- Commit numbers, as the transactions of sessions have them and as the model counts them.
use Rattle.std.proofs.Common.{◌≡◌, ℕ, ◌+◌, ◌<◌, ◌==◌, Bool, true, false, cond, List, [], ◌∷◌, Option, Some, None, refl, sym, ◌∙◌, ap, arith}
use Rattle.std.specs.Prelude.{is_some, nat_lt, unwrap_or, option_and_then}
use Rattle.std.specs.Option.{option_map_or}
use Rattle.std.proofs.lemmas.Bool.{false≢true, ltb-true, or_parts}
use Rattle.ctr_snap.specs.Seeing.{SnapshotTaken, has}
use Rattle.ctr_versions.specs.Chains.{above}
use Rattle.ctr_versions.specs.Xids.{Xids, has_committed, number_of, place_from}
use Rattle.ctr_versions.proofs.Keys.{known}
use Rattle.ctr_meta.specs.Seen.{xid_is_changed}
use Rattle.ctr_meta.specs.Tables.{Tables}
use Rattle.ctr_txn.specs.paged_Paged.{xids_of}
use Rattle.ctr_txn.specs.Numbered.{number_asked}
use Rattle.ctr_asking.specs.Causes.{number_unseen}

pub one_some : (a b : ℕ) → Some a ≡ Some b → a ≡ b
one_some a b is = ap (λ (o : Option ℕ). unwrap_or o a) is

-- what is found where something is
pub then_some : {A B : Type 0} (f : A → Option B) (o : Option A) (k : B) → option_and_then f o ≡ Some k → (x : A) × (o ≡ Some x) × (f x ≡ Some k)
then_some f None k is = absurd (false≢true (ap is_some is))
then_some f (Some x) k is = (x, refl, is)

where_true : (b : Bool) (p k : ℕ) → cond b (Some p) None ≡ Some k → p ≡ k
where_true true p k is = one_some p k is
where_true false p k is = absurd (false≢true (ap is_some is))

-- who isn't there has no place
no_place : (k x : ℕ) (xs : List ℕ) → has x xs ≡ false → place_from k x xs ≡ 0
no_place k x [] none = refl
no_place k x (y ∷ ys) none =
    let parts = or_parts (x == y) (has x ys) none in
    ap (λ b. cond b k (place_from (k + 1) x ys)) parts.0 ∙ no_place (k + 1) x ys parts.1

-- A number above 0 is that of this run.
pub asked_is : (xids : Xids) (x j : ℕ) → number_of xids x ≡ Some j → 0 < j → number_asked x xids.commits ≡ Some j
asked_is xids x j is some =
    let place : place_from 1 x xids.commits ≡ j = where_true (has_committed xids x) (place_from 1 x xids.commits) j is in
    known (has x xids.commits)
    (λ there. ap (λ b. cond b (Some (place_from 1 x xids.commits)) None) there ∙ ap (λ p. Some p) place)
    (λ isnt. absurd (never (sym place ∙ no_place 1 x xids.commits isnt) some))
  where
    never : j ≡ 0 → 0 < j → ⊥
    never is lt = omega (arith, is, lt)

pub one_number : (xids : Xids) (x j k : ℕ) → number_of xids x ≡ Some j → number_asked x xids.commits ≡ Some k → j ≡ k
one_number xids x j k is asked =
    sym (where_true (has_committed xids x) (place_from 1 x xids.commits) j is)
    ∙ where_true (has x xids.commits) (place_from 1 x xids.commits) k asked

-- a number above another
pub some_above : (n k : ℕ) (o : Option ℕ) → above n o ≡ Some k → (o ≡ Some k) × (n < k)
some_above n k None is = absurd (false≢true (ap is_some is))
some_above n k (Some j) is = known (nat_lt n j)
    (λ lt. let same = one_some j k (sym (ap (λ b. cond b (Some j) None) lt) ∙ is) in (ap (λ m. Some m) same, later_by same (ltb-true n j lt)))
    (λ ge. absurd (false≢true (ap is_some (sym (ap (λ b. cond b (Some j) None) ge) ∙ is))))
  where
    later_by : j ≡ k → n < j → n < k
    later_by same lt = omega (arith, same, lt)

is_above : (n : ℕ) (o : Option ℕ) → is_some (above n o) ≡ true → (j : ℕ) × (above n o ≡ Some j)
is_above n o is = some_of (above n o) is
  where
    some_of : (u : Option ℕ) → is_some u ≡ true → (j : ℕ) × (u ≡ Some j)
    some_of None is = absurd (false≢true is)
    some_of (Some j) is = (j, refl)

isnt_some : (o : Option ℕ) → is_some o ≡ false → o ≡ None
isnt_some None is = refl
isnt_some (Some j) is = absurd (false≢true (sym is))

module _ (tables : Tables) (commits : List ℕ) (snapshot : SnapshotTaken) (n : ℕ) where
  abbrev numbered : Option ℕ → Option ℕ
  numbered o = above n (option_and_then (number_of (xids_of tables commits)) o)

  -- what a snapshot doesn't see has its number, where the tables' own test tells whether there is one
  pub unseen_is : (o : Option ℕ) → option_map_or (xid_is_changed tables snapshot) o false ≡ is_some (numbered o) → option_and_then (number_unseen commits tables snapshot) o ≡ numbered o
  unseen_is None told = refl
  unseen_is (Some x) told = known (xid_is_changed tables snapshot x)
      (λ is.
      let its = is_above n (number_of (xids_of tables commits) x) (sym told ∙ is) in
      let parts = some_above n its.0 (number_of (xids_of tables commits) x) its.1 in
      ap (λ b. cond b (number_asked x commits) None) is
      ∙ asked_is (xids_of tables commits) x its.0 parts.0 (let lt = parts.1 in omega (arith, lt)) ∙ sym its.1)
      (λ isnt. ap (λ b. cond b (number_asked x commits) None) isnt ∙ sym (isnt_some (numbered (Some x)) (sym told ∙ isnt)))
