-- The last change of a name that entries tell is that of the model.
use Rattle.std.proofs.Common.{◌≡◌, ℕ, ◌<◌, ◌≤◌, true, List, Option, Some, None, refl, sym, ◌∙◌, ap, arith}
use Rattle.std.specs.Prelude.{is_some, option_and_then}
use Rattle.std.proofs.lemmas.Bool.{false≢true}
use Rattle.ctr_snap.specs.Seeing.{SnapshotTaken}
use Rattle.ctr_versions.specs.Chains.{above}
use Rattle.ctr_versions.specs.Xids.{Xids, number_of}
use Rattle.ctr_wishes.specs.actions_Sites.{Site}
use Rattle.ctr_wishes.specs.ctr_reading.catalog_Finding.{changed_in}
use Rattle.ctr_txn.specs.paged_Paged.{xids_of}
use Rattle.ctr_txn.specs.Numbered.{number_asked}
use Rattle.ctr_asking.specs.Causes.{change_number, last_change}
use Rattle.ctr_asking.proofs.Greatest.{last_is, last_most}
use Rattle.ctr_asking.proofs.Numbers.{asked_is, one_number, some_above, then_some}

module _ (commits : List ℕ) (site : Site) (snapshot : SnapshotTaken) (name : List ℕ) (n : ℕ) (since : Option ℕ) where
  abbrev xids : Xids
  xids = xids_of site.tables commits

  abbrev changed : ℕ → Option ℕ
  changed e = changed_in site.tables snapshot name site.area e

  abbrev number : ℕ → Option ℕ
  number x = above n (number_of xids x)

  module _ (newest : (k : ℕ) → since ≡ Some k → (e : ℕ) × (e < 32) × (x : ℕ) × (changed e ≡ Some x) × (number x ≡ Some k))
      (most : (e x : ℕ) → e < 32 → changed e ≡ Some x → (j : ℕ) × (number x ≡ Some j) × ((k : ℕ) → since ≡ Some k → j ≤ k))
      (some : (e x : ℕ) → e < 32 → changed e ≡ Some x → is_some since ≡ true) where
    -- what is told of an entry is somebody's
    told : (e k : ℕ) → change_number commits site snapshot name e ≡ Some k → (x : ℕ) × (changed e ≡ Some x) × (number_asked x commits ≡ Some k)
    told e k is = then_some (λ x. number_asked x commits) (changed e) k is

    none_told : since ≡ None → (o : Option ℕ) → last_change commits site snapshot name 32 ≡ o → o ≡ None
    none_told none None is = refl
    none_told none (Some k) is =
        let at = last_is commits site snapshot name 32 k is in
        let its = told at.0 k at.2 in
        absurd (false≢true (sym (ap is_some none) ∙ some at.0 its.0 at.1 its.1))

    -- none is later than the model's
    no_later : (k m : ℕ) → since ≡ Some k → last_change commits site snapshot name 32 ≡ Some m → m ≤ k
    no_later k m is last =
        let at = last_is commits site snapshot name 32 m last in
        let its = told at.0 m at.2 in
        let bound = most at.0 its.0 at.1 its.1 in
        let same = one_number xids its.0 bound.0 m (some_above n bound.0 (number_of xids its.0) bound.1).0 its.2 in
        let le = bound.2 k is in
        omega (arith, same, le)

    one_told : (k : ℕ) → since ≡ Some k → last_change commits site snapshot name 32 ≡ Some k
    one_told k is =
        let at = newest k is in
        let parts = some_above n k (number_of xids at.2) at.4 in
        let here : change_number commits site snapshot name at.0 ≡ Some k = ap (option_and_then (λ x. number_asked x commits)) at.3 ∙ asked_is xids at.2 k parts.0 (let lt = parts.1 in omega (arith, lt)) in
        let last = last_most commits site snapshot name 32 at.0 k at.1 here in
        let le = no_later k last.0 is last.1 in
        let ge = last.2 in
        let same : last.0 ≡ k = omega (arith, le, ge) in
        last.1 ∙ ap (λ m. Some m) same

    pub last_is_the_models : last_change commits site snapshot name 32 ≡ since
    last_is_the_models = by_since since refl
      where
        by_since : (o : Option ℕ) → since ≡ o → last_change commits site snapshot name 32 ≡ since
        by_since None is = none_told is (last_change commits site snapshot name 32) refl ∙ sym is
        by_since (Some k) is = one_told k is ∙ sym is
