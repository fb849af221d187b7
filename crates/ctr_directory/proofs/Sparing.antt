-- The pages that may have a free slot, as one page more is read, or one has other bytes.
use Rattle.std.proofs.Common.{◌≡◌, ◌≢◌, ℕ, true, false, cond, List, [], ◌∷◌, length, refl, sym, ◌∙◌, ap, subst}
use Rattle.std.specs.Prelude.{◌==◌, nat_eq}
use Rattle.std.specs.List.{list_any}
use Rattle.std.proofs.lemmas.Bool.{false≢true, eqb-true, eqb-false}
use Rattle.indexmap.specs.IndexSet.{IndexSet, contains, index_set_len}
use Rattle.ctr_rec.specs.types_Kind.{Kind}
use Rattle.ctr_directory.specs.Keys.{AllUsed}
use Rattle.ctr_directory.specs.Chains.{SparesTell}
use Rattle.ctr_directory.proofs.Leading.{by_test}

module _ {S T : Type 0} (set : IndexSet ℕ S) (old new : IndexSet ℕ T) (kinds : List Kind) (number : ℕ) (others : (q : ℕ) → q ≢ number → contains nat_eq new q ≡ contains nat_eq old q) where
  -- one page more
  pub spares_added : (more : IndexSet ℕ S) (pages : ℕ → List ℕ) → ((q : ℕ) → contains nat_eq more q ≡ cond (number == q) true (contains nat_eq set q)) → (contains nat_eq new number ≡ false → AllUsed kinds (pages number))
      → SparesTell set old kinds pages → SparesTell more new kinds pages
  spares_added more pages added full tell p in_ out =
      by_test (number == p)
      (λ yes. let here = eqb-true number p yes in subst (λ q. AllUsed kinds (pages q)) here (full (ap (λ q. contains nat_eq new q) here ∙ out)))
      (λ no.
      let apart : p ≢ number = λ is. eqb-false number p no (sym is) in
      tell p (sym (added p ∙ ap (λ b. cond b true (contains nat_eq set p)) no) ∙ in_) (sym (others p apart) ∙ out))

-- one of them has other bytes
pub spares_changed : {S T : Type 0} (set : IndexSet ℕ S) (old new : IndexSet ℕ T) (kinds : List Kind) (a b : ℕ → List ℕ) (number : ℕ) (after : List ℕ) → b number ≡ after → ((p : ℕ) → p ≢ number → b p ≡ a p)
    → (contains nat_eq new number ≡ false → AllUsed kinds after) → ((q : ℕ) → q ≢ number → contains nat_eq new q ≡ contains nat_eq old q) → SparesTell set old kinds a → SparesTell set new kinds b
spares_changed set old new kinds a b number after is stay full others tell p in_ out =
    by_test (p == number)
    (λ yes.
    let here = eqb-true p number yes in
    subst (λ page. AllUsed kinds page) (sym (ap b here ∙ is)) (full (ap (λ q. contains nat_eq new q) (sym here) ∙ out)))
    (λ no. let apart = eqb-false p number no in subst (λ page. AllUsed kinds page) (sym (stay p apart)) (tell p in_ (sym (others p apart) ∙ out)))

-- none of them has
pub spares_apart : {S T : Type 0} (set : IndexSet ℕ S) (spare : IndexSet ℕ T) (kinds : List Kind) (a b : ℕ → List ℕ) (number : ℕ) → contains nat_eq set number ≡ false → ((p : ℕ) → p ≢ number → b p ≡ a p) → SparesTell set spare kinds a → SparesTell set spare kinds b
spares_apart set spare kinds a b number isnt stay tell p in_ out =
    let apart : p ≢ number = λ is. false≢true (sym (ap (λ q. contains nat_eq set q) is ∙ isnt) ∙ in_) in
    subst (λ page. AllUsed kinds page) (sym (stay p apart)) (tell p in_ out)

-- an empty set has none
pub none_is_in : {T : Type 0} (spare : IndexSet ℕ T) → index_set_len spare ≡ 0 → (p : ℕ) → contains nat_eq spare p ≡ false
none_is_in spare none p = by spare.keys none
  where
    by : (ks : List ℕ) → length ks ≡ 0 → list_any (nat_eq p) ks ≡ false
    by [] is = refl
    by (k ∷ ks) is = absurd (cc is)
