-- The keys of the pages that are remembered, as one page more is, or one has other bytes.
use Rattle.std.proofs.Common.{◌≡◌, ◌≢◌, ℕ, ◌<◌, Bool, true, false, cond, List, [], None, Some, refl, sym, ◌∙◌, ap}
use Rattle.std.specs.Prelude.{◌==◌, ◌&&◌, nat_eq, nat_lt, not, ℤ}
use Rattle.std.proofs.lemmas.Bool.{eqb-true, eqb-false, eq-eqb, ne_eqb, lt-ltb}
use Rattle.std.specs.List.{list_any}
use Rattle.std.specs.Map.{lookup}
use Rattle.std.specs.Ordering.{int_eq}
use Rattle.indexmap.specs.IndexSet.{IndexSet, contains}
use Rattle.indexmap.specs.IndexMap.{IndexMap, get}
use Rattle.ctr_page.specs.declared.rows.Place.{Place}
use Rattle.ctr_rec.specs.types_Kind.{Kind}
use Rattle.ctr_directory.specs.Keys.{key_on, slots_of_kinds, over_slots, KeysLead}
use Rattle.ctr_directory.specs.Chains.{keys_in}
use Rattle.ctr_directory.proofs.Leading.{by_test}

pub not_there : (b : Bool) → true ≡ not b → b ≡ false
not_there true is = absurd cc
not_there false is = refl

module _ {S : Type 0} (old : IndexSet ℕ S) (kinds : List Kind) (pages : ℕ → List ℕ) where
  -- a page that isn't among them has no key
  pub no_key : (p n : ℕ) → contains nat_eq old p ≡ false → keys_in old kinds pages p n ≡ None
  no_key p n isnt = ap (λ b. cond (b && nat_lt n (slots_of_kinds kinds)) (key_on kinds n (pages p)) None) isnt

  -- one that is has those of its slots
  pub its_key : (p n : ℕ) → contains nat_eq old p ≡ true → n < slots_of_kinds kinds → keys_in old kinds pages p n ≡ key_on kinds n (pages p)
  its_key p n is lt = ap (λ b. cond (b && nat_lt n (slots_of_kinds kinds)) (key_on kinds n (pages p)) None) is ∙ ap (λ b. cond b (key_on kinds n (pages p)) None) (lt-ltb n (slots_of_kinds kinds) lt)

  -- one page more
  pub page_added : (new : IndexSet ℕ S) (number : ℕ) → ((q : ℕ) → contains nat_eq new q ≡ cond (nat_eq number q) true (contains nat_eq old q)) → contains nat_eq old number ≡ false
      → (p n : ℕ) → keys_in new kinds pages p n ≡ over_slots number (slots_of_kinds kinds) (λ k. key_on kinds k (pages number)) (keys_in old kinds pages) p n
  page_added new number added isnt p n =
      by_test (number == p)
      (λ yes.
      let same : number ≡ p = eqb-true number p yes in
      let back : (p == number) ≡ true = eq-eqb p number (sym same) in
      let there : contains nat_eq new p ≡ true = added p ∙ ap (λ b. cond b true (contains nat_eq old p)) yes in
      ap (λ b. cond (b && nat_lt n (slots_of_kinds kinds)) (key_on kinds n (pages p)) None) there
      ∙ sym (ap (λ b. cond (b && nat_lt n (slots_of_kinds kinds)) (key_on kinds n (pages number)) (keys_in old kinds pages p n)) back
      ∙ ap (λ q. cond (nat_lt n (slots_of_kinds kinds)) (key_on kinds n (pages q)) (keys_in old kinds pages p n)) same
      ∙ ap (λ o. cond (nat_lt n (slots_of_kinds kinds)) (key_on kinds n (pages p)) o) (no_key p n (ap (λ q. contains nat_eq old q) (sym same) ∙ isnt))))
      (λ no.
      let away : (p == number) ≡ false = ne_eqb p number (λ is. eqb-false number p no (sym is)) in
      let there : contains nat_eq new p ≡ contains nat_eq old p = added p ∙ ap (λ b. cond b true (contains nat_eq old p)) no in
      ap (λ b. cond (b && nat_lt n (slots_of_kinds kinds)) (key_on kinds n (pages p)) None) there
      ∙ sym (ap (λ b. cond (b && nat_lt n (slots_of_kinds kinds)) (key_on kinds n (pages number)) (keys_in old kinds pages p n)) away))

  -- one that is among them has other bytes
  pub page_changed : (others : ℕ → List ℕ) (number : ℕ) → contains nat_eq old number ≡ true → ((p : ℕ) → p ≢ number → others p ≡ pages p)
      → (p n : ℕ) → keys_in old kinds others p n ≡ over_slots number (slots_of_kinds kinds) (λ k. key_on kinds k (others number)) (keys_in old kinds pages) p n
  page_changed others number is same p n =
      by_test (p == number)
      (λ yes.
      let here : p ≡ number = eqb-true p number yes in
      let there : contains nat_eq old p ≡ true = ap (λ q. contains nat_eq old q) here ∙ is in
      by_test (nat_lt n (slots_of_kinds kinds))
      (λ low.
      ap (λ b. cond b (key_on kinds n (others p)) None) (ap (λ b. b && nat_lt n (slots_of_kinds kinds)) there ∙ low)
      ∙ ap (λ q. key_on kinds n (others q)) here
      ∙ sym (ap (λ b. cond b (key_on kinds n (others number)) (keys_in old kinds pages p n)) (ap (λ b. b && nat_lt n (slots_of_kinds kinds)) yes ∙ low)))
      (λ high.
      ap (λ b. cond b (key_on kinds n (others p)) None) (ap (λ b. b && nat_lt n (slots_of_kinds kinds)) there ∙ high)
      ∙ sym (ap (λ b. cond b (key_on kinds n (others number)) (keys_in old kinds pages p n)) (ap (λ b. b && nat_lt n (slots_of_kinds kinds)) yes ∙ high)
      ∙ ap (λ b. cond b (key_on kinds n (pages p)) None) (ap (λ b. b && nat_lt n (slots_of_kinds kinds)) there ∙ high))))
      (λ no.
      ap (λ page. cond (contains nat_eq old p && nat_lt n (slots_of_kinds kinds)) (key_on kinds n page) None) (same p (eqb-false p number no))
      ∙ sym (ap (λ b. cond (b && nat_lt n (slots_of_kinds kinds)) (key_on kinds n (others number)) (keys_in old kinds pages p n)) no))

  -- none that is among them has
  pub page_elsewhere : (others : ℕ → List ℕ) (number : ℕ) → contains nat_eq old number ≡ false → ((p : ℕ) → p ≢ number → others p ≡ pages p) → (p n : ℕ) → keys_in old kinds others p n ≡ keys_in old kinds pages p n
  page_elsewhere others number isnt same p n =
      by_test (p == number)
      (λ yes.
      let away : contains nat_eq old p ≡ false = ap (λ q. contains nat_eq old q) (eqb-true p number yes) ∙ isnt in
      ap (λ b. cond (b && nat_lt n (slots_of_kinds kinds)) (key_on kinds n (others p)) None) away ∙ sym (no_key p n away))
      (λ no. ap (λ page. cond (contains nat_eq old p && nat_lt n (slots_of_kinds kinds)) (key_on kinds n page) None) (same p (eqb-false p number no)))

-- where nothing is remembered, no key is
pub none_there : {S T : Type 0} (set : IndexSet ℕ S) (places : IndexMap ℤ Place T) (kinds : List Kind) (pages : ℕ → List ℕ) → set.keys ≡ [] → places.entries ≡ [] → KeysLead (keys_in set kinds pages) places
none_there set places kinds pages no_page no_place k q =
    let isnt : contains nat_eq set q.page ≡ false = ap (λ ks. list_any (nat_eq q.page) ks) no_page in
    let nowhere : get int_eq places k ≡ None = ap (λ (es : List (ℤ × Place)). lookup (int_eq k) es) no_place in (
      (λ is. absurd (let e : None ≡ Some q = sym nowhere ∙ is in cc)),
      λ is. absurd (let e : None ≡ Some k = sym (no_key set kinds pages q.page q.slot isnt) ∙ is in cc),
    )
