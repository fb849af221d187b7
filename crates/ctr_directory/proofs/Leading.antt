-- A map that leads from keys to their places, as one place gets another key, or none.
use Rattle.std.proofs.Common.{◌≡◌, ◌≢◌, ℕ, ◌+◌, ◌<◌, ◌≤◌, ℤ, Bool, true, false, cond, Option, refl, sym, ◌∙◌, ap, arith}
use Rattle.std.specs.Prelude.{◌==◌, ◌&&◌, nat_lt}
use Rattle.std.proofs.lemmas.Bool.{and_parts, eqb-true, eqb-false, eq-eqb, lt-ltb, le-ltb, ltb-true, ltb-false}
use Rattle.indexmap.specs.IndexMap.{IndexMap}
use Rattle.ctr_page.specs.declared.rows.Place.{Place}
use Rattle.ctr_directory.specs.Keys.{KeysLead, with_key, over_slots}

pub by_test : {X : Type 0} (b : Bool) → (b ≡ true → X) → (b ≡ false → X) → X
by_test true = λ yes no. yes refl
by_test false = λ yes no. no refl

pub same_place : (a b : Place) → (a.page ≡ b.page) → (a.slot ≡ b.slot) → a ≡ b
same_place a b page slot =
    let first : a ≡ record { page = b.page; slot = a.slot } = ap (λ (p : ℕ). let r : Place = record { page = p; slot = a.slot } in r) page in
    let second : (let r : Place = record { page = b.page; slot = a.slot } in r) ≡ b = ap (λ (s : ℕ). let r : Place = record { page = b.page; slot = s } in r) slot in
    first ∙ second

-- a map that leads by the same keys
pub leads_same : {S : Type 0} (keys others : ℕ → ℕ → Option ℤ) (m : IndexMap ℤ Place S) → ((p n : ℕ) → others p n ≡ keys p n) → KeysLead keys m → KeysLead others m
leads_same keys others m same leads k q = ((λ is. same q.page q.slot ∙ (leads k q).0 is), λ is. (leads k q).1 (sym (same q.page q.slot) ∙ is))

-- a place that has the key already
pub unchanged : (keys : ℕ → ℕ → Option ℤ) (at : Place) (key : Option ℤ) → keys at.page at.slot ≡ key → (p n : ℕ) → with_key at key keys p n ≡ keys p n
unchanged keys at key has p n =
    by_test ((p == at.page) && (n == at.slot))
    (λ here.
    let both = and_parts (p == at.page) (n == at.slot) here in
    let q : Place = record { page = p; slot = n } in
    ap (λ b. cond b key (keys p n)) here ∙ sym has ∙ ap (λ (x : Place). keys x.page x.slot) (sym (same_place q at (eqb-true p at.page both.0) (eqb-true n at.slot both.1))))
    (λ away. ap (λ b. cond b key (keys p n)) away)

-- a place that gets a key twice has the later one
pub twice : (keys : ℕ → ℕ → Option ℤ) (at : Place) (first second : Option ℤ) (p n : ℕ) → with_key at second keys p n ≡ with_key at second (with_key at first keys) p n
twice keys at first second p n =
    by_test ((p == at.page) && (n == at.slot))
    (λ here. ap (λ b. cond b second (keys p n)) here ∙ sym (ap (λ b. cond b second (with_key at first keys p n)) here))
    (λ away. ap (λ b. cond b second (keys p n)) away ∙ sym (ap (λ b. cond b second (with_key at first keys p n)) away ∙ ap (λ b. cond b first (keys p n)) away))

-- what is there is what it got
pub got : (keys : ℕ → ℕ → Option ℤ) (at : Place) (key : Option ℤ) → with_key at key keys at.page at.slot ≡ key
got keys at key = ap (λ b. cond b key (keys at.page at.slot)) (ap (λ b. b && (at.slot == at.slot)) (eq-eqb at.page at.page refl) ∙ eq-eqb at.slot at.slot refl)

-- one slot more of a page
pub one_slot_more : (number slot : ℕ) (new : ℕ → Option ℤ) (keys : ℕ → ℕ → Option ℤ) (p n : ℕ)
    → over_slots number (slot + 1) new keys p n ≡ with_key (record { page = number; slot = slot }) (new slot) (over_slots number slot new keys) p n
one_slot_more number slot new keys p n =
    by_test (p == number)
    (λ here. by_test (n == slot)
    (λ is.
    let same : n ≡ slot = eqb-true n slot is in
    let less : nat_lt n (slot + 1) ≡ true = lt-ltb n (slot + 1) (omega (arith, same)) in
    ap (λ b. cond b (new n) (keys p n)) (ap (λ b. b && nat_lt n (slot + 1)) here ∙ less)
    ∙ ap new same
    ∙ sym (ap (λ b. cond b (new slot) (over_slots number slot new keys p n)) (ap (λ b. b && (n == slot)) here ∙ is)))
    (λ isnt.
    let same : nat_lt n (slot + 1) ≡ nat_lt n slot = one_less n slot isnt in
    ap (λ b. cond ((p == number) && b) (new n) (keys p n)) same
    ∙ sym (ap (λ b. cond b (new slot) (over_slots number slot new keys p n)) (ap (λ b. b && (n == slot)) here ∙ isnt))))
    (λ away.
    ap (λ b. cond (b && nat_lt n (slot + 1)) (new n) (keys p n)) away
    ∙ sym (ap (λ b. cond (b && (n == slot)) (new slot) (over_slots number slot new keys p n)) away ∙ ap (λ b. cond (b && nat_lt n slot) (new n) (keys p n)) away))
  where
    one_less : (n slot : ℕ) → (n == slot) ≡ false → nat_lt n (slot + 1) ≡ nat_lt n slot
    one_less n slot isnt =
        let differs : n ≢ slot = eqb-false n slot isnt in
        by_test (nat_lt n slot)
        (λ less. let lt : n < slot = ltb-true n slot less in lt-ltb n (slot + 1) (omega (arith, lt)) ∙ sym less)
        (λ no. let le : slot ≤ n = ltb-false n slot no in le-ltb n (slot + 1) (omega (arith, le, differs)) ∙ sym no)

-- none yet
pub none_yet : (number : ℕ) (new : ℕ → Option ℤ) (keys : ℕ → ℕ → Option ℤ) (p n : ℕ) → over_slots number 0 new keys p n ≡ keys p n
none_yet number new keys p n = by_test (p == number)
    (λ here. ap (λ b. cond (b && nat_lt n 0) (new n) (keys p n)) here ∙ ap (λ b. cond b (new n) (keys p n)) (le-ltb n 0 (omega arith)))
    (λ away. ap (λ b. cond (b && nat_lt n 0) (new n) (keys p n)) away)

-- the next one is as it was
pub next_one : (number slot : ℕ) (new : ℕ → Option ℤ) (keys : ℕ → ℕ → Option ℤ) → over_slots number slot new keys number slot ≡ keys number slot
next_one number slot new keys = ap (λ b. cond b (new slot) (keys number slot)) (ap (λ b. b && nat_lt slot slot) (eq-eqb number number refl) ∙ le-ltb slot slot (omega arith))
