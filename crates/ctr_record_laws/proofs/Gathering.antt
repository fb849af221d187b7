-- Slots by key: what stands under a key.
use Rattle.std.proofs.Common.{◌≡◌, ◌⊎◌, ⊎_elim, inl, inr, ℕ, ◌+◌, ◌<◌, ◌≤◌, ℤ, zero, suc, Bool, true, false, cond, List, [], ◌∷◌, map, Some, None, refl, sym, ◌∙◌, ap, arith}
use Rattle.std.proofs.lemmas.Bool.{false≢true, eq-eqb, eqb-true, ne_eqb, and_parts, and_from, cases_lt}
use Rattle.std.specs.Cmp.{int_cmp_total, int_eq_equiv, unsigned_tied, signed_Decides}
use Rattle.std.specs.FinMap.Entries.{find, put, find-put, is_sorted, is_sorted-put}
use Rattle.std.specs.Ordering.{nat_cmp, int_cmp, int_eq}
use Rattle.std.specs.Prelude.{◌==◌, ◌&&◌, T}
use Rattle.ctr_area.specs.Areas.{Slot, Older}
use Rattle.ctr_area.specs.Chains.{chain_of}
use Rattle.ctr_area.specs.Images.{rows_gathered, numbers}
use Rattle.ctr_area.specs.Sound.{IsAmong}
use Rattle.ctr_record_laws.proofs.Fitting.{alone}
use Rattle.ctr_area.specs.ctr_page.declared.rows.Place.{Place}
use Rattle.ctr_area.proofs.ctr_versions.Keys.{known}

-- the slot is used and has the key
abbrev pub matches : (Place → Slot) → ℤ → Place → Bool
matches slot k at = (slot at).used && int_eq k (slot at).key

pub is_match : (slot : Place → Slot) (k : ℤ) (at : Place) → (slot at).used ≡ true → (slot at).key ≡ k → matches slot k at ≡ true
is_match slot k at used key = and_from (slot at).used (int_eq k (slot at).key) used (ap (int_eq k) key ∙ int_eq_equiv.refl k)

pub match_used : (slot : Place → Slot) (k : ℤ) (at : Place) → matches slot k at ≡ true → (slot at).used ≡ true
match_used slot k at is = (and_parts (slot at).used (int_eq k (slot at).key) is).0

pub match_key : (slot : Place → Slot) (k : ℤ) (at : Place) → matches slot k at ≡ true → (slot at).key ≡ k
match_key slot k at is = sym ((signed_Decides k (slot at).key).0 (and_parts (slot at).used (int_eq k (slot at).key) is).1)

pub sorted-gathered : (older : Place → Older) (slot : Place → Slot) (places : List Place) → T (is_sorted int_cmp (rows_gathered older slot places))
sorted-gathered older slot [] = tt
sorted-gathered older slot (at ∷ places) =
    let rest = sorted-gathered older slot places in
    elim (slot at).used as (λ b. T (is_sorted int_cmp (cond b (put int_cmp (slot at).key (chain_of older (slot at)) (rows_gathered older slot places)) (rows_gathered older slot places)))) [
      | true ↦ is_sorted-put int_cmp int_cmp_total (slot at).key (chain_of older (slot at)) (rows_gathered older slot places) rest
      | false ↦ rest
    ]

pub found_step : (older : Place → Older) (slot : Place → Slot) (k : ℤ) (at : Place) (places : List Place)
    → find int_cmp k (rows_gathered older slot (at ∷ places)) ≡ cond (matches slot k at) (Some (chain_of older (slot at))) (find int_cmp k (rows_gathered older slot places))
found_step older slot k at places =
    elim (slot at).used as (λ b. find int_cmp k (cond b (put int_cmp (slot at).key (chain_of older (slot at)) (rows_gathered older slot places)) (rows_gathered older slot places))
    ≡ cond (b && int_eq k (slot at).key) (Some (chain_of older (slot at))) (find int_cmp k (rows_gathered older slot places))) [
      | true ↦ find-put int_cmp int_cmp_total k (slot at).key (chain_of older (slot at)) (rows_gathered older slot places)
      | false ↦ refl
    ]

-- the slot that alone has the key
pub found_here : (older : Place → Older) (slot : Place → Slot) (k : ℤ) (places : List Place) (at : Place) → IsAmong at places → matches slot k at ≡ true
    → ((b : Place) → IsAmong b places → matches slot k b ≡ true → b ≡ at) → find int_cmp k (rows_gathered older slot places) ≡ Some (chain_of older (slot at))
found_here older slot k [] at here is alone = absurd here
found_here older slot k (b ∷ bs) at here is alone =
    found_step older slot k b bs ∙ known (matches slot k b)
    (λ yes_. ap (λ m. cond m (Some (chain_of older (slot b))) (find int_cmp k (rows_gathered older slot bs))) yes_ ∙ ap (λ b. Some (chain_of older (slot b))) (alone b (inl refl) yes_))
    (λ no_. ap (λ m. cond m (Some (chain_of older (slot b))) (find int_cmp k (rows_gathered older slot bs))) no_
    ∙ ⊎_elim (λ same_. absurd (false≢true (sym no_ ∙ ap (matches slot k) (sym same_) ∙ is))) (λ in_rest. found_here older slot k bs at in_rest is (λ c in_ yes_. alone c (inr in_) yes_)) here)

pub none_found : (older : Place → Older) (slot : Place → Slot) (k : ℤ) (places : List Place) → ((b : Place) → IsAmong b places → matches slot k b ≡ false) → find int_cmp k (rows_gathered older slot places) ≡ None
none_found older slot k [] none = refl
none_found older slot k (b ∷ bs) none = found_step older slot k b bs ∙ (λ i. cond (none b (inl refl) i) (Some (chain_of older (slot b))) (none_found older slot k bs (λ c in_. none c (inr in_)) i))

-- slots that are the same as far as the key goes
pub same_found : (older other : Place → Older) (slot slots : Place → Slot) (k : ℤ) (places : List Place)
    → ((at : Place) → IsAmong at places → matches slots k at ≡ matches slot k at)
    → ((at : Place) → IsAmong at places → matches slot k at ≡ true → chain_of other (slots at) ≡ chain_of older (slot at))
    → find int_cmp k (rows_gathered other slots places) ≡ find int_cmp k (rows_gathered older slot places)
same_found older other slot slots k [] tests chains = refl
same_found older other slot slots k (b ∷ bs) tests chains =
    let rest = same_found older other slot slots k bs (λ c in_. tests c (inr in_)) (λ c in_. chains c (inr in_)) in
    found_step other slots k b bs ∙ (λ i. cond (tests b (inl refl) i) (Some (chain_of other (slots b))) (rest i))
    ∙ known (matches slot k b)
    (λ yes_. ap (λ c. cond (matches slot k b) (Some c) (find int_cmp k (rows_gathered older slot bs))) (chains b (inl refl) yes_))
    (λ no_. ap (λ m. cond m (Some (chain_of other (slots b))) (find int_cmp k (rows_gathered older slot bs))) no_ ∙ sym (ap (λ m. cond m (Some (chain_of older (slot b))) (find int_cmp k (rows_gathered older slot bs))) no_))
    ∙ sym (found_step older slot k b bs)

-- version entry_numbers that no used slot leads to don't matter
pub same_gathered : (older other : Place → Older) (slot : Place → Slot) (places : List Place) → ((at : Place) → IsAmong at places → (slot at).used ≡ true → chain_of other (slot at) ≡ chain_of older (slot at))
    → rows_gathered other slot places ≡ rows_gathered older slot places
same_gathered older other slot [] chains = refl
same_gathered older other slot (b ∷ bs) chains =
    let rest = same_gathered older other slot bs (λ c in_. chains c (inr in_)) in
    known (slot b).used
    (λ is. ap (λ m. cond m (put int_cmp (slot b).key (chain_of other (slot b)) (rows_gathered other slot bs)) (rows_gathered other slot bs)) is
    ∙ (λ i. put int_cmp (slot b).key (chains b (inl refl) is i) (rest i))
    ∙ sym (ap (λ m. cond m (put int_cmp (slot b).key (chain_of older (slot b)) (rows_gathered older slot bs)) (rows_gathered older slot bs)) is))
    (λ is. ap (λ m. cond m (put int_cmp (slot b).key (chain_of other (slot b)) (rows_gathered other slot bs)) (rows_gathered other slot bs)) is ∙ rest
    ∙ sym (ap (λ m. cond m (put int_cmp (slot b).key (chain_of older (slot b)) (rows_gathered older slot bs)) (rows_gathered older slot bs)) is))

-- ---- by number

module _ {V : Type 0} (f : ℕ → V) where
  numbered_step : (i k n : ℕ) → find nat_cmp i (map (λ e. (e, f e)) (numbers k (suc n))) ≡ cond (i == k) (Some (f k)) (find nat_cmp i (map (λ e. (e, f e)) (numbers (k + 1) n)))
  numbered_step i k n = ap (λ b. cond b (Some (f k)) (find nat_cmp i (map (λ e. (e, f e)) (numbers (k + 1) n)))) (unsigned_tied i k)

  pub numbered_past : (i k n : ℕ) → i < k ⊎ k + n ≤ i → find nat_cmp i (map (λ e. (e, f e)) (numbers k n)) ≡ None
  numbered_past i k zero past = refl
  numbered_past i k (suc n) past =
      numbered_step i k n ∙ ap (λ b. cond b (Some (f k)) (find nat_cmp i (map (λ e. (e, f e)) (numbers (k + 1) n)))) (ne_eqb i k (λ same_. ⊎_elim (λ lt. omega (arith, lt, same_)) (λ le. omega (arith, le, same_)) past))
      ∙ numbered_past i (k + 1) n (⊎_elim (λ lt. inl (omega (arith, lt))) (λ le. inr (omega (arith, le))) past)

  pub numbered_here : (i k n : ℕ) → k ≤ i → i < k + n → find nat_cmp i (map (λ e. (e, f e)) (numbers k n)) ≡ Some (f i)
  numbered_here i k zero from to = absurd (omega (arith, from, to))
  numbered_here i k (suc n) from to =
      numbered_step i k n ∙ known (i == k)
      (λ is. ap (λ b. cond b (Some (f k)) (find nat_cmp i (map (λ e. (e, f e)) (numbers (k + 1) n)))) is ∙ ap (λ k. Some (f k)) (sym (eqb-true i k is)))
      (λ is. ap (λ b. cond b (Some (f k)) (find nat_cmp i (map (λ e. (e, f e)) (numbers (k + 1) n)))) is
      ∙ numbered_here i (k + 1) n (⊎_elim (λ lt. omega (arith, lt)) (λ le. absurd (false≢true (sym is ∙ eq-eqb i k (omega (arith, le, from))))) (cases_lt k i)) (omega (arith, to)))
