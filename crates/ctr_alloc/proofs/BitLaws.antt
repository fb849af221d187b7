-- The bits of page 0: what a bit says of its page.
use Rattle.std.proofs.Common.{◌≡◌, ◌≢◌, ⊎_elim, ℕ, ◌+◌, ◌*◌, ◌/◌, ◌%◌, ◌<◌, ◌≤◌, Bool, true, cond, List, length, slice_index, sym, ◌∙◌, ap, subst, arith, set}
use Rattle.std.specs.Prelude.{◌==◌}
use Rattle.std.specs.Int.{w8, bit_at, trailing_ones}
use Rattle.std.specs.Int.Bits.{bit_or}
use Rattle.std.proofs.lemmas.Bool.{eqb-true, eqb-false, cases_lt}
use Rattle.std.proofs.lemmas.Nat.Bits.{bit_at_or, bit_at_ones, bit_at_ones_above, bit_at-lt, bit_at-trailing_ones}
use Rattle.ctr_actions.proofs.versions_Keys.{known}
use Rattle.ctr_actions.specs.area_Reading.{has_bit, is_taken, area_of}
use Rattle.ctr_actions.specs.area_Changes.{IsBitSet, with_taken, with_byte_of}
use Rattle.ctr_actions.proofs.area_Marked.{bit_written}
use Rattle.ctr_alloc.specs.declared.search.NextFree.{NextFree}
use Rattle.ctr_alloc.specs.declared.search.NextFree.TheVariants.{Page, Grow, Full}
use Rattle.ctr_alloc.specs.Free.{marks_in, AreFullBelow, AreTakenBelow, IsFree, IsNextFree, MayBeNext, taken_in}

-- one bit is as wanted, the others are as before
pub bit_set : (k : ℕ) (taken : Bool) (old new : ℕ) → has_bit k new ≡ taken → ((i : ℕ) → i < 8 → i ≢ k → bit_at new i ≡ bit_at old i) → IsBitSet k taken old new
bit_set k taken old new there others = λ j few. known (j == k)
    (λ is. ap (λ m. has_bit m new) (eqb-true j k is) ∙ there ∙ sym (ap (λ b. cond b taken (has_bit j old)) is))
    (λ isnt. ap (λ n. n == 1) (others j few (eqb-false j k isnt)) ∙ sym (ap (λ b. cond b taken (has_bit j old)) isnt))

-- over page 0, wherever it stands
pub bit_over : (pages : ℕ → List ℕ) (page : List ℕ) (p byte : ℕ) (taken : Bool) → pages 0 ≡ page → p / 8 < length page → IsBitSet (p % 8) taken (slice_index page (p / 8)) byte
    → area_of (with_byte_of p byte pages) ≡ with_taken p taken (area_of pages)
bit_over pages page p byte taken is inside set =
    bit_written pages p byte taken (subst (λ l. p / 8 < length l) (sym is) inside) (subst (λ l. IsBitSet (p % 8) taken (slice_index l (p / 8)) byte) (sym is) set)

-- the lowest bit that is 0 in a byte that isn't full, by its place among all
pub lowest_zero : (at n byte ones : ℕ) → byte ≡ n → ones ≡ trailing_ones w8 byte → n < 255 → (bit_at n ((at * 8 + ones) % 8) ≡ 0) × ((k : ℕ) → k < (at * 8 + ones) % 8 → bit_at n k ≡ 1)
lowest_zero at n byte ones is count some =
    let lowest = bit_at-trailing_ones w8 n (omega (arith, some)) in
    let same : trailing_ones w8 n ≡ ones = ap (trailing_ones w8) (sym is) ∙ sym count in
    let small : ones < 8 = subst (λ t. t < 8) same lowest.0 in
    let place : ones ≡ (at * 8 + ones) % 8 = omega (arith, small) in
    subst (λ t. (bit_at n t ≡ 0) × ((k : ℕ) → k < t → bit_at n k ≡ 1)) (same ∙ place) (lowest.1, lowest.2)

-- ---- the pages 0, 1 and 2

-- behind them a bit counts as it stands
pub same_mark : (page : List ℕ) (q : ℕ) → 3 ≤ q → bit_at (marks_in page (q / 8)) (q % 8) ≡ bit_at (slice_index page (q / 8)) (q % 8)
same_mark page q third = known (q / 8 == 0)
    (λ is. ap (λ b. bit_at (cond b (bit_or (slice_index page (q / 8)) 7) (slice_index page (q / 8))) (q % 8)) is
    ∙ bit_at_or (slice_index page (q / 8)) 7 (q % 8) ∙ omega (arith, bit_at_ones_above 3 (q % 8) (high (eqb-true (q / 8) 0 is))))
    (λ isnt. ap (λ b. bit_at (cond b (bit_or (slice_index page (q / 8)) 7) (slice_index page (q / 8))) (q % 8)) isnt)
  where
    high : q / 8 ≡ 0 → 3 ≤ q % 8
    high is = omega (arith, is, third)

-- theirs count as 1
pub low_mark : (page : List ℕ) (k : ℕ) → k < 3 → bit_at (marks_in page 0) k ≡ 1
low_mark page k low = bit_at_or (slice_index page 0) 7 k ∙ omega (arith, bit_at_ones 3 k low, bit_at-lt (slice_index page 0) k)

-- ---- what bits say

pub taken_by : (page : List ℕ) (q : ℕ) → 3 ≤ q → bit_at (marks_in page (q / 8)) (q % 8) ≡ 1 → is_taken q page ≡ true
taken_by page q third one = ap (λ n. n == 1) (sym (same_mark page q third) ∙ one)

pub free_by : (page : List ℕ) (q : ℕ) → bit_at (marks_in page (q / 8)) (q % 8) ≡ 0 → IsFree (taken_in page) q
free_by page q none = (third, ap (λ n. n == 1) (sym (same_mark page q third) ∙ none))
  where
    third : 3 ≤ q
    third = ⊎_elim
        (λ low. absurd (let e : 1 ≡ 0 = sym (low_mark page (q % 8) (omega (arith, low))) ∙ ap (λ at. bit_at (marks_in page at) (q % 8)) (first low) ∙ none in omega (arith, e)))
        (λ le. le) (cases_lt q 3)
      where
        first : q < 3 → 0 ≡ q / 8
        first low = omega (arith, low)

-- a full byte has eight bits that are 1
pub full_byte : (page : List ℕ) (q : ℕ) → 3 ≤ q → marks_in page (q / 8) ≡ 255 → is_taken q page ≡ true
full_byte page q third full = taken_by page q third (ap (λ b. bit_at b (q % 8)) full ∙ bit_at_ones 8 (q % 8) (omega arith))

-- ---- a search

-- no page below a byte's lowest 0 is free
pub taken_to : (page : List ℕ) (at p : ℕ) → AreFullBelow page at → p / 8 ≡ at → ((k : ℕ) → k < p % 8 → bit_at (marks_in page at) k ≡ 1) → AreTakenBelow p (taken_in page)
taken_to page at p full place first = λ q third lt. ⊎_elim
    (λ before. full_byte page q third (full (q / 8) before))
    (λ last. taken_by page q third (ap (λ b. bit_at (marks_in page b) (q % 8)) (same q lt last) ∙ first (q % 8) (omega (arith, lt, last, place))))
    (cases_lt (q / 8) at)
  where
    same : (q : ℕ) → q < p → at ≤ q / 8 → q / 8 ≡ at
    same q lt last = omega (arith, lt, last, place)

-- nor below an end where all bytes before it are full
pub taken_all : (page : List ℕ) (end bytes : ℕ) → bytes ≡ (end + 7) / 8 → AreFullBelow page bytes → AreTakenBelow end (taken_in page)
taken_all page end bytes is full = λ q third lt. full_byte page q third (full (q / 8) (omega (arith, lt, is)))

-- whatever the bits say
pub may_be_next : (counted : ℕ) (taken : ℕ → Bool) (next : NextFree) → IsNextFree counted taken next → MayBeNext counted next
may_be_next counted taken (Page p) is = (is.0.0, is.1)
may_be_next counted taken Grow is = is.1
may_be_next counted taken Full is = is.1
