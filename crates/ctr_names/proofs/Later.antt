-- Which of two titles was dropped later, and which is newer.
use Rattle.std.proofs.Common.{Bool, ap, arith, cond, false, not, refl, sym, true, ℕ, ⊎_elim, ◌<◌, ◌==◌, ◌∙◌, ◌≡◌, ◌≤◌}
use Rattle.std.specs.Prelude.{nat_lt, ◌&&◌, ◌||◌}
use Rattle.std.proofs.Math.Bool.{and-false, or-true}
use Rattle.std.proofs.lemmas.Bool.{and_parts, cases_lt, eq-eqb, false≢true, le-ltb, lt-ltb, ne_eqb, true≢false}
use Rattle.ctr_record_laws.proofs.versions_Keys.{known}
use Rattle.ctr_record_laws.specs.area_Areas.{Title}
use Rattle.ctr_record_laws.specs.area_Images.{is_dropped_later, is_newer}

-- ---- dropped later

-- who wasn't dropped
pub later_none : (a b : Title) → a.dropper ≡ 0 → is_dropped_later a b ≡ true
later_none a b none = ap (λ c. c || (not (b.dropper == 0) && (nat_lt b.dropper a.dropper || ((a.dropper == b.dropper) && (a.creator == a.dropper))))) (eq-eqb a.dropper 0 none)

pub earlier_none : (a b : Title) → (a.dropper ≡ 0 → ⊥) → b.dropper ≡ 0 → is_dropped_later a b ≡ false
earlier_none a b some none = λ i. ne_eqb a.dropper 0 some i || (not (eq-eqb b.dropper 0 none i) && (nat_lt b.dropper a.dropper || ((a.dropper == b.dropper) && (a.creator == a.dropper))))

-- by the number of who dropped it
pub later_than : (a b : Title) → (b.dropper ≡ 0 → ⊥) → b.dropper < a.dropper → is_dropped_later a b ≡ true
later_than a b some lt =
    (λ i. (a.dropper == 0) || (not (ne_eqb b.dropper 0 some i) && (lt-ltb b.dropper a.dropper lt i || ((a.dropper == b.dropper) && (a.creator == a.dropper))))) ∙ or-true (a.dropper == 0)

pub earlier_than : (a b : Title) → (a.dropper ≡ 0 → ⊥) → a.dropper < b.dropper → is_dropped_later a b ≡ false
earlier_than a b some lt =
    (λ i. ne_eqb a.dropper 0 some i || (not (b.dropper == 0) && (le-ltb b.dropper a.dropper (omega (arith, lt)) i || (ne_eqb a.dropper b.dropper (λ is. omega (arith, lt, is)) i && (a.creator == a.dropper))))) ∙ and-false (not (b.dropper == 0))

-- of two that one transaction dropped: the one that it made itself
pub later_own : (a b : Title) → (b.dropper ≡ 0 → ⊥) → a.dropper ≡ b.dropper → a.creator ≡ a.dropper → is_dropped_later a b ≡ true
later_own a b some same own =
    (λ i. (a.dropper == 0) || (not (ne_eqb b.dropper 0 some i) && (nat_lt b.dropper a.dropper || (eq-eqb a.dropper b.dropper same i && eq-eqb a.creator a.dropper own i))))
    ∙ ap (λ b. (a.dropper == 0) || b) (or-true (nat_lt b.dropper a.dropper)) ∙ or-true (a.dropper == 0)

pub earlier_other : (a b : Title) → (a.dropper ≡ 0 → ⊥) → a.dropper ≡ b.dropper → (a.creator ≡ a.dropper → ⊥) → is_dropped_later a b ≡ false
earlier_other a b some same other =
    (λ i. ne_eqb a.dropper 0 some i || (not (b.dropper == 0) && (le-ltb b.dropper a.dropper (omega (arith, same)) i || ((a.dropper == b.dropper) && ne_eqb a.creator a.dropper other i))))
    ∙ ap (λ c. not (b.dropper == 0) && c) (and-false (a.dropper == b.dropper)) ∙ and-false (not (b.dropper == 0))

-- ---- newer

module _ (committed : ℕ → Bool) (a b : Title) where
  pub newer_is : (gone_a gone_b later : Bool) → committed a.dropper ≡ gone_a → committed b.dropper ≡ gone_b → is_dropped_later a b ≡ later → is_newer committed a b ≡ cond gone_a (gone_b && later) (gone_b || later)
  newer_is gone_a gone_b later is_a is_b is_later = λ i. cond (is_a i) (is_b i && is_later i) (is_b i || is_later i)

  -- one that isn't gone before one that is
  pub newer_in : committed a.dropper ≡ false → committed b.dropper ≡ true → is_newer committed a b ≡ true
  newer_in stays gone = newer_is false true (is_dropped_later a b) stays gone refl

  pub older_out : committed a.dropper ≡ true → committed b.dropper ≡ false → is_newer committed a b ≡ false
  older_out gone stays = newer_is true false (is_dropped_later a b) gone stays refl

  pub newer_later : committed a.dropper ≡ false → is_dropped_later a b ≡ true → is_newer committed a b ≡ true
  newer_later stays later = newer_is false (committed b.dropper) true stays refl later ∙ or-true (committed b.dropper)

  pub older_earlier : committed b.dropper ≡ false → is_dropped_later a b ≡ false → is_newer committed a b ≡ false
  older_earlier stays earlier = newer_is (committed a.dropper) false false refl stays earlier ∙ elim (committed a.dropper) as (λ c. cond c false false ≡ false) [ true ↦ refl | false ↦ refl ]

  -- of two that are gone the newer one was dropped no earlier
  pub newer_gone : committed 0 ≡ false → is_newer committed a b ≡ true → committed a.dropper ≡ true → (committed b.dropper ≡ true) × (b.dropper ≤ a.dropper)
  newer_gone nobody is gone =
      let its = and_parts (committed b.dropper) (is_dropped_later a b) (sym (newer_is true (committed b.dropper) (is_dropped_later a b) gone refl refl) ∙ is) in
      (its.0, ⊎_elim (λ lt. absurd (true≢false (sym its.1 ∙ earlier_than a b (λ none. false≢true (sym (ap committed none ∙ nobody) ∙ gone)) lt))) (λ le. le) (cases_lt a.dropper b.dropper))

  pub older_gone : committed 0 ≡ false → is_newer committed a b ≡ false → committed b.dropper ≡ true → (committed a.dropper ≡ true) × (a.dropper ≤ b.dropper)
  older_gone nobody isnt gone = known (committed a.dropper)
      (λ gone_a. (
        gone_a,
        ⊎_elim
            (λ lt. absurd (false≢true (sym isnt ∙ newer_is true true true gone_a gone (later_than a b (λ none. false≢true (sym (ap committed none ∙ nobody) ∙ gone)) lt))))
            (λ le. le) (cases_lt b.dropper a.dropper),
      ))
      (λ stays. absurd (false≢true (sym isnt ∙ newer_in stays gone)))
