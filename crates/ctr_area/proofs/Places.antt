-- Two places are the same or not, and so are what a test on numbers says.
use Rattle.std.proofs.Common.{◌≡◌, ⊎_elim, ℕ, ◌+◌, ◌*◌, ◌<◌, ◌≤◌, true, refl, sym, ◌∙◌, arith}
use Rattle.std.specs.Prelude.{◌==◌, nat_lt}
use Rattle.std.proofs.lemmas.Bool.{false≢true, eq-eqb, eqb-true, and_parts, and_from, cases_lt, le-ltb}
use Rattle.std.proofs.lemmas.Nat.{row_fits}
use Rattle.ctr_page.specs.declared.rows.Place.{Place}
use Rattle.ctr_area.specs.Areas.{same_place}

pub same_place_is : (a b : Place) → same_place a b ≡ true → a ≡ b
same_place_is a b is =
    let parts = and_parts (a.page == b.page) (a.slot == b.slot) is in
    let page = eqb-true a.page b.page parts.0 in
    let slot = eqb-true a.slot b.slot parts.1 in
    λ i. record { page = page i; slot = slot i }

pub same_place_itself : (a : Place) → same_place a a ≡ true
same_place_itself a = and_from (a.page == a.page) (a.slot == a.slot) (eq-eqb a.page a.page refl) (eq-eqb a.slot a.slot refl)

-- two that stand on a page don't meet
pub apart_rows : (m n s : ℕ) → m < n → 16 + m * s + s ≤ 16 + n * s
apart_rows m n s lt = omega (arith, row_fits m s n s lt (omega arith))

pub below : (a b : ℕ) → nat_lt a b ≡ true → a < b
below a b is = ⊎_elim (λ lt. lt) (λ le. absurd (false≢true (sym (le-ltb a b le) ∙ is))) (cases_lt a b)
