-- What checks that pass say, and that damage is where two numbers differ.
use Rattle.std.proofs.Common.{◌≡◌, ◌≢◌, ℕ, ◌≤◌, eqb, ltb, List, Ok, sym, arith}
use Rattle.std.proofs.lemmas.Bool.{eqb-false, ltb-false}
use Rattle.ctr_rec.specs.bytes_Fields.{field}
use Rattle.ctr_rec.specs.Damage.{wrong, at_most}
use Rattle.ctr_rec.proofs.Reading.{guard_ok}
use Rattle.ctr_page.specs.Damage.{from_1_check}

-- a number that passes is from 1 on, and at most so much
pub from_1_holds : (most at : ℕ) (page : List ℕ) → Ok tt ≡ from_1_check most at page → (1 ≤ field 1 at page) × (field 1 at page ≤ most)
unfolding from_1_check at_most
from_1_holds most at page e =
    let got = field 1 at page in
    let first = guard_ok (eqb got 0) (wrong at 1 0) (at_most at most got) tt (sym e) in
    let second = guard_ok (ltb most got) (wrong at most got) (Ok tt) tt first.1 in
    (not_none got (eqb-false got 0 first.0), ltb-false most got second.0)
  where
    not_none : (n : ℕ) → n ≢ 0 → 1 ≤ n
    not_none n some = omega (arith, some)
