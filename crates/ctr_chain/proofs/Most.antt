-- How many version entries a chain can have.
use Rattle.std.proofs.Common.{◌≡◌, ℕ, ◌-◌, ◌*◌, ◌/◌, ◌<◌, ◌≤◌, sym, subst, arith}
use Rattle.std.proofs.Math.Nat.{le-div_iff_mul-le, le-mul_of_pos_right, mul-le-mul_left, div-le_of_le-mul}
use Rattle.ctr_page.specs.Places.{kept_size, room_for}
use Rattle.ctr_page.specs.Walking.{most_in_chain}
use Rattle.ctr_names.specs.area_Chains.{older_bound}

-- one fits on a page
one_fits : (w : ℕ) → w ≤ 1792 → 0 < room_for (kept_size w)
one_fits w narrow =
    let fits : 1 ≤ 4080 / kept_size w = (le-div_iff_mul-le {k = kept_size w} {x = 1} {y = 4080} (omega arith)).1 (omega (arith, narrow)) in
    omega (arith, fits)

-- there is one at least
pub some_entries : (counted w most : ℕ) → 64 ≤ counted → w ≤ 1792 → most ≡ most_in_chain counted * room_for (kept_size w) → 0 < most
some_entries counted w most many narrow is =
    let all = le-mul_of_pos_right {m = room_for (kept_size w)} (counted - 3) (one_fits w narrow) in
    subst (λ n. 0 < n) (sym is) (omega (arith, all, many))

-- and no more than stand on all pages that can be counted
pub few_entries : (counted w : ℕ) → counted ≤ 30000 → most_in_chain counted * room_for (kept_size w) ≤ older_bound
unfolding older_bound
few_entries counted w few =
    let room : 4080 / kept_size w ≤ 170 = div-le_of_le-mul (kept_size w) {m = 4080} {n = 170} (omega arith) in
    let all : (counted - 3) * (4080 / kept_size w) ≤ (counted - 3) * 170 = mul-le-mul_left (counted - 3) room in
    omega (arith, all, few)
