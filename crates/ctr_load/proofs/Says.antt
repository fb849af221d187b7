-- What the statement of a round is, as far as transactions go.
use Rattle.std.proofs.Common.{◌≡◌, ℕ, zero, suc, ◌<◌, ◌%◌, ◌==◌, Bool, true, false, cond, ℤ, pos, refl, arith}
use Rattle.std.proofs.Math.Nat.{mod-lt}
use Rattle.ctr_types.specs.declared.statement.Statement.TheVariants as st
use Rattle.ctr_load.specs.Draws.{stepped, number_of_draw, third_state, key_at, case_at, is_end_at}
use Rattle.ctr_load.specs.Generated.{statement_of_case, statement_at}
use Rattle.ctr_load.specs.Whole.{is_begin, is_end}

either_ends : (b : Bool) → is_end (cond b st.Rollback st.Commit) ≡ true
either_ends true = refl
either_ends false = refl

neither_begins : (b : Bool) → is_begin (cond b st.Rollback st.Commit) ≡ false
neither_begins true = refl
neither_begins false = refl

ends : (case : ℕ) (key number : ℤ) (state : ℕ) → case < 8 → is_end (statement_of_case case key number state) ≡ (case == 7)
ends zero key number state h = refl
ends (suc zero) key number state h = refl
ends (suc (suc zero)) key number state h = refl
ends (suc (suc (suc zero))) key number state h = refl
ends (suc (suc (suc (suc zero)))) key number state h = refl
ends (suc (suc (suc (suc (suc zero))))) key number state h = refl
ends (suc (suc (suc (suc (suc (suc zero)))))) key number state h = refl
ends (suc (suc (suc (suc (suc (suc (suc zero))))))) key number state h = either_ends (number_of_draw (stepped state) % 4 == 0)
ends (suc (suc (suc (suc (suc (suc (suc (suc n)))))))) key number state h = absurd (omega arith)

begins : (case : ℕ) (key number : ℤ) (state : ℕ) → case < 8 → is_begin (statement_of_case case key number state) ≡ false
begins zero key number state h = refl
begins (suc zero) key number state h = refl
begins (suc (suc zero)) key number state h = refl
begins (suc (suc (suc zero))) key number state h = refl
begins (suc (suc (suc (suc zero)))) key number state h = refl
begins (suc (suc (suc (suc (suc zero))))) key number state h = refl
begins (suc (suc (suc (suc (suc (suc zero)))))) key number state h = refl
begins (suc (suc (suc (suc (suc (suc (suc zero))))))) key number state h = neither_begins (number_of_draw (stepped state) % 4 == 0)
begins (suc (suc (suc (suc (suc (suc (suc (suc n)))))))) key number state h = absurd (omega arith)

-- a round's statement ends a transaction exactly where its case is the last
pub is_end-at : (i state : ℕ) → is_end (statement_at i state) ≡ is_end_at state
is_end-at i state = ends (case_at state) (pos (key_at state)) (pos i) (third_state state) (mod-lt (number_of_draw (third_state state)) (omega arith))

-- and begins none
pub is_begin-at : (i state : ℕ) → is_begin (statement_at i state) ≡ false
is_begin-at i state = begins (case_at state) (pos (key_at state)) (pos i) (third_state state) (mod-lt (number_of_draw (third_state state)) (omega arith))
