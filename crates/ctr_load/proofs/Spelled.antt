-- Each line is one of the language: tokens that spell it.
use Rattle.std.proofs.Common.{ℕ, zero, suc, ◌+◌, ◌<◌, ◌≤◌, ◌^◌, ◌%◌, ◌==◌, Bool, true, false, cond, pos, List, [], ◌∷◌, ◌++◌, codes, refl, inl, inr, arith}
use Rattle.std.specs.List.{AllByRecursion}
use Rattle.std.specs.Fmt.{decimal}
use Rattle.std.specs.Str.Parse.{AllDigits}
use Rattle.std.proofs.Math.Nat.{mod-lt}
use Rattle.std.proofs.lemmas.Fmt.{decimal_is_IsNumeral}
use Rattle.std.proofs.lemmas.Str.Parse.{digit_from_value}
use Rattle.ctr_types.specs.declared.statement.Statement.{Statement}
use Rattle.ctr_types.specs.declared.statement.Statement.TheVariants as st
use Rattle.ctr_model.specs.Grammar.{Part, sign, IsDigit, IsLetter, IsPrintable, IsNameSpelled, IsSchema, IsInteger, IsWide, IsWithin, statement_parts}
use Rattle.ctr_model.specs.Language.{MatchParts}
use Rattle.ctr_load.specs.Draws.{number_of_draw, stepped, third_state, key_at, case_at}
use Rattle.ctr_load.specs.Statements.{load_columns, create_load, insert_of, update_of, delete_of, select_of}
use Rattle.ctr_load.specs.Generated.{line_at, statement_of_case}
use Rattle.ctr_load.specs.Whole.{IsSpelled, LinesAreSpelled}
use Rattle.ctr_load.proofs.Each.{all_hold}

digits_are : (ds : List ℕ) → AllDigits 10 ds → AllByRecursion IsDigit ds
digits_are [] h = tt
digits_are (c ∷ cs) h = ((omega (arith, digit_from_value c h.0), omega (arith, digit_from_value c h.0)), digits_are cs h.1)

-- a number in decimal is an integer
integer : (n : ℕ) → n < 2 ^ 63 → IsInteger (decimal n) (pos n) × IsWide (pos n)
integer n small =
    let h = decimal_is_IsNumeral n (omega arith) in
    (inl ((h.0.0, digits_are (decimal n) h.0.1), h.1), small)

-- ---- parts one behind another

match-append : (ts us : List (List ℕ)) (ps qs : List Part) → MatchParts ts ps → MatchParts us qs → MatchParts (ts ++ us) (ps ++ qs)
match-append [] us [] qs a b = b
match-append [] us (p ∷ ps) qs a b = absurd a
match-append (t ∷ ts) us [] qs a b = absurd a
match-append (t ∷ ts) us (p ∷ ps) qs a b = (a.0, match-append ts us ps qs a.1 b)

-- a statement that is spelled, of the session at a place
spelled : (q : ℕ) (s : Statement) (ts : List (List ℕ)) → q < 8 → IsWithin s → MatchParts ts (statement_parts s) → IsSpelled (line_at q s)
spelled q s ts low within is = (
  ((48 + (q + 1)) ∷ []) ∷ (62 ∷ []) ∷ ts ++ (59 ∷ []) ∷ [],
  record {
    low = omega arith;
    high = omega arith;
    within = within;
    spelled = (refl, (refl, match-append ts ((59 ∷ []) ∷ []) (statement_parts s) (sign 59 ∷ []) is (refl, tt)));
  },
)

-- ---- names

small : (c : ℕ) → 97 ≤ c → c ≤ 122 → IsLetter c
small c low high = inr (inl (low, high))

load_is : IsNameSpelled (codes "load")
load_is = ((omega arith, omega arith), (small 108 (omega arith) (omega arith), (inl (small 111 (omega arith) (omega arith)), (inl (small 97 (omega arith) (omega arith)), (inl (small 100 (omega arith) (omega arith)), tt)))), refl)

k_is : IsNameSpelled (codes "k")
k_is = ((omega arith, omega arith), (small 107 (omega arith) (omega arith), tt), refl)

v_is : IsNameSpelled (codes "v")
v_is = ((omega arith, omega arith), (small 118 (omega arith) (omega arith), tt), refl)

s_is : IsNameSpelled (codes "s")
s_is = ((omega arith, omega arith), (small 115 (omega arith) (omega arith), tt), refl)

row_is : AllByRecursion IsPrintable (codes "row")
row_is = ((omega arith, omega arith), ((omega arith, omega arith), ((omega arith, omega arith), tt)))

columns_are : IsSchema load_columns
columns_are = record {
  amount = (omega arith, omega arith);
  key = refl;
  kinds = (tt, (tt, ((omega arith, omega arith), tt)));
  distinct = (refl, (refl, (refl, tt)));
}

-- ---- statements

module _ (q : ℕ) (low : q < 8) where
  begin_spelled : IsSpelled (line_at q st.Begin)
  begin_spelled = spelled q st.Begin (codes "BEGIN" ∷ []) low tt (refl, tt)

  commit_spelled : IsSpelled (line_at q st.Commit)
  commit_spelled = spelled q st.Commit (codes "COMMIT" ∷ []) low tt (refl, tt)

  either_spelled : (b : Bool) → IsSpelled (line_at q (cond b st.Rollback st.Commit))
  either_spelled true = spelled q st.Rollback (codes "ROLLBACK" ∷ []) low tt (refl, tt)
  either_spelled false = commit_spelled

  create_spelled : IsSpelled (line_at q create_load)
  create_spelled = spelled q create_load
      (codes "CREATE" ∷ codes "TABLE" ∷ codes "load" ∷ codes "("
      ∷ codes "k" ∷ codes "INT" ∷ codes "PRIMARY" ∷ codes "KEY" ∷ codes ","
      ∷ codes "v" ∷ codes "INT" ∷ codes ","
      ∷ codes "s" ∷ codes "TEXT" ∷ codes "(" ∷ decimal 12 ∷ codes ")" ∷ codes ")" ∷ [])
      low columns_are (
        refl,
        (
          refl,
          (
            (refl, load_is),
            (
              refl,
              (
                (refl, k_is),
                (
                  refl,
                  (
                    refl,
                    (
                      refl,
                      (
                        refl,
                        (
                          (refl, v_is),
                          (
                            refl,
                            (
                              refl,
                              ((refl, s_is), (refl, (refl, (integer 12 (omega arith), (refl, (refl, tt)))))),
                            ),
                          ),
                        ),
                      ),
                    ),
                  ),
                ),
              ),
            ),
          ),
        ),
      )

  module _ (k : ℕ) (key : k < 2 ^ 63) where
    delete_spelled : IsSpelled (line_at q (delete_of (pos k)))
    delete_spelled = spelled q (delete_of (pos k))
        (codes "DELETE" ∷ codes "FROM" ∷ codes "load" ∷ codes "WHERE" ∷ codes "k" ∷ codes "=" ∷ decimal k ∷ [])
        low tt (refl, (refl, ((refl, load_is), (refl, ((refl, k_is), (refl, (integer k key, tt)))))))

    select_spelled : IsSpelled (line_at q (select_of (pos k)))
    select_spelled = spelled q (select_of (pos k))
        (codes "SELECT" ∷ codes "*" ∷ codes "FROM" ∷ codes "load" ∷ codes "WHERE" ∷ codes "k" ∷ codes "=" ∷ decimal k ∷ [])
        low tt (refl, (refl, (refl, ((refl, load_is), (refl, ((refl, k_is), (refl, (integer k key, tt))))))))

    module _ (i : ℕ) (number : i < 2 ^ 63) where
      insert_spelled : IsSpelled (line_at q (insert_of (pos k) (pos i)))
      insert_spelled = spelled q (insert_of (pos k) (pos i))
          (codes "INSERT" ∷ codes "INTO" ∷ codes "load" ∷ codes "VALUES" ∷ codes "("
          ∷ decimal k ∷ codes "," ∷ decimal i ∷ codes "," ∷ codes "'row'" ∷ codes ")" ∷ [])
          low (omega arith, omega arith)
          (refl, (refl, ((refl, load_is), (refl, (refl, (integer k key, (refl, (integer i number, (refl, ((refl, row_is), (refl, tt)))))))))))

      update_spelled : IsSpelled (line_at q (update_of (pos k) (pos i)))
      update_spelled = spelled q (update_of (pos k) (pos i))
          (codes "UPDATE" ∷ codes "load" ∷ codes "SET" ∷ codes "v" ∷ codes "=" ∷ codes "v" ∷ codes "+" ∷ decimal i
          ∷ codes "WHERE" ∷ codes "k" ∷ codes "=" ∷ decimal k ∷ [])
          low (omega arith, omega arith)
          (refl, ((refl, load_is), (refl, ((refl, v_is), (refl, ((refl, v_is), (refl, (integer i number, (refl, ((refl, k_is), (refl, (integer k key, tt))))))))))))

      said_spelled : (case state : ℕ) → case < 8 → IsSpelled (line_at q (statement_of_case case (pos k) (pos i) state))
      said_spelled zero state h = insert_spelled
      said_spelled (suc zero) state h = insert_spelled
      said_spelled (suc (suc zero)) state h = insert_spelled
      said_spelled (suc (suc (suc zero))) state h = update_spelled
      said_spelled (suc (suc (suc (suc zero)))) state h = update_spelled
      said_spelled (suc (suc (suc (suc (suc zero))))) state h = delete_spelled
      said_spelled (suc (suc (suc (suc (suc (suc zero)))))) state h = select_spelled
      said_spelled (suc (suc (suc (suc (suc (suc (suc zero))))))) state h = either_spelled (number_of_draw (stepped state) % 4 == 0)
      said_spelled (suc (suc (suc (suc (suc (suc (suc (suc n)))))))) state h = absurd (omega arith)

pub lines_are_spelled : LinesAreSpelled
lines_are_spelled sessions count seed some most few =
    all_hold IsSpelled sessions count
    (record {
      begins = λ q low. begin_spelled q (omega arith);
      commits = λ q low. commit_spelled q (omega arith);
      creates = create_spelled 0 (omega arith);
      says = λ q i state low below.
          let key : key_at state < 97 = mod-lt (number_of_draw (stepped (stepped state))) (omega arith) in
          let case : case_at state < 8 = mod-lt (number_of_draw (third_state state)) (omega arith) in
          said_spelled q (omega arith) (key_at state) (omega arith) i (omega arith) (case_at state) (third_state state) case;
    })
    some seed
