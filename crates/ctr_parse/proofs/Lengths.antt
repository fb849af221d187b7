-- No line has more tokens than so many.
use Rattle.std.proofs.Common.{◌≡◌, ℕ, suc, ◌+◌, ◌≤◌, List, [], ◌∷◌, Option, Some, None, length, refl, ap, arith, length-append}
use Rattle.std.specs.Prelude.{◌*◌}
use Rattle.ctr_types.specs.declared.value.Column.{Column}
use Rattle.ctr_types.specs.declared.value.Kind.{Kind}
use Rattle.ctr_types.specs.declared.value.Kind.TheVariants as kind
use Rattle.ctr_types.specs.declared.value.Value.{Value}
use Rattle.ctr_types.specs.declared.statement.Statement.{Statement}
use Rattle.ctr_types.specs.declared.statement.Statement.TheVariants as st
use Rattle.ctr_types.specs.declared.statement.KeyIs.{KeyIs}
use Rattle.ctr_types.specs.declared.statement.Set.{Set}
use Rattle.ctr_types.specs.declared.statement.SetTo.{SetTo}
use Rattle.ctr_types.specs.declared.statement.SetTo.TheVariants as to
use Rattle.ctr_types.specs.declared.statement.Line.{Line}
use Rattle.ctr_model.specs.Grammar.{Part, sign, comma, close_paren, literals, kind_parts, column_parts, schema_parts, where_parts, optional_where, set_parts, sets_parts, statement_parts, line_parts, IsWithin}
use Rattle.ctr_model.specs.Language.{MatchParts, SpellsStatement, SpellsLine}

-- ---- places

literals_few : (vs : List Value) → length (literals vs) ≤ 2 * length vs
literals_few [] = omega arith
literals_few (v ∷ []) = omega arith
literals_few (v ∷ w ∷ vs) = omega (arith, literals_few (w ∷ vs))

kind_few : (k : Kind) → length (kind_parts k) ≤ 4
kind_few kind.Int = omega arith
kind_few (kind.Chars most) = omega arith

columns_few : (cs : List Column) → length (column_parts cs) ≤ 6 * length cs
columns_few [] = omega arith
columns_few (c ∷ cs) = omega (arith, kind_few c.kind, columns_few cs, length-append (kind_parts c.kind) (column_parts cs))

schema_few : (cs : List Column) → length cs ≤ 8 → length (schema_parts cs) ≤ 46
schema_few [] few = omega arith
schema_few (c ∷ cs) few = omega (arith, few, columns_few cs)

optional_few : (at : Option KeyIs) → length (optional_where at) ≤ 4
optional_few None = omega arith
optional_few (Some at) = omega arith

set_few : (name : List ℕ) (t : SetTo) → length (set_parts name t) ≤ 5
set_few name (to.Is v) = omega arith
set_few name (to.Sum other n) = omega arith

sets_few : (s : Set) (ss : List Set) → length (sets_parts (s ∷ ss)) + 1 ≤ 6 * (length ss + 1)
sets_few s [] = omega (arith, set_few s.column s.to)
sets_few s (t ∷ ss) = omega (arith, set_few s.column s.to, sets_few t ss, length-append (set_parts s.column s.to) (comma ∷ sets_parts (t ∷ ss)))

all_sets_few : (ss : List Set) → length ss ≤ 8 → length (sets_parts ss) ≤ 47
all_sets_few [] few = omega arith
all_sets_few (s ∷ ss) few = omega (arith, few, sets_few s ss)

statement_few : (s : Statement) → IsWithin s → length (statement_parts s) ≤ 54
statement_few st.Begin is = omega arith
statement_few st.Commit is = omega arith
statement_few st.Rollback is = omega arith
statement_few (st.Create table schema) is = omega (arith, schema_few schema.columns is.amount.1, length-append (schema_parts schema.columns) (close_paren ∷ []))
statement_few (st.DropTable table) is = omega arith
statement_few (st.Insert table values) is = omega (arith, is.1, literals_few values, length-append (literals values) (close_paren ∷ []))
statement_few (st.Select table at) is = omega (arith, optional_few at)
statement_few (st.Update table sets at) is = omega (arith, all_sets_few sets is.1, length-append (sets_parts sets) (where_parts at))
statement_few (st.Delete table at) is = omega arith

line_few : (l : Line) → IsWithin l.statement → length (line_parts l) ≤ 57
line_few l is = omega (arith, statement_few l.statement is, length-append (statement_parts l.statement) (sign 59 ∷ []))

-- ---- tokens

as_many : (ts : List (List ℕ)) (ps : List Part) → MatchParts ts ps → length ts ≡ length ps
as_many [] [] h = refl
as_many [] (p ∷ ps) h = absurd h
as_many (t ∷ ts) [] h = absurd h
as_many (t ∷ ts) (p ∷ ps) h = ap (λ n. suc n) (as_many ts ps h.1)

pub few_alone : (ts : List (List ℕ)) (s : Statement) → SpellsStatement ts s → length ts ≤ 57
few_alone ts s is = omega (arith, as_many ts (statement_parts s) is.spelled, statement_few s is.within)

pub few_line : (ts : List (List ℕ)) (l : Line) → SpellsLine ts l → length ts ≤ 57
few_line ts l is = omega (arith, as_many ts (line_parts l) is.spelled, line_few l is.within)
