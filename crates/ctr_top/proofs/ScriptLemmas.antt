-- What a script's lines are: each of one of the eight sessions, with columns that fit where it makes a table, and
-- no more than bytes.
use Rattle.std.proofs.Common.{⊎_elim, ℕ, ◌+◌, ◌≤◌, ◌==◌, ◌&&◌, Bool, true, false, cond, List, [], ◌∷◌, ◌++◌, length, sym, ap, subst, arith}
use Rattle.std.specs.Prelude.{codes}
use Rattle.std.specs.List.{AllByRecursion}
use Rattle.ctr_types.specs.Names.{IsName}
use Rattle.ctr_types.specs.declared.value.Column.{Column}
use Rattle.ctr_types.specs.declared.value.Kind.{Kind}
use Rattle.ctr_types.specs.declared.value.Kind.TheVariants as kind
use Rattle.ctr_types.specs.declared.statement.Statement.{Statement}
use Rattle.ctr_types.specs.declared.statement.Statement.TheVariants as st
use Rattle.ctr_types.specs.declared.statement.Line.{Line}
use Rattle.ctr_model.specs.Grammar.{Part, IsWithin, IsKind, column_parts, schema_parts, kind_parts, statement_parts, close_paren, open_paren, sign, session, key, name, IsSchema}
use Rattle.ctr_model.specs.Language.{MatchParts, SpellsLine}
use Rattle.ctr_model.specs.Lines.{lines_of, is_at_end, in_front, AllSay, IsWritten}
use Rattle.ctr_value.specs.Columns.{KindFits, ColumnFits, ColumnsFit}
use Rattle.ctr_database.specs.ctr_run.ctr_world.Opened.{IsRunLine}
use Rattle.ctr_database.specs.ctr_run.ctr_world.writing_Tables.{HasFittingColumns}

-- ---- names of columns

match_front : (ps qs : List Part) (ts : List (List ℕ)) → MatchParts ts (ps ++ qs) → (front : List (List ℕ)) × MatchParts front ps
match_front [] qs ts m = ([], tt)
match_front (p ∷ ps) qs [] m = absurd m
match_front (p ∷ ps) qs (t ∷ ts) m = let rest = match_front ps qs ts m.1 in (t ∷ rest.0, (m.0, rest.1))

match_behind : (ps qs : List Part) (ts : List (List ℕ)) → MatchParts ts (ps ++ qs) → (behind : List (List ℕ)) × MatchParts behind qs
match_behind [] qs ts m = (ts, m)
match_behind (p ∷ ps) qs [] m = absurd m
match_behind (p ∷ ps) qs (t ∷ ts) m = match_behind ps qs ts m.1

column_names : (cs : List Column) (ts : List (List ℕ)) → MatchParts ts (column_parts cs) → AllByRecursion (λ c. IsName c.name) cs
column_names [] ts m = tt
column_names (c ∷ cs) [] m = absurd m
column_names (c ∷ cs) (t ∷ []) m = absurd m.1
column_names (c ∷ cs) (t ∷ u ∷ ts) m =
    let rest = match_behind (kind_parts c.kind) (column_parts cs) ts m.1.1 in
    (m.1.0.1.0, column_names cs rest.0 rest.1)

schema_names : (cs : List Column) (ts : List (List ℕ)) → MatchParts ts (schema_parts cs) → AllByRecursion (λ c. IsName c.name) cs
schema_names [] ts m = tt
schema_names (c ∷ cs) [] m = absurd m
schema_names (c ∷ cs) (t ∷ []) m = absurd m.1
schema_names (c ∷ cs) (t ∷ u ∷ []) m = absurd m.1.1
schema_names (c ∷ cs) (t ∷ u ∷ v ∷ []) m = absurd m.1.1.1
schema_names (c ∷ cs) (t ∷ u ∷ v ∷ w ∷ ts) m = (m.0.1.0, column_names cs ts m.1.1.1.1)

-- behind six tokens
behind_six : (ps : List Part) (p q r s u v : Part) (ts : List (List ℕ)) → MatchParts ts (p ∷ q ∷ r ∷ s ∷ u ∷ v ∷ ps) → (behind : List (List ℕ)) × MatchParts behind ps
behind_six ps p q r s u v [] m = absurd m
behind_six ps p q r s u v (a ∷ []) m = absurd m.1
behind_six ps p q r s u v (a ∷ b ∷ []) m = absurd m.1.1
behind_six ps p q r s u v (a ∷ b ∷ c ∷ []) m = absurd m.1.1.1
behind_six ps p q r s u v (a ∷ b ∷ c ∷ d ∷ []) m = absurd m.1.1.1.1
behind_six ps p q r s u v (a ∷ b ∷ c ∷ d ∷ e ∷ []) m = absurd m.1.1.1.1.1
behind_six ps p q r s u v (a ∷ b ∷ c ∷ d ∷ e ∷ f ∷ ts) m = (ts, m.1.1.1.1.1.1)

-- ---- columns that fit

kind_fits : (k : Kind) → IsKind k → KindFits 64 k
kind_fits kind.Int is = tt
kind_fits (kind.Chars n) is = is

columns_fit : (cs : List Column) → AllByRecursion (λ c. IsName c.name) cs → AllByRecursion (λ c. IsKind c.kind) cs → AllByRecursion (ColumnFits 64) cs
columns_fit [] names kinds = tt
columns_fit (c ∷ cs) names kinds = ((names.0, kind_fits c.kind kinds.0), columns_fit cs names.1 kinds.1)

schema_fits : (cs : List Column) → IsSchema cs → AllByRecursion (λ c. IsName c.name) cs → ColumnsFit cs
schema_fits [] is names = absurd is.key
schema_fits (c ∷ cs) is names =
    ((names.0, subst (KindFits 0) (sym is.key) tt), columns_fit cs names.1 is.kinds.1, omega (arith, is.amount.1))

fits : (s : ℕ) (statement : Statement) (ts : List (List ℕ)) → IsWithin statement → MatchParts ts (session s ∷ sign 62 ∷ statement_parts statement ++ sign 59 ∷ []) → HasFittingColumns statement
fits s st.Begin ts within m = tt
fits s st.Commit ts within m = tt
fits s st.Rollback ts within m = tt
fits s (st.Create table schema) ts within m =
    let cs = schema.columns in
    let six = behind_six ((schema_parts cs ++ close_paren ∷ []) ++ sign 59 ∷ []) (session s) (sign 62) (key (codes "CREATE")) (key (codes "TABLE")) (name table) open_paren ts m in
    let front = match_front (schema_parts cs ++ close_paren ∷ []) (sign 59 ∷ []) six.0 six.1 in
    let columns = match_front (schema_parts cs) (close_paren ∷ []) front.0 front.1 in
    schema_fits cs within (schema_names cs columns.0 columns.1)
fits s (st.DropTable table) ts within m = tt
fits s (st.Insert table values) ts within m = tt
fits s (st.Select table at) ts within m = tt
fits s (st.Update table sets at) ts within m = tt
fits s (st.Delete table at) ts within m = tt

pub run_line : (l : Line) (ts : List (List ℕ)) → SpellsLine ts l → IsRunLine l
run_line l ts is = record { least = is.low; most = is.high; fits = fits l.session l.statement ts is.within is.spelled }

all_run : (lines : List (List ℕ)) (said : List Line) → AllSay SpellsLine lines said → AllByRecursion IsRunLine said
all_run [] said is = subst (AllByRecursion IsRunLine) (sym is) tt
all_run (line ∷ lines) said is = ⊎_elim
    (λ passed. all_run lines said passed.1)
    (λ says. subst (AllByRecursion IsRunLine) (sym says.2) (run_line says.0 says.3.0 says.3.2, all_run lines says.1 says.4))
    is

pub lines_run : (bytes : List ℕ) (ls : List Line) → IsWritten SpellsLine bytes ls → AllByRecursion IsRunLine ls
lines_run bytes ls written = all_run (lines_of bytes) ls written

-- ---- each line has a byte at least

said_at_most : (lines : List (List ℕ)) (said : List Line) → AllSay SpellsLine lines said → length said ≤ length lines
said_at_most [] said is = omega (arith, ap length is)
said_at_most (line ∷ lines) said is = ⊎_elim
    (λ passed. let le = said_at_most lines said passed.1 in omega (arith, le))
    (λ says. let le = said_at_most lines says.1 says.4 in omega (arith, le, ap length says.2))
    is

in_front_at_most : (c : ℕ) (ls : List (List ℕ)) → length (in_front c ls) ≤ length ls + 1
in_front_at_most c [] = omega arith
in_front_at_most c (l ∷ ls) = omega arith

one_of : (a b : Bool) (x y z : List (List ℕ)) (n : ℕ) → length x ≤ n → length y ≤ n → length z ≤ n → length (cond a x (cond b y z)) ≤ n
one_of true b x y z n p q r = p
one_of false true x y z n p q r = q
one_of false false x y z n p q r = r

lines_few : (bytes : List ℕ) → length (lines_of bytes) ≤ length bytes
lines_few [] = omega arith
lines_few (c ∷ []) = one_of (c == 10) ((c == 13) && is_at_end []) ([] ∷ []) [] (in_front c []) 1 (omega arith) (omega arith) (omega arith)
lines_few (c ∷ d ∷ cs) =
    let rest = lines_of (d ∷ cs) in
    let le = lines_few (d ∷ cs) in
    one_of (c == 10) ((c == 13) && is_at_end (d ∷ cs)) ([] ∷ rest) rest (in_front c rest) (length (c ∷ d ∷ cs)) (omega (arith, le)) (omega (arith, le)) (front rest le)
  where
    front : (rest : List (List ℕ)) → length rest ≤ length (d ∷ cs) → length (in_front c rest) ≤ length (c ∷ d ∷ cs)
    front [] le = omega arith
    front (l ∷ ls) le = omega (arith, le)

pub lines_at_most : (bytes : List ℕ) (ls : List Line) → IsWritten SpellsLine bytes ls → length ls ≤ length bytes
lines_at_most bytes ls written = let some = said_at_most (lines_of bytes) ls written in let few = lines_few bytes in omega (arith, some, few)
