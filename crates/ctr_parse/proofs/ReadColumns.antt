-- What is read of the columns of a CREATE is in the grammar.
use Rattle.std.proofs.Common.{◌≡◌, ℕ, zero, suc, ◌≤◌, pos, Bool, true, false, List, [], ◌∷◌, ◌++◌, length, Some, map, codes, refl, sym, ap, ◌∙◌, subst, arith, append_assoc, append-nil}
use Rattle.std.specs.Prelude.{◌||◌, if◌then◌else◌}
use Rattle.std.specs.List.{AllByRecursion}
use Rattle.ctr_types.specs.declared.value.Column.{Column}
use Rattle.ctr_types.specs.declared.value.Kind.{Kind}
use Rattle.ctr_types.specs.declared.value.Kind.TheVariants as kind
use Rattle.ctr_model.specs.State.{same_name, has_name}
use Rattle.ctr_model.specs.Grammar.{Part, key, name, int, sign, comma, open_paren, close_paren, kind_parts, column_parts, schema_parts, IsKind, AreDistinct, IsSchema}
use Rattle.ctr_model.specs.Language.{MatchParts}
use Rattle.ctr_parse.specs.Trees.{Tree, one_then, int_or_text, room_of, comma_or_end, fresh_of, keyword_then, sign_then, kind_then, columns_then, schema_then}
use Rattle.ctr_parse.proofs.Trees.{runs, one_is}
use Rattle.ctr_parse.proofs.Spellings.{same_Decides}
use Rattle.ctr_parse.proofs.Meanings.{StandsComma, comma_means, StandsInt, kind_means, room_means, fresh_means}
use Rattle.ctr_parse.proofs.Read.{Was, Passed, stands, keyword_is, sign_is, name_is}

-- ---- kinds

abbrev pub kind_places : Kind → List Part → List Part
kind_places k ps = kind_parts k ++ ps

kind_by : {A : Type 0} (next : Kind → Tree A) (ts : List (List ℕ)) (a : A) (is_int : Bool) (t : List ℕ) (rest : List (List ℕ)) → ts ≡ t ∷ rest → StandsInt is_int t
    → runs (if is_int then next kind.Int else sign_then 40 (one_then room_of (λ n. sign_then 41 (next (kind.Chars n))))) rest ≡ Some a → Was next kind_places IsKind ts a
kind_by next ts a true t rest e is reads = record { item = kind.Int; rest = rest; fit = tt; reads = reads; stand = stands (key (codes "INT")) t ts rest e is }
kind_by next ts a false t rest e is reads =
    let o = sign_is 40 (one_then room_of (λ n. sign_then 41 (next (kind.Chars n)))) rest a reads in
    let n = one_is room_of (λ n. sign_then 41 (next (kind.Chars n))) o.0 a o.1 in
    let r = room_means n.token n.item n.means in
    let c = sign_is 41 (next (kind.Chars n.item)) n.rest a n.reads in
    record {
      item = kind.Chars n.item;
      rest = c.0;
      fit = (r.0, r.1);
      reads = c.1;
      stand = λ ps h. stands (key (codes "TEXT")) t ts rest e is (open_paren ∷ int (pos n.item) ∷ close_paren ∷ ps)
          (o.2 (int (pos n.item) ∷ close_paren ∷ ps) (stands (int (pos n.item)) n.token o.0 n.rest n.split (r.2, r.3) (close_paren ∷ ps) (c.2 ps h)));
    }

kind_was : {A : Type 0} (next : Kind → Tree A) (ts : List (List ℕ)) (a : A) → runs (kind_then next) ts ≡ Some a → Was next kind_places IsKind ts a
unfolding kind_then
kind_was next ts a e =
    let w = one_is int_or_text (λ is_int. if is_int then next kind.Int else sign_then 40 (one_then room_of (λ n. sign_then 41 (next (kind.Chars n))))) ts a e in
    kind_by next ts a w.item w.token w.rest w.split (kind_means w.token w.item w.means) w.reads

-- ---- names of columns

pub or_false : (a b : Bool) → (a || b) ≡ false → (a ≡ false) × (b ≡ false)
or_false true b e = cc
or_false false b e = (refl, e)

pub from_or : (a b : Bool) → a ≡ false → b ≡ false → (a || b) ≡ false
from_or a b e f = rw (e, f) refl

apart : (b c : Bool) (m n : List ℕ) → same_name m n ≡ b → same_name n m ≡ c → b ≡ false → c ≡ false
apart b false m n e f is = refl
apart b true m n e f is =
    let same : m ≡ n = sym ((same_Decides n m).0 f) in
    let there : same_name m n ≡ true = (same_Decides m n).1 same in
    sym (sym (e ∙ is) ∙ there)

pub turned : (m n : List ℕ) → same_name m n ≡ false → same_name n m ≡ false
turned m n e = apart (same_name m n) (same_name n m) m n refl refl e

new_push : (n : List ℕ) (cs : List Column) (c : Column) → has_name n (map (λ d. d.name) cs) ≡ false → same_name c.name n ≡ false → has_name n (map (λ d. d.name) (cs ++ c ∷ [])) ≡ false
new_push n [] c e f = from_or (same_name c.name n) false f refl
new_push n (d ∷ cs) c e f =
    let p = or_false (same_name d.name n) (has_name n (map (λ d. d.name) cs)) e in
    from_or (same_name d.name n) (has_name n (map (λ d. d.name) (cs ++ c ∷ []))) p.0 (new_push n cs c p.1 f)

pub distinct_push : (cs : List Column) (c : Column) → AreDistinct cs → has_name c.name (map (λ d. d.name) cs) ≡ false → AreDistinct (cs ++ c ∷ [])
distinct_push [] c all new = (refl, tt)
distinct_push (d ∷ cs) c all new =
    let p = or_false (same_name d.name c.name) (has_name c.name (map (λ d. d.name) cs)) new in
    (new_push d.name cs c all.0 (turned d.name c.name p.0), distinct_push cs c all.1 p.1)

-- ---- columns

-- so many further columns at most, behind those before
record AreColumns {A : Type 0} (n : ℕ) (before : List Column) (next : List Column → Tree A) (ts : List (List ℕ)) (a : A) : Type 0 where
  item : List Column
  rest : List (List ℕ)
  few : length item ≤ n
  kinds : AllByRecursion (λ c. IsKind c.kind) item
  distinct : AreDistinct before → AreDistinct (before ++ item)
  reads : runs (next (before ++ item)) rest ≡ Some a
  stand : (ps : List Part) → MatchParts rest ps → MatchParts ts (column_parts item ++ close_paren ∷ ps)

no_columns : {A : Type 0} (n : ℕ) (before : List Column) (next : List Column → Tree A) (ts : List (List ℕ)) (a : A) → Passed (next before) (sign 41) ts a → AreColumns n before next ts a
no_columns n before next ts a s = record {
  item = [];
  rest = s.0;
  few = omega arith;
  kinds = tt;
  distinct = λ all. subst AreDistinct (sym (append-nil before)) all;
  reads = ap (λ cs. runs (next cs) s.0) (append-nil before) ∙ s.1;
  stand = s.2;
}

more_columns : {A : Type 0} (n : ℕ) (before : List Column) (next : List Column → Tree A) (ts : List (List ℕ)) (a : A) (u : List ℕ) (rest : List (List ℕ)) → ts ≡ u ∷ rest → u ≡ 44 ∷ []
    → runs (one_then (fresh_of before) (λ m. kind_then (λ k. columns_then n (before ++ record { name = m; kind = k } ∷ []) next))) rest ≡ Some a
    → ((cs : List Column) (us : List (List ℕ)) → runs (columns_then n cs next) us ≡ Some a → AreColumns n cs next us a) → AreColumns (suc n) before next ts a
more_columns n before next ts a u rest e c reads again =
    let w = one_is (fresh_of before) (λ m. kind_then (λ k. columns_then n (before ++ record { name = m; kind = k } ∷ []) next)) rest a reads in
    let f = fresh_means before w.token w.item w.means in
    let k = kind_was (λ k. columns_then n (before ++ record { name = w.item; kind = k } ∷ []) next) w.rest a w.reads in
    let one : Column = record { name = w.item; kind = k.item } in
    let r = again (before ++ one ∷ []) k.rest k.reads in
    record {
      item = one ∷ r.item;
      rest = r.rest;
      few = omega (arith, r.few);
      kinds = (k.fit, r.kinds);
      distinct = λ all. subst AreDistinct (append_assoc before (one ∷ []) r.item) (r.distinct (distinct_push before one all f.2));
      reads = ap (λ cs. runs (next cs) r.rest) (sym (append_assoc before (one ∷ []) r.item)) ∙ r.reads;
      stand = λ ps h.
          let on : List Part = column_parts r.item ++ close_paren ∷ ps in
          let inner = k.stand on (r.stand ps h) in
          let named = stands (name w.item) w.token rest w.rest w.split (f.0, f.1) (kind_parts k.item ++ on) inner in
          let regrouped : kind_parts k.item ++ on ≡ (kind_parts k.item ++ column_parts r.item) ++ close_paren ∷ ps = sym (append_assoc (kind_parts k.item) (column_parts r.item) (close_paren ∷ ps)) in
          stands comma u ts rest e c (name w.item ∷ ((kind_parts k.item ++ column_parts r.item) ++ close_paren ∷ ps)) (subst (λ qs. MatchParts rest (name w.item ∷ qs)) regrouped named);
    }

columns_by : {A : Type 0} (n : ℕ) (before : List Column) (next : List Column → Tree A) (ts : List (List ℕ)) (a : A) (u : List ℕ) (rest : List (List ℕ)) → ts ≡ u ∷ rest → (more : Bool) → StandsComma more u
    → runs (if more then one_then (fresh_of before) (λ m. kind_then (λ k. columns_then n (before ++ record { name = m; kind = k } ∷ []) next)) else next before) rest ≡ Some a
    → ((cs : List Column) (us : List (List ℕ)) → runs (columns_then n cs next) us ≡ Some a → AreColumns n cs next us a) → AreColumns (suc n) before next ts a
columns_by n before next ts a u rest e true c reads again = more_columns n before next ts a u rest e c reads again
columns_by n before next ts a u rest e false c reads again = no_columns (suc n) before next ts a (rest, reads, stands (sign 41) u ts rest e c)

columns_were : {A : Type 0} (n : ℕ) (before : List Column) (next : List Column → Tree A) (ts : List (List ℕ)) (a : A) → runs (columns_then n before next) ts ≡ Some a → AreColumns n before next ts a
unfolding columns_then
columns_were zero before next ts a e = no_columns zero before next ts a (sign_is 41 (next before) ts a e)
columns_were (suc n) before next ts a e =
    let w = one_is comma_or_end (λ more. if more then one_then (fresh_of before) (λ m. kind_then (λ k. columns_then n (before ++ record { name = m; kind = k } ∷ []) next)) else next before) ts a e in
    columns_by n before next ts a w.token w.rest w.split w.item (comma_means w.token w.item w.means) w.reads (λ cs us h. columns_were n cs next us a h)

-- ---- schemas

abbrev pub schema_places : List Column → List Part → List Part
schema_places cs ps = schema_parts cs ++ close_paren ∷ ps

pub schema_was : {A : Type 0} (next : List Column → Tree A) (ts : List (List ℕ)) (a : A) → runs (schema_then next) ts ≡ Some a → Was next schema_places IsSchema ts a
unfolding schema_then
schema_was next ts a e =
    let n = name_is (λ n. keyword_then (codes "INT") (keyword_then (codes "PRIMARY") (keyword_then (codes "KEY") (columns_then 7 (record { name = n; kind = kind.Int } ∷ []) next)))) ts a e in
    let one : Column = record { name = n.item; kind = kind.Int } in
    let i = keyword_is (codes "INT") (keyword_then (codes "PRIMARY") (keyword_then (codes "KEY") (columns_then 7 (one ∷ []) next))) n.rest a n.reads in
    let p = keyword_is (codes "PRIMARY") (keyword_then (codes "KEY") (columns_then 7 (one ∷ []) next)) i.0 a i.1 in
    let k = keyword_is (codes "KEY") (columns_then 7 (one ∷ []) next) p.0 a p.1 in
    let r = columns_were 7 (one ∷ []) next k.0 a k.1 in
    record {
      item = one ∷ r.item;
      rest = r.rest;
      fit = record { amount = (omega arith, omega (arith, r.few)); key = refl; kinds = (tt, r.kinds); distinct = r.distinct (refl, tt) };
      reads = r.reads;
      stand = λ ps h.
          let on : List Part = column_parts r.item ++ close_paren ∷ ps in
          n.stand (key (codes "INT") ∷ key (codes "PRIMARY") ∷ key (codes "KEY") ∷ on) (i.2 (key (codes "PRIMARY") ∷ key (codes "KEY") ∷ on) (p.2 (key (codes "KEY") ∷ on) (k.2 on (r.stand ps h))));
    }
