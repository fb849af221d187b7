-- What is in the grammar is read.
use Rattle.std.proofs.Common.{◌≡◌, ℕ, zero, suc, ◌≤◌, ℤ, pos, Bool, true, false, List, [], ◌∷◌, ◌++◌, length, Option, Some, None, map, codes, refl, sym, ap, ◌∙◌, subst, arith, append_assoc, append-nil}
use Rattle.std.specs.Prelude.{if◌then◌else◌}
use Rattle.std.specs.List.{AllByRecursion}
use Rattle.ctr_types.specs.declared.value.Column.{Column}
use Rattle.ctr_types.specs.declared.value.Kind.{Kind}
use Rattle.ctr_types.specs.declared.value.Kind.TheVariants as kind
use Rattle.ctr_types.specs.declared.value.Value.{Value}
use Rattle.ctr_types.specs.declared.statement.Statement.{Statement}
use Rattle.ctr_types.specs.declared.statement.Statement.TheVariants as st
use Rattle.ctr_types.specs.declared.statement.KeyIs.{KeyIs}
use Rattle.ctr_types.specs.declared.statement.Set.{Set}
use Rattle.ctr_types.specs.declared.statement.SetTo.{SetTo}
use Rattle.ctr_types.specs.declared.statement.SetTo.TheVariants as to
use Rattle.ctr_types.specs.declared.statement.Line.{Line}
use Rattle.ctr_model.specs.State.{same_name, has_name}
use Rattle.ctr_model.specs.Grammar.{Part, key, name, int, sign, session, comma, open_paren, close_paren, literal, literals, kind_parts, column_parts, schema_parts, where_parts, set_parts, sets_parts, statement_parts, IsKind, IsAmount, AreDistinct, IsSchema, IsWithin}
use Rattle.ctr_model.specs.Language.{MatchesPart, MatchParts, SpellsStatement, SpellsLine}
use Rattle.ctr_parse.specs.declared.word.Verb.{Verb}
use Rattle.ctr_parse.specs.declared.word.Verb.TheVariants as verb
use Rattle.ctr_parse.specs.declared.word.Right.TheVariants as right
use Rattle.ctr_parse.specs.Spelled.{int_of}
use Rattle.ctr_parse.specs.Trees.{Tree, done, one_then, keyword_of, sign_of, name_of, literal_of, right_of, comma_or_end, comma_or_where, int_or_text, room_of, fresh_of, verb_of, session_of, keyword_then, sign_then, name_then, int_then, key_is_then, optional_then, values_then, behind_right, right_then, set_then, sets_then, kind_then, columns_then, schema_then, create_then, drop_then, insert_then, select_then, update_then, delete_then, verb_then, statement_then, alone, whole_line}
use Rattle.ctr_parse.proofs.Trees.{runs, one_again, or_again, or_not}
use Rattle.ctr_parse.proofs.Spellings.{int_from}
use Rattle.ctr_parse.proofs.Meanings.{means_key, means_sign, means_name, means_literal, means_right, means_comma, means_where, means_kind, means_room, means_fresh, means_session, word_of, means_verb}
use Rattle.ctr_parse.proofs.Read.{key_parts, optional_parts, right_parts, assigned_parts, set_regroup}
use Rattle.ctr_parse.proofs.ReadColumns.{kind_places, schema_places, or_false, from_or, turned}
use Rattle.ctr_parse.proofs.ReadStatements.{statement_places}

-- The tree reads on as the next one does behind some of the tokens, and the places that are left
-- stand there.
abbrev pub Goes : {A : Type 0} → Tree A → Tree A → List Part → List (List ℕ) → Type 0
Goes tree next ps ts = (us : List (List ℕ)) × (runs tree ts ≡ runs next us) × MatchParts us ps

one_goes : {X A : Type 0} (m : List ℕ → Option X) (k : X → Tree A) (p : Part) (x : X) (ps : List Part) (ts : List (List ℕ)) → ((t : List ℕ) → MatchesPart p t → m t ≡ Some x) → MatchParts ts (p ∷ ps) → Goes (one_then m k) (k x) ps ts
one_goes m k p x ps [] means h = absurd h
one_goes m k p x ps (t ∷ us) means h = (us, one_again m k t us x (means t h.0), h.1)

keyword_goes : {A : Type 0} (k : List ℕ) (next : Tree A) (ps : List Part) (ts : List (List ℕ)) → MatchParts ts (key k ∷ ps) → Goes (keyword_then k next) next ps ts
unfolding keyword_then
keyword_goes k next ps ts h = one_goes (keyword_of k) (λ _. next) (key k) tt ps ts (means_key k) h

sign_goes : {A : Type 0} (c : ℕ) (next : Tree A) (ps : List Part) (ts : List (List ℕ)) → MatchParts ts (sign c ∷ ps) → Goes (sign_then c next) next ps ts
unfolding sign_then
sign_goes c next ps ts h = one_goes (sign_of c) (λ _. next) (sign c) tt ps ts (means_sign c) h

name_goes : {A : Type 0} (n : List ℕ) (next : List ℕ → Tree A) (ps : List Part) (ts : List (List ℕ)) → MatchParts ts (name n ∷ ps) → Goes (name_then next) (next n) ps ts
unfolding name_then
name_goes n next ps ts h = one_goes name_of next (name n) n ps ts (λ t is. means_name t n is.0 is.1) h

int_goes : {A : Type 0} (z : ℤ) (next : ℤ → Tree A) (ps : List Part) (ts : List (List ℕ)) → MatchParts ts (int z ∷ ps) → Goes (int_then next) (next z) ps ts
unfolding int_then
int_goes z next ps ts h = one_goes int_of next (int z) z ps ts (λ t is. int_from t z is.0 is.1) h

-- ---- WHERE

key_goes : {A : Type 0} (at : KeyIs) (next : KeyIs → Tree A) (ps : List Part) (ts : List (List ℕ)) → MatchParts ts (key_parts at ps) → Goes (key_is_then next) (next at) ps ts
unfolding key_is_then
key_goes at next ps ts h =
    let n = name_goes at.column (λ c. sign_then 61 (int_then (λ z. next (record { column = c; key = z })))) (sign 61 ∷ int at.key ∷ ps) ts h in
    let s = sign_goes 61 (int_then (λ z. next (record { column = at.column; key = z }))) (int at.key ∷ ps) n.0 n.2 in
    let i = int_goes at.key (λ z. next (record { column = at.column; key = z })) ps s.0 s.2 in
    (i.0, n.1 ∙ s.1 ∙ i.1, i.2)

-- no WHERE stands at the first of these places
abbrev pub NoWhere : List Part → Type 0
NoWhere ps = (t : List ℕ) (us : List (List ℕ)) → MatchParts (t ∷ us) ps → keyword_of (codes "WHERE") t ≡ None

optional_goes : {A : Type 0} (at : Option KeyIs) (next : Option KeyIs → Tree A) (ps : List Part) (ts : List (List ℕ)) → NoWhere ps → MatchParts ts (optional_parts at ps) → Goes (optional_then next) (next at) ps ts
unfolding optional_then
optional_goes None next ps [] none h = ([], refl, h)
optional_goes None next ps (t ∷ us) none h = (t ∷ us, or_not (keyword_of (codes "WHERE")) (λ _. key_is_then (λ at. next (Some at))) (next None) t us (none t us h), h)
optional_goes (Some at) next ps [] none h = absurd h
optional_goes (Some at) next ps (t ∷ us) none h =
    let k = key_goes at (λ at. next (Some at)) ps us h.1 in
    (k.0, or_again (keyword_of (codes "WHERE")) (λ _. key_is_then (λ at. next (Some at))) (next None) t us tt (means_key (codes "WHERE") t h.0) ∙ k.1, k.2)

-- ---- values

values_go : {A : Type 0} (vs : List Value) (n : ℕ) (before : List Value) (next : List Value → Tree A) (ps : List Part) (ts : List (List ℕ)) → 1 ≤ length vs → length vs ≤ suc n
    → MatchParts ts (literals vs ++ close_paren ∷ ps) → Goes (values_then n before next) (next (before ++ vs)) ps ts
unfolding values_then
values_go [] n before next ps ts some few h = absurd (omega arith)
values_go (v ∷ []) zero before next ps ts some few h =
    let a = one_goes literal_of (λ v. sign_then 41 (next (before ++ v ∷ []))) (literal v) v (close_paren ∷ ps) ts (means_literal v) h in
    let b = sign_goes 41 (next (before ++ v ∷ [])) ps a.0 a.2 in
    (b.0, a.1 ∙ b.1, b.2)
values_go (v ∷ []) (suc n) before next ps ts some few h =
    let k = λ (v : Value) (more : Bool). if more then values_then n (before ++ v ∷ []) next else next (before ++ v ∷ []) in
    let a = one_goes literal_of (λ v. one_then comma_or_end (k v)) (literal v) v (close_paren ∷ ps) ts (means_literal v) h in
    let b = one_goes comma_or_end (k v) close_paren false ps a.0 (means_comma false) a.2 in
    (b.0, a.1 ∙ b.1, b.2)
values_go (v ∷ w ∷ vs) zero before next ps ts some few h = absurd (omega arith)
values_go (v ∷ w ∷ vs) (suc n) before next ps ts some few h =
    let k = λ (v : Value) (more : Bool). if more then values_then n (before ++ v ∷ []) next else next (before ++ v ∷ []) in
    let a = one_goes literal_of (λ v. one_then comma_or_end (k v)) (literal v) v (comma ∷ (literals (w ∷ vs) ++ close_paren ∷ ps)) ts (means_literal v) h in
    let b = one_goes comma_or_end (k v) comma true (literals (w ∷ vs) ++ close_paren ∷ ps) a.0 (means_comma true) a.2 in
    let r = values_go (w ∷ vs) n (before ++ v ∷ []) next ps b.0 (omega arith) (omega arith) b.2 in
    (r.0, a.1 ∙ b.1 ∙ r.1 ∙ ap (λ xs. runs (next xs) r.0) (append_assoc before (v ∷ []) (w ∷ vs)), r.2)

-- ---- assignments

right_goes : {A : Type 0} (r : SetTo) (next : SetTo → Tree A) (ps : List Part) (ts : List (List ℕ)) → MatchParts ts (right_parts r ps) → Goes (right_then next) (next r) ps ts
unfolding right_then
right_goes (to.Is v) next ps ts h = one_goes right_of (behind_right next) (literal v) (right.Is v) ps ts (means_right (right.Is v)) h
right_goes (to.Sum n z) next ps ts h =
    let a = one_goes right_of (behind_right next) (name n) (right.Of n) (sign 43 ∷ int z ∷ ps) ts (means_right (right.Of n)) h in
    let s = sign_goes 43 (int_then (λ z. next (to.Sum n z))) (int z ∷ ps) a.0 a.2 in
    let i = int_goes z (λ z. next (to.Sum n z)) ps s.0 s.2 in
    (i.0, a.1 ∙ s.1 ∙ i.1, i.2)

set_goes : {A : Type 0} (s : Set) (next : Set → Tree A) (ps : List Part) (ts : List (List ℕ)) → MatchParts ts (assigned_parts s ps) → Goes (set_then next) (next s) ps ts
unfolding set_then
set_goes s next ps ts h =
    let n = name_goes s.column (λ c. sign_then 61 (right_then (λ r. next (record { column = c; to = r })))) (sign 61 ∷ right_parts s.to ps) ts h in
    let e = sign_goes 61 (right_then (λ r. next (record { column = s.column; to = r }))) (right_parts s.to ps) n.0 n.2 in
    let r = right_goes s.to (λ r. next (record { column = s.column; to = r })) ps e.0 e.2 in
    (r.0, n.1 ∙ e.1 ∙ r.1, r.2)

sets_go : {A : Type 0} (ss : List Set) (n : ℕ) (before : List Set) (next : List Set → Tree A) (ps : List Part) (ts : List (List ℕ)) → 1 ≤ length ss → length ss ≤ suc n
    → MatchParts ts (sets_parts ss ++ key (codes "WHERE") ∷ ps) → Goes (sets_then n before next) (next (before ++ ss)) ps ts
unfolding sets_then
sets_go [] n before next ps ts some few h = absurd (omega arith)
sets_go (s ∷ []) zero before next ps ts some few h =
    let one = subst (MatchParts ts) (sym (set_regroup s.column s.to (key (codes "WHERE") ∷ ps))) h in
    let a = set_goes s (λ s. keyword_then (codes "WHERE") (next (before ++ s ∷ []))) (key (codes "WHERE") ∷ ps) ts one in
    let b = keyword_goes (codes "WHERE") (next (before ++ s ∷ [])) ps a.0 a.2 in
    (b.0, a.1 ∙ b.1, b.2)
sets_go (s ∷ []) (suc n) before next ps ts some few h =
    let k = λ (s : Set) (more : Bool). if more then sets_then n (before ++ s ∷ []) next else next (before ++ s ∷ []) in
    let one = subst (MatchParts ts) (sym (set_regroup s.column s.to (key (codes "WHERE") ∷ ps))) h in
    let a = set_goes s (λ s. one_then comma_or_where (k s)) (key (codes "WHERE") ∷ ps) ts one in
    let b = one_goes comma_or_where (k s) (key (codes "WHERE")) false ps a.0 (means_where false) a.2 in
    (b.0, a.1 ∙ b.1, b.2)
sets_go (s ∷ w ∷ ss) zero before next ps ts some few h = absurd (omega arith)
sets_go (s ∷ w ∷ ss) (suc n) before next ps ts some few h =
    let k = λ (s : Set) (more : Bool). if more then sets_then n (before ++ s ∷ []) next else next (before ++ s ∷ []) in
    let rest : List Part = sets_parts (w ∷ ss) ++ key (codes "WHERE") ∷ ps in
    let one = subst (MatchParts ts) (append_assoc (set_parts s.column s.to) (comma ∷ sets_parts (w ∷ ss)) (key (codes "WHERE") ∷ ps) ∙ sym (set_regroup s.column s.to (comma ∷ rest))) h in
    let a = set_goes s (λ s. one_then comma_or_where (k s)) (comma ∷ rest) ts one in
    let b = one_goes comma_or_where (k s) comma true rest a.0 (means_where true) a.2 in
    let r = sets_go (w ∷ ss) n (before ++ s ∷ []) next ps b.0 (omega arith) (omega arith) b.2 in
    (r.0, a.1 ∙ b.1 ∙ r.1 ∙ ap (λ xs. runs (next xs) r.0) (append_assoc before (s ∷ []) (w ∷ ss)), r.2)

-- ---- columns

kind_goes : {A : Type 0} (k : Kind) (next : Kind → Tree A) (ps : List Part) (ts : List (List ℕ)) → IsKind k → MatchParts ts (kind_places k ps) → Goes (kind_then next) (next k) ps ts
unfolding kind_then
kind_goes kind.Int next ps ts fits h =
    one_goes int_or_text (λ is_int. if is_int then next kind.Int else sign_then 40 (one_then room_of (λ n. sign_then 41 (next (kind.Chars n))))) (key (codes "INT")) true ps ts (means_kind true) h
kind_goes (kind.Chars n) next ps ts fits h =
    let a = one_goes int_or_text (λ is_int. if is_int then next kind.Int else sign_then 40 (one_then room_of (λ n. sign_then 41 (next (kind.Chars n))))) (key (codes "TEXT")) false (open_paren ∷ int (pos n) ∷ close_paren ∷ ps) ts (means_kind false) h in
    let o = sign_goes 40 (one_then room_of (λ n. sign_then 41 (next (kind.Chars n)))) (int (pos n) ∷ close_paren ∷ ps) a.0 a.2 in
    let r = one_goes room_of (λ n. sign_then 41 (next (kind.Chars n))) (int (pos n)) n (close_paren ∷ ps) o.0 (λ t is. means_room n t (fits.0, fits.1, is.0, is.1)) o.2 in
    let c = sign_goes 41 (next (kind.Chars n)) ps r.0 r.2 in
    (c.0, a.1 ∙ o.1 ∙ r.1 ∙ c.1, c.2)

-- a name that a later column has is none of those before
new_last : (n : List ℕ) (before : List Column) (c : Column) (cs : List Column) → has_name n (map (λ d. d.name) (before ++ c ∷ cs)) ≡ false → same_name c.name n ≡ false
new_last n [] c cs e = (or_false (same_name c.name n) (has_name n (map (λ d. d.name) cs)) e).0
new_last n (d ∷ before) c cs e = new_last n before c cs (or_false (same_name d.name n) (has_name n (map (λ d. d.name) (before ++ c ∷ cs))) e).1

distinct_last : (before : List Column) (c : Column) (cs : List Column) → AreDistinct (before ++ c ∷ cs) → has_name c.name (map (λ d. d.name) before) ≡ false
distinct_last [] c cs all = refl
distinct_last (d ∷ before) c cs all =
    from_or (same_name d.name c.name) (has_name c.name (map (λ d. d.name) before)) (turned c.name d.name (new_last d.name before c cs all.0)) (distinct_last before c cs all.1)

columns_go : {A : Type 0} (cs : List Column) (n : ℕ) (before : List Column) (next : List Column → Tree A) (ps : List Part) (ts : List (List ℕ)) → length cs ≤ n → AllByRecursion (λ c. IsKind c.kind) cs
    → AreDistinct (before ++ cs) → MatchParts ts (column_parts cs ++ close_paren ∷ ps) → Goes (columns_then n before next) (next (before ++ cs)) ps ts
unfolding columns_then
columns_go [] zero before next ps ts few kinds distinct h =
    let a = sign_goes 41 (next before) ps ts h in
    (a.0, a.1 ∙ ap (λ xs. runs (next xs) a.0) (sym (append-nil before)), a.2)
columns_go [] (suc n) before next ps ts few kinds distinct h =
    let k = λ (more : Bool). if more then one_then (fresh_of before) (λ m. kind_then (λ k. columns_then n (before ++ record { name = m; kind = k } ∷ []) next)) else next before in
    let a = one_goes comma_or_end k close_paren false ps ts (means_comma false) h in
    (a.0, a.1 ∙ ap (λ xs. runs (next xs) a.0) (sym (append-nil before)), a.2)
columns_go (c ∷ cs) zero before next ps ts few kinds distinct h = absurd (omega arith)
columns_go (c ∷ cs) (suc n) before next ps ts few kinds distinct h =
    let f = λ (m : List ℕ). kind_then (λ k. columns_then n (before ++ record { name = m; kind = k } ∷ []) next) in
    let k = λ (more : Bool). if more then one_then (fresh_of before) f else next before in
    let rest : List Part = column_parts cs ++ close_paren ∷ ps in
    let a = one_goes comma_or_end k comma true (name c.name ∷ ((kind_parts c.kind ++ column_parts cs) ++ close_paren ∷ ps)) ts (means_comma true) h in
    let new = distinct_last before c cs distinct in
    let b = one_goes (fresh_of before) f (name c.name) c.name ((kind_parts c.kind ++ column_parts cs) ++ close_paren ∷ ps) a.0 (λ t is. means_fresh before t c.name is.0 is.1 new) a.2 in
    let d = kind_goes c.kind (λ k. columns_then n (before ++ record { name = c.name; kind = k } ∷ []) next) rest b.0 kinds.0 (subst (MatchParts b.0) (append_assoc (kind_parts c.kind) (column_parts cs) (close_paren ∷ ps)) b.2) in
    let r = columns_go cs n (before ++ c ∷ []) next ps d.0 (omega arith) kinds.1 (subst AreDistinct (sym (append_assoc before (c ∷ []) cs)) distinct) d.2 in
    (r.0, a.1 ∙ b.1 ∙ d.1 ∙ r.1 ∙ ap (λ xs. runs (next xs) r.0) (append_assoc before (c ∷ []) cs), r.2)

schema_goes : {A : Type 0} (cs : List Column) (next : List Column → Tree A) (ps : List Part) (ts : List (List ℕ)) → IsSchema cs → MatchParts ts (schema_places cs ps) → Goes (schema_then next) (next cs) ps ts
unfolding schema_then
schema_goes [] next ps ts is h = absurd is.key
schema_goes (c ∷ cs) next ps ts is h =
    let rest : List Part = column_parts cs ++ close_paren ∷ ps in
    let one : Column = record { name = c.name; kind = kind.Int } in
    let same : one ≡ c = ap (λ k. record { name = c.name; kind = k }) (sym is.key) in
    let n = name_goes c.name (λ n. keyword_then (codes "INT") (keyword_then (codes "PRIMARY") (keyword_then (codes "KEY") (columns_then 7 (record { name = n; kind = kind.Int } ∷ []) next)))) (key (codes "INT") ∷ key (codes "PRIMARY") ∷ key (codes "KEY") ∷ rest) ts h in
    let i = keyword_goes (codes "INT") (keyword_then (codes "PRIMARY") (keyword_then (codes "KEY") (columns_then 7 (one ∷ []) next))) (key (codes "PRIMARY") ∷ key (codes "KEY") ∷ rest) n.0 n.2 in
    let p = keyword_goes (codes "PRIMARY") (keyword_then (codes "KEY") (columns_then 7 (one ∷ []) next)) (key (codes "KEY") ∷ rest) i.0 i.2 in
    let k = keyword_goes (codes "KEY") (columns_then 7 (one ∷ []) next) rest p.0 p.2 in
    let r = columns_go cs 7 (one ∷ []) next ps k.0 (omega (arith, is.amount.1)) is.kinds.1 (is.distinct.0, is.distinct.1) k.2 in
    (r.0, n.1 ∙ i.1 ∙ p.1 ∙ k.1 ∙ r.1 ∙ ap (λ (d : Column). runs (next (d ∷ cs)) r.0) same, r.2)

-- ---- statements

abbrev pub StatementGoes : {A : Type 0} → Statement → (Statement → Tree A) → List Part → Tree A → List (List ℕ) → Type 0
StatementGoes s next ps tree ts = Goes tree (next s) ps ts

create_goes : {A : Type 0} (table : List ℕ) (cs : List Column) (next : Statement → Tree A) (ps : List Part) (ts : List (List ℕ)) → IsSchema cs
    → MatchParts ts (key (codes "TABLE") ∷ name table ∷ open_paren ∷ ((schema_parts cs ++ close_paren ∷ []) ++ ps)) → Goes (create_then next) (next (st.Create table (record { columns = cs }))) ps ts
unfolding create_then
create_goes table cs next ps ts is h =
    let rest : List Part = (schema_parts cs ++ close_paren ∷ []) ++ ps in
    let b = keyword_goes (codes "TABLE") (name_then (λ table. sign_then 40 (schema_then (λ cs. next (st.Create table (record { columns = cs })))))) (name table ∷ open_paren ∷ rest) ts h in
    let n = name_goes table (λ table. sign_then 40 (schema_then (λ cs. next (st.Create table (record { columns = cs }))))) (open_paren ∷ rest) b.0 b.2 in
    let o = sign_goes 40 (schema_then (λ cs. next (st.Create table (record { columns = cs })))) rest n.0 n.2 in
    let c = schema_goes cs (λ cs. next (st.Create table (record { columns = cs }))) ps o.0 is (subst (MatchParts o.0) (append_assoc (schema_parts cs) (close_paren ∷ []) ps) o.2) in
    (c.0, b.1 ∙ n.1 ∙ o.1 ∙ c.1, c.2)

insert_goes : {A : Type 0} (table : List ℕ) (vs : List Value) (next : Statement → Tree A) (ps : List Part) (ts : List (List ℕ)) → IsAmount vs
    → MatchParts ts (key (codes "INTO") ∷ name table ∷ key (codes "VALUES") ∷ open_paren ∷ ((literals vs ++ close_paren ∷ []) ++ ps)) → Goes (insert_then next) (next (st.Insert table vs)) ps ts
unfolding insert_then
insert_goes table vs next ps ts is h =
    let rest : List Part = (literals vs ++ close_paren ∷ []) ++ ps in
    let b = keyword_goes (codes "INTO") (name_then (λ table. keyword_then (codes "VALUES") (sign_then 40 (values_then 7 [] (λ vs. next (st.Insert table vs)))))) (name table ∷ key (codes "VALUES") ∷ open_paren ∷ rest) ts h in
    let n = name_goes table (λ table. keyword_then (codes "VALUES") (sign_then 40 (values_then 7 [] (λ vs. next (st.Insert table vs))))) (key (codes "VALUES") ∷ open_paren ∷ rest) b.0 b.2 in
    let w = keyword_goes (codes "VALUES") (sign_then 40 (values_then 7 [] (λ vs. next (st.Insert table vs)))) (open_paren ∷ rest) n.0 n.2 in
    let o = sign_goes 40 (values_then 7 [] (λ vs. next (st.Insert table vs))) rest w.0 w.2 in
    let v = values_go vs 7 [] (λ vs. next (st.Insert table vs)) ps o.0 is.0 is.1 (subst (MatchParts o.0) (append_assoc (literals vs) (close_paren ∷ []) ps) o.2) in
    (v.0, b.1 ∙ n.1 ∙ w.1 ∙ o.1 ∙ v.1, v.2)

select_goes : {A : Type 0} (table : List ℕ) (at : Option KeyIs) (next : Statement → Tree A) (ps : List Part) (ts : List (List ℕ)) → NoWhere ps
    → MatchParts ts (sign 42 ∷ key (codes "FROM") ∷ name table ∷ optional_parts at ps) → Goes (select_then next) (next (st.Select table at)) ps ts
unfolding select_then
select_goes table at next ps ts none h =
    let s = sign_goes 42 (keyword_then (codes "FROM") (name_then (λ table. optional_then (λ at. next (st.Select table at))))) (key (codes "FROM") ∷ name table ∷ optional_parts at ps) ts h in
    let f = keyword_goes (codes "FROM") (name_then (λ table. optional_then (λ at. next (st.Select table at)))) (name table ∷ optional_parts at ps) s.0 s.2 in
    let n = name_goes table (λ table. optional_then (λ at. next (st.Select table at))) (optional_parts at ps) f.0 f.2 in
    let w = optional_goes at (λ at. next (st.Select table at)) ps n.0 none n.2 in
    (w.0, s.1 ∙ f.1 ∙ n.1 ∙ w.1, w.2)

update_goes : {A : Type 0} (table : List ℕ) (ss : List Set) (at : KeyIs) (next : Statement → Tree A) (ps : List Part) (ts : List (List ℕ)) → IsAmount ss
    → MatchParts ts (name table ∷ key (codes "SET") ∷ ((sets_parts ss ++ where_parts at) ++ ps)) → Goes (update_then next) (next (st.Update table ss at)) ps ts
unfolding update_then
update_goes table ss at next ps ts is h =
    let rest : List Part = (sets_parts ss ++ where_parts at) ++ ps in
    let n = name_goes table (λ table. keyword_then (codes "SET") (sets_then 7 [] (λ ss. key_is_then (λ at. next (st.Update table ss at))))) (key (codes "SET") ∷ rest) ts h in
    let b = keyword_goes (codes "SET") (sets_then 7 [] (λ ss. key_is_then (λ at. next (st.Update table ss at)))) rest n.0 n.2 in
    let v = sets_go ss 7 [] (λ ss. key_is_then (λ at. next (st.Update table ss at))) (key_parts at ps) b.0 is.0 is.1 (subst (MatchParts b.0) (append_assoc (sets_parts ss) (where_parts at) ps) b.2) in
    let w = key_goes at (λ at. next (st.Update table ss at)) ps v.0 v.2 in
    (w.0, n.1 ∙ b.1 ∙ v.1 ∙ w.1, w.2)

drop_goes : {A : Type 0} (table : List ℕ) (next : Statement → Tree A) (ps : List Part) (ts : List (List ℕ)) → MatchParts ts (key (codes "TABLE") ∷ name table ∷ ps) → Goes (drop_then next) (next (st.DropTable table)) ps ts
unfolding drop_then
drop_goes table next ps ts h =
    let b = keyword_goes (codes "TABLE") (name_then (λ table. next (st.DropTable table))) (name table ∷ ps) ts h in
    let n = name_goes table (λ table. next (st.DropTable table)) ps b.0 b.2 in
    (n.0, b.1 ∙ n.1, n.2)

delete_goes : {A : Type 0} (table : List ℕ) (at : KeyIs) (next : Statement → Tree A) (ps : List Part) (ts : List (List ℕ)) → MatchParts ts (key (codes "FROM") ∷ name table ∷ key (codes "WHERE") ∷ key_parts at ps)
    → Goes (delete_then next) (next (st.Delete table at)) ps ts
unfolding delete_then
delete_goes table at next ps ts h =
    let f = keyword_goes (codes "FROM") (name_then (λ table. keyword_then (codes "WHERE") (key_is_then (λ at. next (st.Delete table at))))) (name table ∷ key (codes "WHERE") ∷ key_parts at ps) ts h in
    let n = name_goes table (λ table. keyword_then (codes "WHERE") (key_is_then (λ at. next (st.Delete table at)))) (key (codes "WHERE") ∷ key_parts at ps) f.0 f.2 in
    let b = keyword_goes (codes "WHERE") (key_is_then (λ at. next (st.Delete table at))) (key_parts at ps) n.0 n.2 in
    let w = key_goes at (λ at. next (st.Delete table at)) ps b.0 b.2 in
    (w.0, f.1 ∙ n.1 ∙ b.1 ∙ w.1, w.2)

-- the first word, and what stands behind it
begun : {A : Type 0} (v : Verb) (next : Statement → Tree A) (s : Statement) (places ps : List Part) (ts : List (List ℕ)) → MatchParts ts (key (word_of v) ∷ places)
    → ((us : List (List ℕ)) → MatchParts us places → Goes (verb_then next v) (next s) ps us) → Goes (statement_then next) (next s) ps ts
unfolding statement_then
begun v next s places ps ts h goes =
    let a = one_goes verb_of (verb_then next) (key (word_of v)) v places ts (means_verb v) h in
    let b = goes a.0 a.2 in
    (b.0, a.1 ∙ b.1, b.2)

here : {A : Type 0} (tree : Tree A) (ps : List Part) (us : List (List ℕ)) → MatchParts us ps → Goes tree tree ps us
here tree ps us h = (us, refl, h)

statement_goes : {A : Type 0} (s : Statement) (next : Statement → Tree A) (ps : List Part) (ts : List (List ℕ)) → IsWithin s → NoWhere ps → MatchParts ts (statement_places s ps) → Goes (statement_then next) (next s) ps ts
statement_goes st.Begin next ps ts is none h = begun verb.Begin next st.Begin ps ps ts h (here (next st.Begin) ps)
statement_goes st.Commit next ps ts is none h = begun verb.Commit next st.Commit ps ps ts h (here (next st.Commit) ps)
statement_goes st.Rollback next ps ts is none h = begun verb.Rollback next st.Rollback ps ps ts h (here (next st.Rollback) ps)
statement_goes (st.Create table schema) next ps ts is none h =
    begun verb.Create next (st.Create table schema) (key (codes "TABLE") ∷ name table ∷ open_paren ∷ ((schema_parts schema.columns ++ close_paren ∷ []) ++ ps)) ps ts h (λ us m. create_goes table schema.columns next ps us is m)
statement_goes (st.DropTable table) next ps ts is none h =
    begun verb.Remove next (st.DropTable table) (key (codes "TABLE") ∷ name table ∷ ps) ps ts h (λ us m. drop_goes table next ps us m)
statement_goes (st.Insert table vs) next ps ts is none h =
    begun verb.Insert next (st.Insert table vs) (key (codes "INTO") ∷ name table ∷ key (codes "VALUES") ∷ open_paren ∷ ((literals vs ++ close_paren ∷ []) ++ ps)) ps ts h (λ us m. insert_goes table vs next ps us is m)
statement_goes (st.Select table at) next ps ts is none h =
    begun verb.Select next (st.Select table at) (sign 42 ∷ key (codes "FROM") ∷ name table ∷ optional_parts at ps) ps ts h (λ us m. select_goes table at next ps us none m)
statement_goes (st.Update table ss at) next ps ts is none h =
    begun verb.Update next (st.Update table ss at) (name table ∷ key (codes "SET") ∷ ((sets_parts ss ++ where_parts at) ++ ps)) ps ts h (λ us m. update_goes table ss at next ps us is m)
statement_goes (st.Delete table at) next ps ts is none h =
    begun verb.Delete next (st.Delete table at) (key (codes "FROM") ∷ name table ∷ key (codes "WHERE") ∷ key_parts at ps) ps ts h (λ us m. delete_goes table at next ps us m)

ended : {A : Type 0} (a : A) (us : List (List ℕ)) → MatchParts us [] → runs (done a) us ≡ Some a
ended a [] h = refl
ended a (u ∷ us) h = absurd h

no_where_at_end : NoWhere []
no_where_at_end t us h = absurd h

semicolon : keyword_of (codes "WHERE") (59 ∷ []) ≡ None
unfolding keyword_of
semicolon = refl

no_where_at_sign : NoWhere (sign 59 ∷ [])
no_where_at_sign t us h = ap (keyword_of (codes "WHERE")) h.0 ∙ semicolon

-- a statement alone
pub alone_goes : (ts : List (List ℕ)) (s : Statement) → SpellsStatement ts s → runs alone ts ≡ Some (record { session = 1; statement = s })
unfolding alone
alone_goes ts s is =
    let next = λ (s : Statement). done {A = Line} (record { session = 1; statement = s }) in
    let a = statement_goes s next [] ts is.within no_where_at_end (subst (MatchParts ts) (sym (append-nil (statement_parts s))) is.spelled) in
    a.1 ∙ ended (record { session = 1; statement = s }) a.0 a.2

-- a whole line
pub line_goes : (ts : List (List ℕ)) (l : Line) → SpellsLine ts l → runs whole_line ts ≡ Some l
unfolding whole_line
line_goes ts l is =
    let next = λ (n : ℕ) (s : Statement). sign_then 59 (done {A = Line} (record { session = n; statement = s })) in
    let rest : List Part = statement_parts l.statement ++ sign 59 ∷ [] in
    let n = one_goes session_of (λ n. sign_then 62 (statement_then (next n))) (session l.session) l.session (sign 62 ∷ rest) ts (λ t e. means_session l.session t (is.low, is.high, e)) is.spelled in
    let g = sign_goes 62 (statement_then (next l.session)) rest n.0 n.2 in
    let s = statement_goes l.statement (next l.session) (sign 59 ∷ []) g.0 is.within no_where_at_sign g.2 in
    let e = sign_goes 59 (done {A = Line} l) [] s.0 s.2 in
    n.1 ∙ g.1 ∙ s.1 ∙ e.1 ∙ ended l e.0 e.2
