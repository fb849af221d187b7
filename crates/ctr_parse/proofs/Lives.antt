-- Wherever the reading of a statement stands, it may go on to an end.
use Rattle.std.proofs.Common.{◌≡◌, ℕ, zero, suc, ◌+◌, ◌≤◌, ℤ, pos, Bool, true, false, List, [], ◌∷◌, ◌++◌, length, get_or, Option, Some, None, map, codes, refl, sym, ap, ◌∙◌, subst, inl, inr, arith, append_assoc, length-append, lit<, lit≤}
use Rattle.std.specs.Prelude.{◌==◌, if◌then◌else◌}
use Rattle.std.specs.List.{AllByRecursion}
use Rattle.std.proofs.lemmas.Bool.Decides.{nat_tests}
use Rattle.ctr_types.specs.declared.value.Column.{Column}
use Rattle.ctr_types.specs.declared.value.Kind.{Kind}
use Rattle.ctr_types.specs.declared.value.Kind.TheVariants as kind
use Rattle.ctr_types.specs.declared.value.Value.{Value}
use Rattle.ctr_types.specs.declared.value.Value.TheVariants as value
use Rattle.ctr_types.specs.declared.statement.Statement.{Statement}
use Rattle.ctr_types.specs.declared.statement.Statement.TheVariants as st
use Rattle.ctr_types.specs.declared.statement.KeyIs.{KeyIs}
use Rattle.ctr_types.specs.declared.statement.Set.{Set}
use Rattle.ctr_types.specs.declared.statement.SetTo.{SetTo}
use Rattle.ctr_types.specs.declared.statement.SetTo.TheVariants as to
use Rattle.ctr_types.specs.declared.statement.Line.{Line}
use Rattle.ctr_model.specs.State.{same_name, has_name}
use Rattle.ctr_model.specs.Grammar.{capital, IsWordByte, IsNameSpelled}
use Rattle.ctr_parse.specs.declared.word.Verb.{Verb}
use Rattle.ctr_parse.specs.declared.word.Verb.TheVariants as verb
use Rattle.ctr_parse.specs.declared.word.Right.{Right}
use Rattle.ctr_parse.specs.declared.word.Right.TheVariants as right
use Rattle.ctr_parse.specs.Spelled.{int_of}
use Rattle.ctr_parse.specs.Trees.{Tree, done, one_then, keyword_of, sign_of, name_of, literal_of, right_of, comma_or_end, comma_or_where, int_or_text, room_of, fresh_of, verb_of, session_of, keyword_then, sign_then, name_then, int_then, key_is_then, optional_then, values_then, behind_right, right_then, set_then, sets_then, kind_then, columns_then, schema_then, create_then, drop_then, insert_then, select_then, update_then, delete_then, verb_then, statement_then, alone, whole_line}
use Rattle.ctr_parse.proofs.Trees.{Living, one_lives, or_lives, done_lives}
use Rattle.ctr_parse.proofs.Spellings.{same_Decides}
use Rattle.ctr_parse.proofs.Meanings.{means_key, means_sign, means_name, means_comma, means_where, means_kind, means_fresh, means_verb}
use Rattle.ctr_parse.proofs.ReadColumns.{from_or}

-- ---- one token

keyword_lives : {A : Type 0} (k : List ℕ) (next : Tree A) → map capital k ≡ k → Living next → Living (keyword_then k next)
unfolding keyword_then
keyword_lives k next e living = one_lives (keyword_of k) (λ _. next) k tt (means_key k k e) (λ u y h. living)

sign_lives : {A : Type 0} (c : ℕ) (next : Tree A) → Living next → Living (sign_then c next)
unfolding sign_then
sign_lives c next living = one_lives (sign_of c) (λ _. next) (c ∷ []) tt (means_sign c (c ∷ []) refl) (λ u y h. living)

-- a name
a_is_name : IsNameSpelled (97 ∷ [])
a_is_name = ((lit< tt, lit≤ tt), (inr (inl (lit≤ tt, lit≤ tt)), tt), refl)

name_lives : {A : Type 0} (next : List ℕ → Tree A) → ((n : List ℕ) → Living (next n)) → Living (name_then next)
unfolding name_then
name_lives next living = one_lives name_of next (97 ∷ []) (97 ∷ []) (means_name (97 ∷ []) (97 ∷ []) refl a_is_name) (λ u y h. living y)

zero_int : int_of (48 ∷ []) ≡ Some (pos 0)
unfolding int_of
zero_int = refl

int_lives : {A : Type 0} (next : ℤ → Tree A) → ((z : ℤ) → Living (next z)) → Living (int_then next)
unfolding int_then
int_lives next living = one_lives int_of next (48 ∷ []) (pos 0) zero_int (λ u y h. living y)

zero_literal : literal_of (48 ∷ []) ≡ Some (value.Int (pos 0))
unfolding literal_of
zero_literal = rw zero_int refl

zero_right : right_of (48 ∷ []) ≡ Some (right.Is (value.Int (pos 0)))
unfolding right_of
zero_right = rw zero_literal refl

-- ---- parts

key_lives : {A : Type 0} (next : KeyIs → Tree A) → ((at : KeyIs) → Living (next at)) → Living (key_is_then next)
unfolding key_is_then
key_lives next living =
    name_lives (λ c. sign_then 61 (int_then (λ z. next (record { column = c; key = z })))) (λ c.
    sign_lives 61 (int_then (λ z. next (record { column = c; key = z }))) (int_lives (λ z. next (record { column = c; key = z })) (λ z. living (record { column = c; key = z }))))

optional_lives : {A : Type 0} (next : Option KeyIs → Tree A) → ((at : Option KeyIs) → Living (next at)) → Living (optional_then next)
unfolding optional_then
optional_lives next living =
    or_lives (keyword_of (codes "WHERE")) (λ _. key_is_then (λ at. next (Some at))) (next None) (living None) (λ u y h. key_lives (λ at. next (Some at)) (λ at. living (Some at)))

choice_lives : {A : Type 0} (b : Bool) (x y : Tree A) → Living x → Living y → Living (if b then x else y)
choice_lives true x y living other = living
choice_lives false x y living other = other

values_live : {A : Type 0} (n : ℕ) (before : List Value) (next : List Value → Tree A) → ((vs : List Value) → Living (next vs)) → Living (values_then n before next)
unfolding values_then
values_live zero before next living =
    one_lives literal_of (λ v. sign_then 41 (next (before ++ v ∷ []))) (48 ∷ []) (value.Int (pos 0)) zero_literal (λ u v h. sign_lives 41 (next (before ++ v ∷ [])) (living (before ++ v ∷ [])))
values_live (suc n) before next living =
    let k = λ (v : Value) (more : Bool). if more then values_then n (before ++ v ∷ []) next else next (before ++ v ∷ []) in
    one_lives literal_of (λ v. one_then comma_or_end (k v)) (48 ∷ []) (value.Int (pos 0)) zero_literal (λ u v h.
    one_lives comma_or_end (k v) (41 ∷ []) false (means_comma false (41 ∷ []) refl) (λ w more g.
    choice_lives more (values_then n (before ++ v ∷ []) next) (next (before ++ v ∷ [])) (values_live n (before ++ v ∷ []) next living) (living (before ++ v ∷ []))))

behind_lives : {A : Type 0} (next : SetTo → Tree A) (r : Right) → ((t : SetTo) → Living (next t)) → Living (behind_right next r)
behind_lives next (right.Is v) living = living (to.Is v)
behind_lives next (right.Of n) living = sign_lives 43 (int_then (λ z. next (to.Sum n z))) (int_lives (λ z. next (to.Sum n z)) (λ z. living (to.Sum n z)))

right_lives : {A : Type 0} (next : SetTo → Tree A) → ((t : SetTo) → Living (next t)) → Living (right_then next)
unfolding right_then
right_lives next living = one_lives right_of (behind_right next) (48 ∷ []) (right.Is (value.Int (pos 0))) zero_right (λ u r h. behind_lives next r living)

set_lives : {A : Type 0} (next : Set → Tree A) → ((s : Set) → Living (next s)) → Living (set_then next)
unfolding set_then
set_lives next living =
    name_lives (λ c. sign_then 61 (right_then (λ r. next (record { column = c; to = r })))) (λ c.
    sign_lives 61 (right_then (λ r. next (record { column = c; to = r }))) (right_lives (λ r. next (record { column = c; to = r })) (λ r. living (record { column = c; to = r }))))

sets_live : {A : Type 0} (n : ℕ) (before : List Set) (next : List Set → Tree A) → ((ss : List Set) → Living (next ss)) → Living (sets_then n before next)
unfolding sets_then
sets_live zero before next living =
    set_lives (λ s. keyword_then (codes "WHERE") (next (before ++ s ∷ []))) (λ s. keyword_lives (codes "WHERE") (next (before ++ s ∷ [])) refl (living (before ++ s ∷ [])))
sets_live (suc n) before next living =
    let k = λ (s : Set) (more : Bool). if more then sets_then n (before ++ s ∷ []) next else next (before ++ s ∷ []) in
    set_lives (λ s. one_then comma_or_where (k s)) (λ s.
    one_lives comma_or_where (k s) (codes "WHERE") false (means_where false (codes "WHERE") refl) (λ w more g.
    choice_lives more (sets_then n (before ++ s ∷ []) next) (next (before ++ s ∷ [])) (sets_live n (before ++ s ∷ []) next living) (living (before ++ s ∷ []))))

-- ---- columns

one_room : room_of (49 ∷ []) ≡ Some 1
unfolding room_of int_of
one_room = refl

kind_lives : {A : Type 0} (next : Kind → Tree A) → ((k : Kind) → Living (next k)) → Living (kind_then next)
unfolding kind_then
kind_lives next living =
    let texts = sign_then 40 (one_then room_of (λ n. sign_then 41 (next (kind.Chars n)))) in
    one_lives int_or_text (λ is_int. if is_int then next kind.Int else texts) (codes "INT") true (means_kind true (codes "INT") refl) (λ u is_int h.
    choice_lives is_int (next kind.Int) texts (living kind.Int)
    (sign_lives 40 (one_then room_of (λ n. sign_then 41 (next (kind.Chars n))))
    (one_lives room_of (λ n. sign_then 41 (next (kind.Chars n))) (49 ∷ []) 1 one_room (λ w n g. sign_lives 41 (next (kind.Chars n)) (living (kind.Chars n))))))

-- a letter other than this one
other_letter : ℕ → ℕ
other_letter c = if c == 97 then 98 else 97

-- letters that differ, each in its place, from the names in turn
apart_from : ℕ → List (List ℕ) → List ℕ
apart_from i [] = []
apart_from i (n ∷ ns) = other_letter (get_or n i 0) ∷ apart_from (suc i) ns

-- a name that is none of these
new_name : List (List ℕ) → List ℕ
new_name names = 95 ∷ apart_from 1 names

by_test : (c : ℕ) (b : Bool) → (c == 97) ≡ b → ((if b then 98 else 97) ≡ c → ⊥) × IsWordByte (if b then 98 else 97)
by_test c true e = (λ h. grind (arith, nat_tests), inl (inr (inl (lit≤ tt, lit≤ tt))))
by_test c false e = (λ h. grind (arith, nat_tests), inl (inr (inl (lit≤ tt, lit≤ tt))))

letter : (c : ℕ) → (other_letter c ≡ c → ⊥) × IsWordByte (other_letter c)
unfolding other_letter
letter c = by_test c (c == 97) refl

are_word_bytes : (i : ℕ) (ns : List (List ℕ)) → AllByRecursion IsWordByte (apart_from i ns)
unfolding apart_from
are_word_bytes i [] = tt
are_word_bytes i (n ∷ ns) = ((letter (get_or n i 0)).1, are_word_bytes (suc i) ns)

as_long : (i : ℕ) (ns : List (List ℕ)) → length (apart_from i ns) ≡ length ns
unfolding apart_from
as_long i [] = refl
as_long i (n ∷ ns) = ap (λ m. suc m) (as_long (suc i) ns)

at_length : (front rest : List ℕ) (x : ℕ) → get_or (front ++ x ∷ rest) (length front) 0 ≡ x
at_length [] rest x = refl
at_length (c ∷ front) rest x = at_length front rest x

differ : (b : Bool) (n front rest : List ℕ) → same_name n (front ++ other_letter (get_or n (length front) 0) ∷ rest) ≡ b → b ≡ false
differ false n front rest e = refl
differ true n front rest e =
    let c = get_or n (length front) 0 in
    let same : n ≡ front ++ other_letter c ∷ rest = (same_Decides n (front ++ other_letter c ∷ rest)).0 e in
    absurd ((letter c).0 (sym (at_length front rest (other_letter c)) ∙ ap (λ l. get_or l (length front) 0) (sym same)))

none_of : (front : List ℕ) (i : ℕ) (ns : List (List ℕ)) → i ≡ length front → has_name (front ++ apart_from i ns) ns ≡ false
unfolding apart_from
none_of front i [] e = refl
none_of front i (n ∷ ns) e =
    let x = other_letter (get_or n i 0) in
    let whole : List ℕ = front ++ x ∷ apart_from (suc i) ns in
    let here : same_name n whole ≡ false = subst (λ j. same_name n (front ++ other_letter (get_or n j 0) ∷ apart_from (suc i) ns) ≡ false) (sym e) (differ (same_name n (front ++ other_letter (get_or n (length front) 0) ∷ apart_from (suc i) ns)) n front (apart_from (suc i) ns) refl) in
    let longer : suc i ≡ length (front ++ x ∷ []) = omega (arith, length-append front (x ∷ [])) in
    let rest : has_name ((front ++ x ∷ []) ++ apart_from (suc i) ns) ns ≡ false = none_of (front ++ x ∷ []) (suc i) ns longer in
    from_or (same_name n whole) (has_name whole ns) here (subst (λ l. has_name l ns ≡ false) (append_assoc front (x ∷ []) (apart_from (suc i) ns)) rest)

new_is_name : (ns : List (List ℕ)) → length ns ≤ 15 → IsNameSpelled (new_name ns)
unfolding new_name
new_is_name ns few = ((omega arith, omega (arith, as_long 1 ns)), (inr (inr refl), are_word_bytes 1 ns), refl)

new_is_new : (ns : List (List ℕ)) → has_name (new_name ns) ns ≡ false
unfolding new_name
new_is_new ns = none_of (95 ∷ []) 1 ns refl

mapped_length : (cs : List Column) → length (map (λ c. c.name) cs) ≡ length cs
mapped_length [] = refl
mapped_length (c ∷ cs) = ap (λ n. suc n) (mapped_length cs)

fresh_lives : {A : Type 0} (cs : List Column) (next : List ℕ → Tree A) → length cs ≤ 15 → ((n : List ℕ) → Living (next n)) → Living (one_then (fresh_of cs) next)
fresh_lives cs next few living =
    let names = map (λ (c : Column). c.name) cs in
    let n = new_name names in
    one_lives (fresh_of cs) next n n (means_fresh cs n n refl (new_is_name names (omega (arith, mapped_length cs))) (new_is_new names)) (λ u y h. living y)

columns_live : {A : Type 0} (n : ℕ) (before : List Column) (next : List Column → Tree A) → length before + n ≤ 8 → ((cs : List Column) → Living (next cs)) → Living (columns_then n before next)
unfolding columns_then
columns_live zero before next few living = sign_lives 41 (next before) (living before)
columns_live (suc n) before next few living =
    let f = λ (m : List ℕ). kind_then (λ k. columns_then n (before ++ record { name = m; kind = k } ∷ []) next) in
    let k = λ (more : Bool). if more then one_then (fresh_of before) f else next before in
    one_lives comma_or_end k (41 ∷ []) false (means_comma false (41 ∷ []) refl) (λ w more g.
    choice_lives more (one_then (fresh_of before) f) (next before)
    (fresh_lives before f (omega arith) (λ m. kind_lives (λ k. columns_then n (before ++ record { name = m; kind = k } ∷ []) next) (λ k.
    let one : Column = record { name = m; kind = k } in
    columns_live n (before ++ one ∷ []) next (omega (arith, length-append before (one ∷ []))) living)))
    (living before))

schema_lives : {A : Type 0} (next : List Column → Tree A) → ((cs : List Column) → Living (next cs)) → Living (schema_then next)
unfolding schema_then
schema_lives next living =
    name_lives (λ n. keyword_then (codes "INT") (keyword_then (codes "PRIMARY") (keyword_then (codes "KEY") (columns_then 7 (record { name = n; kind = kind.Int } ∷ []) next)))) (λ n.
    let one : Column = record { name = n; kind = kind.Int } in
    keyword_lives (codes "INT") (keyword_then (codes "PRIMARY") (keyword_then (codes "KEY") (columns_then 7 (one ∷ []) next))) refl
    (keyword_lives (codes "PRIMARY") (keyword_then (codes "KEY") (columns_then 7 (one ∷ []) next)) refl
    (keyword_lives (codes "KEY") (columns_then 7 (one ∷ []) next) refl (columns_live 7 (one ∷ []) next (omega arith) living))))

-- ---- statements

verb_lives : {A : Type 0} (next : Statement → Tree A) (v : Verb) → ((s : Statement) → Living (next s)) → Living (verb_then next v)
unfolding create_then drop_then insert_then select_then update_then delete_then
verb_lives next verb.Begin living = living st.Begin
verb_lives next verb.Commit living = living st.Commit
verb_lives next verb.Rollback living = living st.Rollback
verb_lives next verb.Create living =
    keyword_lives (codes "TABLE") (name_then (λ table. sign_then 40 (schema_then (λ cs. next (st.Create table (record { columns = cs })))))) refl
    (name_lives (λ table. sign_then 40 (schema_then (λ cs. next (st.Create table (record { columns = cs }))))) (λ table.
    sign_lives 40 (schema_then (λ cs. next (st.Create table (record { columns = cs }))))
    (schema_lives (λ cs. next (st.Create table (record { columns = cs }))) (λ cs. living (st.Create table (record { columns = cs }))))))
verb_lives next verb.Remove living =
    keyword_lives (codes "TABLE") (name_then (λ table. next (st.DropTable table))) refl (name_lives (λ table. next (st.DropTable table)) (λ table. living (st.DropTable table)))
verb_lives next verb.Insert living =
    keyword_lives (codes "INTO") (name_then (λ table. keyword_then (codes "VALUES") (sign_then 40 (values_then 7 [] (λ vs. next (st.Insert table vs)))))) refl
    (name_lives (λ table. keyword_then (codes "VALUES") (sign_then 40 (values_then 7 [] (λ vs. next (st.Insert table vs))))) (λ table.
    keyword_lives (codes "VALUES") (sign_then 40 (values_then 7 [] (λ vs. next (st.Insert table vs)))) refl
    (sign_lives 40 (values_then 7 [] (λ vs. next (st.Insert table vs))) (values_live 7 [] (λ vs. next (st.Insert table vs)) (λ vs. living (st.Insert table vs))))))
verb_lives next verb.Select living =
    sign_lives 42 (keyword_then (codes "FROM") (name_then (λ table. optional_then (λ at. next (st.Select table at)))))
    (keyword_lives (codes "FROM") (name_then (λ table. optional_then (λ at. next (st.Select table at)))) refl
    (name_lives (λ table. optional_then (λ at. next (st.Select table at))) (λ table.
    optional_lives (λ at. next (st.Select table at)) (λ at. living (st.Select table at)))))
verb_lives next verb.Update living =
    name_lives (λ table. keyword_then (codes "SET") (sets_then 7 [] (λ ss. key_is_then (λ at. next (st.Update table ss at))))) (λ table.
    keyword_lives (codes "SET") (sets_then 7 [] (λ ss. key_is_then (λ at. next (st.Update table ss at)))) refl
    (sets_live 7 [] (λ ss. key_is_then (λ at. next (st.Update table ss at))) (λ ss. key_lives (λ at. next (st.Update table ss at)) (λ at. living (st.Update table ss at)))))
verb_lives next verb.Delete living =
    keyword_lives (codes "FROM") (name_then (λ table. keyword_then (codes "WHERE") (key_is_then (λ at. next (st.Delete table at))))) refl
    (name_lives (λ table. keyword_then (codes "WHERE") (key_is_then (λ at. next (st.Delete table at)))) (λ table.
    keyword_lives (codes "WHERE") (key_is_then (λ at. next (st.Delete table at))) refl (key_lives (λ at. next (st.Delete table at)) (λ at. living (st.Delete table at)))))

statement_lives : {A : Type 0} (next : Statement → Tree A) → ((s : Statement) → Living (next s)) → Living (statement_then next)
unfolding statement_then
statement_lives next living = one_lives verb_of (verb_then next) (codes "BEGIN") verb.Begin (means_verb verb.Begin (codes "BEGIN") refl) (λ u v h. verb_lives next v living)

pub alone_lives : Living alone
unfolding alone
alone_lives = statement_lives (λ s. done {A = Line} (record { session = 1; statement = s })) (λ s. done_lives {A = Line} (record { session = 1; statement = s }))

one_session : session_of (49 ∷ []) ≡ Some 1
unfolding session_of
one_session = refl

pub line_lives : Living whole_line
unfolding whole_line
line_lives =
    let next = λ (n : ℕ) (s : Statement). sign_then 59 (done {A = Line} (record { session = n; statement = s })) in
    one_lives session_of (λ n. sign_then 62 (statement_then (next n))) (49 ∷ []) 1 one_session (λ u n h.
    sign_lives 62 (statement_then (next n)) (statement_lives (next n) (λ s.
    let one : Line = record { session = n; statement = s } in
    sign_lives 59 (done one) (done_lives one))))
