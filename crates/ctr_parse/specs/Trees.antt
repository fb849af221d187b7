-- Reading statements token by token: what may follow what was read. It retells the reading
-- code; what a statement means is in ctr_model's Language.antt, and where it goes wrong in
-- Places.antt there.
use Rattle.std.specs.Prelude.{◌≡◌, ℕ, zero, suc, ◌-◌, ℤ, pos, negsuc, Bool, false, true, not, ◌&&◌, ◌||◌, nat_le, List, [], ◌∷◌, ◌++◌, map, codes, Option, Some, None, Result, Ok, Err, if◌then◌else◌}
use Rattle.ctr_types.specs.declared.value.Column.{Column}
use Rattle.ctr_types.specs.declared.value.Kind.{Kind}
use Rattle.ctr_types.specs.declared.value.Kind.TheVariants as kind
use Rattle.ctr_types.specs.declared.value.Value.{Value}
use Rattle.ctr_types.specs.declared.value.Value.TheVariants as value
use Rattle.ctr_types.specs.declared.statement.Statement.{Statement}
use Rattle.ctr_types.specs.declared.statement.Statement.TheVariants as st
use Rattle.ctr_types.specs.declared.statement.KeyIs.{KeyIs}
use Rattle.ctr_types.specs.declared.statement.Set.{Set}
use Rattle.ctr_types.specs.declared.statement.SetTo.{SetTo}
use Rattle.ctr_types.specs.declared.statement.SetTo.TheVariants as to
use Rattle.ctr_types.specs.declared.statement.Line.{Line}
use Rattle.ctr_lex.specs.declared.token.Token.{Token}
use Rattle.ctr_model.specs.State.{same_name, has_name}
use Rattle.ctr_model.specs.Grammar.{capital}
use Rattle.ctr_parse.specs.declared.word.Verb.{Verb}
use Rattle.ctr_parse.specs.declared.word.Verb.TheVariants as verb
use Rattle.ctr_parse.specs.declared.word.Right.{Right}
use Rattle.ctr_parse.specs.declared.word.Right.TheVariants as right
use Rattle.ctr_parse.specs.declared.stop.Stop.{Stop}
use Rattle.ctr_parse.specs.declared.stop.Stop.TheVariants as stop
use Rattle.ctr_parse.specs.Spelled.{is_name, int_of, text_spelled}

-- ---- trees

-- What may stand at a place: whether the reading may end there, and with what; which tokens may
-- follow; and what may stand behind each of them.
pub data Tree (A : Type 0) : Type 0 where
  stub : Tree A
  node : Option A → (List ℕ → Bool) → (List ℕ → Tree A) → Tree A

-- what was read, where it may end here
abbrev pub ends_with : {A : Type 0} → Tree A → Option A
ends_with stub = None
ends_with (node end allowed behind) = end

-- A token may follow at this place of a tree.
abbrev pub allows : {A : Type 0} → Tree A → List ℕ → Bool
allows stub t = false
allows (node end allowed behind) t = allowed t

-- what may stand behind it
abbrev pub behind : {A : Type 0} → Tree A → List ℕ → Tree A
behind stub t = stub
behind (node end allowed follows) t = follows t

-- How reading ends: with what was read, at a token that may not stand there, or where more tokens
-- are missing.
pub data Outcome (A : Type 0) : Type 0 where
  read : A → Outcome A
  wrong : ℕ → Outcome A
  missing : Outcome A

-- at the end of the tokens
abbrev pub at_last : {A : Type 0} → Option A → Outcome A
at_last None = missing
at_last (Some a) = read a

-- how reading these tokens ends
abbrev pub outcome : {A : Type 0} → Tree A → List Token → Outcome A
outcome tree [] = at_last (ends_with tree)
outcome tree (t ∷ ts) =
    if allows tree t.text.now then outcome (behind tree t.text.now) ts else wrong t.at

-- what a function returned is how reading goes on, unless memory ran out
abbrev pub Follows : {A X : Type 0} → (X → Outcome A) → Result X Stop → Outcome A → Type 0
Follows go (Ok x) end = end ≡ go x
Follows go (Err stop.OutOfMemory) end = Unit {0}
Follows go (Err (stop.Wrong at)) end = end ≡ wrong at
Follows go (Err stop.Missing) end = end ≡ missing

-- ---- one token

-- An option has a value.
abbrev pub is_there : {X : Type 0} → Option X → Bool
is_there None = false
is_there (Some x) = true

-- what may stand behind it
abbrev pub follow : {X A : Type 0} → (X → Tree A) → Option X → Tree A
follow next None = stub
follow next (Some x) = next x

-- one of two ways on
abbrev pub choose : {X A : Type 0} → (X → Tree A) → Option X → Tree A → Tree A
choose next None other = other
choose next (Some x) other = next x

-- a token that means something, and then what this leads to
abbrev pub one_then : {X A : Type 0} → (List ℕ → Option X) → (X → Tree A) → Tree A
one_then meaning next = node None (λ t. is_there (meaning t)) (λ t. follow next (meaning t))

-- The tree of a reading that is finished: nothing more may follow.
abbrev pub done : {A : Type 0} → A → Tree A
done a = node (Some a) (λ _. false) (λ _. stub)

-- An option that has a value exactly where a test holds.
abbrev pub checked : Bool → Option (Unit {0})
checked false = None
checked true = Some tt

-- the first that is there
abbrev pub first_some : {X : Type 0} → Option X → Option X → Option X
first_some None other = other
first_some (Some x) other = Some x

-- what is made of it
abbrev pub mapped : {X Y : Type 0} → (X → Y) → Option X → Option Y
mapped f None = None
mapped f (Some x) = Some (f x)

-- What an optional value leads to, where there is one.
abbrev pub and_then : {X Y : Type 0} → Option X → (X → Option Y) → Option Y
and_then None f = None
and_then (Some x) f = f x

-- a keyword, in any case
unfoldable pub keyword_of : List ℕ → List ℕ → Option (Unit {0})
keyword_of keyword t = checked (same_name keyword (map capital t))

-- A token reads as a sign where it is that one byte.
unfoldable pub sign_of : ℕ → List ℕ → Option (Unit {0})
sign_of c t = checked (same_name t (c ∷ []))

-- A token reads as a name where it is one.
unfoldable pub name_of : List ℕ → Option (List ℕ)
name_of t = if is_name t then Some t else None

-- that keyword, and then what follows
unfoldable pub keyword_then : {A : Type 0} → List ℕ → Tree A → Tree A
keyword_then keyword next = one_then (keyword_of keyword) (λ _. next)

-- that byte alone, and then what follows
unfoldable pub sign_then : {A : Type 0} → ℕ → Tree A → Tree A
sign_then c next = one_then (sign_of c) (λ _. next)

-- a name, and then what follows
unfoldable pub name_then : {A : Type 0} → (List ℕ → Tree A) → Tree A
name_then next = one_then name_of next

-- a whole number, and then what follows
unfoldable pub int_then : {A : Type 0} → (ℤ → Tree A) → Tree A
int_then next = one_then int_of next

-- a token that means something, and then what this leads to; or what may stand here anyway
abbrev pub or_then : {X A : Type 0} → (List ℕ → Option X) → (X → Tree A) → Tree A → Tree A
or_then meaning next other =
    node (ends_with other) (λ t. is_there (meaning t) || allows other t)
    (λ t. choose next (meaning t) (behind other t))

-- what a function made of a token at this place
abbrev pub Means : {X : Type 0} → Option X → ℕ → Result X Stop → Type 0
Means meaning at (Ok x) = meaning ≡ Some x
Means meaning at (Err stop.OutOfMemory) = Unit {0}
Means meaning at (Err (stop.Wrong i)) = (i ≡ at) × (meaning ≡ None)
Means meaning at (Err stop.Missing) = ⊥

-- ---- what a token means in its place

-- a number or a text
unfoldable pub literal_of : List ℕ → Option Value
literal_of t =
    first_some (mapped (λ z. value.Int z) (int_of t)) (mapped (λ x. value.Chars x) (text_spelled t))

-- a number or a text, or a column's name
unfoldable pub right_of : List ℕ → Option Right
right_of t =
    first_some (mapped (λ v. right.Is v) (literal_of t)) (mapped (λ n. right.Of n) (name_of t))

-- whether a comma stands here, or a )
unfoldable pub comma_or_end : List ℕ → Option Bool
comma_or_end t =
    if same_name t (codes ",") then Some true else
    if same_name t (codes ")") then Some false else None

-- whether a comma stands here, or WHERE
unfoldable pub comma_or_where : List ℕ → Option Bool
comma_or_where t =
    if same_name t (codes ",") then Some true else
    if same_name (codes "WHERE") (map capital t) then Some false else None

-- whether INT stands here, or TEXT
unfoldable pub int_or_text : List ℕ → Option Bool
int_or_text t =
    if same_name (codes "INT") (map capital t) then Some true else
    if same_name (codes "TEXT") (map capital t) then Some false else None

-- a whole number from 1 to 64
abbrev pub room_within : ℤ → Option ℕ
room_within (pos n) = if nat_le 1 n && nat_le n 64 then Some n else None
room_within (negsuc n) = None

-- the room of a text column
unfoldable pub room_of : List ℕ → Option ℕ
room_of t = and_then (int_of t) room_within

-- a name that none of these columns has
unfoldable pub fresh_of : List Column → List ℕ → Option (List ℕ)
fresh_of columns t =
    if is_name t && not (has_name t (map (λ c. c.name) columns)) then Some t else None

-- the words that begin statements
abbrev pub verbs : List (List ℕ × Verb)
verbs =
    (codes "BEGIN", verb.Begin) ∷ (codes "COMMIT", verb.Commit)
    ∷ (codes "ROLLBACK", verb.Rollback) ∷ (codes "CREATE", verb.Create)
    ∷ (codes "DROP", verb.Remove) ∷ (codes "INSERT", verb.Insert)
    ∷ (codes "SELECT", verb.Select) ∷ (codes "UPDATE", verb.Update)
    ∷ (codes "DELETE", verb.Delete) ∷ []

-- the first with this word
abbrev pub verb_among : List ℕ → List (List ℕ × Verb) → Option Verb
verb_among word [] = None
verb_among word (v ∷ vs) = if same_name v.0 word then Some v.1 else verb_among word vs

-- the word that begins a statement
unfoldable pub verb_of : List ℕ → Option Verb
verb_of t = verb_among (map capital t) verbs

-- a session's number, 1 to 8 in one digit
unfoldable pub session_of : List ℕ → Option ℕ
session_of [] = None
session_of (c ∷ []) = if nat_le 49 c && nat_le c 56 then Some (c - 48) else None
session_of (c ∷ d ∷ ds) = None

-- ---- the parts of a statement

-- behind WHERE: a column and its value
unfoldable pub key_is_then : {A : Type 0} → (KeyIs → Tree A) → Tree A
key_is_then next =
    name_then (λ c. sign_then 61 (int_then (λ z. next (record { column = c; key = z }))))

-- WHERE with what stands behind it, or nothing
unfoldable pub optional_then : {A : Type 0} → (Option KeyIs → Tree A) → Tree A
optional_then next =
    or_then (keyword_of (codes "WHERE")) (λ _. key_is_then (λ at. next (Some at))) (next None)

-- so many further values at most behind the next one, and the )
unfoldable pub values_then : {A : Type 0} → ℕ → List Value → (List Value → Tree A) → Tree A
values_then zero values next =
    one_then literal_of (λ v. sign_then 41 (next (values ++ v ∷ [])))
values_then (suc more) values next =
    one_then literal_of (λ v. one_then comma_or_end (λ comma.
    if comma then values_then more (values ++ v ∷ []) next else next (values ++ v ∷ [])))

-- what stands behind the first token of an assignment's right side
abbrev pub behind_right : {A : Type 0} → (SetTo → Tree A) → Right → Tree A
behind_right next (right.Is v) = next (to.Is v)
behind_right next (right.Of n) = sign_then 43 (int_then (λ z. next (to.Sum n z)))

-- the right side of an assignment
unfoldable pub right_then : {A : Type 0} → (SetTo → Tree A) → Tree A
right_then next = one_then right_of (behind_right next)

-- The tree that reads an assignment and goes on.
unfoldable pub set_then : {A : Type 0} → (Set → Tree A) → Tree A
set_then next =
    name_then (λ c. sign_then 61 (right_then (λ r. next (record { column = c; to = r }))))

-- so many further assignments at most behind the next one, and WHERE
unfoldable pub sets_then : {A : Type 0} → ℕ → List Set → (List Set → Tree A) → Tree A
sets_then zero sets next = set_then (λ s. keyword_then (codes "WHERE") (next (sets ++ s ∷ [])))
sets_then (suc more) sets next =
    set_then (λ s. one_then comma_or_where (λ comma.
    if comma then sets_then more (sets ++ s ∷ []) next else next (sets ++ s ∷ [])))

-- INT, or TEXT with its room
unfoldable pub kind_then : {A : Type 0} → (Kind → Tree A) → Tree A
kind_then next =
    one_then int_or_text (λ is_int.
    if is_int then next kind.Int else
    sign_then 40 (one_then room_of (λ n. sign_then 41 (next (kind.Chars n)))))

-- so many further columns at most behind these, and the )
unfoldable pub columns_then : {A : Type 0} → ℕ → List Column → (List Column → Tree A) → Tree A
columns_then zero columns next = sign_then 41 (next columns)
columns_then (suc more) columns next =
    one_then comma_or_end (λ comma.
    if comma then one_then (fresh_of columns) (λ n. kind_then (λ k.
    columns_then more (columns ++ record { name = n; kind = k } ∷ []) next)) else next columns)

-- the columns of a table, and the )
unfoldable pub schema_then : {A : Type 0} → (List Column → Tree A) → Tree A
schema_then next =
    name_then (λ n. keyword_then (codes "INT") (keyword_then (codes "PRIMARY")
    (keyword_then (codes "KEY") (columns_then 7 (record { name = n; kind = kind.Int } ∷ []) next))))

-- ---- statements

-- The tree that reads what stands behind CREATE.
unfoldable pub create_then : {A : Type 0} → (Statement → Tree A) → Tree A
create_then next =
    keyword_then (codes "TABLE") (name_then (λ table. sign_then 40 (schema_then (λ columns.
    next (st.Create table (record { columns = columns }))))))

-- The tree that reads what stands behind DROP.
unfoldable pub drop_then : {A : Type 0} → (Statement → Tree A) → Tree A
drop_then next =
    keyword_then (codes "TABLE") (name_then (λ table. next (st.DropTable table)))

-- The tree that reads what stands behind INSERT.
unfoldable pub insert_then : {A : Type 0} → (Statement → Tree A) → Tree A
insert_then next =
    keyword_then (codes "INTO") (name_then (λ table. keyword_then (codes "VALUES") (sign_then 40
    (values_then 7 [] (λ values. next (st.Insert table values))))))

-- The tree that reads what stands behind SELECT.
unfoldable pub select_then : {A : Type 0} → (Statement → Tree A) → Tree A
select_then next =
    sign_then 42 (keyword_then (codes "FROM") (name_then (λ table.
    optional_then (λ at. next (st.Select table at)))))

-- The tree that reads what stands behind UPDATE.
unfoldable pub update_then : {A : Type 0} → (Statement → Tree A) → Tree A
update_then next =
    name_then (λ table. keyword_then (codes "SET") (sets_then 7 [] (λ sets.
    key_is_then (λ at. next (st.Update table sets at)))))

-- The tree that reads what stands behind DELETE.
unfoldable pub delete_then : {A : Type 0} → (Statement → Tree A) → Tree A
delete_then next =
    keyword_then (codes "FROM") (name_then (λ table. keyword_then (codes "WHERE")
    (key_is_then (λ at. next (st.Delete table at)))))

-- behind the word that begins a statement
abbrev pub verb_then : {A : Type 0} → (Statement → Tree A) → Verb → Tree A
verb_then next verb.Begin = next st.Begin
verb_then next verb.Commit = next st.Commit
verb_then next verb.Rollback = next st.Rollback
verb_then next verb.Create = create_then next
verb_then next verb.Remove = drop_then next
verb_then next verb.Insert = insert_then next
verb_then next verb.Select = select_then next
verb_then next verb.Update = update_then next
verb_then next verb.Delete = delete_then next

-- The tree that reads a whole statement.
unfoldable pub statement_then : {A : Type 0} → (Statement → Tree A) → Tree A
statement_then next = one_then verb_of (verb_then next)

-- a statement alone, as one of session 1
unfoldable pub alone : Tree Line
alone = statement_then (λ s. done (record { session = 1; statement = s }))

-- a session's number, >, a statement and ;
unfoldable pub whole_line : Tree Line
whole_line =
    one_then session_of (λ n. sign_then 62 (statement_then (λ s.
    sign_then 59 (done (record { session = n; statement = s })))))
