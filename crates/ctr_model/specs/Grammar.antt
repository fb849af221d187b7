-- The grammar of scripts: bytes, tokens, and the places for tokens in statements and lines, with
-- what no token shows. How tokens are spelled at their places is Language.antt, where a text goes
-- wrong Places.antt, and what the lines of a script are Lines.antt.
use Rattle.std.specs.Prelude.{◌≡◌, ◌≢◌, ◌⊎◌, ℕ, ◌+◌, ◌-◌, ◌<◌, ◌≤◌, ◌^◌, ℤ, pos, negsuc, false, List, [], ◌∷◌, ◌++◌, length, map, codes, Option, Some, None, ◌&&◌, nat_le, if◌then◌else◌}
use Rattle.std.specs.List.{AllByRecursion}
use Rattle.std.specs.Str.Parse.{digits_value}
use Rattle.ctr_types.specs.Names.{IsName}
use Rattle.ctr_types.specs.declared.value.Column.{Column}
use Rattle.ctr_types.specs.declared.value.Kind.{Kind}
use Rattle.ctr_types.specs.declared.value.Kind.TheVariants as kind
use Rattle.ctr_types.specs.declared.value.Value.{Value}
use Rattle.ctr_types.specs.declared.value.Value.TheVariants as value
use Rattle.ctr_types.specs.declared.statement.Statement.{Statement}
use Rattle.ctr_types.specs.declared.statement.Statement.TheVariants as st
use Rattle.ctr_types.specs.declared.statement.KeyIs.{KeyIs}
use Rattle.ctr_types.specs.declared.statement.Set.{Set}
use Rattle.ctr_types.specs.declared.statement.SetTo.{SetTo}
use Rattle.ctr_types.specs.declared.statement.SetTo.TheVariants as to
use Rattle.ctr_types.specs.declared.statement.Line.{Line}
use Rattle.ctr_model.specs.State.{has_name}
use Rattle.ctr_model.specs.Texts.{quoted}

-- ---- bytes

-- a space or a tab
abbrev pub IsBlank : ℕ → Type 0
IsBlank c = (c ≡ 32) ⊎ (c ≡ 9)

-- A byte of printable ASCII, from 32 to 126.
abbrev pub IsPrintable : ℕ → Type 0
IsPrintable c = (32 ≤ c) × (c ≤ 126)

-- A byte that is a digit, 0 to 9.
abbrev pub IsDigit : ℕ → Type 0
IsDigit c = (48 ≤ c) × (c ≤ 57)

-- A byte that is a capital letter, A to Z.
abbrev pub IsCapital : ℕ → Type 0
IsCapital c = (65 ≤ c) × (c ≤ 90)

-- A byte that is a letter of ASCII or an underscore.
abbrev pub IsLetter : ℕ → Type 0
IsLetter c = IsCapital c ⊎ (((97 ≤ c) × (c ≤ 122)) ⊎ (c ≡ 95))

-- a letter, a digit or _
abbrev pub IsWordByte : ℕ → Type 0
IsWordByte c = IsLetter c ⊎ IsDigit c

-- > ; ( ) , = + *
abbrev pub IsSign : ℕ → Type 0
IsSign c =
    (c ≡ 62) ⊎ ((c ≡ 59) ⊎ ((c ≡ 40) ⊎ ((c ≡ 41)
    ⊎ ((c ≡ 44) ⊎ ((c ≡ 61) ⊎ ((c ≡ 43) ⊎ (c ≡ 42)))))))

-- ---- tokens

-- a letter or _, then letters, digits and _
abbrev pub IsWord : List ℕ → Type 0
IsWord [] = ⊥
IsWord (c ∷ cs) = IsLetter c × AllByRecursion IsWordByte cs

-- A list of one digit or more.
abbrev pub IsNumeral : List ℕ → Type 0
IsNumeral ds = (0 < length ds) × AllByRecursion IsDigit ds

-- digits that stand for a number, after a - or not; -0 and leading zeros among them
abbrev pub IsInteger : List ℕ → ℤ → Type 0
IsInteger text (pos n) =
    (IsNumeral text × (digits_value 10 text ≡ n))
    ⊎ ((ds : List ℕ) × (text ≡ 45 ∷ ds) × IsNumeral ds × (digits_value 10 ds ≡ n) × (n ≡ 0))
IsInteger text (negsuc n) =
    (ds : List ℕ) × (text ≡ 45 ∷ ds) × IsNumeral ds × (digits_value 10 ds ≡ n + 1)

-- A number is a whole number of 64 bits, with a sign.
abbrev pub IsWide : ℤ → Type 0
IsWide (pos n) = n < 2 ^ 63
IsWide (negsuc n) = n < 2 ^ 63

-- the text between quotes, each quote in it doubled
abbrev pub IsQuoted : List ℕ → List ℕ → Type 0
IsQuoted spelled text = (spelled ≡ quoted text) × AllByRecursion IsPrintable text

-- a token: a word, an integer, a text or a sign
abbrev pub IsToken : List ℕ → Type 0
IsToken spelled =
    IsWord spelled ⊎ (((z : ℤ) × IsInteger spelled z)
    ⊎ (((text : List ℕ) × IsQuoted spelled text) ⊎ ((c : ℕ) × IsSign c × (spelled ≡ c ∷ []))))

-- with no further bytes of what follows it is a token too
abbrev pub IsLongest : List ℕ → List ℕ → Type 0
IsLongest spelled rest =
    (more after : List ℕ) → rest ≡ more ++ after → 0 < length more → IsToken (spelled ++ more) → ⊥

-- the bytes are these tokens, with any blanks before each and after the last
abbrev pub Lexes : List ℕ → List (List ℕ) → Type 0
Lexes bytes [] = AllByRecursion IsBlank bytes
Lexes bytes (t ∷ ts) =
    (blanks rest : List ℕ) × (bytes ≡ blanks ++ t ++ rest) × AllByRecursion IsBlank blanks
    × IsToken t × IsLongest t rest × Lexes rest ts

-- ---- what a token must be

-- a place of a statement, for a token
pub data Part : Type 0 where
  key : List ℕ → Part
  name : List ℕ → Part
  int : ℤ → Part
  text : List ℕ → Part
  sign : ℕ → Part
  session : ℕ → Part

-- The keywords of the language, in capitals.
abbrev pub keywords : List (List ℕ)
keywords =
    codes "CREATE" ∷ codes "TABLE" ∷ codes "DROP" ∷ codes "BEGIN" ∷ codes "COMMIT"
    ∷ codes "ROLLBACK" ∷ codes "INSERT" ∷ codes "INTO" ∷ codes "VALUES" ∷ codes "SELECT"
    ∷ codes "FROM" ∷ codes "WHERE"
    ∷ codes "UPDATE" ∷ codes "SET" ∷ codes "DELETE" ∷ codes "INT" ∷ codes "TEXT" ∷ codes "PRIMARY"
    ∷ codes "KEY" ∷ []

-- a small letter as a capital
abbrev pub capital : ℕ → ℕ
capital c = if nat_le 97 c && nat_le c 122 then c - 32 else c

-- a word of 1 to 16 bytes that is no keyword in any case
abbrev pub IsNameSpelled : List ℕ → Type 0
IsNameSpelled word = IsName word × IsWord word × (has_name (map capital word) keywords ≡ false)

-- ---- statements

-- The part of a statement that is a comma.
abbrev pub comma : Part
comma = sign 44

-- The part of a statement that is an opening parenthesis.
abbrev pub open_paren : Part
open_paren = sign 40

-- The part of a statement that is a closing parenthesis.
abbrev pub close_paren : Part
close_paren = sign 41

-- The part of a statement that is a value.
abbrev pub literal : Value → Part
literal (value.Int n) = int n
literal (value.Chars t) = text t

-- The parts of a list of values, with commas between.
abbrev pub literals : List Value → List Part
literals [] = []
literals (v ∷ []) = literal v ∷ []
literals (v ∷ w ∷ vs) = literal v ∷ comma ∷ literals (w ∷ vs)

-- INT, or TEXT with its room in parentheses
abbrev pub kind_parts : Kind → List Part
kind_parts kind.Int = key (codes "INT") ∷ []
kind_parts (kind.Chars most) =
    key (codes "TEXT") ∷ open_paren ∷ int (pos most) ∷ close_paren ∷ []

-- the columns after the first, each after a comma
abbrev pub column_parts : List Column → List Part
column_parts [] = []
column_parts (c ∷ cs) = comma ∷ name c.name ∷ kind_parts c.kind ++ column_parts cs

-- the first column, which is the key, and the others
abbrev pub schema_parts : List Column → List Part
schema_parts [] = []
schema_parts (c ∷ cs) =
    name c.name ∷ key (codes "INT") ∷ key (codes "PRIMARY") ∷ key (codes "KEY") ∷ column_parts cs

-- WHERE, a column and its value
abbrev pub where_parts : KeyIs → List Part
where_parts at = key (codes "WHERE") ∷ name at.column ∷ sign 61 ∷ int at.key ∷ []

-- The parts of a condition on the key, or none where there is no condition.
abbrev pub optional_where : Option KeyIs → List Part
optional_where None = []
optional_where (Some at) = where_parts at

-- a column, and a value or the sum of a column and a number
abbrev pub set_parts : List ℕ → SetTo → List Part
set_parts column (to.Is v) = name column ∷ sign 61 ∷ literal v ∷ []
set_parts column (to.Sum other n) =
    name column ∷ sign 61 ∷ name other ∷ sign 43 ∷ int n ∷ []

-- The parts of a list of assignments, with commas between.
abbrev pub sets_parts : List Set → List Part
sets_parts [] = []
sets_parts (s ∷ []) = set_parts s.column s.to
sets_parts (s ∷ t ∷ ss) = set_parts s.column s.to ++ comma ∷ sets_parts (t ∷ ss)

-- the places of a statement, in order
abbrev pub statement_parts : Statement → List Part
statement_parts st.Begin = key (codes "BEGIN") ∷ []
statement_parts st.Commit = key (codes "COMMIT") ∷ []
statement_parts st.Rollback = key (codes "ROLLBACK") ∷ []
statement_parts (st.Create table schema) =
    key (codes "CREATE") ∷ key (codes "TABLE") ∷ name table
    ∷ open_paren ∷ schema_parts schema.columns ++ close_paren ∷ []
statement_parts (st.DropTable table) = key (codes "DROP") ∷ key (codes "TABLE") ∷ name table ∷ []
statement_parts (st.Insert table values) =
    key (codes "INSERT") ∷ key (codes "INTO") ∷ name table
    ∷ key (codes "VALUES") ∷ open_paren ∷ literals values ++ close_paren ∷ []
statement_parts (st.Select table at) =
    key (codes "SELECT") ∷ sign 42 ∷ key (codes "FROM") ∷ name table ∷ optional_where at
statement_parts (st.Update table sets at) =
    key (codes "UPDATE") ∷ name table ∷ key (codes "SET") ∷ sets_parts sets ++ where_parts at
statement_parts (st.Delete table at) =
    key (codes "DELETE") ∷ key (codes "FROM") ∷ name table ∷ where_parts at

-- 1 to 8 of them
abbrev pub IsAmount : {X : Type 0} → List X → Type 0
IsAmount xs = (1 ≤ length xs) × (length xs ≤ 8)

-- a text column has room for 1 to 64 bytes
abbrev pub IsKind : Kind → Type 0
IsKind kind.Int = Unit {0}
IsKind (kind.Chars most) = (1 ≤ most) × (most ≤ 64)

-- no two columns have one name
abbrev pub AreDistinct : List Column → Type 0
AreDistinct [] = Unit {0}
AreDistinct (c ∷ cs) = (has_name c.name (map (λ d. d.name) cs) ≡ false) × AreDistinct cs

-- the first column is there, and is an INT
abbrev pub first_is_int : List Column → Type 0
first_is_int [] = ⊥
first_is_int (c ∷ cs) = c.kind ≡ kind.Int

-- the columns of a table
pub record IsSchema (columns : List Column) : Type 0 where
  pub amount : IsAmount columns
  pub key : first_is_int columns
  pub kinds : AllByRecursion (λ c. IsKind c.kind) columns
  pub distinct : AreDistinct columns

-- what no token shows: 1 to 8 columns of different names, values and assignments
abbrev pub IsWithin : Statement → Type 0
IsWithin st.Begin = Unit {0}
IsWithin st.Commit = Unit {0}
IsWithin st.Rollback = Unit {0}
IsWithin (st.Create table schema) = IsSchema schema.columns
IsWithin (st.DropTable table) = Unit {0}
IsWithin (st.Insert table values) = IsAmount values
IsWithin (st.Select table at) = Unit {0}
IsWithin (st.Update table sets at) = IsAmount sets
IsWithin (st.Delete table at) = Unit {0}

-- ---- lines

-- the session's number, >, the statement and ;
abbrev pub line_parts : Line → List Part
line_parts l = session l.session ∷ sign 62 ∷ statement_parts l.statement ++ sign 59 ∷ []

-- a line without its end has no LF
abbrev pub HasNoEnd : List ℕ → Type 0
HasNoEnd line = AllByRecursion (λ c. c ≢ 10) line

-- the most bytes that a script has
abbrev pub most_bytes : ℕ
most_bytes = 16777216
