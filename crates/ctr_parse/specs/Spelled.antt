-- Tests of a token's bytes that compute, and what a token stands for. They retell the code; that
-- they are the grammar's forms is shown with `parse_line`, whose clauses are those of the grammar.
use Rattle.std.specs.Prelude.{ℕ, zero, suc, ◌^◌, ℤ, pos, negsuc, Bool, true, false, not, ◌&&◌, ◌||◌, ◌==◌, nat_lt, nat_le, List, [], ◌∷◌, ◌++◌, length, map, Option, Some, None, if◌then◌else◌}
use Rattle.std.specs.List.{list_all}
use Rattle.std.specs.Str.Parse.{digits_value}
use Rattle.ctr_model.specs.State.{has_name}
use Rattle.ctr_model.specs.Grammar.{capital, keywords}

-- A number is from low to high, both included.
abbrev pub is_between : ℕ → ℕ → ℕ → Bool
is_between low high c = nat_le low c && nat_le c high

-- A byte is a digit, 0 to 9.
abbrev pub is_digit : ℕ → Bool
is_digit c = is_between 48 57 c

-- A byte is a letter of ASCII or an underscore.
abbrev pub is_letter : ℕ → Bool
is_letter c = is_between 65 90 c || (is_between 97 122 c || c == 95)

-- a letter, a digit or _
abbrev pub is_word_byte : ℕ → Bool
is_word_byte c = is_letter c || is_digit c

-- a letter or _, then letters, digits and _
abbrev pub is_word : List ℕ → Bool
is_word [] = false
is_word (c ∷ cs) = is_letter c && list_all is_word_byte cs

-- the word is a keyword, in any case
abbrev pub is_keyword : List ℕ → Bool
is_keyword word = has_name (map capital word) keywords

-- the word is a name
unfoldable pub is_name : List ℕ → Bool
is_name word = is_word word && (nat_le (length word) 16 && not (is_keyword word))

-- A list of bytes is one digit or more.
abbrev pub is_numeral : List ℕ → Bool
is_numeral [] = false
is_numeral (d ∷ ds) = is_digit d && list_all is_digit ds

-- the number of these digits after a -
abbrev pub below_zero : ℕ → ℤ
below_zero zero = pos 0
below_zero (suc n) = negsuc n

-- The number that digits say behind a minus sign, where it is a whole number of 64 bits.
abbrev pub negative_of : List ℕ → Option ℤ
negative_of ds =
    if is_numeral ds && nat_le (digits_value 10 ds) (2 ^ 63)
    then Some (below_zero (digits_value 10 ds)) else None

-- the number of these digits, where it is a whole number of 64 bits
abbrev pub positive_of : List ℕ → Option ℤ
positive_of ds =
    if is_numeral ds && nat_lt (digits_value 10 ds) (2 ^ 63)
    then Some (pos (digits_value 10 ds)) else None

-- the whole number of 64 bits that is spelled so
unfoldable pub int_of : List ℕ → Option ℤ
int_of [] = None
int_of (c ∷ cs) = if c == 45 then negative_of cs else positive_of (c ∷ cs)

-- The bytes of a text with others in front of them.
abbrev pub with_bytes : List ℕ → Option (List ℕ) → Option (List ℕ)
with_bytes front None = None
with_bytes front (Some text) = Some (front ++ text)

-- The text that bytes after a quote spell. After a second quote, which is closed, they may end;
-- or a third one follows, and the two stand for one.
abbrev pub unquoted : Bool → List ℕ → Option (List ℕ)
unquoted false [] = None
unquoted true [] = Some []
unquoted false (c ∷ cs) =
    if c == 39 then unquoted true cs else
    (if is_between 32 126 c then with_bytes (c ∷ []) (unquoted false cs) else None)
unquoted true (c ∷ cs) = if c == 39 then with_bytes (39 ∷ []) (unquoted false cs) else None

-- the text that is spelled so
unfoldable pub text_spelled : List ℕ → Option (List ℕ)
text_spelled [] = None
text_spelled (c ∷ cs) = if c == 39 then unquoted false cs else None
