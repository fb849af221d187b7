-- The statements of a tape in the order of a script's lines.
use Rattle.std.proofs.Common.{◌≡◌, ◌∙◌, ℕ, ◌+◌, ◌<◌, ◌≤◌, ◌==◌, Bool, true, false, cond, List, [], ◌∷◌, ◌++◌, length, map, Some, refl, sym, ap, ap₂, subst, arith, append_assoc}
use Rattle.std.specs.Prelude.{◌&&◌, take, drop, slice_get}
use Rattle.std.specs.List.{filter, AllByRecursion}
use Rattle.std.proofs.lemmas.List.{append-nil, take_more, take-append-drop}
use Rattle.std.proofs.lemmas.Option.{get_or_from_slice_get, slice_get_within}
use Rattle.std.proofs.lemmas.Bool.{eqb-true, eq-eqb}
use Rattle.ctr_types.specs.declared.statement.Line.{Line}
use Rattle.ctr_types.specs.declared.tape.Entry.{Entry}
use Rattle.ctr_model.specs.Tape.{statements_of, numbered, with_statement, statements_on, is_release, IsSerial}
use Rattle.ctr_serial.specs.Lines.{IsEntryOfLine}

-- ---- a session's statements in some lines

abbrev pub count_of : ℕ → List Line → ℕ
count_of s ls = length (statements_of s ls)

abbrev pub one_of : Bool → ℕ
one_of b = cond b 1 0

pub count_cons : (s : ℕ) (l : Line) (ls : List Line) → count_of s (l ∷ ls) ≡ one_of (l.session == s) + count_of s ls
count_cons s l ls = elim (l.session == s) as (λ b. length (map (λ (m : Line). m.statement) (cond b (l ∷ filter (λ (m : Line). m.session == s) ls) (filter (λ (m : Line). m.session == s) ls))) ≡ one_of b + count_of s ls) [
  | true ↦ omega arith
  | false ↦ omega arith
]

count_append : (s : ℕ) (xs ys : List Line) → count_of s (xs ++ ys) ≡ count_of s xs + count_of s ys
count_append s [] ys = omega arith
count_append s (x ∷ xs) ys = omega (arith, count_cons s x (xs ++ ys), count_cons s x xs, count_append s xs ys)

-- ---- the numbers of statements

numbered_append : (before xs ys : List Line) → numbered before (xs ++ ys) ≡ numbered before xs ++ numbered (before ++ xs) ys
numbered_append before [] ys = ap (λ (b : List Line). numbered b ys) (sym (append-nil before))
numbered_append before (x ∷ xs) ys =
    ap (λ (r : List (ℕ × ℕ)). (x.session, count_of x.session before + 1) ∷ r)
    (numbered_append (before ++ x ∷ []) xs ys ∙ ap (λ (b : List Line). numbered (before ++ x ∷ []) xs ++ numbered b ys) (append_assoc before (x ∷ []) xs))

-- the statement isn't this one
abbrev IsOther : ℕ → ℕ → ℕ × ℕ → Type 0
IsOther s n y = ((y.0 == s) && (y.1 == n)) ≡ false

other_below : (s n a b : ℕ) → b < n → IsOther s n (a, b)
other_below s n a b less = elim (a == s) as (λ c. (c && (b == n)) ≡ false) [
  | true ↦ by (b == n) refl
  | false ↦ refl
]
  where
    by : (c : Bool) → (b == n) ≡ c → (b == n) ≡ false
    by true same = absurd (let is = eqb-true b n same in omega (arith, less, is))
    by false apart = apart

other_session : (s n a b : ℕ) → (a == s) ≡ false → IsOther s n (a, b)
other_session s n a b apart = ap (λ c. c && (b == n)) apart

-- no line has the number that the next statement of a session gets
fresh_number : (s n : ℕ) (before xs : List Line) → count_of s (before ++ xs) < n → AllByRecursion (IsOther s n) (numbered before xs)
fresh_number s n before [] less = tt
fresh_number s n before (x ∷ xs) less = (
  by (x.session == s) refl,
  fresh_number s n (before ++ x ∷ []) xs (subst (λ (ls : List Line). count_of s ls < n) (sym (append_assoc before (x ∷ []) xs)) less),
)
  where
    by : (b : Bool) → (x.session == s) ≡ b → IsOther s n (x.session, count_of x.session before + 1)
    by true is = other_below s n x.session (count_of x.session before + 1)
        (let named = ap (λ q. count_of q before) (eqb-true x.session s is) in let one = ap one_of is in omega (arith, less, named, count_append s before (x ∷ xs), count_cons s x xs, one))
    by false is = other_session s n x.session (count_of x.session before + 1) is

-- ---- the statements on a tape

abbrev IsOf : ℕ → ℕ → Entry → Type 0
IsOf = IsEntryOfLine

-- entries of one statement alone
one_statement : (s n : ℕ) (e : Entry) (es : List Entry) → AllByRecursion (IsOf s n) (e ∷ es) → statements_on (e ∷ es) ≡ (s, n) ∷ []
one_statement s n e [] all =
    ap (λ b. cond b (statements_on []) ((e.session, e.statement) ∷ [])) all.0.2 ∙ (λ i. (all.0.0 i, all.0.1 i) ∷ [])
one_statement s n e (f ∷ es) all =
    ap (λ b. cond b (statements_on (f ∷ es)) (with_statement (e.session, e.statement) (statements_on (f ∷ es)))) all.0.2
    ∙ (λ i. with_statement (all.0.0 i, all.0.1 i) (one_statement s n f es all.1 i))
    ∙ ap₂ (λ b c. cond (b && c) ((s, n) ∷ []) ((s, n) ∷ (s, n) ∷ [])) (eq-eqb s s refl) (eq-eqb n n refl)

-- what stands before them stays
behind_other : (s n : ℕ) (x : ℕ × ℕ) (ys : List (ℕ × ℕ)) → AllByRecursion (IsOther s n) (with_statement x ys) → with_statement x (ys ++ (s, n) ∷ []) ≡ with_statement x ys ++ (s, n) ∷ []
behind_other s n x [] other = ap (λ b. cond b ((s, n) ∷ []) (x ∷ (s, n) ∷ [])) other.0
behind_other s n x (y ∷ ys) other = elim ((x.0 == y.0) && (x.1 == y.1)) as (λ b. cond b (y ∷ ys ++ (s, n) ∷ []) (x ∷ y ∷ ys ++ (s, n) ∷ []) ≡ cond b (y ∷ ys) (x ∷ y ∷ ys) ++ (s, n) ∷ []) [
  | true ↦ refl
  | false ↦ refl
]

others_of : (s n : ℕ) (x : ℕ × ℕ) (ys : List (ℕ × ℕ)) → AllByRecursion (IsOther s n) (with_statement x ys) → AllByRecursion (IsOther s n) ys
others_of s n x [] all = tt
others_of s n x (y ∷ ys) all = by ((x.0 == y.0) && (x.1 == y.1)) all
  where
    by : (b : Bool) → AllByRecursion (IsOther s n) (cond b (y ∷ ys) (x ∷ y ∷ ys)) → AllByRecursion (IsOther s n) (y ∷ ys)
    by true all = all
    by false all = all.1

pub statements_more : (s n : ℕ) (front : List Entry) (e : Entry) (es : List Entry) → AllByRecursion (IsOther s n) (statements_on front) → AllByRecursion (IsOf s n) (e ∷ es)
    → statements_on (front ++ e ∷ es) ≡ statements_on front ++ (s, n) ∷ []
statements_more s n [] e es other all = one_statement s n e es all
statements_more s n (f ∷ front) e es other all = by (is_release f.act) (λ rest. statements_more s n front e es rest all) other
  where
    by : (b : Bool) → (AllByRecursion (IsOther s n) (statements_on front) → statements_on (front ++ e ∷ es) ≡ statements_on front ++ (s, n) ∷ [])
        → AllByRecursion (IsOther s n) (cond b (statements_on front) (with_statement (f.session, f.statement) (statements_on front)))
        → cond b (statements_on (front ++ e ∷ es)) (with_statement (f.session, f.statement) (statements_on (front ++ e ∷ es)))
        ≡ cond b (statements_on front) (with_statement (f.session, f.statement) (statements_on front)) ++ (s, n) ∷ []
    by true more rest = more rest
    by false more rest =
        ap (with_statement (f.session, f.statement)) (more (others_of s n (f.session, f.statement) (statements_on front) rest))
        ∙ behind_other s n (f.session, f.statement) (statements_on front) rest

-- ---- lines that were run

take_push : {X : Type 0} (xs : List X) (k : ℕ) (x : X) → slice_get xs k ≡ Some x → take (k + 1) xs ≡ take k xs ++ x ∷ []
take_push xs k x is = take_more xs k x (slice_get_within xs k x is) ∙ ap (λ y. take k xs ++ y ∷ []) (get_or_from_slice_get xs k x x is)

-- the front of the lines has the front of the numbers
pub front_numbers : (lines : List Line) (k : ℕ) → numbered [] lines ≡ numbered [] (take k lines) ++ numbered (take k lines) (drop k lines)
front_numbers lines k = ap (numbered []) (sym (take-append-drop k lines)) ∙ numbered_append [] (take k lines) (drop k lines)

-- with the line behind them they have one more
pub next_number : (lines : List Line) (k : ℕ) (l : Line) → slice_get lines k ≡ Some l
    → numbered [] (take (k + 1) lines) ≡ numbered [] (take k lines) ++ (l.session, count_of l.session (take k lines) + 1) ∷ []
next_number lines k l there = ap (numbered []) (take_push lines k l there) ∙ numbered_append [] (take k lines) (l ∷ [])

-- where the statements of some lines stand on the tape, the tape is serial
pub serial_front : (lines : List Line) (k : ℕ) (es : List Entry) → statements_on es ≡ numbered [] (take k lines) → IsSerial lines es
serial_front lines k es is = (numbered (take k lines) (drop k lines), front_numbers lines k ∙ ap (λ r. r ++ numbered (take k lines) (drop k lines)) (sym is))

-- entries of the next line behind those of the lines before it
pub line_more : (lines : List Line) (k : ℕ) (l : Line) (front : List Entry) (e : Entry) (es : List Entry) → slice_get lines k ≡ Some l
    → statements_on front ≡ numbered [] (take k lines) → AllByRecursion (IsOf l.session (count_of l.session (take k lines) + 1)) (e ∷ es)
    → statements_on (front ++ e ∷ es) ≡ numbered [] (take (k + 1) lines)
line_more lines k l front e es there before all =
    let s = l.session in
    let n = count_of s (take k lines) + 1 in
    statements_more s n front e es (subst (λ r. AllByRecursion (IsOther s n) r) (sym before) (fresh_number s n [] (take k lines) (omega arith))) all
    ∙ ap (λ r. r ++ (s, n) ∷ []) before ∙ sym (next_number lines k l there)

-- how many statements of a session are in one line more
pub count_mine : (lines : List Line) (k : ℕ) (l : Line) → slice_get lines k ≡ Some l → count_of l.session (take (k + 1) lines) ≡ count_of l.session (take k lines) + 1
count_mine lines k l there =
    let same = ap (count_of l.session) (take_push lines k l there) in
    let one = ap one_of (eq-eqb l.session l.session refl) in
    omega (arith, same, count_append l.session (take k lines) (l ∷ []), count_cons l.session l [], one)

pub count_other : (q : ℕ) (lines : List Line) (k : ℕ) (l : Line) → slice_get lines k ≡ Some l → (l.session == q) ≡ false → count_of q (take (k + 1) lines) ≡ count_of q (take k lines)
count_other q lines k l there apart =
    let same = ap (count_of q) (take_push lines k l there) in
    let none = ap one_of apart in
    omega (arith, same, count_append q (take k lines) (l ∷ []), count_cons q l [], none)

-- the front of the lines has no more of them than all
pub count_front : (q : ℕ) (lines : List Line) (k : ℕ) → count_of q (take k lines) ≤ count_of q lines
count_front q lines k =
    let whole = ap (count_of q) (take-append-drop k lines) in
    omega (arith, whole, count_append q (take k lines) (drop k lines))
