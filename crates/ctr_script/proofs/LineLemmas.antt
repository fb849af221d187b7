-- Lines: where they end, which are comments, and a line more.
use Rattle.std.proofs.Common.{◌≡◌, ◌≢◌, ◌↔◌, ℕ, zero, suc, ◌+◌, ◌<◌, ◌≤◌, Bool, true, false, IsTrue, List, [], ◌∷◌, ◌++◌, length, take, drop, get_or, refl, sym, ap, ◌∙◌, subst, inl, inr, ⊎_elim, arith, append_assoc, append-nil, length-append, take-append-drop, get_or-drop, add-zero, add-one, length-drop, length-take-le, drop-cons, drop-drop}
use Rattle.std.specs.Prelude.{◌==◌, ◌&&◌}
use Rattle.std.specs.List.{AllByRecursion}
use Rattle.std.proofs.lemmas.Bool.Decides.{nat_tests}
use Rattle.std.proofs.lemmas.List.{nil_from_length, take_all}
use Rattle.ctr_types.specs.declared.statement.Line.{Line}
use Rattle.ctr_model.specs.Grammar.{IsBlank, HasNoEnd}
use Rattle.ctr_model.specs.Language.{SpellsLine}
use Rattle.ctr_model.specs.Lines.{in_front, is_at_end, lines_of, IsComment, IsPlain, IsWrongAt, in_comment, AllSay, IsWritten, IsRefusedIn}
use Rattle.ctr_script.specs.Added.{IsFirstLine}
use Rattle.ctr_script.specs.Written.{IsBeforeEnd, AddsSaid}

-- ---- where lines end

and_false : (b : Bool) → (b && false) ≡ false
and_false true = refl
and_false false = refl

not_lf : (c : ℕ) → c ≢ 10 → (c == 10) ≡ false
not_lf c other = grind (arith, nat_tests)

goes_on : (c : ℕ) (cs : List ℕ) → c ≢ 10 → ((c == 13) && is_at_end cs) ≡ false → lines_of (c ∷ cs) ≡ in_front c (lines_of cs)
goes_on c cs other inside = let a = not_lf c other in rw (a, inside) refl

-- the last line, without its end
last_line : (line : List ℕ) → HasNoEnd line → 0 < length line → lines_of line ≡ line ∷ []
last_line [] no_end some = absurd (omega arith)
last_line (c ∷ []) no_end some = goes_on c [] no_end.0 (and_false (c == 13))
last_line (c ∷ d ∷ cs) no_end some =
    let apart = not_lf d no_end.1.0 in
    goes_on c (d ∷ cs) no_end.0 (ap (λ b. (c == 13) && b) apart ∙ and_false (c == 13)) ∙ ap (in_front c) (last_line (d ∷ cs) no_end.1 (omega arith))

-- a line that ends in CR and LF
cr_line : (line rest : List ℕ) → HasNoEnd line → lines_of (line ++ 13 ∷ 10 ∷ rest) ≡ line ∷ lines_of rest
cr_line [] rest no_end = refl
cr_line (c ∷ []) rest no_end = goes_on c (13 ∷ 10 ∷ rest) no_end.0 (and_false (c == 13)) ∙ ap (in_front c) (cr_line [] rest tt)
cr_line (c ∷ d ∷ cs) rest no_end =
    let apart = not_lf d no_end.1.0 in
    goes_on c (d ∷ (cs ++ 13 ∷ 10 ∷ rest)) no_end.0 (ap (λ b. (c == 13) && b) apart ∙ and_false (c == 13)) ∙ ap (in_front c) (cr_line (d ∷ cs) rest no_end.1)

not_cr : (c : ℕ) → c ≢ 13 → (c == 13) ≡ false
not_cr c other = grind (arith, nat_tests)

-- a line that ends in LF alone
lf_line : (line rest : List ℕ) → HasNoEnd line → ((front : List ℕ) → line ≡ front ++ 13 ∷ [] → ⊥) → lines_of (line ++ 10 ∷ rest) ≡ line ∷ lines_of rest
lf_line [] rest no_end no_cr = refl
lf_line (c ∷ []) rest no_end no_cr =
    let other = not_cr c (λ e. no_cr [] (ap (λ x. x ∷ []) e)) in
    goes_on c (10 ∷ rest) no_end.0 (rw other refl) ∙ ap (in_front c) (lf_line [] rest tt (λ front e. absurd (omega (arith, ap length e, length-append front (13 ∷ [])))))
lf_line (c ∷ d ∷ cs) rest no_end no_cr =
    let apart = not_lf d no_end.1.0 in
    goes_on c (d ∷ (cs ++ 10 ∷ rest)) no_end.0 (ap (λ b. (c == 13) && b) apart ∙ and_false (c == 13)) ∙ ap (in_front c) (lf_line (d ∷ cs) rest no_end.1 (λ front e. no_cr (c ∷ front) (ap (λ l. c ∷ l) e)))

no_end_front : (a b : List ℕ) → HasNoEnd (a ++ b) → HasNoEnd a
no_end_front [] b all = tt
no_end_front (c ∷ a) b all = (all.0, no_end_front a b all.1)

-- the first line of some bytes, without a CR at its end
pub first_cut : (bytes whole line rest : List ℕ) → bytes ≡ whole ++ 10 ∷ rest → HasNoEnd whole → IsBeforeEnd whole line → lines_of bytes ≡ line ∷ lines_of rest
first_cut bytes whole line rest e no_end (inl cr) =
    let whole_is : whole ++ 10 ∷ rest ≡ line ++ 13 ∷ 10 ∷ rest = ap (λ l. l ++ 10 ∷ rest) cr ∙ append_assoc line (13 ∷ []) (10 ∷ rest) in
    ap lines_of (e ∙ whole_is) ∙ cr_line line rest (no_end_front line (13 ∷ []) (subst HasNoEnd cr no_end))
first_cut bytes whole line rest e no_end (inr other) =
    ap lines_of e ∙ lf_line whole rest no_end other.1 ∙ ap (λ l. l ∷ lines_of rest) (sym other.0)

pub last_cut : (bytes line rest : List ℕ) → HasNoEnd bytes → 0 < length bytes → line ≡ take (length bytes) bytes → length rest + length bytes ≡ length bytes → lines_of bytes ≡ line ∷ lines_of rest
last_cut bytes line rest no_end some e none =
    let empty : rest ≡ [] = nil_from_length rest (omega arith) in
    last_line bytes no_end some ∙ ap (λ l. l ∷ []) (sym (e ∙ take_all (length bytes) bytes (omega arith))) ∙ ap (λ l. line ∷ lines_of l) (sym empty)

pub behind_end : (bytes whole end behind : List ℕ) (n : ℕ) → IsFirstLine bytes n → whole ≡ take n bytes → end ≡ drop n bytes → behind ≡ drop 1 end → bytes ≡ whole ++ 10 ∷ behind
behind_end bytes whole end behind n is front back more =
    let further : behind ≡ drop (n + 1) bytes = more ∙ ap (drop 1) back ∙ drop-drop 1 n bytes in
    is.2 ∙ ap (λ l. l ++ 10 ∷ drop (n + 1) bytes) (sym front) ∙ ap (λ l. whole ++ 10 ∷ l) (sym further)

-- ---- comments

pub no_blank_dash : IsBlank 45 → ⊥
no_blank_dash is = ⊎_elim (λ (e : 45 ≡ 32). absurd (omega arith)) (λ (e : 45 ≡ 9). absurd (omega arith)) is

-- blanks end at the first byte that is none
pub one_front : (p q : List ℕ) (c d : ℕ) (a b : List ℕ) → p ++ c ∷ a ≡ q ++ d ∷ b → AllByRecursion IsBlank p → AllByRecursion IsBlank q → (IsBlank c → ⊥) → (IsBlank d → ⊥) → (c ≡ d) × (a ≡ b)
one_front [] [] c d a b e all_p all_q no_c no_d = (cc, cc)
one_front [] (y ∷ q) c d a b e all_p all_q no_c no_d = let first : y ≡ c = cc in absurd (no_c (subst IsBlank first all_q.0))
one_front (x ∷ p) [] c d a b e all_p all_q no_c no_d = let first : x ≡ d = cc in absurd (no_d (subst IsBlank first all_p.0))
one_front (x ∷ p) (y ∷ q) c d a b e all_p all_q no_c no_d = let tails : p ++ c ∷ a ≡ q ++ d ∷ b = cc in one_front p q c d a b tails all_p.1 all_q.1 no_c no_d

All_front : (P : ℕ → Type 0) (xs : List ℕ) (n : ℕ) → n ≤ length xs → ((k : ℕ) → k < n → P (get_or xs k 0)) → AllByRecursion P (take n xs)
All_front P xs zero within all = tt
All_front P [] (suc n) within all = tt
All_front P (x ∷ xs) (suc n) within all = (all zero (omega arith), All_front P xs n (omega arith) (λ k below. all (suc k) (omega arith)))

dash_blank : (q r : List ℕ) → AllByRecursion IsBlank (q ++ 45 ∷ r) → ⊥
dash_blank [] r all = no_blank_dash all.0
dash_blank (c ∷ q) r all = dash_blank q r all.1

begins : (rest line : List ℕ) (n : ℕ) → line ≡ take n line ++ rest → AllByRecursion IsBlank (take n line) → (0 < length rest → IsBlank (get_or rest 0 0) → ⊥) → IsComment line → (more : List ℕ) × (rest ≡ 45 ∷ 45 ∷ more)
begins [] line n e all stops is =
    absurd (dash_blank is.0 (45 ∷ is.1) (subst (AllByRecursion IsBlank) (sym (append-nil (take n line)) ∙ sym e ∙ is.2) all))
begins (c ∷ rest) line n e all stops is =
    let same = one_front (take n line) is.0 c 45 rest (45 ∷ is.1) (sym e ∙ is.2) all is.3 (stops (omega arith)) no_blank_dash in
    (is.1, ap (λ x. x ∷ rest) same.0 ∙ ap (λ l. 45 ∷ l) same.1)

pub comment_is : (line rest : List ℕ) (n : ℕ) (b : Bool) → n ≤ length line → ((k : ℕ) → k < n → IsBlank (get_or line k 0)) → (n < length line → IsBlank (get_or line n 0) → ⊥) → rest ≡ drop n line
    → (IsTrue b ↔ ((more : List ℕ) × (rest ≡ 45 ∷ 45 ∷ more))) → IsTrue b ↔ IsComment line
comment_is line rest n b within blank stops e test =
    let whole : line ≡ take n line ++ rest = sym (take-append-drop n line) ∙ ap (λ l. take n line ++ l) (sym e) in
    let all = All_front IsBlank line n within blank in
    let first : get_or rest 0 0 ≡ get_or line n 0 = ap (λ l. get_or l 0 0) e ∙ get_or-drop n line 0 0 ∙ ap (λ k. get_or line k 0) (add-zero n) in
    let longer : length rest + n ≡ length line = omega (arith, ap length e, length-drop n line) in (
      λ yes. let w = test.0 yes in (take n line, w.0, whole ∙ ap (λ l. take n line ++ l) w.1, all),
      λ is. test.1 (begins rest line n whole all (λ some blank. stops (omega arith) (subst IsBlank first blank)) is),
    )

-- the first byte of a comment that isn't plain
pub wrong_comment : (line : List ℕ) (i : ℕ) → IsComment line → i < length line → AllByRecursion IsPlain (take i line) → (IsPlain (get_or line i 0) → ⊥) → IsWrongAt SpellsLine line (i + 1)
wrong_comment line i is inside plain unplain =
    let long : length (take i line) ≡ i = length-take-le i line (omega arith) in
    in_comment is (take i line) (drop (i + 1) line) (get_or line i 0) (sym (take-append-drop i line) ∙ ap (λ l. take i line ++ l) (rw (add-one, drop-cons line i 0) refl)) plain unplain (omega (arith, long))

-- ---- a line more

-- the lines in front of the rest are read, and the next has this number
pub record ReadsTo (bytes rest : List ℕ) (lines : List Line) (number : ℕ) : Type 0 where
  pub front : List (List ℕ)
  pub split : lines_of bytes ≡ front ++ lines_of rest
  pub said : AllSay SpellsLine front lines
  pub counted : number ≡ length front + 1

pub reads_none : (bytes : List ℕ) (lines : List Line) → lines ≡ [] → ReadsTo bytes bytes lines 1
reads_none bytes lines e = record { front = []; split = refl; said = e; counted = refl }

say_push : (front : List (List ℕ)) (line : List ℕ) (old new : List Line) → AllSay SpellsLine front old → AddsSaid line old new → AllSay SpellsLine (front ++ line ∷ []) new
say_push [] line old new said (inl w) = inl (w.0, w.1 ∙ said)
say_push [] line old new said (inr w) = inr (w.0, [], w.2 ∙ ap (λ l. l ++ w.0 ∷ []) said, w.1, refl)
say_push (f ∷ front) line old new (inl w) adds = inl (w.0, say_push front line old new w.1 adds)
say_push (f ∷ front) line old new (inr w) (inl a) = inr (w.0, w.1, a.1 ∙ w.2, w.3, say_push front line w.1 w.1 w.4 (inl (a.0, refl)))
say_push (f ∷ front) line old new (inr w) (inr a) = inr (w.0, w.1 ++ a.0 ∷ [], a.2 ∙ ap (λ l. l ++ a.0 ∷ []) w.2, w.3, say_push front line w.1 (w.1 ++ a.0 ∷ []) w.4 (inr (a.0, a.1, refl)))

pub reads_on : (bytes rest after line : List ℕ) (old new : List Line) (number : ℕ) → ReadsTo bytes rest old number → lines_of rest ≡ line ∷ lines_of after → AddsSaid line old new → ReadsTo bytes after new (number + 1)
reads_on bytes rest after line old new number r e adds = record {
  front = r.front ++ line ∷ [];
  split = r.split ∙ ap (λ l. r.front ++ l) e ∙ sym (append_assoc r.front (line ∷ []) (lines_of after));
  said = say_push r.front line old new r.said adds;
  counted = omega (arith, r.counted, length-append r.front (line ∷ []));
}

pub reads_all : (bytes rest : List ℕ) (lines : List Line) (number : ℕ) → ReadsTo bytes rest lines number → rest ≡ [] → IsWritten SpellsLine bytes lines
reads_all bytes rest lines number r e =
    let all : lines_of bytes ≡ r.front = r.split ∙ ap (λ l. r.front ++ lines_of l) e ∙ append-nil r.front in
    subst (λ ps. AllSay SpellsLine ps lines) (sym all) r.said

pub reads_wrong : (bytes rest after line : List ℕ) (lines : List Line) (number n at : ℕ) → ReadsTo bytes rest lines number → lines_of rest ≡ line ∷ lines_of after → n ≡ number → IsWrongAt SpellsLine line at → IsRefusedIn SpellsLine bytes n at
reads_wrong bytes rest after line lines number n at r e same wrong = record {
  front = r.front;
  said = lines;
  wrong = line;
  rest = lines_of after;
  split = r.split ∙ ap (λ l. r.front ++ l) e;
  before = r.said;
  number = same ∙ r.counted;
  place = wrong;
}
