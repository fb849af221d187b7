-- The bytes of a new entry of the catalog pass their checks, wherever they stand.
use Rattle.std.proofs.Common.{◌≡◌, ℕ, zero, suc, ◌+◌, ◌-◌, ◌*◌, ◌^◌, ◌≤◌, ◌<◌, cond, List, [], ◌∷◌, ◌++◌, length, take, drop, replicate, length-append, append_assoc, Ok, Err, refl, sym, ◌∙◌, ap, subst, arith}
use Rattle.std.specs.List.{flat_map, AllByRecursion}
use Rattle.std.proofs.lemmas.Bool.{ne_eqb}
use Rattle.std.proofs.lemmas.List.{length-replicate, length-take-le, drop_at}
use Rattle.ctr_types.specs.declared.value.Column.{Column}
use Rattle.ctr_types.specs.declared.value.Kind.{Kind}
use Rattle.ctr_types.specs.declared.value.Kind.TheVariants.{Int, Chars}
use Rattle.ctr_types.specs.Names.{IsName}
use Rattle.ctr_bytes.specs.Fields.{spelled, field}
use Rattle.ctr_bytes.specs.Following.{◌>>=◌}
use Rattle.ctr_bytes.proofs.FieldLaws.{length-spelled, field-drop}
use Rattle.ctr_actions.specs.rec_Damage.{wrong, at_most}
use Rattle.ctr_actions.proofs.rec_Laws.{Begins, begins_less, field_last}
use Rattle.ctr_actions.specs.value_Columns.{KindFits, ColumnFits, ColumnsFit, kind_number, column_bytes}
use Rattle.ctr_actions.specs.page_Columns.{column_kind_at, text_bytes, columns_bytes, new_entry_bytes}
use Rattle.ctr_actions.specs.page_Damage.{counted_check, from_1_check, firsts_check, column_check, columns_check, entry_check}
use Rattle.ctr_actions.specs.page_Reading.{put_over}
use Rattle.ctr_actions.proofs.page_Back.{begins_apart, length-more}
use Rattle.ctr_actions.proofs.page_Entries.{one_byte, as_others, column_is, kind_small, length-column}
use Rattle.ctr_actions.proofs.area_Made.{length-new}
use Rattle.ctr_passed.proofs.Agreeing.{name_on_check}
use Rattle.ctr_passed.proofs.Entries.{both_pass, most_passes, parts_pass}

-- a length before a text
long_back : (at n : ℕ) (front more bytes : List ℕ) → at ≡ length front → n < 256 → Begins (front ++ (n ∷ more)) bytes → field 1 at bytes ≡ n
long_back at n front more bytes is small begins =
    field_last 1 n at front bytes is small (begins_less (front ++ spelled 1 n) more bytes
    (begins_apart front (spelled 1 n) more bytes (begins.0, begins.1 ∙ ap (λ (l : List ℕ). (front ++ l) ++ begins.0) (ap (λ (l : List ℕ). l ++ more) (sym (one_byte n small))))))

from_1_passes : (most at : ℕ) (page : List ℕ) → 0 < field 1 at page → field 1 at page ≤ most → from_1_check most at page ≡ Ok tt
unfolding from_1_check
from_1_passes most at page some le =
    ap (λ b. cond b (Err (wrong at 1 0)) (at_most at most (field 1 at page))) (ne_eqb (field 1 at page) 0 (λ none. omega (arith, none, some))) ∙ most_passes at most (field 1 at page) le

kind_le : (most : ℕ) (k : Kind) → KindFits most k → kind_number k ≤ most
kind_le most Int fits = omega arith
kind_le most (Chars n) fits = fits.1

length-text : (text : List ℕ) → length text ≤ 16 → length (text_bytes 16 text) ≡ 17
length-text text short = omega (arith, length-append text (replicate (16 - length text) 0), length-replicate {A = ℕ} (16 - length text) 0, short)

column_passes : (most : ℕ) (c : Column) (at : ℕ) (front bytes : List ℕ) → at ≡ length front → most ≤ 64 → ColumnFits most c → Begins (front ++ column_bytes c) bytes → column_check most at bytes ≡ Ok tt
unfolding column_check
column_passes most c at front bytes is le fits begins =
    let small = kind_small most c.kind le fits.1 in
    let text = text_bytes 16 c.name in
    let k = spelled 1 (kind_number c.kind) in
    let apart = begins_apart front text k bytes (begins.0, begins.1 ∙ ap (λ (l : List ℕ). (front ++ l) ++ begins.0) (sym (column_is c small))) in
    let named : field 1 at bytes ≡ length c.name = long_back at (length c.name) front (c.name ++ replicate (16 - length c.name) 0) bytes is (omega (arith, fits.0.1)) (begins_less (front ++ text) k bytes apart) in
    let kind : field 1 (column_kind_at at) bytes ≡ kind_number c.kind =
    field_last 1 (kind_number c.kind) (column_kind_at at) (front ++ text) bytes (omega (arith, is, length-append front text, length-text c.name fits.0.1)) small apart in
    both_pass (from_1_check 16 at bytes) (at_most (column_kind_at at) most (field 1 (column_kind_at at) bytes))
    (from_1_passes 16 at bytes (subst (λ n. 0 < n) (sym named) fits.0.0) (subst (λ n. n ≤ 16) (sym named) fits.0.1))
    (most_passes (column_kind_at at) most (field 1 (column_kind_at at) bytes) (subst (λ n. n ≤ most) (sym kind) (kind_le most c.kind fits.1)))

columns_pass : (cs : List Column) (at : ℕ) (front bytes : List ℕ) → at ≡ length front → AllByRecursion (ColumnFits 64) cs → Begins (front ++ flat_map column_bytes cs) bytes → columns_check (length cs) at bytes ≡ Ok tt
columns_pass [] at front bytes is fits begins = refl
columns_pass (c ∷ cs) at front bytes is fits begins =
    let apart = begins_apart front (column_bytes c) (flat_map column_bytes cs) bytes begins in
    let next : at + 18 ≡ length (front ++ column_bytes c) = omega (arith, is, length-append front (column_bytes c), length-column c (kind_small 64 c.kind (omega arith) fits.0.1) fits.0.0.1) in
    both_pass (column_check 64 at bytes) (columns_check (length cs) (at + 18) bytes)
    (column_passes 64 c at front bytes is (omega arith) fits.0 (begins_less (front ++ column_bytes c) (flat_map column_bytes cs) bytes apart))
    (columns_pass cs (at + 18) (front ++ column_bytes c) bytes next fits.1 apart)

-- so many first pages are none
none_pass : (n counted at : ℕ) (page : List ℕ) → ((j : ℕ) → j < n → field 4 (at + 4 * j) page ≡ 0) → firsts_check n counted at page ≡ Ok tt
unfolding counted_check
none_pass zero counted at page none = refl
none_pass (suc n) counted at page none =
    let here : at + 4 * 0 ≡ at = omega arith in
    both_pass (counted_check counted at page) (firsts_check n counted (at + 4) page)
    (most_passes at (counted - 1) (field 4 at page) (subst (λ m. m ≤ counted - 1) (sym (subst (λ k. field 4 k page ≡ 0) here (none 0 (omega arith)))) (omega arith)))
    (none_pass n counted (at + 4) page (λ j lt. subst (λ k. field 4 k page ≡ 0) (let next : at + 4 * suc j ≡ at + 4 + 4 * j = omega arith in next) (none (suc j) (omega (arith, lt)))))

zeros_there : (j : ℕ) (rest : List ℕ) → j < 9 → field 4 (4 * j) (replicate 77 0 ++ rest) ≡ 0
unfolding field
zeros_there zero rest lt = refl
zeros_there (suc zero) rest lt = refl
zeros_there (suc (suc zero)) rest lt = refl
zeros_there (suc (suc (suc zero))) rest lt = refl
zeros_there (suc (suc (suc (suc zero)))) rest lt = refl
zeros_there (suc (suc (suc (suc (suc zero))))) rest lt = refl
zeros_there (suc (suc (suc (suc (suc (suc zero)))))) rest lt = refl
zeros_there (suc (suc (suc (suc (suc (suc (suc zero))))))) rest lt = refl
zeros_there (suc (suc (suc (suc (suc (suc (suc (suc zero)))))))) rest lt = refl
zeros_there (suc (suc (suc (suc (suc (suc (suc (suc (suc j))))))))) rest lt = absurd (omega (arith, lt))

-- the columns of a table: the first is INT
all_columns_pass : (cs : List Column) (start : ℕ) (front page : List ℕ) → start + 35 ≡ length front → ColumnsFit cs → field 1 (start + 34) page ≡ length cs → Begins (front ++ flat_map column_bytes cs) page
    → (column_check 0 (start + 34 + 1) page >>= λ _. columns_check (field 1 (start + 34) page - 1) (start + 34 + 1 + 18) page) ≡ Ok tt
all_columns_pass [] start front page is fits count begins = absurd fits
all_columns_pass (c ∷ cs) start front page is fits count begins =
    let apart = begins_apart front (column_bytes c) (flat_map column_bytes cs) page begins in
    let small = kind_small 0 c.kind (omega arith) fits.0.1 in
    let next : start + 34 + 1 + 18 ≡ length (front ++ column_bytes c) = omega (arith, is, length-append front (column_bytes c), length-column c small fits.0.0.1) in
    let others : field 1 (start + 34) page - 1 ≡ length cs = omega (arith, count) in
    both_pass (column_check 0 (start + 34 + 1) page) _
    (column_passes 0 c (start + 34 + 1) front page (omega (arith, is)) (omega arith) fits.0 (begins_less (front ++ column_bytes c) (flat_map column_bytes cs) page apart))
    (ap (λ n. columns_check n (start + 34 + 1 + 18) page) others ∙ columns_pass cs (start + 34 + 1 + 18) (front ++ column_bytes c) page next fits.1 apart)

module _ (counted start creator : ℕ) (name : List ℕ) (cs : List Column) (drawn : creator < 256 ^ 8) (named : IsName name) (fits : ColumnsFit cs) (old : List ℕ) (whole : start ≤ length old) where
  abbrev new : List ℕ
  new = new_entry_bytes creator name cs

  abbrev page : List ℕ
  page = put_over start new old

  abbrev before : List ℕ
  before = take start old

  abbrev rest : List ℕ
  rest = drop (start + length new) old

  abbrev head : List ℕ
  head = spelled 1 1 ++ spelled 8 creator ++ spelled 8 0

  abbrev text : List ℕ
  text = text_bytes 16 name

  abbrev k : List ℕ
  k = spelled 1 (length cs)

  abbrev f : List ℕ
  f = flat_map column_bytes cs

  abbrev z : List ℕ
  z = replicate (18 * (8 - length cs)) 0

  length-before : length before ≡ start
  length-before = length-take-le start old whole

  length-head : length head ≡ 17
  length-head = omega (arith, length-more 8 0 (spelled 1 1 ++ spelled 8 creator), length-more 8 creator (spelled 1 1), length-spelled 1 1)

  all : Begins (before ++ new) page
  all = (rest, sym (append_assoc before new rest))

  to_columns : Begins ((before ++ (head ++ text)) ++ columns_bytes cs) page
  to_columns = begins_apart before (head ++ text) (columns_bytes cs) page
      (begins_less (before ++ (head ++ text ++ columns_bytes cs)) (replicate 77 0) page (begins_apart before (head ++ text ++ columns_bytes cs) (replicate 77 0) page all))

  to_text : Begins ((before ++ head) ++ text) page
  to_text = begins_apart before head text page (begins_less (before ++ (head ++ text)) (columns_bytes cs) page to_columns)

  state : field 1 start page ≡ 1
  state = field_last 1 1 start before page (sym length-before) (omega arith)
      (begins_less (before ++ spelled 1 1) (spelled 8 creator) page (begins_apart before (spelled 1 1) (spelled 8 creator) page
      (begins_less (before ++ (spelled 1 1 ++ spelled 8 creator)) (spelled 8 0) page (begins_apart before (spelled 1 1 ++ spelled 8 creator) (spelled 8 0) page (begins_less (before ++ head) text page to_text)))))

  name_there : field 1 (start + 17) page ≡ length name
  name_there = long_back (start + 17) (length name) (before ++ head) (name ++ replicate (16 - length name) 0) page (omega (arith, length-append before head, length-before, length-head)) (omega (arith, named.1)) to_text

  to_each : Begins (((before ++ (head ++ text)) ++ k) ++ f) page
  to_each = begins_apart (before ++ (head ++ text)) k f page (begins_less ((before ++ (head ++ text)) ++ (k ++ f)) z page (begins_apart (before ++ (head ++ text)) (k ++ f) z page to_columns))

  length-to : length (before ++ (head ++ text)) ≡ start + 34
  length-to = omega (arith, length-append before (head ++ text), length-append head text, length-before, length-head, length-text name named.1)

  count : field 1 (start + 34) page ≡ length cs
  count = field_last 1 (length cs) (start + 34) (before ++ (head ++ text)) page (sym length-to) (omega (arith, (as_others cs fits).1)) (begins_less ((before ++ (head ++ text)) ++ k) f page to_each)

  some_columns : (cs : List Column) → ColumnsFit cs → 0 < length cs
  some_columns [] fits = absurd fits
  some_columns (c ∷ cs) fits = omega arith

  rest_passes : name_on_check start page ≡ Ok tt
  rest_passes =
      both_pass (from_1_check 16 (start + 17) page) _ (from_1_passes 16 (start + 17) page (subst (λ n. 0 < n) (sym name_there) named.0) (subst (λ n. n ≤ 16) (sym name_there) named.1))
      (both_pass (from_1_check 8 (start + 34) page) _ (from_1_passes 8 (start + 34) page (subst (λ n. 0 < n) (sym count) (some_columns cs fits)) (subst (λ n. n ≤ 8) (sym count) (as_others cs fits).1))
      (all_columns_pass cs start ((before ++ (head ++ text)) ++ k) page (omega (arith, length-more 1 (length cs) (before ++ (head ++ text)), length-to)) fits count to_each))

  -- behind the columns there are zeros
  length-front : length (before ++ (head ++ text ++ columns_bytes cs)) ≡ start + 179
  length-front = omega (
    arith,
    length-append before (head ++ text ++ columns_bytes cs),
    length-before,
    length-append (head ++ text ++ columns_bytes cs) (replicate 77 0),
    length-replicate {A = ℕ} 77 0,
    length-new creator name cs drawn named.1 fits,
  )

  page_parts : page ≡ (before ++ (head ++ text ++ columns_bytes cs)) ++ (replicate 77 0 ++ rest)
  page_parts =
      ap (λ (l : List ℕ). before ++ l) (append_assoc (head ++ text ++ columns_bytes cs) (replicate 77 0) rest)
      ∙ sym (append_assoc before (head ++ text ++ columns_bytes cs) (replicate 77 0 ++ rest))

  first_none : (j : ℕ) → j < 9 → field 4 (start + 179 + 4 * j) page ≡ 0
  first_none j lt =
      sym (field-drop 4 (4 * j) (start + 179) page)
      ∙ ap (field 4 (4 * j)) (ap (drop (start + 179)) page_parts ∙ drop_at (before ++ (head ++ text ++ columns_bytes cs)) (replicate 77 0 ++ rest) (start + 179) length-front)
      ∙ zeros_there j rest lt

  pub new_entry_passes : entry_check counted start page ≡ Ok tt
  new_entry_passes = parts_pass counted start page (record {
    firsts = none_pass 9 counted (start + 179) page first_none;
    state = most_passes start 2 (field 1 start page) (subst (λ n. n ≤ 2) (sym state) (omega arith));
    rest = rest_passes;
  })
