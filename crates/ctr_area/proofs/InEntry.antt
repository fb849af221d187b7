-- Some bytes of an entry of the catalog are put over: the transaction that dropped its table, its state.
use Rattle.std.proofs.Common.{◌≡◌, ◌≢◌, ℕ, zero, suc, ◌+◌, ◌-◌, ◌*◌, ◌/◌, ◌%◌, ◌^◌, ◌<◌, ◌≤◌, cond, List, [], ◌∷◌, ◌++◌, append_assoc, length, length-append, map, take, drop, refl, sym, ◌∙◌, ap, take-append-drop, arith, inl, inr, ◌⊎◌, ⊎_elim, set}
use Rattle.std.specs.Prelude.{◌==◌}
use Rattle.std.proofs.Math.Seq.{take-add}
use Rattle.std.proofs.lemmas.Bool.{eqb-true, ne_eqb, lt-ltb, cases_lt, cases_eq, eq-eqb}
use Rattle.std.proofs.lemmas.List.{take-take, drop-drop, drop-append-le, length-take-le, length-drop, drop_at}
use Rattle.ctr_versions.proofs.Keys.{known}
use Rattle.ctr_meta.specs.ctr_bytes.Fields.{spelled, field}
use Rattle.ctr_page.proofs.bytes_FieldLaws.{length-spelled, field_at, field-drop, got_byte}
use Rattle.ctr_page.specs.Reading.{piece, put_over}
use Rattle.ctr_page.specs.Columns.{entry_in, name_in, kind_said, columns_from, columns_in, table_name_in, first_in, versions_first_in}
use Rattle.ctr_area.specs.Areas.{Title, Firsts, no_pages, Area}
use Rattle.ctr_area.specs.Reading.{entry_bytes, bucket_numbers, title_of, firsts_of, area_of}
use Rattle.ctr_page.specs.Readable.{NamesFit, PartsHaveRoom}
use Rattle.ctr_area.specs.Changes.{with_title, with_firsts, with_bucket, with_page, with_entry, with_in_entry}
use Rattle.ctr_area.proofs.Bytes.{length-piece, field_before, byte_here, piece_before}
use Rattle.ctr_area.proofs.Entered.{entry_written}

-- ---- bytes that are put over a part

pub length-put : (at : ℕ) (new bytes : List ℕ) → at + length new ≤ length bytes → length (put_over at new bytes) ≡ length bytes
length-put at new bytes fits =
    omega (
      arith,
      length-append (take at bytes) (new ++ drop (at + length new) bytes),
      length-append new (drop (at + length new) bytes),
      length-take-le at bytes (omega (arith, fits)),
      length-drop (at + length new) bytes,
      fits,
    )

-- what stands behind them
pub drop_put : (k at : ℕ) (new bytes : List ℕ) → at + length new ≤ k → at ≤ length bytes → drop k (put_over at new bytes) ≡ drop k bytes
drop_put k at new bytes behind fits =
    let end = at + length new in
    let front : length (take at bytes ++ new) ≡ end = length-append (take at bytes) new ∙ ap (λ l. l + length new) (length-take-le at bytes fits) in
    let split : k ≡ end + (k - end) = omega (arith, behind) in
    ap (λ m. drop m (put_over at new bytes)) split ∙ sym (drop-drop (k - end) end (put_over at new bytes))
    ∙ ap (λ l. drop (k - end) (drop end l)) (sym (append_assoc (take at bytes) new (drop end bytes)))
    ∙ ap (drop (k - end)) (drop_at (take at bytes ++ new) (drop end bytes) end front) ∙ drop-drop (k - end) end bytes ∙ ap (λ m. drop m bytes) (sym split)

-- a number that is put
pub field_put : (n at x : ℕ) (bytes : List ℕ) → x < 256 ^ n → at ≤ length bytes → field n at (put_over at (spelled n x) bytes) ≡ x
field_put n at x bytes small fits =
    let rest = drop (at + length (spelled n x)) bytes in
    ap (field n at) (sym (append_assoc (take at bytes) (spelled n x) rest)) ∙ field_at n x at (take at bytes) rest (length-take-le at bytes fits) small

-- over a piece, and that over the whole
put_in_piece : (s n at : ℕ) (new bytes : List ℕ) → at + length new ≤ n → s + n ≤ length bytes → put_over (s + at) new bytes ≡ put_over s (put_over at new (piece s n bytes)) bytes
put_in_piece s n at new bytes inside fits =
    let p = piece s n bytes in
    let d = drop s bytes in
    let k = at + length new in
    let long : length p ≡ n = length-piece s n bytes fits in
    let front : take (s + at) bytes ≡ take s bytes ++ take at p = take-add s at bytes ∙ ap (λ l. take s bytes ++ l) (sym (take-take at n d (omega (arith, inside)))) in
    let rest : drop (s + at + length new) bytes ≡ drop k p ++ drop (s + n) bytes =
    ap (λ m. drop m bytes) (let e : s + at + length new ≡ s + k = omega arith in e) ∙ sym (drop-drop k s bytes) ∙ ap (drop k) (sym (take-append-drop n d))
    ∙ drop-append-le k p (drop n d) (omega (arith, long, inside)) ∙ ap (λ l. drop k p ++ l) (drop-drop n s bytes) in
    let whole : length (put_over at new p) ≡ n = length-put at new p (omega (arith, long, inside)) ∙ long in
    (λ i. front i ++ (new ++ rest i)) ∙ append_assoc (take s bytes) (take at p) (new ++ (drop k p ++ drop (s + n) bytes))
    ∙ ap (λ l. take s bytes ++ l)
    (ap (λ l. take at p ++ l) (sym (append_assoc new (drop k p) (drop (s + n) bytes))) ∙ sym (append_assoc (take at p) (new ++ drop k p) (drop (s + n) bytes))
    ∙ ap (λ m. put_over at new p ++ drop (s + m) bytes) (sym whole))

-- the chains of an entry that isn't free
abbrev chains : List ℕ → Firsts
chains bytes = record { buckets = map (λ k. first_in k bytes) bucket_numbers; versions = versions_first_in bytes }

-- ---- what depends on the bytes from a place on

module _ (m : ℕ) (a b : List ℕ) (same : drop m a ≡ drop m b) where
  drop_behind : (k : ℕ) → m ≤ k → drop k a ≡ drop k b
  drop_behind k le =
      let split : k ≡ m + (k - m) = omega (arith, le) in
      ap (λ j. drop j a) split ∙ sym (drop-drop (k - m) m a) ∙ ap (drop (k - m)) same ∙ drop-drop (k - m) m b ∙ ap (λ j. drop j b) (sym split)

  pub field_behind : (n k : ℕ) → m ≤ k → field n k a ≡ field n k b
  field_behind n k le =
      let here : k + 0 ≡ k = omega arith in
      ap (λ j. field n j a) (sym here) ∙ sym (field-drop n 0 k a) ∙ ap (field n 0) (drop_behind k le) ∙ field-drop n 0 k b ∙ ap (λ j. field n j b) here

  name_behind : (k : ℕ) → m ≤ k → name_in k a ≡ name_in k b
  name_behind k le = λ i. take (field_behind 1 k le i) (drop_behind (k + 1) (omega (arith, le)) i)

  columns_behind : (n k : ℕ) → m ≤ k → columns_from n k a ≡ columns_from n k b
  columns_behind zero k le = refl
  columns_behind (suc n) k le = λ i.
      record { name = name_behind k le i; kind = kind_said (field_behind 1 (k + 18 - 1) (omega (arith, le)) i) } ∷ columns_behind n (k + 18) (omega (arith, le)) i

  module _ (before : m ≤ 17) where
    pub same_name_in : table_name_in a ≡ table_name_in b
    same_name_in = name_behind 17 before

    pub same_columns_in : columns_in a ≡ columns_in b
    same_columns_in = ap (λ n. columns_from n 35 a) (field_behind 1 34 (omega (arith, before))) ∙ columns_behind (field 1 34 b) 35 (omega (arith, before))

    pub same_chains : chains a ≡ chains b
    same_chains = λ i. record {
      buckets = f 179 (omega (arith, before)) i ∷ f 183 (omega (arith, before)) i ∷ f 187 (omega (arith, before)) i ∷ f 191 (omega (arith, before)) i
          ∷ f 195 (omega (arith, before)) i ∷ f 199 (omega (arith, before)) i ∷ f 203 (omega (arith, before)) i ∷ f 207 (omega (arith, before)) i ∷ [];
      versions = f 211 (omega (arith, before)) i;
    }
      where
        f : (k : ℕ) → m ≤ k → field 4 k a ≡ field 4 k b
        f k le = field_behind 4 k le

-- one of eight numbers is set
one_of_eight : (b p x0 x1 x2 x3 x4 x5 x6 x7 : ℕ) → b < 8
    → cond (0 == b) p x0 ∷ cond (1 == b) p x1 ∷ cond (2 == b) p x2 ∷ cond (3 == b) p x3 ∷ cond (4 == b) p x4 ∷ cond (5 == b) p x5 ∷ cond (6 == b) p x6 ∷ cond (7 == b) p x7 ∷ []
    ≡ set (x0 ∷ x1 ∷ x2 ∷ x3 ∷ x4 ∷ x5 ∷ x6 ∷ x7 ∷ []) b p
one_of_eight zero p x0 x1 x2 x3 x4 x5 x6 x7 few = refl
one_of_eight (suc zero) p x0 x1 x2 x3 x4 x5 x6 x7 few = refl
one_of_eight (suc (suc zero)) p x0 x1 x2 x3 x4 x5 x6 x7 few = refl
one_of_eight (suc (suc (suc zero))) p x0 x1 x2 x3 x4 x5 x6 x7 few = refl
one_of_eight (suc (suc (suc (suc zero)))) p x0 x1 x2 x3 x4 x5 x6 x7 few = refl
one_of_eight (suc (suc (suc (suc (suc zero))))) p x0 x1 x2 x3 x4 x5 x6 x7 few = refl
one_of_eight (suc (suc (suc (suc (suc (suc zero)))))) p x0 x1 x2 x3 x4 x5 x6 x7 few = refl
one_of_eight (suc (suc (suc (suc (suc (suc (suc zero))))))) p x0 x1 x2 x3 x4 x5 x6 x7 few = refl
one_of_eight (suc (suc (suc (suc (suc (suc (suc (suc b)))))))) p x0 x1 x2 x3 x4 x5 x6 x7 few = absurd (omega (arith, few))

-- ---- in the area

-- what is set to what it is stays
set_to_itself : {A : Type 0} (e : ℕ) (x : ℕ → A) (f : ℕ) → cond (f == e) (x e) (x f) ≡ x f
set_to_itself e x f = known (f == e)
    (λ is. ap (λ b. cond b (x e) (x f)) is ∙ ap x (sym (eqb-true f e is)))
    (λ isnt. ap (λ b. cond b (x e) (x f)) isnt)

module _ (pages : ℕ → List ℕ) (e : ℕ) (few : e < 32) (whole : 256 * (e % 16) + 256 ≤ length (pages (1 + e / 16))) where
  abbrev old : List ℕ
  old = entry_bytes pages e

  abbrev area : Area
  area = area_of pages

  old_is : old ≡ piece (256 * (e % 16)) 256 (pages (1 + e / 16))
  old_is = ap (λ b. cond b (piece (256 * (e % 16)) 256 (pages (1 + e / 16))) []) (lt-ltb e 32 few)

  pub length-old : length old ≡ 256
  length-old = ap length old_is ∙ length-piece (256 * (e % 16)) 256 (pages (1 + e / 16)) whole

  -- bytes in the entry are an entry over it
  pub as_entry : (at : ℕ) (bytes : List ℕ) → at + length bytes ≤ 256 → with_in_entry e at bytes pages ≡ with_entry e (put_over at bytes old) pages
  as_entry at bytes inside =
      ap (λ l. with_page (1 + e / 16) l pages)
      (put_in_piece (256 * (e % 16)) 256 at bytes (pages (1 + e / 16)) inside whole ∙ ap (λ l. put_over (256 * (e % 16)) (put_over at bytes l) (pages (1 + e / 16))) (sym old_is))

  -- the entry is written over, and its title and chains are as said
  pub changes_to : (at : ℕ) (bytes : List ℕ) (title : Title) (firsts : Firsts) → at + length bytes ≤ 256 → columns_in (put_over at bytes old) ≡ columns_in old
      → title_of (entry_in (put_over at bytes old)) ≡ title → firsts_of (entry_in (put_over at bytes old)) ≡ firsts
      → area_of (with_in_entry e at bytes pages) ≡ with_firsts e firsts (with_title e title area)
  changes_to at bytes title firsts inside columns is_title is_firsts =
      let new = put_over at bytes old in
      ap area_of (as_entry at bytes inside)
      ∙ entry_written pages e new few (length-put at bytes old (omega (arith, length-old, inside)) ∙ length-old) (omega (arith, whole)) columns
      ∙ (λ i. with_firsts e (is_firsts i) (with_title e (is_title i) area))

  -- chains or a title that are set to what they are
  firsts_stay : (title : Title) → with_firsts e (area.firsts e) (with_title e title area) ≡ with_title e title area
  firsts_stay title = λ i. record (with_title e title area) { firsts = λ f. set_to_itself e area.firsts f i }

  pub dropper_written : (x : ℕ) → x < 256 ^ 8 → area_of (with_in_entry e 9 (spelled 8 x) pages) ≡ with_title e (record (area.title e) { dropper = x }) area
  dropper_written x drawn =
      let new = put_over 9 (spelled 8 x) old in
      let long = length-spelled 8 x in
      let behind : drop 17 new ≡ drop 17 old = drop_put 17 9 (spelled 8 x) old (omega (arith, long)) (omega (arith, length-old)) in
      let state : field 1 0 new ≡ field 1 0 old = field_before 0 1 9 (spelled 8 x) old (omega arith) (omega (arith, length-old)) in
      let creator : field 8 1 new ≡ field 8 1 old = field_before 1 8 9 (spelled 8 x) old (omega arith) (omega (arith, length-old)) in
      let dropper : field 8 9 new ≡ x = field_put 8 9 x old drawn (omega (arith, length-old)) in
      changes_to 9 (spelled 8 x) (record (area.title e) { dropper = x }) (area.firsts e) (omega (arith, long)) (same_columns_in 17 new old behind (omega arith))
      (λ i. record { state = state i; creator = creator i; dropper = dropper i; name = same_name_in 17 new old behind (omega arith) i; columns = same_columns_in 17 new old behind (omega arith) i })
      (λ i. cond (state i == 0) no_pages (same_chains 17 new old behind (omega arith) i))
      ∙ firsts_stay (record (area.title e) { dropper = x })

  pub state_written : (s : ℕ) → s ≢ 0 → (area.title e).state ≢ 0 → area_of (with_in_entry e 0 (s ∷ []) pages) ≡ with_title e (record (area.title e) { state = s }) area
  state_written s some used =
      let new = put_over 0 (s ∷ []) old in
      let behind : drop 1 new ≡ drop 1 old = drop_put 1 0 (s ∷ []) old (omega arith) (omega arith) in
      let state : field 1 0 new ≡ s = sym (got_byte 0 new) ∙ byte_here 0 s old (omega arith) in
      changes_to 0 (s ∷ []) (record (area.title e) { state = s }) (area.firsts e) (omega arith) (same_columns_in 1 new old behind (omega arith))
      (λ i. record {
        state = state i;
        creator = field_behind 1 new old behind 8 1 (omega arith) i;
        dropper = field_behind 1 new old behind 8 9 (omega arith) i;
        name = same_name_in 1 new old behind (omega arith) i;
        columns = same_columns_in 1 new old behind (omega arith) i;
      })
      (ap (λ b. cond b no_pages (chains new)) (ne_eqb (field 1 0 new) 0 (λ none. some (sym state ∙ none)))
      ∙ same_chains 1 new old behind (omega arith)
      ∙ sym (ap (λ b. cond b no_pages (chains old)) (ne_eqb (field 1 0 old) 0 used)))
      ∙ firsts_stay (record (area.title e) { state = s })

  -- ---- the first page of a chain

  title_stays : (firsts : Firsts) → with_firsts e firsts (with_title e (area.title e) area) ≡ with_firsts e firsts area
  title_stays firsts = λ i. record (with_firsts e firsts area) { title = λ f. set_to_itself e area.title f i }

  module _ (k p : ℕ) (from_on : 179 ≤ k) (within : k + 4 ≤ 256) (small : p < 256 ^ 4) (used : (area.title e).state ≢ 0) (fit : PartsHaveRoom old) where
    abbrev new : List ℕ
    new = put_over k (spelled 4 p) old

    front : (n j : ℕ) → j + n ≤ 179 → field n j new ≡ field n j old
    front n j le = field_before j n k (spelled 4 p) old (omega (arith, le, from_on)) (omega (arith, length-old, within))

    name_front : (j : ℕ) → j + 17 ≤ 179 → field 1 j old ≤ 16 → name_in j new ≡ name_in j old
    name_front j le short =
        ap (λ n. piece (j + 1) n new) (front 1 j (omega (arith, le)))
        ∙ piece_before (j + 1) (field 1 j old) k (spelled 4 p) old (omega (arith, le, from_on, short)) (omega (arith, length-old, within))

    columns_front : (n j : ℕ) → j + 18 * n ≤ 179 → NamesFit n j old → columns_from n j new ≡ columns_from n j old
    columns_front zero j le names = refl
    columns_front (suc n) j le names = λ i.
        record { name = name_front j (omega (arith, le)) names.0 i; kind = kind_said (front 1 (j + 18 - 1) (omega (arith, le)) i) } ∷ columns_front n (j + 18) (omega (arith, le)) names.1 i

    same_columns : columns_in new ≡ columns_in old
    same_columns = ap (λ n. columns_from n 35 new) (front 1 34 (omega arith)) ∙ columns_front (field 1 34 old) 35 (omega (arith, fit.few)) fit.columns

    same_title : title_of (entry_in new) ≡ area.title e
    same_title = λ i. record {
      state = front 1 0 (omega arith) i;
      creator = front 8 1 (omega arith) i;
      dropper = front 8 9 (omega arith) i;
      name = name_front 17 (omega arith) fit.name i;
      columns = same_columns i;
    }

    first_here : field 4 k new ≡ p
    first_here = field_put 4 k p old small (omega (arith, length-old, within))

    -- one that doesn't meet it
    first_apart : (j : ℕ) → (j + 4 ≤ k) ⊎ (k + 4 ≤ j) → field 4 j new ≡ field 4 j old
    first_apart j apart = ⊎_elim
        (λ le. field_before j 4 k (spelled 4 p) old le (omega (arith, length-old, within)))
        (λ le. field_behind (k + 4) new old (drop_put (k + 4) k (spelled 4 p) old (omega (arith, length-spelled 4 p)) (omega (arith, length-old, within))) 4 j le) apart

    -- the chains before and after
    chains_before : firsts_of (entry_in old) ≡ chains old
    chains_before = ap (λ b. cond b no_pages (chains old)) (ne_eqb (field 1 0 old) 0 used)

    chains_after : firsts_of (entry_in new) ≡ chains new
    chains_after = ap (λ b. cond b no_pages (chains new)) (ne_eqb (field 1 0 new) 0 (λ none. used (sym (front 1 0 (omega arith)) ∙ none)))

    pub first_written : (firsts : Firsts) → chains new ≡ firsts → area_of (with_in_entry e k (spelled 4 p) pages) ≡ with_firsts e firsts area
    first_written firsts is =
        changes_to k (spelled 4 p) (area.title e) firsts (omega (arith, length-spelled 4 p, within)) same_columns same_title (chains_after ∙ is) ∙ title_stays firsts

  pub versions_written : (p : ℕ) → p < 256 ^ 4 → (area.title e).state ≢ 0 → PartsHaveRoom old
      → area_of (with_in_entry e 211 (spelled 4 p) pages) ≡ with_firsts e (record (area.firsts e) { versions = p }) area
  versions_written p small used fit =
      first_written 211 p (omega arith) (omega arith) small used fit (record (area.firsts e) { versions = p }) ((λ i. record {
        buckets = f 179 (omega arith) i ∷ f 183 (omega arith) i ∷ f 187 (omega arith) i ∷ f 191 (omega arith) i ∷ f 195 (omega arith) i ∷ f 199 (omega arith) i ∷ f 203 (omega arith) i ∷ f 207 (omega arith) i ∷ [];
        versions = first_here 211 p (omega arith) (omega arith) small used fit i;
      }) ∙ ap (λ (c : Firsts). let d : Firsts = record c { versions = p } in d) (sym (chains_before 211 p (omega arith) (omega arith) small used fit)))
    where
      f : (j : ℕ) → j + 4 ≤ 211 → field 4 j (put_over 211 (spelled 4 p) old) ≡ field 4 j old
      f j le = first_apart 211 p (omega arith) (omega arith) small used fit j (inl le)

  pub bucket_written : (b p : ℕ) → b < 8 → p < 256 ^ 4 → (area.title e).state ≢ 0 → PartsHaveRoom old
      → area_of (with_in_entry e (179 + 4 * b) (spelled 4 p) pages) ≡ with_firsts e (with_bucket b p (area.firsts e)) area
  bucket_written b p few_buckets small used fit =
      first_written k p from_on within small used fit (with_bucket b p (area.firsts e)) ((λ i. record {
        buckets = f 0 i ∷ f 1 i ∷ f 2 i ∷ f 3 i ∷ f 4 i ∷ f 5 i ∷ f 6 i ∷ f 7 i ∷ [];
        versions = first_apart k p from_on within small used fit 211 (inr (omega (arith, few_buckets))) i;
      }) ∙ (λ i. record {
        buckets = one_of_eight b p (g 0) (g 1) (g 2) (g 3) (g 4) (g 5) (g 6) (g 7) few_buckets i;
        versions = field 4 211 old;
      }) ∙ ap (with_bucket b p) (sym (chains_before k p from_on within small used fit)))
    where
      k : ℕ
      k = 179 + 4 * b

      from_on : 179 ≤ 179 + 4 * b
      from_on = omega arith

      within : 179 + 4 * b + 4 ≤ 256
      within = omega (arith, few_buckets)

      g : ℕ → ℕ
      g j = field 4 (179 + 4 * j) old

      f : (j : ℕ) → field 4 (179 + 4 * j) (put_over (179 + 4 * b) (spelled 4 p) old) ≡ cond (j == b) p (field 4 (179 + 4 * j) old)
      f j = ⊎_elim
          (λ is. ap (λ m. field 4 (179 + 4 * m) (put_over (179 + 4 * b) (spelled 4 p) old)) is ∙ first_here (179 + 4 * b) p (omega arith) (omega (arith, few_buckets)) small used fit
          ∙ sym (ap (λ c. cond c p (field 4 (179 + 4 * j) old)) (eq-eqb j b is)))
          (λ isnt. first_apart (179 + 4 * b) p (omega arith) (omega (arith, few_buckets)) small used fit (179 + 4 * j) (apart j isnt)
          ∙ sym (ap (λ c. cond c p (field 4 (179 + 4 * j) old)) (ne_eqb j b isnt)))
          (cases_eq j b)
        where
          apart : (j : ℕ) → (j ≡ b → ⊥) → (179 + 4 * j + 4 ≤ 179 + 4 * b) ⊎ (179 + 4 * b + 4 ≤ 179 + 4 * j)
          apart j isnt = ⊎_elim (λ lt. inl (omega (arith, lt))) (λ le. inr (beyond le)) (cases_lt j b)
            where
              beyond : b ≤ j → 179 + 4 * b + 4 ≤ 179 + 4 * j
              beyond le = ⊎_elim (λ lt. omega (arith, lt)) (λ ge. absurd (isnt (omega (arith, le, ge)))) (cases_lt b j)
