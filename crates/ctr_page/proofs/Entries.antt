-- What was made of an entry of the catalog is read back.
use Rattle.std.proofs.Common.{◌≡◌, ℕ, zero, suc, ◌+◌, ◌-◌, ◌*◌, ◌%◌, ◌^◌, ◌<◌, ◌≤◌, Bool, List, [], ◌∷◌, ◌++◌, length, drop, replicate, refl, sym, ◌∙◌, ap, subst, append_assoc, length-append, if◌then◌else◌, arith}
use Rattle.std.specs.List.{flat_map, AllByRecursion}
use Rattle.std.proofs.lemmas.Bool.{ne_eqb}
use Rattle.std.proofs.lemmas.List.{length-replicate}
use Rattle.ctr_rec.specs.types_Column.{Column}
use Rattle.ctr_rec.specs.types_Kind.{Kind}
use Rattle.ctr_rec.specs.types_Kind.TheVariants.{Int, Chars}
use Rattle.ctr_rec.specs.types_Names.{IsName}
use Rattle.ctr_rec.specs.bytes_Fields.{spelled, field}
use Rattle.ctr_rec.proofs.bytes_FieldLaws.{length-spelled}
use Rattle.ctr_rec.proofs.Laws.{Begins, begins_less, field_last}
use Rattle.ctr_value.specs.Columns.{KindFits, ColumnFits, ColumnsFit, zeros, kind_number, column_bytes}
use Rattle.ctr_page.specs.Columns.{name_in, kind_said, columns_from, columns_in, table_name_in, text_bytes, columns_bytes, new_entry_bytes}
use Rattle.ctr_page.specs.Making.{PutsBytes}
use Rattle.ctr_page.proofs.Puts.{puts_more, put_front}
use Rattle.ctr_page.proofs.Back.{begins_apart, piece_last, length-more}

-- ---- one byte, zeros

pub one_byte : (n : ℕ) → n < 256 → spelled 1 n ≡ n ∷ []
unfolding spelled
one_byte n small = ap (λ (b : ℕ). b ∷ []) (let e : n % 256 ≡ n = omega arith in e)

pub zeros_are : (n : ℕ) → zeros n ≡ replicate n 0
zeros_are zero = refl
zeros_are (suc n) = ap (λ (l : List ℕ). 0 ∷ l) (zeros_are n)

length-zeros : (n : ℕ) → length (zeros n) ≡ n
length-zeros n = ap length (zeros_are n) ∙ length-replicate {A = ℕ} n 0

-- ---- a name

pub text_back : (at : ℕ) (front text more bytes : List ℕ) → at ≡ length front → length text < 256 → Begins (front ++ (length text ∷ (text ++ more))) bytes → name_in at bytes ≡ text
text_back at front text more bytes is small begins =
    let n = spelled 1 (length text) in
    let all : length text ∷ (text ++ more) ≡ n ++ (text ++ more) = ap (λ (l : List ℕ). l ++ (text ++ more)) (sym (one_byte (length text) small)) in
    let whole = begins_apart front n (text ++ more) bytes (begins.0, begins.1 ∙ ap (λ (l : List ℕ). (front ++ l) ++ begins.0) all) in
    let long : field 1 at bytes ≡ length text = field_last 1 (length text) at front bytes is small (begins_less (front ++ n) (text ++ more) bytes whole) in
    let both = begins_less ((front ++ n) ++ text) more bytes (begins_apart (front ++ n) text more bytes whole) in
    piece_last (at + 1) (field 1 at bytes) (front ++ n) text bytes (omega (arith, is, length-more 1 (length text) front)) long both

-- ---- columns

kind_back : (most : ℕ) (k : Kind) → KindFits most k → kind_said (kind_number k) ≡ k
kind_back most Int fits = refl
kind_back most (Chars n) fits = ap (λ (b : Bool). if b then Int else Chars n) (ne_eqb n 0 (λ e. omega (arith, e, fits.0)))

pub kind_small : (most : ℕ) (k : Kind) → most ≤ 64 → KindFits most k → kind_number k < 256
kind_small most Int le fits = omega arith
kind_small most (Chars n) le fits = omega (arith, le, fits.1)

-- the name, zeros, and the kind
column_parts : (c : Column) → kind_number c.kind < 256 → column_bytes c ≡ (length c.name ∷ (c.name ++ zeros (16 - length c.name))) ++ spelled 1 (kind_number c.kind)
column_parts c small =
    ap (λ (l : List ℕ). length c.name ∷ l) (sym (append_assoc c.name (zeros (16 - length c.name)) (kind_number c.kind ∷ [])))
    ∙ ap (λ (l : List ℕ). (length c.name ∷ (c.name ++ zeros (16 - length c.name))) ++ l) (sym (one_byte (kind_number c.kind) small))

-- a name with zeros, and the kind, are the column
pub column_is : (c : Column) → kind_number c.kind < 256 → text_bytes 16 c.name ++ spelled 1 (kind_number c.kind) ≡ column_bytes c
column_is c small =
    ap (λ (l : List ℕ). (length c.name ∷ (c.name ++ l)) ++ spelled 1 (kind_number c.kind)) (sym (zeros_are (16 - length c.name))) ∙ sym (column_parts c small)

pub length-column : (c : Column) → kind_number c.kind < 256 → length c.name ≤ 16 → length (column_bytes c) ≡ 18
length-column c small short =
    let name = length c.name ∷ (c.name ++ zeros (16 - length c.name)) in
    omega (arith, ap length (column_parts c small), length-append name (spelled 1 (kind_number c.kind)), length-spelled 1 (kind_number c.kind), length-append c.name (zeros (16 - length c.name)), length-zeros (16 - length c.name), short)

column_back : (most : ℕ) (c : Column) (at : ℕ) (front bytes : List ℕ) → at ≡ length front → most ≤ 64 → ColumnFits most c → Begins (front ++ column_bytes c) bytes
    → (let d : Column = record { name = name_in at bytes; kind = kind_said (field 1 (at + 18 - 1) bytes) } in d) ≡ c
column_back most c at front bytes is le fits begins =
    let small = kind_small most c.kind le fits.1 in
    let name = length c.name ∷ (c.name ++ zeros (16 - length c.name)) in
    let k = spelled 1 (kind_number c.kind) in
    let named : name_in at bytes ≡ c.name = text_back at front c.name (zeros (16 - length c.name) ++ (kind_number c.kind ∷ [])) bytes is (omega (arith, fits.0.1)) begins in
    let apart = begins_apart front name k bytes (begins.0, begins.1 ∙ ap (λ (l : List ℕ). (front ++ l) ++ begins.0) (column_parts c small)) in
    let here : at + 18 - 1 ≡ length (front ++ name) =
    omega (arith, is, length-append front name, length-append c.name (zeros (16 - length c.name)), length-zeros (16 - length c.name), fits.0.1) in
    let kind : kind_said (field 1 (at + 18 - 1) bytes) ≡ c.kind = ap kind_said (field_last 1 (kind_number c.kind) (at + 18 - 1) (front ++ name) bytes here small apart) ∙ kind_back most c.kind fits.1 in
    ap (λ (x : List ℕ). let d : Column = record { name = x; kind = kind_said (field 1 (at + 18 - 1) bytes) } in d) named
    ∙ ap (λ (x : Kind). let d : Column = record { name = c.name; kind = x } in d) kind

columns_back : (cs : List Column) (at : ℕ) (front bytes : List ℕ) → at ≡ length front → AllByRecursion (ColumnFits 64) cs → Begins (front ++ flat_map column_bytes cs) bytes → columns_from (length cs) at bytes ≡ cs
columns_back [] at front bytes is fits begins = refl
columns_back (c ∷ cs) at front bytes is fits begins =
    let small = kind_small 64 c.kind (omega arith) fits.0.1 in
    let apart = begins_apart front (column_bytes c) (flat_map column_bytes cs) bytes begins in
    let first = column_back 64 c at front bytes is (omega arith) fits.0 (begins_less (front ++ column_bytes c) (flat_map column_bytes cs) bytes apart) in
    let next : at + 18 ≡ length (front ++ column_bytes c) = omega (arith, is, length-append front (column_bytes c), length-column c small fits.0.0.1) in
    ap (λ (d : Column). d ∷ columns_from (length cs) (at + 18) bytes) first
    ∙ ap (λ (ds : List Column). c ∷ ds) (columns_back cs (at + 18) (front ++ column_bytes c) bytes next fits.1 apart)

-- the key's column may be such a one too
pub as_others : (cs : List Column) → ColumnsFit cs → AllByRecursion (ColumnFits 64) cs × (length cs ≤ 8)
as_others [] fits = absurd fits
as_others (c ∷ cs) fits = ((((fits.0.0, key_kind c.kind fits.0.1)), fits.1), omega (arith, fits.2))
  where
    key_kind : (k : Kind) → KindFits 0 k → KindFits 64 k
    key_kind Int h = tt
    key_kind (Chars n) h = absurd (omega (arith, h.0, h.1))

-- ---- a new entry

pub record NewEntry (creator : ℕ) (name : List ℕ) (cs : List Column) (bytes : List ℕ) : Type 0 where
  pub state : field 1 0 bytes ≡ 1
  pub creator_is : field 8 1 bytes ≡ creator
  pub dropper : field 8 9 bytes ≡ 0
  pub name_is : table_name_in bytes ≡ name
  pub columns : columns_in bytes ≡ cs

pub entry_back : (creator : ℕ) (name : List ℕ) (cs : List Column) (bytes : List ℕ) → creator < 256 ^ 8 → length name ≤ 16 → ColumnsFit cs → Begins (new_entry_bytes creator name cs) bytes → NewEntry creator name cs bytes
entry_back creator name cs bytes drawn short fits begins =
    let s = spelled 1 1 in
    let c = spelled 8 creator in
    let d = spelled 8 0 in
    let t = text_bytes 16 name in
    let k = spelled 1 (length cs) in
    let f = flat_map column_bytes cs in
    let z = replicate (18 * (8 - length cs)) 0 in
    let others = as_others cs fits in
    let front = s ++ c ++ d in
    let b5 = begins_less (front ++ t ++ columns_bytes cs) (replicate 77 0) bytes begins in
    let b4 = begins_less (front ++ t) (columns_bytes cs) bytes b5 in
    let b3 = begins_less front t bytes b4 in
    let b2 = begins_less (s ++ c) d bytes b3 in
    let b1 = begins_less s c bytes b2 in
    let l1 : 1 ≡ length s = sym (length-spelled 1 1) in
    let l2 : 9 ≡ length (s ++ c) = omega (arith, l1, length-more 8 creator s) in
    let l3 : 17 ≡ length front = omega (arith, l2, length-more 8 0 (s ++ c)) in
    let l4 : 34 ≡ length (front ++ t) =
    omega (arith, l3, length-append front t, length-append name (replicate (16 - length name) 0), length-replicate {A = ℕ} (16 - length name) 0, short) in
    let cols = begins_less ((front ++ t) ++ (k ++ f)) z bytes (begins_apart (front ++ t) (k ++ f) z bytes b5) in
    let each = begins_apart (front ++ t) k f bytes cols in
    let count : field 1 34 bytes ≡ length cs = field_last 1 (length cs) 34 (front ++ t) bytes l4 (omega (arith, others.1)) (begins_less ((front ++ t) ++ k) f bytes each) in
    record {
      state = field_last 1 1 0 [] bytes refl (omega arith) b1;
      creator_is = field_last 8 creator 1 s bytes l1 drawn b2;
      dropper = field_last 8 0 9 (s ++ c) bytes l2 (omega arith) b3;
      name_is = text_back 17 front name (replicate (16 - length name) 0) bytes l3 (omega (arith, short)) b4;
      columns = ap (λ (n : ℕ). columns_from n 35 bytes) count ∙ columns_back cs 35 ((front ++ t) ++ k) bytes (omega (arith, l4, length-more 1 (length cs) (front ++ t))) others.0 each;
    }

-- ---- making

-- a name and a kind are a column
pub column_put : (at next end k : ℕ) (c : Column) (a b d : List ℕ) → k ≡ kind_number c.kind → k < 256 → PutsBytes at (text_bytes 16 c.name) a b next → PutsBytes next (spelled 1 k) b d end → PutsBytes at (column_bytes c) a d end
column_put at next end k c a b d is small p q =
    subst (λ l. PutsBytes at l a d end)
    (ap (λ (n : ℕ). text_bytes 16 c.name ++ spelled 1 n) is ∙ column_is c (subst (λ n. n < 256) is small))
    (puts_more at next end (text_bytes 16 c.name) (spelled 1 k) a b d p q)

pub made_back : (creator end : ℕ) (name : List ℕ) (cs ds : List Column) (a b : List ℕ) → creator < 256 ^ 8 → IsName name → ColumnsFit cs → ds ≡ cs → PutsBytes 0 (new_entry_bytes creator name ds) a b end
    → (b ≡ new_entry_bytes creator name cs ++ drop end a) × NewEntry creator name cs b
made_back creator end name cs ds a b drawn named fits is p =
    let bytes : b ≡ new_entry_bytes creator name cs ++ drop end a = put_front end (new_entry_bytes creator name ds) a b p ∙ ap (λ (xs : List Column). new_entry_bytes creator name xs ++ drop end a) is in
    (bytes, entry_back creator name cs b drawn named.1 fits (drop end a, bytes))
