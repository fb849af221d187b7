-- What is spelled passes the checks, and is read.
use Rattle.std.proofs.Common.{◌≡◌, ◌≢◌, ℕ, ◌+◌, ◌<◌, ◌≤◌, Bool, true, false, cond, eqb, ltb, List, [], ◌++◌, length, drop, Option, None, Some, Result, Ok, Err, refl, sym, ap, subst, ◌∙◌, length-append, arith, inl, inr}
use Rattle.std.specs.Prelude.{⊤}
use Rattle.std.proofs.lemmas.Bool.{cases_Bool, ltb-true, le-ltb, eqb-false, eq-eqb, ne_eqb}
use Rattle.std.proofs.lemmas.List.{drop_at}
use Rattle.ctr_bytes.specs.Fields.{spelled, field}
use Rattle.ctr_bytes.proofs.FieldLaws.{length-spelled}
use Rattle.ctr_rec.specs.declared.decoding.BadRecord.{BadRecord}
use Rattle.ctr_rec.specs.declared.table.Field.{Field}
use Rattle.ctr_rec.specs.declared.table.Layout.{Layout}
use Rattle.ctr_rec.specs.declared.table.Tag.{Tag}
use Rattle.ctr_rec.specs.declared.table.Tag.TheVariants as tag
use Rattle.ctr_rec.specs.declared.record.Overlay.{Overlay}
use Rattle.ctr_rec.specs.declared.record.Parts.{Parts}
use Rattle.ctr_rec.specs.Table.{bytes_of_field, most, layout, flag_at}
use Rattle.ctr_rec.specs.Parts.{flag_of, OverlayFits, PartsFit}
use Rattle.ctr_rec.specs.Spelling.{field_bytes, place_bytes, with_overlay, parts_bytes}
use Rattle.ctr_bytes.specs.Following.{◌>>=◌}
use Rattle.ctr_rec.specs.Damage.{wrong, expect, flag_check, inside_check, overlay_check, length_wanted, overlay_in, at_most, bound_check, checks}
use Rattle.ctr_rec.proofs.Laws.{most-width, Begins, begins_whole, begins_less, field_last, length-fields, length-place, length-overlay}
use Rattle.ctr_rec.specs.Read.{parts_read}
use Rattle.ctr_rec.proofs.Reading.{in_none, in_some}

-- ---- the table

pub numbers : (t : Tag) → (2 ≤ (layout t).number) × ((layout t).number ≤ 18)
numbers tag.Begin = (omega arith, omega arith)
numbers tag.Commit = (omega arith, omega arith)
numbers tag.Abort = (omega arith, omega arith)
numbers tag.Forget = (omega arith, omega arith)
numbers tag.Alloc = (omega arith, omega arith)
numbers tag.Format = (omega arith, omega arith)
numbers tag.Link = (omega arith, omega arith)
numbers tag.Free = (omega arith, omega arith)
numbers tag.Unlink = (omega arith, omega arith)
numbers tag.Create = (omega arith, omega arith)
numbers tag.Uncreate = (omega arith, omega arith)
numbers tag.Drop = (omega arith, omega arith)
numbers tag.Undrop = (omega arith, omega arith)
numbers tag.Row = (omega arith, omega arith)
numbers tag.Keep = (omega arith, omega arith)
numbers tag.Revert = (omega arith, omega arith)
numbers tag.Trim = (omega arith, omega arith)

-- the row of a number
abbrev numbered : ℕ → Tag
numbered n = cond (eqb n 2) tag.Begin (cond (eqb n 3) tag.Commit (cond (eqb n 4) tag.Abort (cond (eqb n 5) tag.Forget (cond (eqb n 6) tag.Alloc (cond (eqb n 7) tag.Format (cond (eqb n 8) tag.Link (cond (eqb n 9) tag.Free (cond (eqb n 10) tag.Unlink (cond (eqb n 11) tag.Create (cond (eqb n 12) tag.Uncreate (cond (eqb n 13) tag.Drop (cond (eqb n 14) tag.Undrop (cond (eqb n 15) tag.Row (cond (eqb n 16) tag.Keep (cond (eqb n 17) tag.Revert (tag.Trim))))))))))))))))

numbered-number : (t : Tag) → numbered (layout t).number ≡ t
numbered-number tag.Begin = refl
numbered-number tag.Commit = refl
numbered-number tag.Abort = refl
numbered-number tag.Forget = refl
numbered-number tag.Alloc = refl
numbered-number tag.Format = refl
numbered-number tag.Link = refl
numbered-number tag.Free = refl
numbered-number tag.Unlink = refl
numbered-number tag.Create = refl
numbered-number tag.Uncreate = refl
numbered-number tag.Drop = refl
numbered-number tag.Undrop = refl
numbered-number tag.Row = refl
numbered-number tag.Keep = refl
numbered-number tag.Revert = refl
numbered-number tag.Trim = refl

-- two rows have two numbers
pub one_tag : (a b : Tag) → (layout a).number ≡ (layout b).number → a ≡ b
one_tag a b e = sym (numbered-number a) ∙ ap numbered e ∙ numbered-number b

-- ---- the fields of what is spelled

begins_flag : (front : List ℕ) (flag : ℕ) (o : Option Overlay) → Begins (front ++ spelled 1 flag) (with_overlay front flag o)
begins_flag front flag None = begins_whole (front ++ spelled 1 flag)
begins_flag front flag (Some o) =
    let a = front ++ spelled 1 flag in
    let b = a ++ spelled 4 o.page in
    let c = b ++ spelled 2 o.offset in
    let whole = with_overlay front flag (Some o) in
    begins_less a (spelled 4 o.page) whole (begins_less b (spelled 2 o.offset) whole (begins_less c (spelled 2 (length o.bytes)) whole (begins_less (place_bytes front flag o) o.bytes whole (begins_whole whole))))

-- the fields before the overlay
record Stand (l : Layout) (a b : ℕ) (bytes : List ℕ) : Type 0 where
  pub number : field 1 0 bytes ≡ l.number
  pub first : field (bytes_of_field l.first) 1 bytes ≡ a
  pub second : field (bytes_of_field l.second) (1 + bytes_of_field l.first) bytes ≡ b
  pub flag : field 1 (flag_at l) bytes ≡ l.flag

stand : (l : Layout) (a b : ℕ) (o : Option Overlay) → l.number < 256 → l.flag < 256 → a ≤ most l.first → b ≤ most l.second → Stand l a b (with_overlay (field_bytes l a b) l.flag o)
stand l a b o number flag first second =
    let whole = with_overlay (field_bytes l a b) l.flag o in
    let x = spelled 1 l.number in
    let y = x ++ spelled (bytes_of_field l.first) a in
    let z = field_bytes l a b in
    let bf = begins_flag z l.flag o in
    let bz = begins_less z (spelled 1 l.flag) whole bf in
    let by = begins_less y (spelled (bytes_of_field l.second) b) whole bz in
    let bx = begins_less x (spelled (bytes_of_field l.first) a) whole by in
    record {
      number = field_last 1 l.number 0 [] whole refl (omega (arith, number)) bx;
      first = field_last (bytes_of_field l.first) a 1 x whole (sym (length-spelled 1 l.number)) (omega (arith, first, most-width l.first)) by;
      second = field_last (bytes_of_field l.second) b (1 + bytes_of_field l.first) y whole (omega (arith, length-append x (spelled (bytes_of_field l.first) a), length-spelled 1 l.number, length-spelled (bytes_of_field l.first) a)) (omega (arith, second, most-width l.second)) bz;
      flag = field_last 1 l.flag (flag_at l) z whole (sym (length-fields l a b)) (omega (arith, flag)) bf;
    }

-- the fields of the overlay
record Laid (l : Layout) (o : Overlay) (bytes : List ℕ) : Type 0 where
  pub page : field 4 (flag_at l + 1) bytes ≡ o.page
  pub offset : field 2 (flag_at l + 5) bytes ≡ o.offset
  pub len : field 2 (flag_at l + 7) bytes ≡ length o.bytes
  pub rest : drop (flag_at l + 9) bytes ≡ o.bytes

laid : (l : Layout) (a b : ℕ) (o : Overlay) → OverlayFits l.flag (Some o) → Laid l o (with_overlay (field_bytes l a b) l.flag (Some o))
laid l a b o fits =
    let whole = with_overlay (field_bytes l a b) l.flag (Some o) in
    let z = field_bytes l a b in
    let f1 = z ++ spelled 1 l.flag in
    let f2 = f1 ++ spelled 4 o.page in
    let f3 = f2 ++ spelled 2 o.offset in
    let b4 = begins_less (place_bytes z l.flag o) o.bytes whole (begins_whole whole) in
    let b3 = begins_less f3 (spelled 2 (length o.bytes)) whole b4 in
    let b2 = begins_less f2 (spelled 2 o.offset) whole b3 in
    let n0 = length-fields l a b in
    let n1 : length f1 ≡ flag_at l + 1 = omega (arith, n0, length-append z (spelled 1 l.flag), length-spelled 1 l.flag) in
    let n2 : length f2 ≡ flag_at l + 5 = omega (arith, n1, length-append f1 (spelled 4 o.page), length-spelled 4 o.page) in
    let n3 : length f3 ≡ flag_at l + 7 = omega (arith, n2, length-append f2 (spelled 2 o.offset), length-spelled 2 o.offset) in
    record {
      page = field_last 4 o.page (flag_at l + 1) f1 whole (sym n1) fits.1 b2;
      offset = field_last 2 o.offset (flag_at l + 5) f2 whole (sym n2) (omega (arith, fits.3)) b3;
      len = field_last 2 (length o.bytes) (flag_at l + 7) f3 whole (sym n3) (omega (arith, fits.3)) b4;
      rest = drop_at (place_bytes z l.flag o) o.bytes (flag_at l + 9) (omega (arith, length-place z l.flag o, n0));
    }

-- ---- the checks pass

pub expect_same : (at want got : ℕ) → want ≡ got → expect at want got ≡ Ok tt
expect_same at want got e = ap (λ (b : Bool). cond b (Ok tt) (Err (wrong at want got))) (eq-eqb _ _ e)

pub either_ok : (b : Bool) (r : Result ⊤ BadRecord) → r ≡ Ok tt → cond b r (Ok tt) ≡ Ok tt
either_ok true r e = e
either_ok false r e = refl

unless_ok : (b : Bool) (r : Result ⊤ BadRecord) → r ≡ Ok tt → cond b (Ok tt) r ≡ Ok tt
unless_ok true r e = refl
unless_ok false r e = e

flag_passes : (l : Layout) (bytes : List ℕ) → field 1 (flag_at l) bytes ≡ l.flag → flag_check l bytes ≡ Ok tt
unfolding flag_check
flag_passes l bytes e = either_ok (ltb (flag_at l) (length bytes)) (expect (flag_at l) l.flag (field 1 (flag_at l) bytes)) (expect_same (flag_at l) l.flag (field 1 (flag_at l) bytes) (sym e))

bound_passes : (f : Field) (at : ℕ) (bytes : List ℕ) → field (bytes_of_field f) at bytes ≤ most f → bound_check f at bytes ≡ Ok tt
unfolding bound_check at_most
bound_passes f at bytes le = ap (λ (b : Bool). cond b (Err (wrong at (most f) (field (bytes_of_field f) at bytes))) (Ok tt)) (le-ltb _ _ le)

inside_passes : (at offset len : ℕ) → offset + len ≤ 4096 → 1 ≤ len → inside_check at offset len ≡ Ok tt
unfolding inside_check
inside_passes at offset len le some =
    ap (λ (b : Bool). cond b (Err (wrong at 4096 (offset + len))) (cond (eqb len 0) (Err (wrong at 1 0)) (Ok tt))) (le-ltb _ _ le)
    ∙ ap (λ (b : Bool). cond b (Err (wrong at 1 0)) (Ok tt)) (ne_eqb len 0 (λ e. omega (arith, e, some)))

all_pass : (l : Layout) (bytes : List ℕ) → flag_check l bytes ≡ Ok tt → overlay_check l bytes ≡ Ok tt → length_wanted l bytes ≡ length bytes
    → bound_check l.first 1 bytes ≡ Ok tt → bound_check l.second (1 + bytes_of_field l.first) bytes ≡ Ok tt → checks l bytes ≡ Ok tt
unfolding checks
all_pass l bytes flag overlay whole first second =
    rw (flag, overlay, expect_same 0 (length_wanted l bytes) (length bytes) whole, first, second) refl

-- the overlay's part
record Over (l : Layout) (o : Option Overlay) (bytes : List ℕ) : Type 0 where
  pub passes : overlay_check l bytes ≡ Ok tt
  pub whole : length_wanted l bytes ≡ length bytes
  pub read : overlay_in l bytes ≡ o

over_none : (l : Layout) (bytes : List ℕ) → l.flag ≡ 0 → length bytes ≡ flag_at l + 1 → Over l None bytes
unfolding overlay_check length_wanted
over_none l bytes none len =
    let is = eq-eqb _ _ none in
    record {
      passes = ap (λ (b : Bool). cond b (Ok tt) (cond (ltb (length bytes) (flag_at l + 9)) (Ok tt) (inside_check (flag_at l) (field 2 (flag_at l + 5) bytes) (field 2 (flag_at l + 7) bytes)))) is;
      whole = ap (λ (b : Bool). cond b (flag_at l + 1) (cond (ltb (length bytes) (flag_at l + 9)) (flag_at l + 10) (flag_at l + 9 + field 2 (flag_at l + 7) bytes))) is ∙ sym len;
      read = in_none l bytes none;
    }

flag_some : (flag : ℕ) (clear : Bool) → flag ≡ flag_of clear → (eqb flag 0 ≡ false) × (eqb flag 2 ≡ clear)
flag_some flag true e = (ap (λ (n : ℕ). eqb n 0) e, ap (λ (n : ℕ). eqb n 2) e)
flag_some flag false e = (ap (λ (n : ℕ). eqb n 0) e, ap (λ (n : ℕ). eqb n 2) e)

over_some : (l : Layout) (o : Overlay) (bytes : List ℕ) → OverlayFits l.flag (Some o) → Laid l o bytes → length bytes ≡ flag_at l + (9 + length o.bytes) → Over l (Some o) bytes
unfolding overlay_check length_wanted
over_some l o bytes fits at len =
    let is = flag_some l.flag o.clear fits.0 in
    let long : ltb (length bytes) (flag_at l + 9) ≡ false = le-ltb _ _ (omega (arith, len)) in
    let inside = inside_check (flag_at l) (field 2 (flag_at l + 5) bytes) (field 2 (flag_at l + 7) bytes) in
    record {
      passes = ap (λ (b : Bool). cond b (Ok tt) (cond (ltb (length bytes) (flag_at l + 9)) (Ok tt) inside)) is.0
          ∙ unless_ok (ltb (length bytes) (flag_at l + 9)) inside (inside_passes (flag_at l) (field 2 (flag_at l + 5) bytes) (field 2 (flag_at l + 7) bytes) (omega (arith, at.offset, at.len, fits.3)) (omega (arith, at.len, fits.2)));
      whole = ap (λ (b : Bool). cond b (flag_at l + 1) (cond (ltb (length bytes) (flag_at l + 9)) (flag_at l + 10) (flag_at l + 9 + field 2 (flag_at l + 7) bytes))) is.0
          ∙ ap (λ (b : Bool). cond b (flag_at l + 10) (flag_at l + 9 + field 2 (flag_at l + 7) bytes)) long
          ∙ omega (arith, at.len, len);
      read = in_some l bytes is.0 ∙ same (field 4 (flag_at l + 1) bytes) o.page (eqb l.flag 2) o.clear (field 2 (flag_at l + 5) bytes) o.offset (drop (flag_at l + 9) bytes) o.bytes at.page is.1 at.offset at.rest;
    }
  where
    made : ℕ → Bool → ℕ → List ℕ → Option Overlay
    made page clear offset bytes = Some (record { page = page; clear = clear; offset = offset; bytes = bytes })

    same : (p p' : ℕ) (c c' : Bool) (f f' : ℕ) (b b' : List ℕ) → p ≡ p' → c ≡ c' → f ≡ f' → b ≡ b' → made p c f b ≡ made p' c' f' b'
    same p p' c c' f f' b b' e1 e2 e3 e4 = ap (λ x. made x c f b) e1 ∙ ap (λ x. made p' x f b) e2 ∙ ap (λ x. made p' c' x b) e3 ∙ ap (made p' c' f') e4

over : (l : Layout) (a b : ℕ) (o : Option Overlay) → OverlayFits l.flag o → Over l o (with_overlay (field_bytes l a b) l.flag o)
over l a b None fits = over_none l (with_overlay (field_bytes l a b) l.flag None) fits (omega (arith, length-overlay (field_bytes l a b) l.flag None, length-fields l a b))
over l a b (Some o) fits =
    over_some l o (with_overlay (field_bytes l a b) l.flag (Some o)) fits (laid l a b o fits) (omega (arith, length-overlay (field_bytes l a b) l.flag (Some o), length-fields l a b))

-- ---- all of a record

flag_small : (flag : ℕ) (o : Option Overlay) → OverlayFits flag o → flag < 256
flag_small flag None fits = omega (arith, fits)
flag_small flag (Some o) fits = small o.clear fits.0
  where
    small : (c : Bool) → flag ≡ flag_of c → flag < 256
    small true e = omega (arith, e)
    small false e = omega (arith, e)

-- what is spelled stands so, passes, and is read
pub record Reads (p : Parts) (bytes : List ℕ) : Type 0 where
  pub number : field 1 0 bytes ≡ (layout p.tag).number
  pub passes : checks (layout p.tag) bytes ≡ Ok tt
  pub read : parts_read p.tag bytes ≡ p

pub reads : (p : Parts) → PartsFit p → Reads p (parts_bytes p)
reads p fits =
    let l = layout p.tag in
    let bytes = parts_bytes p in
    let s = stand l p.first p.second p.overlay (omega (arith, (numbers p.tag).1)) (flag_small l.flag p.overlay fits.overlay) fits.first fits.second in
    let o = over l p.first p.second p.overlay fits.overlay in
    record {
      number = s.number;
      passes = all_pass l bytes (flag_passes l bytes s.flag) o.passes o.whole (bound_passes l.first 1 bytes (omega (arith, s.first, fits.first))) (bound_passes l.second (1 + bytes_of_field l.first) bytes (omega (arith, s.second, fits.second)));
      read = same p.tag (field (bytes_of_field l.first) 1 bytes) p.first (field (bytes_of_field l.second) (1 + bytes_of_field l.first) bytes) p.second (overlay_in l bytes) p.overlay s.first s.second o.read;
    }
  where
    made : Tag → ℕ → ℕ → Option Overlay → Parts
    made t a b o = record { tag = t; first = a; second = b; overlay = o }

    same : (t : Tag) (a a' b b' : ℕ) (o o' : Option Overlay) → a ≡ a' → b ≡ b' → o ≡ o' → made t a b o ≡ made t a' b' o'
    same t a a' b b' o o' e1 e2 e3 = ap (λ x. made t x b o) e1 ∙ ap (λ x. made t a' x o) e2 ∙ ap (made t a' b') e3

pub one_parts : (a b : Parts) → PartsFit a → PartsFit b → parts_bytes a ≡ parts_bytes b → a ≡ b
one_parts a b fa fb e =
    let ra = reads a fa in
    let rb = reads b fb in
    let t : a.tag ≡ b.tag = one_tag a.tag b.tag (sym ra.number ∙ ap (field 1 0) e ∙ rb.number) in
    sym ra.read ∙ ap (λ (x : Tag). parts_read x (parts_bytes a)) t ∙ ap (parts_read b.tag) e ∙ rb.read

-- the first byte of parts is a number of the table
pub begins_so : (p : Parts) (bytes : List ℕ) → PartsFit p → parts_bytes p ≡ bytes → (2 ≤ field 1 0 bytes) × (field 1 0 bytes ≤ 18)
begins_so p bytes fits e =
    let number : field 1 0 bytes ≡ (layout p.tag).number = ap (field 1 0) (sym e) ∙ (reads p fits).number in
    let n = numbers p.tag in
    (omega (arith, number, n.0), omega (arith, number, n.1))

-- parts pass the checks of their row
pub parts_pass : (p : Parts) (t : Tag) (bytes : List ℕ) → PartsFit p → parts_bytes p ≡ bytes → (layout t).number ≡ field 1 0 bytes → checks (layout t) bytes ≡ Ok tt
parts_pass p t bytes fits e number =
    let rr = reads p fits in
    let same : p.tag ≡ t = one_tag p.tag t (sym rr.number ∙ ap (field 1 0) e ∙ sym number) in
    subst (λ (x : Tag). checks (layout x) bytes ≡ Ok tt) same (subst (λ (y : List ℕ). checks (layout p.tag) y ≡ Ok tt) e rr.passes)

-- ---- what fails differs

abbrev pub Fair : {A : Type 0} → Result A BadRecord → Type 0
Fair (Ok x) = ℕ
Fair (Err f) = f.want ≢ f.got

pub fair_bind : {A B : Type 0} (r : Result A BadRecord) (f : A → Result B BadRecord) → Fair r → ((x : A) → Fair (f x)) → Fair (r >>= f)
fair_bind (Ok x) f p q = q x
fair_bind (Err e) f p q = p

pub fair_expect : (at want got : ℕ) → Fair (expect at want got)
fair_expect at want got =
    elim (cases_Bool (eqb want got)) [
      | inl t ↦ subst (λ (b : Bool). Fair (cond b (Ok tt) (Err (wrong at want got)))) (sym t) 0
      | inr f ↦ subst (λ (b : Bool). Fair (cond b (Ok tt) (Err (wrong at want got)))) (sym f) (eqb-false _ _ f)
    ]

pub fair_if : (b : Bool) (d : BadRecord) (r : Result ⊤ BadRecord) → (b ≡ true → d.want ≢ d.got) → Fair r → Fair (cond b (Err d) r)
fair_if true d r h f = h refl
fair_if false d r h f = f

pub fair_both : (b : Bool) (r s : Result ⊤ BadRecord) → Fair r → Fair s → Fair (cond b r s)
fair_both true r s p q = p
fair_both false r s p q = q

fair_flag : (l : Layout) (bytes : List ℕ) → Fair (flag_check l bytes)
unfolding flag_check
fair_flag l bytes = fair_both (ltb (flag_at l) (length bytes)) (expect (flag_at l) l.flag (field 1 (flag_at l) bytes)) (Ok tt) (fair_expect (flag_at l) l.flag (field 1 (flag_at l) bytes)) 0

fair_inside : (at offset len : ℕ) → Fair (inside_check at offset len)
unfolding inside_check
fair_inside at offset len =
    fair_if (ltb 4096 (offset + len)) (wrong at 4096 (offset + len)) (cond (eqb len 0) (Err (wrong at 1 0)) (Ok tt)) (λ t same. omega (arith, ltb-true _ _ t, same))
    (fair_if (eqb len 0) (wrong at 1 0) (Ok tt) (λ t same. omega (arith, same)) 0)

fair_overlay : (l : Layout) (bytes : List ℕ) → Fair (overlay_check l bytes)
unfolding overlay_check
fair_overlay l bytes =
    let inside = inside_check (flag_at l) (field 2 (flag_at l + 5) bytes) (field 2 (flag_at l + 7) bytes) in
    fair_both (eqb l.flag 0) (Ok tt) (cond (ltb (length bytes) (flag_at l + 9)) (Ok tt) inside) 0
    (fair_both (ltb (length bytes) (flag_at l + 9)) (Ok tt) inside 0 (fair_inside (flag_at l) (field 2 (flag_at l + 5) bytes) (field 2 (flag_at l + 7) bytes)))

fair_bound : (f : Field) (at : ℕ) (bytes : List ℕ) → Fair (bound_check f at bytes)
unfolding bound_check at_most
fair_bound f at bytes = fair_if (ltb (most f) (field (bytes_of_field f) at bytes)) (wrong at (most f) (field (bytes_of_field f) at bytes)) (Ok tt) (λ t same. omega (arith, ltb-true _ _ t, same)) 0

fair_checks : (l : Layout) (bytes : List ℕ) → Fair (checks l bytes)
unfolding checks
fair_checks l bytes =
    fair_bind (flag_check l bytes) (λ _. overlay_check l bytes >>= λ _. expect 0 (length_wanted l bytes) (length bytes) >>= λ _. bound_check l.first 1 bytes >>= λ _. bound_check l.second (1 + bytes_of_field l.first) bytes) (fair_flag l bytes) (λ _.
    fair_bind (overlay_check l bytes) (λ _. expect 0 (length_wanted l bytes) (length bytes) >>= λ _. bound_check l.first 1 bytes >>= λ _. bound_check l.second (1 + bytes_of_field l.first) bytes) (fair_overlay l bytes) (λ _.
    fair_bind (expect 0 (length_wanted l bytes) (length bytes)) (λ _. bound_check l.first 1 bytes >>= λ _. bound_check l.second (1 + bytes_of_field l.first) bytes) (fair_expect 0 (length_wanted l bytes) (length bytes)) (λ _.
    fair_bind (bound_check l.first 1 bytes) (λ _. bound_check l.second (1 + bytes_of_field l.first) bytes) (fair_bound l.first 1 bytes) (λ _. fair_bound l.second (1 + bytes_of_field l.first) bytes))))

pub differs : (l : Layout) (bytes : List ℕ) (e : BadRecord) → checks l bytes ≡ Err e → e.want ≢ e.got
differs l bytes e is = subst Fair is (fair_checks l bytes)

pub err_no_ok : (e : BadRecord) (r : Result ⊤ BadRecord) → Err e ≡ r → r ≡ Ok tt → ⊥
err_no_ok e r p q = let both : Err e ≡ Ok tt = p ∙ q in cc
