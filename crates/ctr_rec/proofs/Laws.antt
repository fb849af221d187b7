-- Fields, one behind another, and their lengths.
use Rattle.std.proofs.Common.{◌≡◌, ℕ, ◌+◌, ◌^◌, ◌<◌, ◌≤◌, List, [], ◌∷◌, ◌++◌, length, take, drop, Option, None, Some, refl, sym, ap, ◌∙◌, append_assoc, length-append, take-append-drop, arith}
use Rattle.std.proofs.lemmas.List.{append-nil}
use Rattle.ctr_bytes.specs.Fields.{spelled, field, with_field}
use Rattle.ctr_bytes.proofs.FieldLaws.{AreBytes, length-spelled, field_at, spelled_field, side, put_next, length-with_field}
use Rattle.ctr_rec.specs.declared.table.Field.{Field}
use Rattle.ctr_rec.specs.declared.table.Field.TheVariants.{Nothing, Entry, Page, Xid}
use Rattle.ctr_rec.specs.declared.table.Layout.{Layout}
use Rattle.ctr_rec.specs.declared.record.Overlay.{Overlay}
use Rattle.ctr_rec.specs.declared.record.Parts.{Parts}
use Rattle.ctr_rec.specs.Table.{bytes_of_field, most, layout, flag_at}
use Rattle.ctr_rec.specs.Spelling.{field_bytes, place_bytes, with_overlay, overlay_len, parts_bytes}

-- what a field may be has room in its bytes
pub most-width : (f : Field) → most f < 256 ^ bytes_of_field f
most-width Nothing = omega arith
most-width Entry = omega arith
most-width Page = omega arith
most-width Xid = omega arith

-- no field is 0
pub field-none : (at : ℕ) (bytes : List ℕ) → field 0 at bytes ≡ 0
unfolding field
field-none at bytes = refl

-- of no bytes a byte is 0
pub field-empty : (bytes : List ℕ) → length bytes ≡ 0 → 0 ≡ field 1 0 bytes
unfolding field
field-empty [] e = refl
field-empty (x ∷ xs) e = absurd (omega (arith, e))

-- putting no field changes nothing
pub put-none : (at x : ℕ) (bytes : List ℕ) → with_field 0 at x bytes ≡ bytes
unfolding spelled
put-none at x bytes =
    ap (λ (l : List ℕ). l ++ drop (at + 0) bytes) (append-nil (take at bytes))
    ∙ ap (λ (k : ℕ). take at bytes ++ drop k bytes) (let e : at + 0 ≡ at = omega arith in e)
    ∙ take-append-drop at bytes

-- three lists with their counts are six pieces, one behind another
pub in_one_row : (h c1 m1 c2 m2 c3 m3 : List ℕ) → h ++ (((c1 ++ m1) ++ (c2 ++ m2)) ++ (c3 ++ m3)) ≡ h ++ c1 ++ m1 ++ c2 ++ m2 ++ c3 ++ m3
in_one_row h c1 m1 c2 m2 c3 m3 =
    sym (append_assoc h ((c1 ++ m1) ++ (c2 ++ m2)) (c3 ++ m3))
    ∙ ap (λ (l : List ℕ). l ++ (c3 ++ m3)) (sym (append_assoc h (c1 ++ m1) (c2 ++ m2)))
    ∙ ap (λ (l : List ℕ). (l ++ (c2 ++ m2)) ++ (c3 ++ m3)) (sym (append_assoc h c1 m1))
    ∙ ap (λ (l : List ℕ). l ++ (c3 ++ m3)) (sym (append_assoc ((h ++ c1) ++ m1) c2 m2))
    ∙ sym (append_assoc ((((h ++ c1) ++ m1) ++ c2) ++ m2) c3 m3)

-- a field more behind those that were put
pub put_more : (n x at next : ℕ) (front old a b : List ℕ) → next ≡ at + n → at ≡ length front → a ≡ front ++ drop at old → b ≡ with_field n at x a
    → (next ≡ length (front ++ spelled n x)) × (b ≡ (front ++ spelled n x) ++ drop next old)
put_more n x at next front old a b on is filled put = (
  omega (arith, on, is, length-append front (spelled n x), length-spelled n x),
  put ∙ put_next n x at front old a is filled ∙ ap (λ (k : ℕ). (front ++ spelled n x) ++ drop k old) (sym on),
)

-- putting a field leaves the length
pub length-more : (n x at : ℕ) (a b : List ℕ) → at + n ≤ length a → b ≡ with_field n at x a → length b ≡ length a
length-more n x at a b fits put = ap length put ∙ length-with_field n at x a fits

-- the bytes up to a field, and the field
pub grow : (n at next : ℕ) (bytes : List ℕ) → next ≡ at + n → next ≤ length bytes → AreBytes bytes → take at bytes ++ spelled n (field n at bytes) ≡ take next bytes
grow n at next bytes on le fits =
    ap (λ (l : List ℕ). take at bytes ++ l) (spelled_field n at bytes (omega (arith, on)) fits)
    ∙ ap (λ (k : ℕ). take at bytes ++ take n (drop k bytes)) (let e : at ≡ 0 + at = omega arith in e)
    ∙ side 0 at n bytes ∙ ap (λ (k : ℕ). take k bytes) (sym on)

-- ---- the front of a list

-- a list begins so
abbrev pub Begins : List ℕ → List ℕ → Type 0
Begins front bytes = (rest : List ℕ) × (bytes ≡ front ++ rest)

pub begins_whole : (bytes : List ℕ) → Begins bytes bytes
begins_whole bytes = ([], sym (append-nil bytes))

pub begins_less : (front more bytes : List ℕ) → Begins (front ++ more) bytes → Begins front bytes
begins_less front more bytes b = (more ++ b.0, b.1 ∙ append_assoc front more b.0)

-- the field that was put last
pub field_last : (n x at : ℕ) (front bytes : List ℕ) → at ≡ length front → x < 256 ^ n → Begins (front ++ spelled n x) bytes → field n at bytes ≡ x
field_last n x at front bytes is fits b = ap (field n at) b.1 ∙ field_at n x at front b.0 (sym is) fits

-- ---- lengths

pub length-fields : (l : Layout) (a b : ℕ) → length (field_bytes l a b) ≡ flag_at l
length-fields l a b =
    omega (arith, length-append (spelled 1 l.number ++ spelled (bytes_of_field l.first) a) (spelled (bytes_of_field l.second) b), length-append (spelled 1 l.number) (spelled (bytes_of_field l.first) a), length-spelled 1 l.number, length-spelled (bytes_of_field l.first) a, length-spelled (bytes_of_field l.second) b)

pub length-place : (front : List ℕ) (flag : ℕ) (o : Overlay) → length (place_bytes front flag o) ≡ length front + 9
length-place front flag o =
    let a = front ++ spelled 1 flag in
    let b = a ++ spelled 4 o.page in
    let c = b ++ spelled 2 o.offset in
    omega (arith, length-append front (spelled 1 flag), length-append a (spelled 4 o.page), length-append b (spelled 2 o.offset), length-append c (spelled 2 (length o.bytes)), length-spelled 1 flag, length-spelled 4 o.page, length-spelled 2 o.offset, length-spelled 2 (length o.bytes))

pub length-overlay : (front : List ℕ) (flag : ℕ) (o : Option Overlay) → length (with_overlay front flag o) ≡ length front + overlay_len o
length-overlay front flag None = omega (arith, length-append front (spelled 1 flag), length-spelled 1 flag)
length-overlay front flag (Some o) = omega (arith, length-append (place_bytes front flag o) o.bytes, length-place front flag o)

pub length-parts : (p : Parts) → length (parts_bytes p) ≡ flag_at (layout p.tag) + overlay_len p.overlay
length-parts p = omega (arith, length-overlay (field_bytes (layout p.tag) p.first p.second) (layout p.tag).flag p.overlay, length-fields (layout p.tag) p.first p.second)
