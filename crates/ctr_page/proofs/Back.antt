-- What was made is read back.
use Rattle.std.proofs.Common.{◌≡◌, ℕ, suc, ◌+◌, ◌<◌, ℤ, Bool, true, false, List, [], ◌++◌, length, take, drop, replicate, Option, Some, None, refl, sym, ◌∙◌, ap, append_assoc, length-append, if◌then◌else◌, arith}
use Rattle.std.specs.Prelude.{FitsSigned}
use Rattle.std.proofs.lemmas.Bool.{eq-eqb, ne_eqb}
use Rattle.std.specs.Int.{w64, cast_unsigned, cast_signed}
use Rattle.std.proofs.Math.Facts.{Fits-of_z}
use Rattle.std.proofs.lemmas.Int.{to_z-of_z}
use Rattle.std.proofs.lemmas.List.{take_at, drop_at, length-replicate}
use Rattle.ctr_rec.specs.bytes_Fields.{spelled, field}
use Rattle.ctr_rec.proofs.bytes_FieldLaws.{length-spelled}
use Rattle.ctr_rec.proofs.Laws.{Begins, begins_less, field_last}
use Rattle.ctr_page.specs.declared.header.Header.{Header}
use Rattle.ctr_page.specs.declared.rows.Place.{Place}
use Rattle.ctr_page.specs.declared.rows.Version.{Version}
use Rattle.ctr_page.specs.declared.rows.RowSlot.{RowSlot}
use Rattle.ctr_page.specs.declared.rows.VersionEntry.{VersionEntry}
use Rattle.ctr_page.specs.Places.{has_previous, previous_at, pointer_at, kept_pointer_at, slot_size, kept_size}
use Rattle.ctr_page.specs.Reading.{piece, header_in, place_in, version_in, if_there, previous_in, slot_in, older_in}
use Rattle.ctr_page.specs.Making.{header_bytes, pointer_bytes, version_bytes, some_version_bytes, previous_bytes, slot_bytes, kept_bytes, IsHeader, PlaceFits, IsVersion, IsSlot, IsEntry}

-- ---- fronts

pub begins_apart : (front x y bytes : List ℕ) → Begins (front ++ (x ++ y)) bytes → Begins ((front ++ x) ++ y) bytes
begins_apart front x y bytes b = (b.0, b.1 ∙ ap (λ (l : List ℕ). l ++ b.0) (sym (append_assoc front x y)))

-- the bytes that were put last
pub piece_last : (at n : ℕ) (front x bytes : List ℕ) → at ≡ length front → n ≡ length x → Begins (front ++ x) bytes → piece at n bytes ≡ x
piece_last at n front x bytes is long b =
    ap (λ (l : List ℕ). take n (drop at l)) (b.1 ∙ append_assoc front x b.0)
    ∙ ap (take n) (drop_at front (x ++ b.0) at (sym is)) ∙ take_at x b.0 n (sym long)

pub length-more : (n x : ℕ) (front : List ℕ) → length (front ++ spelled n x) ≡ length front + n
length-more n x front = omega (arith, length-append front (spelled n x), length-spelled n x)

-- ---- places and versions

place_back : (p : Place) (at : ℕ) (front bytes : List ℕ) → at ≡ length front → PlaceFits p → Begins (front ++ pointer_bytes p) bytes → place_in at bytes ≡ p
place_back p at front bytes is fits begins =
    let f = front ++ spelled 4 p.page in
    let b = begins_apart front (spelled 4 p.page) (spelled 2 p.slot) bytes begins in
    let page : field 4 at bytes ≡ p.page = field_last 4 p.page at front bytes is fits.0 (begins_less f (spelled 2 p.slot) bytes b) in
    let slot : field 2 (at + 4) bytes ≡ p.slot = field_last 2 p.slot (at + 4) f bytes (omega (arith, is, length-more 4 p.page front)) fits.1 b in
    ap (λ (x : ℕ). let q : Place = record { page = x; slot = field 2 (at + 4) bytes } in q) page
    ∙ ap (λ (x : ℕ). let q : Place = record { page = p.page; slot = x } in q) slot

length-version : (v : Version) → length (version_bytes v) ≡ 9 + length v.payload
length-version v =
    omega (arith, length-append (spelled 8 v.xid ++ spelled 1 v.tombstone) v.payload, length-more 1 v.tombstone (spelled 8 v.xid), length-spelled 8 v.xid)

version_back : (w : ℕ) (v : Version) (at : ℕ) (front bytes : List ℕ) → at ≡ length front → IsVersion w v → Begins (front ++ version_bytes v) bytes → version_in w at bytes ≡ v
version_back w v at front bytes is fits begins =
    let x = spelled 8 v.xid in
    let t = spelled 1 v.tombstone in
    let f = front ++ x in
    let whole = begins_apart front (x ++ t) v.payload bytes begins in
    let two = begins_apart front x t bytes (begins_less (front ++ (x ++ t)) v.payload bytes whole) in
    let xid : field 8 at bytes ≡ v.xid = field_last 8 v.xid at front bytes is fits.0 (begins_less f t bytes two) in
    let dead : field 1 (at + 8) bytes ≡ v.tombstone = field_last 1 v.tombstone (at + 8) f bytes (omega (arith, is, length-more 8 v.xid front)) fits.1 two in
    let here : at + 9 ≡ length (front ++ (x ++ t)) = omega (arith, is, length-append front (x ++ t), length-more 1 v.tombstone x, length-spelled 8 v.xid) in
    let payload : piece (at + 9) w bytes ≡ v.payload = piece_last (at + 9) w (front ++ (x ++ t)) v.payload bytes here (sym fits.2) whole in
    ap (λ (y : ℕ). let q : Version = record { xid = y; tombstone = field 1 (at + 8) bytes; payload = piece (at + 9) w bytes } in q) xid
    ∙ ap (λ (y : ℕ). let q : Version = record { xid = v.xid; tombstone = y; payload = piece (at + 9) w bytes } in q) dead
    ∙ ap (λ (y : List ℕ). let q : Version = record { xid = v.xid; tombstone = v.tombstone; payload = y } in q) payload

-- ---- the previous version

some_there : (v : Version) → 0 < v.xid → if_there v ≡ Some v
some_there v some = ap (λ (b : Bool). if b then None else Some v) (ne_eqb v.xid 0 (λ e. omega (arith, e, some)))

none_there : (v : Version) → v.xid ≡ 0 → if_there v ≡ None
none_there v none = ap (λ (b : Bool). if b then None else Some v) (eq-eqb v.xid 0 none)

-- zeros begin with the number 0
zeros_spelled : (w : ℕ) → replicate (9 + w) 0 ≡ spelled 8 0 ++ replicate (suc w) 0
unfolding spelled
zeros_spelled w =
    ap (λ (n : ℕ). replicate n 0) (let e : 9 + w ≡ suc (suc (suc (suc (suc (suc (suc (suc (suc w)))))))) = omega arith in e)

-- by whether the slot has room for it
abbrev IsPrev : Bool → ℕ → Option Version → Type 0
IsPrev b w None = Unit {0}
IsPrev b w (Some v) = (b ≡ true) × (0 < v.xid) × IsVersion w v

length-some : (w : ℕ) (v : Option Version) (b : Bool) → IsPrev b w v → length (if b then some_version_bytes w v else []) ≡ (if b then 9 + w else 0)
length-some w None true h = length-replicate {A = ℕ} (9 + w) 0
length-some w None false h = refl
length-some w (Some v) true h = omega (arith, length-version v, h.2.2)
length-some w (Some v) false h = refl

prev_back : (b : Bool) (w : ℕ) (v : Option Version) (front bytes : List ℕ) → previous_at w ≡ length front → IsPrev b w v
    → Begins (front ++ (if b then some_version_bytes w v else [])) bytes → (if b then if_there (version_in w (previous_at w) bytes) else None) ≡ v
prev_back false w None front bytes is fits begins = refl
prev_back false w (Some v) front bytes is fits begins = absurd (let e : false ≡ true = fits.0 in cc)
prev_back true w None front bytes is fits begins =
    let eight : Begins (front ++ spelled 8 0) bytes =
    begins_less (front ++ spelled 8 0) (replicate (suc w) 0) bytes (begins_apart front (spelled 8 0) (replicate (suc w) 0) bytes (begins.0, begins.1 ∙ ap (λ (l : List ℕ). (front ++ l) ++ begins.0) (zeros_spelled w))) in
    none_there (version_in w (previous_at w) bytes) (field_last 8 0 (previous_at w) front bytes is (omega arith) eight)
prev_back true w (Some v) front bytes is fits begins =
    ap if_there (version_back w v (previous_at w) front bytes is fits.2 begins) ∙ some_there v fits.1

-- ---- slots and version entries

key_back : (key : ℤ) (front bytes : List ℕ) → 1 ≡ length front → FitsSigned w64 key → Begins (front ++ spelled 8 (cast_unsigned w64 key)) bytes → cast_signed w64 (field 8 1 bytes) ≡ key
key_back key front bytes is fits begins =
    ap (cast_signed w64) (field_last 8 (cast_unsigned w64 key) 1 front bytes is ((Fits-of_z {w = w64} {z = key} fits).fits) begins) ∙ to_z-of_z w64 key fits

pub slot_back : (w : ℕ) (s : RowSlot) (bytes : List ℕ) → IsSlot w s → Begins (slot_bytes w s) bytes → slot_in w bytes ≡ s
slot_back w s bytes fits begins =
    let u = spelled 1 s.used in
    let k = spelled 8 (cast_unsigned w64 s.key) in
    let h = version_bytes s.head in
    let p = previous_bytes w s.previous in
    let b4 = begins_less (u ++ k ++ h ++ p) (pointer_bytes s.older) bytes begins in
    let b3 = begins_less (u ++ k ++ h) p bytes b4 in
    let b2 = begins_less (u ++ k) h bytes b3 in
    let b1 = begins_less u k bytes b2 in
    let l1 : 1 ≡ length u = sym (length-spelled 1 s.used) in
    let l2 : 9 ≡ length (u ++ k) = omega (arith, l1, length-more 8 (cast_unsigned w64 s.key) u) in
    let l3 : previous_at w ≡ length (u ++ k ++ h) = omega (arith, l2, length-append (u ++ k) h, length-version s.head, fits.head.2) in
    let l4 : pointer_at w ≡ length (u ++ k ++ h ++ p) = pointer_is (has_previous w) w (u ++ k ++ h) p l3 (length-some w s.previous (has_previous w) fits.previous) in
    let used : field 1 0 bytes ≡ s.used = field_last 1 s.used 0 [] bytes refl fits.used b1 in
    let key = key_back s.key u bytes l1 fits.key b2 in
    let head = version_back w s.head 9 (u ++ k) bytes l2 fits.head b3 in
    let previous : previous_in w bytes ≡ s.previous = prev_back (has_previous w) w s.previous (u ++ k ++ h) bytes l3 fits.previous b4 in
    let older = place_back s.older (pointer_at w) (u ++ k ++ h ++ p) bytes l4 fits.older begins in
    same_slot (slot_in w bytes) s used key head previous older
  where
    pointer_is : (b : Bool) (w : ℕ) (front p : List ℕ) → previous_at w ≡ length front → length p ≡ (if b then 9 + w else 0) → (if b then previous_at w + 9 + w else previous_at w) ≡ length (front ++ p)
    pointer_is true w front p is long = omega (arith, is, long, length-append front p)
    pointer_is false w front p is long = omega (arith, is, long, length-append front p)

    same_slot : (a b : RowSlot) → a.used ≡ b.used → a.key ≡ b.key → a.head ≡ b.head → a.previous ≡ b.previous → a.older ≡ b.older → a ≡ b
    same_slot a b used key head previous older =
        ap (λ x. record a { used = x }) used ∙ ap (λ x. record a { used = b.used; key = x }) key
        ∙ ap (λ x. record a { used = b.used; key = b.key; head = x }) head ∙ ap (λ x. record b { previous = x; older = a.older }) previous
        ∙ ap (λ x. record b { older = x }) older

pub kept_back : (w : ℕ) (e : VersionEntry) (bytes : List ℕ) → IsEntry w e → Begins (kept_bytes e) bytes → older_in w bytes ≡ e
kept_back w e bytes fits begins =
    let u = spelled 1 e.used in
    let k = spelled 8 (cast_unsigned w64 e.key) in
    let h = version_bytes e.version in
    let b3 = begins_less (u ++ k ++ h) (pointer_bytes e.older) bytes begins in
    let b2 = begins_less (u ++ k) h bytes b3 in
    let b1 = begins_less u k bytes b2 in
    let l1 : 1 ≡ length u = sym (length-spelled 1 e.used) in
    let l2 : 9 ≡ length (u ++ k) = omega (arith, l1, length-more 8 (cast_unsigned w64 e.key) u) in
    let l3 : previous_at w ≡ length (u ++ k ++ h) = omega (arith, l2, length-append (u ++ k) h, length-version e.version, fits.version.2) in
    let used : field 1 0 bytes ≡ e.used = field_last 1 e.used 0 [] bytes refl fits.used b1 in
    let key = key_back e.key u bytes l1 fits.key b2 in
    let version = version_back w e.version 9 (u ++ k) bytes l2 fits.version b3 in
    let older = place_back e.older (kept_pointer_at w) (u ++ k ++ h) bytes l3 fits.older begins in
    same_kept (older_in w bytes) e used key version older
  where
    same_kept : (a b : VersionEntry) → a.used ≡ b.used → a.key ≡ b.key → a.version ≡ b.version → a.older ≡ b.older → a ≡ b
    same_kept a b used key version older =
        ap (λ x. record a { used = x }) used ∙ ap (λ x. record a { used = b.used; key = x }) key
        ∙ ap (λ x. record b { version = x; older = a.older }) version ∙ ap (λ x. record b { older = x }) older

-- ---- how long they are

pub length-slot : (w : ℕ) (s : RowSlot) → IsSlot w s → length (slot_bytes w s) ≡ slot_size w
length-slot w s fits =
    let u = spelled 1 s.used in
    let k = spelled 8 (cast_unsigned w64 s.key) in
    let h = version_bytes s.head in
    let p = previous_bytes w s.previous in
    let front : 18 + w ≡ length (u ++ k ++ h) =
    omega (arith, length-append (u ++ k) h, length-more 8 (cast_unsigned w64 s.key) u, length-spelled 1 s.used, length-version s.head, fits.head.2) in
    whole (has_previous w) w (u ++ k ++ h) p (pointer_bytes s.older) front (length-some w s.previous (has_previous w) fits.previous) (length-pointer s.older)
  where
    length-pointer : (p : Place) → length (pointer_bytes p) ≡ 6
    length-pointer p = omega (arith, length-more 2 p.slot (spelled 4 p.page), length-spelled 4 p.page)

    whole : (b : Bool) (w : ℕ) (front p o : List ℕ) → 18 + w ≡ length front → length p ≡ (if b then 9 + w else 0) → length o ≡ 6 → length (front ++ p ++ o) ≡ (if b then previous_at w + 9 + w else previous_at w) + 6
    whole true w front p o is long six = omega (arith, is, long, six, length-append (front ++ p) o, length-append front p)
    whole false w front p o is long six = omega (arith, is, long, six, length-append (front ++ p) o, length-append front p)

pub length-kept : (w : ℕ) (e : VersionEntry) → IsEntry w e → length (kept_bytes e) ≡ kept_size w
length-kept w e fits =
    let u = spelled 1 e.used in
    let k = spelled 8 (cast_unsigned w64 e.key) in
    let h = version_bytes e.version in
    omega (
      arith,
      length-append (u ++ k ++ h) (pointer_bytes e.older),
      length-append (u ++ k) h,
      length-more 8 (cast_unsigned w64 e.key) u,
      length-spelled 1 e.used,
      length-version e.version,
      fits.version.2,
      length-more 2 e.older.slot (spelled 4 e.older.page),
      length-spelled 4 e.older.page,
    )

-- ---- the header

pub header_back : (h : Header) (bytes : List ℕ) → IsHeader h → Begins (header_bytes h) bytes → header_in bytes ≡ h
header_back h bytes fits begins =
    let k = spelled 1 h.kind in
    let e = spelled 1 h.entry in
    let b = spelled 1 h.bucket in
    let n = spelled 4 h.next in
    let b5 = begins_less (k ++ e ++ b ++ spelled 1 0 ++ n) (spelled 8 0) bytes begins in
    let b3 = begins_less (k ++ e ++ b) (spelled 1 0) bytes (begins_less (k ++ e ++ b ++ spelled 1 0) n bytes b5) in
    let b2 = begins_less (k ++ e) b bytes b3 in
    let b1 = begins_less k e bytes b2 in
    let l1 : 1 ≡ length k = sym (length-spelled 1 h.kind) in
    let l2 : 2 ≡ length (k ++ e) = omega (arith, l1, length-more 1 h.entry k) in
    let l3 : 3 ≡ length (k ++ e ++ b) = omega (arith, l2, length-more 1 h.bucket (k ++ e)) in
    let l4 : 4 ≡ length (k ++ e ++ b ++ spelled 1 0) = omega (arith, l3, length-more 1 0 (k ++ e ++ b)) in
    let kind : field 1 0 bytes ≡ h.kind = field_last 1 h.kind 0 [] bytes refl fits.0 b1 in
    let entry : field 1 1 bytes ≡ h.entry = field_last 1 h.entry 1 k bytes l1 fits.1 b2 in
    let bucket : field 1 2 bytes ≡ h.bucket = field_last 1 h.bucket 2 (k ++ e) bytes l2 fits.2 b3 in
    let next : field 4 4 bytes ≡ h.next = field_last 4 h.next 4 (k ++ e ++ b ++ spelled 1 0) bytes l4 fits.3 b5 in
    same_header (header_in bytes) h kind entry bucket next
  where
    same_header : (a b : Header) → a.kind ≡ b.kind → a.entry ≡ b.entry → a.bucket ≡ b.bucket → a.next ≡ b.next → a ≡ b
    same_header a b kind entry bucket next =
        ap (λ x. record a { kind = x }) kind ∙ ap (λ x. record a { kind = b.kind; entry = x }) entry
        ∙ ap (λ x. record b { bucket = x; next = a.next }) bucket ∙ ap (λ x. record b { next = x }) next
