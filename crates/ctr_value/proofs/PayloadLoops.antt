-- Fields that are written and read one after the other.
use Rattle.std.proofs.Common.{◌≡◌, ℕ, ℤ, suc, ◌+◌, ◌-◌, ◌<◌, ◌≤◌, List, [], ◌∷◌, ◌++◌, map, set, length, take, drop, get_or, slice_index, refl, sym, ◌∙◌, ap, subst, arith, append_assoc, length-append, length-drop}
use Rattle.std.specs.Prelude.{FitsSigned}
use Rattle.std.specs.Int.{w64, cast_signed}
use Rattle.std.proofs.Math.Facts.{sfits_to_z}
use Rattle.std.proofs.lemmas.Int.{of_z-to_z}
use Rattle.std.proofs.lemmas.List.{append-nil, drop-drop, drop_more, drop_all, length-take-le, take-append-drop, take_all, take_at, take_more, take_more_set, map-append}
use Rattle.ctr_print.specs.types_Column.{Column}
use Rattle.ctr_print.specs.types_Kind.{Kind}
use Rattle.ctr_print.specs.types_Kind.TheVariants as kind
use Rattle.ctr_print.specs.types_Value.{Value}
use Rattle.ctr_print.specs.types_Value.TheVariants as value
use Rattle.ctr_value.specs.declared.payload.PayloadError.{PayloadError}
use Rattle.ctr_value.specs.declared.payload.PayloadError.TheVariants as error
use Rattle.ctr_value.specs.Payload.{IsOf, AreOf, IsKeyed, IsRow, field_width, width, field_of, payload_of, IsField, IsPayload, IsRowOf, HasField, HasBadField, IsNoPayload}
use Rattle.ctr_bytes.specs.Fields.{spelled, field}
use Rattle.ctr_bytes.proofs.FieldLaws.{AreBytes, field_fits, spelled_field, side}
use Rattle.ctr_value.proofs.PayloadLaws.{value_len, payload_wide, bad_none}

pub width_next : (cs : List Column) (i : ℕ) (c : Column) → i < length cs → c ≡ get_or cs i c → width (drop i cs) ≡ field_width c.kind + width (drop (i + 1) cs)
width_next cs i c lt is = ap width (drop_more cs i c lt ∙ ap (λ (d : Column). d ∷ drop (i + 1) cs) (sym is))

-- ---- checking

-- a number is spelled by any bytes
pub number_there : (at : ℕ) (bytes : List ℕ) → AreBytes bytes → at + 8 ≤ length bytes → HasField kind.Int at bytes
number_there at bytes below room =
    let x = field 8 at bytes in
    let small = field_fits 8 at bytes below in
    (value.Int (cast_signed w64 x), sfits_to_z (record { fits = small }), sym (ap (spelled 8) (of_z-to_z w64 x small) ∙ spelled_field 8 at bytes room below))

-- a field, and those behind it
pub more_there : (all cs : List Column) (c : Column) (at next : ℕ) (bytes : List ℕ) → all ≡ c ∷ cs → next ≡ at + field_width c.kind → HasField c.kind at bytes
    → (vs : List Value) × AreOf cs vs × IsPayload cs vs (drop next bytes) → (vs : List Value) × AreOf all vs × IsPayload all vs (drop at bytes)
more_there all cs c at next bytes is on first others =
    let split : drop at bytes ≡ take (field_width c.kind) (drop at bytes) ++ drop next bytes =
    sym (take-append-drop (field_width c.kind) (drop at bytes)) ∙ ap (λ (l : List ℕ). take (field_width c.kind) (drop at bytes) ++ l) (drop-drop (field_width c.kind) at bytes ∙ ap (λ n. drop n bytes) (sym on)) in
    subst (λ (l : List Column). (vs : List Value) × AreOf l vs × IsPayload l vs (drop at bytes)) (sym is)
    (first.0 ∷ others.0, (first.1, others.1), (take (field_width c.kind) (drop at bytes), drop next bytes, first.2, others.2, split))

-- the kinds before the next, and the next
pub kinds_more : (cs : List Column) (ks : List Kind) (i : ℕ) (c : Column) → i < length cs → i < length ks → c ≡ get_or cs i c → take i ks ≡ map (λ (c : Column). c.kind) (take i cs)
    → take (i + 1) (set ks i c.kind) ≡ map (λ (c : Column). c.kind) (take (i + 1) cs)
kinds_more cs ks i c lt room is so =
    let next : take (i + 1) cs ≡ take i cs ++ c ∷ [] = take_more cs i c lt ∙ ap (λ (x : Column). take i cs ++ x ∷ []) (sym is) in
    take_more_set ks i c.kind room ∙ ap (λ (l : List Kind). l ++ c.kind ∷ []) so ∙ sym (ap (map (λ (c : Column). c.kind)) next ∙ map-append (λ (c : Column). c.kind) (take i cs) (c ∷ []))

-- ---- writing

-- the columns before i were written, up to at
pub record HasPut (cs : List Column) (vs : List Value) (bytes : List ℕ) (i at : ℕ) : Type 0 where
  pub are : AreOf (drop i cs) (drop i vs)
  pub so : take at bytes ++ payload_of (drop i cs) (drop i vs) ≡ payload_of cs vs
  pub room : at + width (drop i cs) ≡ length bytes

pub none_put : (cs : List Column) (vs : List Value) (bytes : List ℕ) → AreOf cs vs → length bytes ≡ width cs → HasPut cs vs bytes 0 0
none_put cs vs bytes a e = record { are = a; so = refl; room = omega (arith, e) }

-- the next value, of the next column
pub next_fits : (cs : List Column) (vs : List Value) (bytes : List ℕ) (i at : ℕ) (c : Column) (v : Value) → i < length cs → i < length vs → c ≡ get_or cs i c → v ≡ get_or vs i v
    → HasPut cs vs bytes i at → IsOf c.kind v × AreOf (drop (i + 1) cs) (drop (i + 1) vs)
next_fits cs vs bytes i at c v lt lt' is is' p =
    let d : drop i cs ≡ c ∷ drop (i + 1) cs = drop_more cs i c lt ∙ ap (λ (x : Column). x ∷ drop (i + 1) cs) (sym is) in
    let d' : drop i vs ≡ v ∷ drop (i + 1) vs = drop_more vs i v lt' ∙ ap (λ (x : Value). x ∷ drop (i + 1) vs) (sym is') in
    let one : AreOf (c ∷ drop (i + 1) cs) (drop i vs) = subst (λ (l : List Column). AreOf l (drop i vs)) d p.are in
    subst (λ (l : List Value). AreOf (c ∷ drop (i + 1) cs) l) d' one

pub one_put : (cs : List Column) (vs : List Value) (bytes new : List ℕ) (i at : ℕ) (c : Column) (v : Value) → i < length cs → i < length vs → c ≡ get_or cs i c → v ≡ get_or vs i v
    → HasPut cs vs bytes i at → length new ≡ length bytes → take (at + field_width c.kind) new ≡ take at bytes ++ field_of c.kind v → HasPut cs vs new (i + 1) (at + field_width c.kind)
one_put cs vs bytes new i at c v lt lt' is is' p len front =
    let d : drop i cs ≡ c ∷ drop (i + 1) cs = drop_more cs i c lt ∙ ap (λ (x : Column). x ∷ drop (i + 1) cs) (sym is) in
    let d' : drop i vs ≡ v ∷ drop (i + 1) vs = drop_more vs i v lt' ∙ ap (λ (x : Value). x ∷ drop (i + 1) vs) (sym is') in
    let fits = next_fits cs vs bytes i at c v lt lt' is is' p in
    record {
      are = fits.1;
      so = ap (λ (l : List ℕ). l ++ payload_of (drop (i + 1) cs) (drop (i + 1) vs)) front
          ∙ append_assoc (take at bytes) (field_of c.kind v) (payload_of (drop (i + 1) cs) (drop (i + 1) vs))
          ∙ sym (ap (λ (l : List Column). take at bytes ++ payload_of l (drop i vs)) d ∙ ap (λ (l : List Value). take at bytes ++ payload_of (c ∷ drop (i + 1) cs) l) d')
          ∙ p.so;
      room = omega (arith, p.room, width_next cs i c lt is, len);
    }

pub all_put : (cs : List Column) (vs : List Value) (bytes : List ℕ) (i at : ℕ) → length cs ≤ i → HasPut cs vs bytes i at → bytes ≡ payload_of cs vs
all_put cs vs bytes i at le p =
    let none : drop i cs ≡ [] = drop_all i cs le in
    let whole : length bytes ≤ at = let w : width (drop i cs) ≡ 0 = ap width none in omega (arith, p.room) in
    sym (sym p.so ∙ ap (λ (l : List Column). take at bytes ++ payload_of l (drop i vs)) none ∙ append-nil (take at bytes) ∙ take_all at bytes whole)

-- the bytes with a field written over those at a place, as a slice's part
pub put_there : (at w : ℕ) (bytes part new : List ℕ) → at + w ≤ length bytes → length part ≡ w → new ≡ take at bytes ++ (part ++ drop w (drop at bytes)) → take (at + w) new ≡ take at bytes ++ part
put_there at w bytes part new fits len is =
    ap (take (at + w)) (is ∙ sym (append_assoc (take at bytes) part (drop w (drop at bytes))))
    ∙ take_at (take at bytes ++ part) (drop w (drop at bytes)) (at + w) (omega (arith, length-append (take at bytes) part, length-take-le at bytes (omega arith)))

-- the next field is written
pub put_step : (cs : List Column) (vs : List Value) (bytes part : List ℕ) (i at w : ℕ) (c : Column) (v : Value) → i < length cs → i < length vs → c ≡ get_or cs i c → v ≡ get_or vs i v
    → w ≡ field_width c.kind → HasPut cs vs bytes i at → part ≡ field_of c.kind v → HasPut cs vs (take at bytes ++ (part ++ drop (at + w - at) (drop at bytes))) (i + 1) (at + w)
put_step cs vs bytes part i at w c v lt lt' is is' wide p filled =
    let fits = next_fits cs vs bytes i at c v lt lt' is is' p in
    let room : at + w ≤ length bytes = omega (arith, p.room, width_next cs i c lt is) in
    let len : length part ≡ w = ap length filled ∙ value_len c.kind v fits.0 ∙ sym wide in
    let w-is : at + w - at ≡ w = omega arith in
    let new : List ℕ = take at bytes ++ (part ++ drop (at + w - at) (drop at bytes)) in
    let same : length new ≡ length bytes = omega (arith, length-append (take at bytes) (part ++ drop (at + w - at) (drop at bytes)), length-append part (drop (at + w - at) (drop at bytes)), length-take-le at bytes (omega arith), length-drop (at + w - at) (drop at bytes), length-drop at bytes) in
    let front : take (at + w) new ≡ take at bytes ++ part = put_there at w bytes part new room len (ap (λ (k : ℕ). take at bytes ++ (part ++ drop k (drop at bytes))) w-is) in
    let front' : take (at + field_width c.kind) new ≡ take at bytes ++ field_of c.kind v = ap (λ (k : ℕ). take (at + k) new) (sym wide) ∙ front ∙ ap (λ (l : List ℕ). take at bytes ++ l) filled in
    subst (λ (k : ℕ). HasPut cs vs new (i + 1) (at + k)) (sym wide) (one_put cs vs bytes new i at c v lt lt' is is' p same front')

-- ---- a text

pub text_found : (most at : ℕ) (bytes text : List ℕ) → at + (most + 1) ≤ length bytes → slice_index bytes at ≤ most → text ≡ take (slice_index bytes at) (drop (at + 1) bytes)
    → IsOf (kind.Chars most) (value.Chars text) × IsField (kind.Chars most) (value.Chars text) (take (most + 1) (drop at bytes))
text_found most at bytes text room short is =
    let len : length text ≡ slice_index bytes at = ap length is ∙ length-take-le (slice_index bytes at) (drop (at + 1) bytes) (omega (arith, length-drop (at + 1) bytes)) in
    let first : drop at bytes ≡ slice_index bytes at ∷ drop (at + 1) bytes = drop_more bytes at 0 (omega arith) in
    let padding : List ℕ = take (most - length text) (drop (at + 1 + slice_index bytes at) bytes) in
    let two : take most (drop (at + 1) bytes) ≡ text ++ padding =
    ap (λ (k : ℕ). take k (drop (at + 1) bytes)) (let e : most ≡ slice_index bytes at + (most - length text) = omega (arith, len) in e)
    ∙ sym (side (at + 1) (slice_index bytes at) (most - length text) bytes) ∙ ap (λ (l : List ℕ). l ++ padding) (sym is) in
    let cut : length padding ≡ most - length text = length-take-le (most - length text) (drop (at + 1 + slice_index bytes at) bytes) (omega (arith, len, length-drop (at + 1 + slice_index bytes at) bytes)) in
    let one_more : take (most + 1) (slice_index bytes at ∷ drop (at + 1) bytes) ≡ slice_index bytes at ∷ take most (drop (at + 1) bytes) =
    ap (λ (k : ℕ). take k (slice_index bytes at ∷ drop (at + 1) bytes)) (let e : most + 1 ≡ suc most = omega arith in e) in (
      omega (arith, len),
      (padding, cut, ap (take (most + 1)) first ∙ one_more ∙ ap (λ (l : List ℕ). slice_index bytes at ∷ l) two ∙ ap (λ (k : ℕ). k ∷ (text ++ padding)) (sym len)),
    )

-- ---- a row

pub behind_row : (cs : List Column) (vs : List Value) → IsRow cs vs → AreOf (drop 1 cs) (drop 1 vs)
behind_row [] vs h = absurd h.0
behind_row (c ∷ cs) [] h = absurd h.1
behind_row (c ∷ cs) (v ∷ vs) h = h.1.1

pub row_len : (cs : List Column) (key : ℤ) (bytes : List ℕ) (vs : List Value) → IsRowOf cs key bytes vs → length bytes ≡ width (drop 1 cs)
row_len cs key bytes vs h = payload_wide (drop 1 cs) (drop 1 vs) bytes (behind_row cs vs h.0) h.2

pub only_memory : (cs : List Column) (key : ℤ) (bytes : List ℕ) (vs : List Value) (e : PayloadError) → IsRowOf cs key bytes vs → IsNoPayload (HasBadField (drop 1 cs) 0 bytes) e → e ≡ error.OutOfMemory
only_memory cs key bytes vs error.OutOfMemory h r = refl
only_memory cs key bytes vs (error.Bad at want got) h r = absurd (bad_none (drop 1 cs) (drop 1 vs) 0 at want got bytes r.0 (behind_row cs vs h.0) h.2)

-- the row of a payload whose fields are those of values is what it says
pub row_read : (cs : List Column) (key : ℤ) (vs : List Value) (bytes : List ℕ) → IsKeyed cs → FitsSigned w64 key → AreOf (drop 1 cs) vs → IsPayload (drop 1 cs) vs bytes
    → IsRowOf cs key bytes (value.Int key ∷ vs)
row_read [] key vs bytes keyed fits are so = absurd keyed
row_read (c ∷ cs) key vs bytes keyed fits are so =
    let first : IsOf c.kind (value.Int key) = subst (λ (k : Kind). IsOf k (value.Int key)) (sym keyed) fits in
    ((keyed, (first, are)), refl, so)
