-- A row is determined by its key and its payload, and no row has a payload with a bad field.
use Rattle.std.proofs.Common.{◌≡◌, inl, inr, ℕ, ◌+◌, ◌-◌, ℤ, List, [], ◌∷◌, ◌++◌, map, length, take, drop, replicate, get_or, slice_index, refl, sym, ◌∙◌, ap, subst, arith, length-append}
use Rattle.std.specs.Prelude.{FitsSigned}
use Rattle.std.specs.Int.{w64, cast_unsigned, cast_signed}
use Rattle.std.proofs.Math.Facts.{Fits-of_z}
use Rattle.std.proofs.lemmas.Int.{to_z-of_z}
use Rattle.std.proofs.lemmas.List.{take_at, drop_at, drop-drop, get_or-drop, length-replicate}
use Rattle.ctr_print.specs.types_Column.{Column}
use Rattle.ctr_print.specs.types_Kind.{Kind}
use Rattle.ctr_print.specs.types_Kind.TheVariants as kind
use Rattle.ctr_print.specs.types_Value.{Value}
use Rattle.ctr_print.specs.types_Value.TheVariants as value
use Rattle.ctr_print.specs.ctr_model.Refusals.{key_of}
use Rattle.ctr_bytes.specs.Fields.{spelled, field}
use Rattle.ctr_value.specs.Payload.{IsOf, AreOf, IsRow, field_width, kinds_width, width, field_of, payload_of, IsField, IsPayload, IsRowOf, IsBadField, HasBadField}
use Rattle.ctr_bytes.proofs.FieldLaws.{length-spelled, field_at}

-- a value takes the room of its column
pub value_len : (k : Kind) (v : Value) → IsOf k v → length (field_of k v) ≡ field_width k
value_len kind.Int (value.Int n) h = length-spelled 8 (cast_unsigned w64 n)
value_len (kind.Chars most) (value.Chars text) h =
    omega (arith, length-append text (replicate (most - length text) 0), length-replicate {A = ℕ} (most - length text) 0)
value_len kind.Int (value.Chars text) h = absurd h
value_len (kind.Chars most) (value.Int n) h = absurd h

pub payload_len : (cs : List Column) (vs : List Value) → AreOf cs vs → length (payload_of cs vs) ≡ width cs
payload_len [] [] h = refl
payload_len [] (v ∷ vs) h = absurd h
payload_len (c ∷ cs) [] h = absurd h
payload_len (c ∷ cs) (v ∷ vs) h =
    omega (arith, length-append (field_of c.kind v) (payload_of cs vs), value_len c.kind v h.0, payload_len cs vs h.1)

-- the kinds have the width of their columns
pub kinds_wide : (cs : List Column) → kinds_width (map (λ (c : Column). c.kind) cs) ≡ width cs
kinds_wide [] = refl
kinds_wide (c ∷ cs) = ap (λ n. field_width c.kind + n) (kinds_wide cs)

-- whatever stands behind a text
pub field_len : (k : Kind) (v : Value) (bytes : List ℕ) → IsOf k v → IsField k v bytes → length bytes ≡ field_width k
field_len kind.Int (value.Int n) bytes o h = ap length h ∙ length-spelled 8 (cast_unsigned w64 n)
field_len (kind.Chars most) (value.Chars text) bytes o h = let padding = h.0 in omega (arith, ap length h.2, length-append text padding, h.1)
field_len kind.Int (value.Chars text) bytes o h = absurd h
field_len (kind.Chars most) (value.Int n) bytes o h = absurd h

pub payload_wide : (cs : List Column) (vs : List Value) (bytes : List ℕ) → AreOf cs vs → IsPayload cs vs bytes → length bytes ≡ width cs
payload_wide [] [] bytes a h = ap length h
payload_wide [] (v ∷ vs) bytes a h = absurd h
payload_wide (c ∷ cs) [] bytes a h = absurd h
payload_wide (c ∷ cs) (v ∷ vs) bytes a h =
    omega (arith, ap length h.4, length-append h.0 h.1, field_len c.kind v h.0 a.0 h.2, payload_wide cs vs h.1 a.1 h.3)

pub as_many : (cs : List Column) (vs : List Value) → AreOf cs vs → length cs ≡ length vs
as_many [] [] h = refl
as_many [] (v ∷ vs) h = absurd h
as_many (c ∷ cs) [] h = absurd h
as_many (c ∷ cs) (v ∷ vs) h = let e = as_many cs vs h.1 in omega arith

-- two rows of bytes with fronts of one length
pub parts : (a b x y : List ℕ) → length a ≡ length b → a ++ x ≡ b ++ y → (a ≡ b) × (x ≡ y)
parts a b x y n e = (
  sym (take_at a x (length a) refl) ∙ ap (take (length a)) e ∙ take_at b y (length a) (sym n),
  sym (drop_at a x (length a) refl) ∙ ap (drop (length a)) e ∙ drop_at b y (length a) (sym n),
)

number_is : (n : ℤ) → FitsSigned w64 n → cast_signed w64 (field 8 0 (spelled 8 (cast_unsigned w64 n) ++ [])) ≡ n
number_is n h =
    ap (cast_signed w64) (field_at 8 (cast_unsigned w64 n) 0 [] [] refl ((Fits-of_z {w = w64} {z = n} h).fits)) ∙ to_z-of_z w64 n h

-- what is written is so spelled
field_written : (k : Kind) (v : Value) → IsOf k v → IsField k v (field_of k v)
field_written kind.Int (value.Int n) o = refl
field_written (kind.Chars most) (value.Chars text) o = (replicate (most - length text) 0, length-replicate {A = ℕ} (most - length text) 0, refl)
field_written kind.Int (value.Chars text) o = absurd o
field_written (kind.Chars most) (value.Int n) o = absurd o

pub payload_written : (cs : List Column) (vs : List Value) → AreOf cs vs → IsPayload cs vs (payload_of cs vs)
payload_written [] [] a = refl
payload_written [] (v ∷ vs) a = absurd a
payload_written (c ∷ cs) [] a = absurd a
payload_written (c ∷ cs) (v ∷ vs) a = (field_of c.kind v, payload_of cs vs, field_written c.kind v a.0, payload_written cs vs a.1, refl)

pub row_written : (cs : List Column) (vs : List Value) → IsRow cs vs → IsRowOf cs (key_of vs) (payload_of (drop 1 cs) (drop 1 vs)) vs
row_written [] vs h = absurd h.0
row_written (c ∷ cs) [] h = absurd h.1
row_written (c ∷ cs) (v ∷ vs) h = (h, refl, payload_written cs vs h.1.1)

text_is : (t u p q bytes : List ℕ) → bytes ≡ length t ∷ (t ++ p) → bytes ≡ length u ∷ (u ++ q) → t ≡ u
text_is t u p q bytes e f =
    let same : length t ∷ (t ++ p) ≡ length u ∷ (u ++ q) = sym e ∙ f in
    let heads : length t ≡ length u = cc in
    let tails : t ++ p ≡ u ++ q = cc in
    (parts t u p q heads tails).0

value_is : (k : Kind) (v w : Value) (bytes : List ℕ) → IsOf k v → IsOf k w → IsField k v bytes → IsField k w bytes → v ≡ w
value_is kind.Int (value.Int n) (value.Int m) bytes p q e f =
    ap value.Int (sym (number_is n p) ∙ ap (λ (s : List ℕ). cast_signed w64 (field 8 0 (s ++ []))) (sym e ∙ f) ∙ number_is m q)
value_is (kind.Chars most) (value.Chars t) (value.Chars u) bytes p q e f = ap value.Chars (text_is t u e.0 f.0 bytes e.2 f.2)
value_is kind.Int (value.Int n) (value.Chars t) bytes p q e f = absurd q
value_is kind.Int (value.Chars t) w bytes p q e f = absurd p
value_is (kind.Chars most) (value.Chars t) (value.Int n) bytes p q e f = absurd q
value_is (kind.Chars most) (value.Int n) w bytes p q e f = absurd p

pub one : (cs : List Column) (vs ws : List Value) (bytes : List ℕ) → AreOf cs vs → AreOf cs ws → IsPayload cs vs bytes → IsPayload cs ws bytes → vs ≡ ws
one [] [] [] bytes p q e f = refl
one [] [] (w ∷ ws) bytes p q e f = absurd q
one [] (v ∷ vs) ws bytes p q e f = absurd p
one (c ∷ cs) [] ws bytes p q e f = absurd p
one (c ∷ cs) (v ∷ vs) [] bytes p q e f = absurd q
one (c ∷ cs) (v ∷ vs) (w ∷ ws) bytes p q e f =
    let both = parts f.0 e.0 f.1 e.1 (field_len c.kind w f.0 q.0 f.2 ∙ sym (field_len c.kind v e.0 p.0 e.2)) (sym f.4 ∙ e.4) in
    let front : IsField c.kind w e.0 = subst (λ (l : List ℕ). IsField c.kind w l) both.0 f.2 in
    let rest : IsPayload cs ws e.1 = subst (λ (l : List ℕ). IsPayload cs ws l) both.1 f.3 in
    let first : v ≡ w = value_is c.kind v w e.0 p.0 q.0 e.2 front in
    let others : vs ≡ ws = one cs vs ws e.1 p.1 q.1 e.3 rest in
    cc

pub one_row : (cs : List Column) (key : ℤ) (bytes : List ℕ) (vs ws : List Value) → IsRowOf cs key bytes vs → IsRowOf cs key bytes ws → vs ≡ ws
one_row [] key bytes vs ws p q = absurd p.0.0
one_row (c ∷ cs) key bytes [] ws p q = absurd p.0.1
one_row (c ∷ cs) key bytes (v ∷ vs) [] p q = absurd q.0.1
one_row (c ∷ cs) key bytes (value.Int n ∷ vs) (value.Int m ∷ ws) p q =
    let keys : n ≡ m = p.1 ∙ sym q.1 in
    let rest : vs ≡ ws = one cs vs ws bytes p.0.1.1 q.0.1.1 p.2 q.2 in
    cc
one_row (c ∷ cs) key bytes (value.Int n ∷ vs) (value.Chars t ∷ ws) p q = absurd (subst (λ (x : Kind). IsOf x (value.Chars t)) q.0.0 q.0.1.0)
one_row (c ∷ cs) key bytes (value.Chars t ∷ vs) (w ∷ ws) p q = absurd (subst (λ (x : Kind). IsOf x (value.Chars t)) p.0.0 p.0.1.0)

-- no text is spelled where a field is bad
bad_field : (k : Kind) (v : Value) (at place want got : ℕ) (bytes front rest : List ℕ) → IsBadField k at bytes place want got → IsOf k v → IsField k v front → drop at bytes ≡ front ++ rest → ⊥
bad_field kind.Int v at place want got bytes front rest h o f e = h
bad_field (kind.Chars most) (value.Int n) at place want got bytes front rest h o f e = o
bad_field (kind.Chars most) (value.Chars text) at place want got bytes front rest h o f e =
    let there : at + 0 ≡ at = omega arith in
    let head : slice_index bytes at ≡ length text = ap (slice_index bytes) (sym there) ∙ sym (get_or-drop at bytes 0 0) ∙ ap (λ (l : List ℕ). get_or l 0 0) (e ∙ ap (λ (l : List ℕ). l ++ rest) f.2) in
    omega (arith, head, h.2, h.3, o)

-- what stands behind a field
behind : (k : Kind) (v : Value) (at : ℕ) (bytes front rest : List ℕ) → IsOf k v → IsField k v front → drop at bytes ≡ front ++ rest → drop (at + field_width k) bytes ≡ rest
behind k v at bytes front rest o f e =
    sym (drop-drop (field_width k) at bytes) ∙ ap (drop (field_width k)) e ∙ drop_at front rest (field_width k) (field_len k v front o f)

pub bad_none : (cs : List Column) (vs : List Value) (at place want got : ℕ) (bytes : List ℕ) → HasBadField cs at bytes place want got → AreOf cs vs → IsPayload cs vs (drop at bytes) → ⊥
bad_none [] vs at place want got bytes h a p = h
bad_none (c ∷ cs) [] at place want got bytes h a p = a
bad_none (c ∷ cs) (v ∷ vs) at place want got bytes h a p =
    elim h [
      | inl b ↦ bad_field c.kind v at place want got bytes p.0 p.1 b a.0 p.2 p.4
      | inr b ↦ bad_none cs vs (at + field_width c.kind) place want got bytes b.1 a.1 (subst (λ (l : List ℕ). IsPayload cs vs l) (sym (behind c.kind v at bytes p.0 p.1 a.0 p.2 p.4)) p.3)
    ]
