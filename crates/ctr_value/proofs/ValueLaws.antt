-- What a payload says is the row that it is of.
use Rattle.std.proofs.Common.{◌≡◌, ℕ, ℤ, List, [], ◌∷◌, ◌++◌, map, length, take, drop, refl, sym, ◌∙◌, ap, subst, append_assoc}
use Rattle.std.specs.Int.{w64, cast_unsigned, cast_signed}
use Rattle.std.proofs.Math.Facts.{Fits-of_z}
use Rattle.std.proofs.lemmas.Int.{to_z-of_z}
use Rattle.std.proofs.lemmas.List.{append-nil, take_at, drop_at}
use Rattle.ctr_print.specs.types_Column.{Column}
use Rattle.ctr_print.specs.types_Kind.{Kind}
use Rattle.ctr_print.specs.types_Kind.TheVariants as kind
use Rattle.ctr_print.specs.types_Row.{Row}
use Rattle.ctr_print.specs.types_Value.{Value}
use Rattle.ctr_print.specs.types_Value.TheVariants as value
use Rattle.ctr_bytes.specs.Fields.{field}
use Rattle.ctr_bytes.proofs.FieldLaws.{field_at, got_byte}
use Rattle.ctr_value.specs.Payload.{IsOf, AreOf, field_width, IsField, IsPayload, IsRowOf}
use Rattle.ctr_value.specs.Values.{value_said, values_of, values_in, row_by_kinds, row_values}
use Rattle.ctr_value.proofs.PayloadLaws.{field_len}

text_read : (text padding rest : List ℕ) → value_said (kind.Chars 0) (length text ∷ ((text ++ padding) ++ rest)) ≡ value.Chars text
text_read text padding rest =
    let l = length text ∷ ((text ++ padding) ++ rest) in
    let first : field 1 0 l ≡ length text = sym (got_byte 0 l) in
    ap (λ (n : ℕ). value.Chars (take n ((text ++ padding) ++ rest))) first
    ∙ ap (λ (m : List ℕ). value.Chars (take (length text) m)) (append_assoc text padding rest)
    ∙ ap value.Chars (take_at text (padding ++ rest) (length text) refl)

value_read : (k : Kind) (v : Value) (front rest : List ℕ) → IsOf k v → IsField k v front → value_said k (front ++ rest) ≡ v
value_read kind.Int (value.Int n) front rest o f =
    ap (λ (l : List ℕ). value.Int (cast_signed w64 (field 8 0 (l ++ rest)))) f
    ∙ ap (λ (x : ℕ). value.Int (cast_signed w64 x)) (field_at 8 (cast_unsigned w64 n) 0 [] rest refl ((Fits-of_z {w = w64} {z = n} o).fits))
    ∙ ap value.Int (to_z-of_z w64 n o)
value_read (kind.Chars most) (value.Chars text) front rest o f =
    ap (λ (l : List ℕ). value_said (kind.Chars most) (l ++ rest)) f.2 ∙ text_read text f.0 rest
value_read kind.Int (value.Chars text) front rest o f = absurd o
value_read (kind.Chars most) (value.Int n) front rest o f = absurd o

pub values_read : (cs : List Column) (vs : List Value) (bytes rest : List ℕ) → AreOf cs vs → IsPayload cs vs bytes → values_in cs (bytes ++ rest) ≡ vs
values_read [] [] bytes rest a p = refl
values_read [] (v ∷ vs) bytes rest a p = absurd a
values_read (c ∷ cs) [] bytes rest a p = absurd a
values_read (c ∷ cs) (v ∷ vs) bytes rest a p =
    let all : bytes ++ rest ≡ p.0 ++ (p.1 ++ rest) = ap (λ (l : List ℕ). l ++ rest) p.4 ∙ append_assoc p.0 p.1 rest in
    let first : value_said c.kind (bytes ++ rest) ≡ v = ap (value_said c.kind) all ∙ value_read c.kind v p.0 (p.1 ++ rest) a.0 p.2 in
    let tail : drop (field_width c.kind) (bytes ++ rest) ≡ p.1 ++ rest = ap (drop (field_width c.kind)) all ∙ drop_at p.0 (p.1 ++ rest) (field_width c.kind) (field_len c.kind v p.0 a.0 p.2) in
    let others : values_in cs (drop (field_width c.kind) (bytes ++ rest)) ≡ vs = ap (values_in cs) tail ∙ values_read cs vs p.1 rest a.1 p.3 in
    ap (λ (x : Value). x ∷ values_in cs (drop (field_width c.kind) (bytes ++ rest))) first ∙ ap (λ (xs : List Value). v ∷ xs) others

-- the row of a payload is what it says
pub row_said : (cs : List Column) (key : ℤ) (bytes : List ℕ) (vs : List Value) → IsRowOf cs key bytes vs → vs ≡ row_values cs key bytes
row_said [] key bytes vs h = absurd h.0.0
row_said (c ∷ cs) key bytes [] h = absurd h.0.1
row_said (c ∷ cs) key bytes (value.Chars t ∷ vs) h = absurd (subst (λ (x : Kind). IsOf x (value.Chars t)) h.0.0 h.0.1.0)
row_said (c ∷ cs) key bytes (value.Int n ∷ vs) h =
    let rest : values_in cs bytes ≡ vs = ap (values_in cs) (sym (append-nil bytes)) ∙ values_read cs vs bytes [] h.0.1.1 h.2 in
    ap (λ (x : ℤ). value.Int x ∷ vs) h.1 ∙ ap (λ (xs : List Value). value.Int key ∷ xs) (sym rest)

-- the row by the kinds of the columns behind the key is what the payload says
pub by_kinds : (cs behind : List Column) (ks : List Kind) (key given : ℤ) (bytes : List ℕ) (row : Row) → behind ≡ drop 1 cs → ks ≡ map (λ (c : Column). c.kind) behind → given ≡ key
    → row ≡ row_by_kinds ks given bytes → row.values ≡ row_values cs key bytes
by_kinds cs behind ks key given bytes row columns kinds same is =
    ap (λ (r : Row). r.values) is ∙ ap (λ (l : List Kind). value.Int given ∷ values_of l bytes) (kinds ∙ ap (map (λ (c : Column). c.kind)) columns) ∙ ap (λ (z : ℤ). value.Int z ∷ values_in (drop 1 cs) bytes) same
