-- A version whose payload is that of a row, or of a tombstone.
use Rattle.std.proofs.Common.{◌≡◌, ℕ, suc, ◌+◌, ◌-◌, ◌^◌, ◌<◌, ◌≤◌, ℤ, pos, List, [], ◌∷◌, ◌++◌, map, length, drop, replicate, refl, sym, ◌∙◌, ap, subst, arith}
use Rattle.std.specs.Prelude.{FitsSigned}
use Rattle.std.specs.Int.{w64}
use Rattle.std.proofs.lemmas.List.{replicate-append-replicate}
use Rattle.ctr_model.specs.Refusals.{key_of}
use Rattle.ctr_types.specs.declared.value.Kind.{Kind}
use Rattle.ctr_types.specs.declared.value.Kind.TheVariants as kind
use Rattle.ctr_types.specs.declared.value.Value.{Value}
use Rattle.ctr_types.specs.declared.value.Value.TheVariants as value
use Rattle.ctr_bytes.specs.Fields.{spelled}
use Rattle.ctr_value.specs.Payload.{IsOf, AreOf, IsKeyed, IsRow, IsRowOf, field_width, width, field_of, payload_of}
use Rattle.ctr_value.specs.Values.{row_values}
use Rattle.ctr_value.proofs.PayloadLaws.{payload_len, kinds_wide, row_written}
use Rattle.ctr_value.proofs.PayloadLoops.{behind_row}
use Rattle.ctr_value.proofs.ValueLaws.{row_said}
use Rattle.ctr_types.specs.declared.value.Column.{Column}
use Rattle.ctr_page.specs.declared.rows.Version.{Version}
use Rattle.ctr_page.specs.Columns.{kinds_of, kinds_width}
use Rattle.ctr_heap.specs.Ways.{IsHeadOf}

-- a row that is encoded
pub row_made : (columns : List Column) (vs : List Value) (v : Version) → IsRow columns vs → v.payload ≡ payload_of (drop 1 columns) (drop 1 vs) → v.xid < 256 ^ 8 → v.tombstone ≤ 1 → IsHeadOf columns (key_of vs) v
row_made columns vs v is same drawn dead =
    let row = row_written columns vs is in
    let holds = subst (λ ws. IsRowOf columns (key_of vs) (payload_of (drop 1 columns) (drop 1 vs)) ws) (row_said columns (key_of vs) (payload_of (drop 1 columns) (drop 1 vs)) vs row) row in
    let wide : length v.payload ≡ kinds_width (kinds_of columns) =
    ap (λ (l : List ℕ). length l) same ∙ payload_len (drop 1 columns) (drop 1 vs) (behind_row columns vs is) ∙ sym (kinds_wide (drop 1 columns)) in
    ((drawn, omega (arith, dead), wide), (dead, subst (λ l. IsRowOf columns (key_of vs) l (row_values columns (key_of vs) l)) (sym same) holds))

-- zeros say 0 and empty texts
zero_of : Kind → Value
zero_of kind.Int = value.Int (pos 0)
zero_of (kind.Chars most) = value.Chars []

zeros_of : List Column → List Value
zeros_of cs = map (λ (c : Column). zero_of c.kind) cs

is_zero : (k : Kind) → IsOf k (zero_of k)
unfolding zero_of
is_zero kind.Int = omega arith
is_zero (kind.Chars most) = omega arith

are_zeros : (cs : List Column) → AreOf cs (zeros_of cs)
unfolding zeros_of
are_zeros [] = tt
are_zeros (c ∷ cs) = (is_zero c.kind, are_zeros cs)

field_zeros : (k : Kind) → field_of k (zero_of k) ≡ replicate (field_width k) 0
unfolding zero_of spelled
field_zeros kind.Int = refl
field_zeros (kind.Chars most) = ap (λ (n : ℕ). 0 ∷ replicate n 0) (let z : most - 0 ≡ most = omega arith in z) ∙ ap (λ (n : ℕ). replicate n 0) (let z : suc most ≡ most + 1 = omega arith in z)

payload_zeros : (cs : List Column) → payload_of cs (zeros_of cs) ≡ replicate (width cs) 0
unfolding zeros_of
payload_zeros [] = refl
payload_zeros (c ∷ cs) = (λ i. field_zeros c.kind i ++ payload_zeros cs i) ∙ replicate-append-replicate (field_width c.kind) (width cs) 0

-- a tombstone is a version of a row of any key
pub zeros_made : (columns : List Column) (key : ℤ) (v : Version) → IsKeyed columns → FitsSigned w64 key → v.payload ≡ replicate (kinds_width (kinds_of columns)) 0 → v.xid < 256 ^ 8 → v.tombstone ≤ 1 → IsHeadOf columns key v
unfolding zeros_of
zeros_made [] key v keyed fits same drawn dead = absurd keyed
zeros_made (c ∷ cs) key v keyed fits same drawn dead =
    row_made (c ∷ cs) (value.Int key ∷ zeros_of cs) v (keyed, (subst (λ k. IsOf k (value.Int key)) (sym keyed) fits, are_zeros cs))
    (same ∙ ap (λ n. replicate n 0) (kinds_wide cs) ∙ sym (payload_zeros cs)) drawn dead
