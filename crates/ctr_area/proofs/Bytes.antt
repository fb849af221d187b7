-- Bytes that are put over those of a page: what stands where they are, before them and behind them.
use Rattle.std.proofs.Common.{◌≡◌, ⊎_elim, ℕ, zero, suc, ◌+◌, ◌-◌, ◌<◌, ◌≤◌, List, [], ◌∷◌, ◌++◌, append_assoc, length, take, drop, replicate, slice_index, refl, sym, ◌∙◌, ap, subst, take-append-drop, arith}
use Rattle.std.proofs.lemmas.Bool.{cases_lt}
use Rattle.std.proofs.lemmas.List.{get_or-take, get_or-drop, length-take-le, length-drop, length-append, take_at, drop_at, take-take, take-append-le, drop-append-le, drop-drop, drop-take}
use Rattle.ctr_meta.specs.ctr_bytes.Fields.{field}
use Rattle.ctr_page.proofs.bytes_FieldLaws.{field-append}
use Rattle.ctr_page.specs.Reading.{piece, put_over}

pub length-piece : (at n : ℕ) (bytes : List ℕ) → at + n ≤ length bytes → length (piece at n bytes) ≡ n
length-piece at n bytes fits = length-take-le n (drop at bytes) (subst (λ l. n ≤ l) (sym (length-drop at bytes)) (omega (arith, fits)))

pub piece_here : (at n : ℕ) (new bytes : List ℕ) → length new ≡ n → at ≤ length bytes → piece at n (put_over at new bytes) ≡ new
piece_here at n new bytes long fits = ap (take n) (drop_at (take at bytes) (new ++ drop (at + length new) bytes) at (length-take-le at bytes fits)) ∙ take_at new (drop (at + length new) bytes) n long

pub piece_before : (a n at : ℕ) (new bytes : List ℕ) → a + n ≤ at → at ≤ length bytes → piece a n (put_over at new bytes) ≡ piece a n bytes
piece_before a n at new bytes before fits =
    let rest = new ++ drop (at + length new) bytes in
    let whole : length (take at bytes) ≡ at = length-take-le at bytes fits in
    ap (take n) (drop-append-le a (take at bytes) rest (subst (λ l. a ≤ l) (sym whole) (omega (arith, before))))
    ∙ take-append-le n (drop a (take at bytes)) rest (subst (λ l. n ≤ l) (sym (length-drop a (take at bytes) ∙ ap (λ l. l - a) whole)) (omega (arith, before)))
    ∙ ap (λ m. take n (drop a (take m bytes))) split ∙ ap (take n) (drop-take a (at - a) bytes) ∙ take-take n (at - a) (drop a bytes) (omega (arith, before))
  where
    split : at ≡ a + (at - a)
    split = omega (arith, before)

pub piece_after : (a n at : ℕ) (new bytes : List ℕ) → at + length new ≤ a → at ≤ length bytes → piece a n (put_over at new bytes) ≡ piece a n bytes
piece_after a n at new bytes behind fits =
    let end = at + length new in
    ap (λ m. take n (drop m (put_over at new bytes))) split ∙ ap (take n) (sym (drop-drop (a - end) end (put_over at new bytes)))
    ∙ ap (λ bs. take n (drop (a - end) bs)) (ap (drop end) (sym (append_assoc (take at bytes) new (drop end bytes))) ∙ drop_at (take at bytes ++ new) (drop end bytes) end (length-append (take at bytes) new ∙ ap (λ l. l + length new) (length-take-le at bytes fits)))
    ∙ ap (take n) (drop-drop (a - end) end bytes) ∙ ap (λ m. take n (drop m bytes)) (sym split)
  where
    split : a ≡ at + length new + (a - (at + length new))
    split = omega (arith, behind)

-- a field before them
pub field_before : (k n at : ℕ) (new bytes : List ℕ) → k + n ≤ at → at ≤ length bytes → field n k (put_over at new bytes) ≡ field n k bytes
field_before k n at new bytes before fits =
    let whole : length (take at bytes) ≡ at = length-take-le at bytes fits in
    let inside : k + n ≤ length (take at bytes) = omega (arith, whole, before) in
    field-append n k (take at bytes) (new ++ drop (at + length new) bytes) inside
    ∙ sym (field-append n k (take at bytes) (drop at bytes) inside) ∙ ap (field n k) (take-append-drop at bytes)

-- ---- single bytes

pub zero_at : (n k : ℕ) → slice_index (replicate n 0) k ≡ 0
zero_at zero k = refl
zero_at (suc n) zero = refl
zero_at (suc n) (suc k) = zero_at n k

-- the first byte of a piece
pub byte_in_piece : (at n : ℕ) (bytes : List ℕ) → 0 < n → slice_index (piece at n bytes) 0 ≡ slice_index bytes at
byte_in_piece at n bytes some = get_or-take n (drop at bytes) 0 0 some ∙ get_or-drop at bytes 0 0 ∙ ap (slice_index bytes) (let e : at + 0 ≡ at = omega arith in e)

pub byte_here : (at byte : ℕ) (bytes : List ℕ) → at ≤ length bytes → slice_index (put_over at (byte ∷ []) bytes) at ≡ byte
byte_here at byte bytes fits =
    sym (byte_in_piece at 1 (put_over at (byte ∷ []) bytes) (omega arith)) ∙ ap (λ l. slice_index l 0) (piece_here at 1 (byte ∷ []) bytes refl fits)

-- a byte behind those that are put
pub byte_after : (k at : ℕ) (new bytes : List ℕ) → at + length new ≤ k → at ≤ length bytes → slice_index (put_over at new bytes) k ≡ slice_index bytes k
byte_after k at new bytes behind fits =
    sym (byte_in_piece k 1 (put_over at new bytes) (omega arith)) ∙ ap (λ l. slice_index l 0) (piece_after k 1 at new bytes behind fits) ∙ byte_in_piece k 1 bytes (omega arith)

pub byte_apart : (k at byte : ℕ) (bytes : List ℕ) → (k ≡ at → ⊥) → at ≤ length bytes → slice_index (put_over at (byte ∷ []) bytes) k ≡ slice_index bytes k
byte_apart k at byte bytes apart fits = ⊎_elim
    (λ lt. sym (byte_in_piece k 1 (put_over at (byte ∷ []) bytes) (omega arith)) ∙ ap (λ l. slice_index l 0) (piece_before k 1 at (byte ∷ []) bytes (omega (arith, lt)) fits) ∙ byte_in_piece k 1 bytes (omega arith))
    (λ le. byte_after k at (byte ∷ []) bytes (beyond le) fits)
    (cases_lt k at)
  where
    beyond : at ≤ k → at + 1 ≤ k
    beyond le = ⊎_elim (λ lt. omega (arith, lt)) (λ ge. absurd (apart (omega (arith, le, ge)))) (cases_lt at k)
