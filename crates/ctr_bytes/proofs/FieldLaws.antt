-- What was put is got, and what was got, put back, gives the same bytes.
use Rattle.std.proofs.Common.{◌≡◌, ℕ, zero, suc, ◌+◌, ◌-◌, ◌*◌, ◌/◌, ◌%◌, ◌^◌, ◌<◌, ◌≤◌, List, [], ◌∷◌, ◌++◌, length, take, drop, set, slice_index, refl, sym, ◌∙◌, ap, arith, append_assoc, length-append, length-drop, take-append-drop}
use Rattle.std.proofs.Math.Nat.{div-div-eq-div-mul, div-one, pow-suc}
use Rattle.std.proofs.lemmas.List.{append-nil, drop-drop, drop_all, drop_at, get_or-drop, length-take-le, set_split, take_all, take_at}
use Rattle.std.specs.Int.{byte_at, bytes_low_first}
use Rattle.byteorder.specs.Endian.{little_number, little_from, little_bytes}
use Rattle.byteorder.specs.Numbers.{little_from-cons, little_number-reads_back, little_from-append, length-bytes_low_first, little_from-lt}
use Rattle.ctr_bytes.specs.Fields.{spelled, field, with_field}

-- each byte is below 256
abbrev pub AreBytes : List ℕ → Type 0
AreBytes bytes = (k : ℕ) → slice_index bytes k < 256

byte_at-pow : (k x : ℕ) → byte_at k x ≡ x / 256 ^ k % 256
byte_at-pow zero x = ap (λ (y : ℕ). y % 256) (sym (div-one x))
byte_at-pow (suc k) x = refl

-- the bytes from the second on are those of what is left
higher : (i n x : ℕ) → bytes_low_first (suc i) n x ≡ bytes_low_first i n (x / 256)
higher i zero x = refl
higher i (suc n) x =
    let shift : x / 256 ^ suc i ≡ x / 256 / 256 ^ i = ap (λ (p : ℕ). x / p) (pow-suc 256 i ∙ mul_comm-of (256 ^ i)) ∙ sym (div-div-eq-div-mul x 256 (256 ^ i)) in
    let byte : byte_at (suc i) x ≡ byte_at i (x / 256) = ap (λ (y : ℕ). y % 256) shift ∙ sym (byte_at-pow i (x / 256)) in
    ap (λ (b : ℕ). b ∷ bytes_low_first (suc (suc i)) n x) byte ∙ ap (λ (l : List ℕ). byte_at i (x / 256) ∷ l) (higher (suc i) n x)
  where
    mul_comm-of : (a : ℕ) → a * 256 ≡ 256 * a
    mul_comm-of a = omega arith

-- the bytes of the number that n bytes make are these bytes
bytes_of_number : (n : ℕ) (xs : List ℕ) → n ≤ length xs → AreBytes xs → bytes_low_first 0 n (little_from 0 n xs) ≡ take n xs
bytes_of_number zero xs fits below = refl
bytes_of_number (suc n) [] fits below = absurd (omega arith)
bytes_of_number (suc n) (x ∷ xs) fits below =
    let small : x < 256 = below 0 in
    let rest = bytes_of_number n xs (omega arith) (λ k. below (suc k)) in
    let moved = little_from-cons 0 n x xs in
    let low : (x + 256 * little_from 1 n (x ∷ xs)) % 256 ≡ x = omega arith in
    let high : (x + 256 * little_from 1 n (x ∷ xs)) / 256 ≡ little_from 0 n xs = omega (arith, moved) in
    ap (λ (b : ℕ). b ∷ bytes_low_first 1 n (x + 256 * little_from 1 n (x ∷ xs))) low
    ∙ ap (λ (l : List ℕ). x ∷ l) (higher 0 n (x + 256 * little_from 1 n (x ∷ xs)) ∙ ap (bytes_low_first 0 n) high ∙ rest)

pub length-spelled : (n x : ℕ) → length (spelled n x) ≡ n
unfolding spelled
length-spelled n x = length-bytes_low_first 0 n x

-- what is spelled at a place is the field there
pub field_at : (n x at : ℕ) (front rest : List ℕ) → length front ≡ at → x < 256 ^ n → field n at (front ++ spelled n x ++ rest) ≡ x
unfolding spelled field
field_at n x at front rest is fits =
    ap (little_number n) (ap (drop at) (append_assoc front (little_bytes n x) rest) ∙ drop_at front (little_bytes n x ++ rest) at is) ∙ little_number-reads_back n x rest fits

-- a field is of the bytes in it alone
pub field-append : (n at : ℕ) (xs ys : List ℕ) → at + n ≤ length xs → field n at (xs ++ ys) ≡ field n at xs
unfolding field
field-append n at xs ys fits =
    ap (little_number n) (drop_front at xs ys (omega arith)) ∙ little_from-append n (drop at xs) ys (omega (arith, length-drop at xs))
  where
    drop_front : (k : ℕ) (us vs : List ℕ) → k ≤ length us → drop k (us ++ vs) ≡ drop k us ++ vs
    drop_front zero us vs le = refl
    drop_front (suc k) [] vs le = absurd (omega arith)
    drop_front (suc k) (u ∷ us) vs le = drop_front k us vs (omega arith)

-- a field of a part
pub field-drop : (n at from : ℕ) (xs : List ℕ) → field n at (drop from xs) ≡ field n (from + at) xs
unfolding field
field-drop n at from xs = ap (little_number n) (drop-drop at from xs)

pub field_fits : (n at : ℕ) (xs : List ℕ) → AreBytes xs → field n at xs < 256 ^ n
unfolding field
field_fits n at xs below = little_from-lt 0 n (drop at xs) (λ k. rw (get_or-drop at xs k 0) (below (at + k)))

-- the bytes of a field are its number's
pub spelled_field : (n at : ℕ) (bytes : List ℕ) → at + n ≤ length bytes → AreBytes bytes → spelled n (field n at bytes) ≡ take n (drop at bytes)
unfolding spelled field
spelled_field n at bytes fits below =
    bytes_of_number n (drop at bytes) (omega (arith, length-drop at bytes)) (λ k. rw (get_or-drop at bytes k 0) (below (at + k)))

-- what was got, put back, gives the same bytes
pub put_back : (n at : ℕ) (bytes : List ℕ) → at + n ≤ length bytes → AreBytes bytes → with_field n at (field n at bytes) bytes ≡ bytes
put_back n at bytes fits below =
    let same = spelled_field n at bytes fits below in
    ap (λ (l : List ℕ). take at bytes ++ l ++ drop (at + n) bytes) same
    ∙ append_assoc (take at bytes) (take n (drop at bytes)) (drop (at + n) bytes)
    ∙ ap (λ (l : List ℕ). take at bytes ++ (take n (drop at bytes) ++ l)) (sym (drop-drop n at bytes))
    ∙ ap (λ (l : List ℕ). take at bytes ++ l) (take-append-drop n (drop at bytes))
    ∙ take-append-drop at bytes

-- what was put is got
pub put_got : (n at x : ℕ) (bytes : List ℕ) → at + n ≤ length bytes → x < 256 ^ n → field n at (with_field n at x bytes) ≡ x
put_got n at x bytes fits below = field_at n x at (take at bytes) (drop (at + n) bytes) (length-take-le at bytes (omega arith)) below

-- a write behind a place, as the slice from there on
pub put_behind : (n at x : ℕ) (bytes new : List ℕ) → at + n ≤ length bytes → new ≡ spelled n x ++ drop n (drop at bytes) → take at bytes ++ (new ++ drop (length bytes - at) (drop at bytes)) ≡ with_field n at x bytes
put_behind n at x bytes new fits is =
    let none : drop (length bytes - at) (drop at bytes) ≡ [] = drop_all (length bytes - at) (drop at bytes) (omega (arith, length-drop at bytes)) in
    ap (λ (l : List ℕ). take at bytes ++ (new ++ l)) none ∙ ap (λ (l : List ℕ). take at bytes ++ l) (append-nil new)
    ∙ ap (λ (l : List ℕ). take at bytes ++ l) (is ∙ ap (λ (l : List ℕ). spelled n x ++ l) (drop-drop n at bytes))
    ∙ sym (append_assoc (take at bytes) (spelled n x) (drop (at + n) bytes))

pub length-with_field : (n at x : ℕ) (bytes : List ℕ) → at + n ≤ length bytes → length (with_field n at x bytes) ≡ length bytes
length-with_field n at x bytes fits =
    omega (arith, length-append (take at bytes ++ spelled n x) (drop (at + n) bytes), length-append (take at bytes) (spelled n x), length-take-le at bytes (omega arith), length-spelled n x, length-drop (at + n) bytes)

-- the rest of the slice from a place on
behind : (at : ℕ) (bytes : List ℕ) → take (length bytes - at) (drop at bytes) ≡ drop at bytes
behind at bytes = take_all (length bytes - at) (drop at bytes) (omega (arith, length-drop at bytes))

-- what is read from there is the field
pub got_behind : (n at : ℕ) (bytes : List ℕ) → little_number n (take (length bytes - at) (drop at bytes)) ≡ field n at bytes
unfolding field
got_behind n at bytes = ap (little_number n) (behind at bytes)

-- what is written there is the field
pub put_in : (n at x : ℕ) (bytes new : List ℕ) → at + n ≤ length bytes → new ≡ little_bytes n x ++ drop n (take (length bytes - at) (drop at bytes))
    → take at bytes ++ (new ++ drop (length bytes - at) (drop at bytes)) ≡ with_field n at x bytes
unfolding spelled
put_in n at x bytes new fits is = put_behind n at x bytes new fits (is ∙ ap (λ (l : List ℕ). little_bytes n x ++ drop n l) (behind at bytes))

-- one byte
pub got_byte : (at : ℕ) (bytes : List ℕ) → slice_index bytes at ≡ field 1 at bytes
unfolding field
got_byte at bytes = let byte : slice_index (drop at bytes) 0 ≡ slice_index bytes at = get_or-drop at bytes 0 0 ∙ ap (slice_index bytes) (omega arith) in omega (arith, byte)

pub put_byte : (at x : ℕ) (bytes : List ℕ) → at + 1 ≤ length bytes → x < 256 → set bytes at x ≡ with_field 1 at x bytes
unfolding spelled
put_byte at x bytes fits small =
    let low : x % 256 ≡ x = omega arith in
    set_split bytes at x (omega arith)
    ∙ ap (λ (k : ℕ). take at bytes ++ x ∷ drop k bytes) (let e : suc at ≡ at + 1 = omega arith in e)
    ∙ ap (λ (b : ℕ). take at bytes ++ b ∷ drop (at + 1) bytes) (sym low)
    ∙ sym (append_assoc (take at bytes) (x % 256 ∷ []) (drop (at + 1) bytes))

-- one field more behind those that were put
pub put_next : (n x at : ℕ) (front zeros bytes : List ℕ) → at ≡ length front → bytes ≡ front ++ drop at zeros → with_field n at x bytes ≡ (front ++ spelled n x) ++ drop (at + n) zeros
put_next n x at front zeros bytes is filled =
    let before : take at bytes ≡ front = ap (λ (l : List ℕ). take at l) filled ∙ take_at front (drop at zeros) at (sym is) in
    let after : drop (at + n) bytes ≡ drop (at + n) zeros =
    sym (drop-drop n at bytes) ∙ ap (λ (l : List ℕ). drop n l) (ap (λ (l : List ℕ). drop at l) filled ∙ drop_at front (drop at zeros) at (sym is)) ∙ drop-drop n at zeros in
    ap (λ (l : List ℕ). l ++ spelled n x ++ drop (at + n) bytes) before ∙ ap (λ (l : List ℕ). front ++ spelled n x ++ l) after

-- two parts that stand side by side
take_side : (m n : ℕ) (xs : List ℕ) → take m xs ++ take n (drop m xs) ≡ take (m + n) xs
take_side zero n xs = ap (λ (k : ℕ). take k xs) (let e : n ≡ 0 + n = omega arith in e)
take_side (suc m) n [] = nothing n
  where
    nothing : (n : ℕ) → take n (drop {A = ℕ} (suc m) []) ≡ take {A = ℕ} (suc m + n) []
    nothing n = none n ∙ sym (none (suc m + n))
      where
        none : (k : ℕ) → take {A = ℕ} k [] ≡ []
        none zero = refl
        none (suc k) = refl
take_side (suc m) n (x ∷ xs) =
    ap (λ (l : List ℕ). x ∷ l) (take_side m n xs) ∙ ap (λ (k : ℕ). take k (x ∷ xs)) (let e : suc (m + n) ≡ suc m + n = omega arith in e)

pub side : (at m n : ℕ) (xs : List ℕ) → take m (drop at xs) ++ take n (drop (at + m) xs) ≡ take (m + n) (drop at xs)
side at m n xs = ap (λ (l : List ℕ). take m (drop at xs) ++ take n l) (sym (drop-drop m at xs)) ∙ take_side m n (drop at xs)
