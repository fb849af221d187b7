-- A section of a file, byte by byte.
use Rattle.std.proofs.Common.{◌≡◌, ℕ, zero, suc, ◌+◌, ◌≤◌, List, [], ◌∷◌, ◌++◌, length, take, drop, get_or, refl, sym, ◌∙◌, ap, arith}
use Rattle.std.proofs.lemmas.List.{drop_more}
use Rattle.ctr_disk.specs.Image.{section}

pub section-push : (at n : ℕ) (bytes : List ℕ) → section at (n + 1) bytes ≡ section at n bytes ++ get_or bytes (at + n) 0 ∷ []
section-push at zero bytes = let e : at + 0 ≡ at = omega arith in ap (λ (k : ℕ). get_or bytes k 0 ∷ []) (sym e)
section-push at (suc n) bytes =
    let e : suc n + 1 ≡ suc (n + 1) = omega arith in
    let f : (at + 1) + n ≡ at + suc n = omega arith in
    ap (λ (k : ℕ). section at k bytes) e ∙ ap (λ (l : List ℕ). get_or bytes at 0 ∷ l) (section-push (at + 1) n bytes)
    ∙ ap (λ (k : ℕ). get_or bytes at 0 ∷ section (at + 1) n bytes ++ get_or bytes k 0 ∷ []) f

pub section-more : (at n : ℕ) (bytes so_far : List ℕ) (byte : ℕ) → so_far ≡ section at n bytes → byte ≡ get_or bytes (at + n) 0 → so_far ++ byte ∷ [] ≡ section at (n + 1) bytes
section-more at n bytes so_far byte is same = ap (λ (l : List ℕ). l ++ byte ∷ []) is ∙ ap (λ (k : ℕ). section at n bytes ++ k ∷ []) same ∙ sym (section-push at n bytes)

-- a read inside the file
pub section_within : (at n : ℕ) (bytes : List ℕ) → at + n ≤ length bytes → section at n bytes ≡ take n (drop at bytes)
section_within at zero bytes fits = refl
section_within at (suc n) bytes fits =
    let rest = section_within (at + 1) n bytes (omega arith) in
    ap (λ (l : List ℕ). get_or bytes at 0 ∷ l) rest ∙ sym (ap (λ (l : List ℕ). take (suc n) l) (drop_more bytes at 0 (omega arith)))
