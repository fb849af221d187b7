-- Texts between quotes, read byte by byte.
use Rattle.std.proofs.Common.{◌≡◌, ℕ, ◌+◌, ◌<◌, ◌≤◌, Bool, true, false, List, [], ◌∷◌, ◌++◌, length, get_or, drop, None, refl, sym, ap, ◌∙◌, arith}
use Rattle.std.proofs.lemmas.Bool.Decides.{nat_tests}
use Rattle.std.proofs.lemmas.List.{at_drop_more}
use Rattle.std.specs.Prelude.{◌==◌}
use Rattle.ctr_parse.specs.Spelled.{is_between, with_bytes, unquoted}
use Rattle.ctr_parse.proofs.Lists.{with_bytes_push}

printable : (c : ℕ) → 32 ≤ c → c ≤ 126 → is_between 32 126 c ≡ true
printable c low high = grind (arith, nat_tests)

no_quote : (c : ℕ) → (c ≡ 39 → ⊥) → (c == 39) ≡ false
no_quote c other = grind (arith, nat_tests)

plain_once : (c : ℕ) (cs : List ℕ) → (c ≡ 39 → ⊥) → 32 ≤ c → c ≤ 126 → unquoted false (c ∷ cs) ≡ with_bytes (c ∷ []) (unquoted false cs)
plain_once c cs other low high = rw (no_quote c other, printable c low high) refl

-- a byte of the text is read
pub plain : (front new : List ℕ) (closed : Bool) (c : ℕ) → closed ≡ false → (c ≡ 39 → ⊥) → 32 ≤ c → c ≤ 126 → new ≡ front ++ c ∷ []
    → (cs : List ℕ) → with_bytes front (unquoted closed (c ∷ cs)) ≡ with_bytes new (unquoted false cs)
plain front new closed c inner other low high e cs = rw (inner, e, plain_once c cs other low high) (sym (with_bytes_push front c (unquoted false cs)))

-- the bytes are no text
pub fails_at : (bytes text : List ℕ) (closed : Bool) (i : ℕ) → i < length bytes → unquoted false bytes ≡ with_bytes text (unquoted closed (drop i bytes))
    → ((cs : List ℕ) → unquoted closed (get_or bytes i 0 ∷ cs) ≡ None) → None ≡ unquoted false bytes
fails_at bytes text closed i inside h none =
    sym (h ∙ ap (with_bytes text) (at_drop_more (unquoted closed) bytes i 0 inside ∙ none (drop (i + 1) bytes)))
