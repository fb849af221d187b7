-- Lists that are tested, mapped or read.
use Rattle.std.proofs.Common.{◌≡◌, ◌≢◌, ℕ, Bool, List, [], ◌∷◌, ◌++◌, length, map, Option, Some, None, refl, ap, append_assoc}
use Rattle.std.specs.Prelude.{◌||◌}
use Rattle.std.specs.List.{list_any}
use Rattle.ctr_parse.specs.Spelled.{with_bytes}
use Rattle.ctr_parse.specs.Trees.{session_of}

pub list_any-map : {X Y : Type 0} (test : X → Bool) (f : Y → X) (ys : List Y) → list_any test (map f ys) ≡ list_any (λ y. test (f y)) ys
list_any-map test f [] = refl
list_any-map test f (y ∷ ys) = ap (λ b. test (f y) || b) (list_any-map test f ys)

pub with_bytes_push : (front : List ℕ) (c : ℕ) (o : Option (List ℕ)) → with_bytes (front ++ c ∷ []) o ≡ with_bytes front (with_bytes (c ∷ []) o)
with_bytes_push front c None = refl
with_bytes_push front c (Some text) = ap (λ l. Some l) (append_assoc front (c ∷ []) text)

-- a token of no byte, or of more than one, is no session's number
pub session_of_none : (t : List ℕ) → length t ≢ 1 → session_of t ≡ None
unfolding session_of
session_of_none [] other = refl
session_of_none (c ∷ []) other = absurd (other refl)
session_of_none (c ∷ d ∷ ds) other = refl
