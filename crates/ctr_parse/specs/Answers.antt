-- What the parser answers.
use Rattle.std.specs.Prelude.{◌≡◌, ◌⊎◌, ℕ, ◌+◌, List, Option, Some, None, Result, Ok, Err, MatchResult}
use Rattle.ctr_model.specs.Places.{Says, GoesWrongAt}
use Rattle.ctr_parse.specs.declared.stop.Stop.{Stop}
use Rattle.ctr_parse.specs.declared.stop.Stop.TheVariants as stop
use Rattle.ctr_parse.specs.declared.refusal.ParseRefusal.{ParseRefusal}
use Rattle.ctr_parse.specs.declared.refusal.ParseRefusal.TheVariants as refusal

-- what was parsed is what the bytes say, and a refusal has its cause: they go wrong at its place
abbrev pub IsParsed : {X : Type 0} → (List (List ℕ) → X → Type 0) → List ℕ
    → Result X ParseRefusal → Type 0
IsParsed Spells bytes (Ok x) = Says Spells bytes x
IsParsed Spells bytes (Err refusal.OutOfMemory) = Unit {0}
IsParsed Spells bytes (Err (refusal.ParseError at)) = GoesWrongAt Spells bytes at

-- The bytes decide the answer, unless memory runs out: what they say is parsed, and where they go
-- wrong they are refused there.
pub record IsDecidedBy {X : Type 0} (Spells : List (List ℕ) → X → Type 0) (bytes : List ℕ)
    (result : Result X ParseRefusal) : Type 0 where
  pub said : (x : X) → Says Spells bytes x
      → MatchResult result (λ y. y ≡ x) (λ e. e ≡ refusal.OutOfMemory)
  pub wrong : (at : ℕ) → GoesWrongAt Spells bytes at
      → MatchResult result (λ _. ⊥) (λ e. (e ≡ refusal.ParseError at) ⊎ (e ≡ refusal.OutOfMemory))

-- Texts read so: each says one thing, or goes wrong at one place, and never both.
pub record ReadsOne {X : Type 0} (Spells : List (List ℕ) → X → Type 0) : Type 0 where
  pub said : (text : List ℕ) (x y : X) → Says Spells text x → Says Spells text y → x ≡ y
  pub place : (text : List ℕ) (a b : ℕ) → GoesWrongAt Spells text a → GoesWrongAt Spells text b
      → a ≡ b
  pub never_both : (text : List ℕ) (x : X) (a : ℕ) → Says Spells text x
      → GoesWrongAt Spells text a → ⊥
  pub one_of_both : (text : List ℕ)
      → ((x : X) × Says Spells text x) ⊎ ((at : ℕ) × GoesWrongAt Spells text at)

-- the byte at which no token begins, or the end
abbrev pub end_of : Option ℕ → ℕ → ℕ
end_of None length = length
end_of (Some i) length = i

-- the refusal where reading stopped so
abbrev pub refusal_at : Stop → Option ℕ → ℕ → ParseRefusal
refusal_at stop.OutOfMemory bad length = refusal.OutOfMemory
refusal_at (stop.Wrong i) bad length = refusal.ParseError (i + 1)
refusal_at stop.Missing bad length = refusal.ParseError (end_of bad length + 1)
