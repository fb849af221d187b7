-- What the tokens of a line are.
use Rattle.std.specs.Prelude.{◌≡◌, ◌⊎◌, ℕ, ◌+◌, ◌≤◌, List, [], ◌∷◌, ◌++◌, length, map, take, drop, Option, MatchOption}
use Rattle.ctr_lex.specs.declared.token.Token.{Token}
use Rattle.ctr_model.specs.Grammar.{Lexes}
use Rattle.ctr_model.specs.Places.{IsBadAt, IsTokenAt}

-- the tokens' bytes, in order
abbrev pub texts_of : List Token → List (List ℕ)
texts_of tokens = map (λ t. t.text.now) tokens

-- Each token's bytes stand in the line at its place, none of them before from, and none before the
-- end of the token before it.
abbrev pub StandFrom : ℕ → List ℕ → List Token → Type 0
StandFrom from line [] = Unit {0}
StandFrom from line (t ∷ ts) =
    (from ≤ t.at) × (t.at + length t.text.now ≤ length line)
    × (t.text.now ≡ take (length t.text.now) (drop t.at line))
    × StandFrom (t.at + length t.text.now) line ts

-- each token stands at its place, behind those before it
abbrev pub AreAt : List ℕ → List Token → Type 0
AreAt line tokens =
    (front after : List Token) (t : Token) → tokens ≡ front ++ t ∷ after
    → IsTokenAt line (texts_of front) t.text.now t.at

-- two places behind these tokens are one, or one of the two tokens there stands before the other
abbrev pub TokensStandInOrder : List (List ℕ) → List ℕ → ℕ → List (List ℕ) → List ℕ → ℕ → Type 0
TokensStandInOrder ts t i us u j =
    (i ≡ j) ⊎ (((more : List (List ℕ)) × (us ≡ ts ++ t ∷ more))
    ⊎ ((more : List (List ℕ)) × (ts ≡ us ++ u ∷ more)))

-- the line is taken apart: it is these tokens, or they stand before its first byte at which none
-- begins; and each stands at its place
abbrev pub IsTakenApart : List ℕ → Type 0
IsTakenApart line =
    (tokens : List Token) × (bad : Option ℕ)
    × MatchOption bad (Lexes line (texts_of tokens)) (λ i. IsBadAt line (texts_of tokens) i)
    × AreAt line tokens
