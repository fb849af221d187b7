-- The line is gone over, or a byte is found at which no token begins, or there are so many tokens.
use Rattle.std.proofs.Common.{◌≡◌, ℕ, ◌<◌, ◌≤◌, ◌-◌, List, [], ◌∷◌, ◌++◌, length, length-append, rules, arith, refl, ap}
use Rattle.ctr_model.specs.Places.{NoneBegins, IsBadAt}
use Rattle.ctr_lex.specs.declared.token.Token.{Token}
use Rattle.ctr_lex.specs.Tokens.{texts_of}
use Rattle.ctr_lex.proofs.Lexing.{lexes_one}
use Rattle.ctr_lex.proofs.Fronts.{IsFront, front_blanks, front_token, front_end, front_places, front_bad, behind_blanks, bad_none, bad_one}
use Rattle.ctr_lex.proofs.Standing.{first_lexed, first_before_bad, first_all}
use Rattle.ctr_lex.proofs.lex.tokens.Goals as goal
use Rattle.ctr_lex.proofs.lex.tokens.Goals.{After-split_at}

front : (c : After-split_at) → IsFront c.args.line.now c.loop-rest.items c.split_at.result.1.now
front c = front_blanks _ _ _ _ _ c.loop-rest.invariant.0 c.blanks_len.ensures.within c.blanks_len.ensures.all c.split_at.ensures.back

bad_at : (c : After-split_at) → 0 < length c.split_at.result.1.now → NoneBegins c.split_at.result.1.now → IsBadAt c.args.line.now (texts_of c.loop-rest.items) (length c.args.line.now - length c.split_at.result.1.now)
bad_at c some none = front_bad _ _ _ (front c) some (behind_blanks _ _ _ c.blanks_len.ensures.within c.split_at.ensures.back c.blanks_len.ensures.stops some) none

-- at the end of the line
pub returns-then-is_empty-clause-found : goal.returns-then-is_empty-clause-found
returns-then-is_empty-clause-found c = λ few.
    let none : length c.split_at.result.1.now ≡ 0 = search rules in
    front_end _ _ _ (front (goal.at.returns-then-is_empty-clause-found c).After-split_at) none

pub returns-then-is_empty-clause-only : goal.returns-then-is_empty-clause-only
returns-then-is_empty-clause-only c = λ us lexes.
    let none : length c.split_at.result.1.now ≡ 0 = search rules in
    let few : length c.loop-rest.items < c.args.most = search rules in
    (refl, first_all _ _ us few (lexes_one _ _ _ (front_end _ _ _ (front (goal.at.returns-then-is_empty-clause-only c).After-split_at) none) lexes))

pub returns-then-is_empty-clause-places : goal.returns-then-is_empty-clause-places
returns-then-is_empty-clause-places c = front_places _ _ _ c.loop-rest.invariant.0

pub returns-then-is_empty-clause-only_bad : goal.returns-then-is_empty-clause-only_bad
returns-then-is_empty-clause-only_bad c = λ us i bad.
    let none : length c.split_at.result.1.now ≡ 0 = search rules in
    absurd (bad_none _ us _ i bad (front_end _ _ _ (front (goal.at.returns-then-is_empty-clause-only_bad c).After-split_at) none))

-- where no token begins
pub returns-in_default-clause-found : goal.returns-in_default-clause-found
returns-in_default-clause-found c = λ few.
    let some : 0 < length c.split_at.result.1.now = search rules in
    bad_at (goal.at.returns-in_default-clause-found c).After-split_at some c.in_default.ensures

pub returns-in_default-clause-only : goal.returns-in_default-clause-only
returns-in_default-clause-only c = λ us lexes.
    let some : 0 < length c.split_at.result.1.now = search rules in
    absurd (bad_none _ _ us _ (bad_at (goal.at.returns-in_default-clause-only c).After-split_at some c.in_default.ensures) lexes)

pub returns-in_default-clause-only_bad : goal.returns-in_default-clause-only_bad
returns-in_default-clause-only_bad c = λ us i bad.
    let some : 0 < length c.split_at.result.1.now = search rules in
    let few : length c.loop-rest.items < c.args.most = search rules in
    first_all _ _ us few (bad_one _ _ us _ i (bad_at (goal.at.returns-in_default-clause-only_bad c).After-split_at some c.in_default.ensures) bad).1

pub returns-in_default-clause-places : goal.returns-in_default-clause-places
returns-in_default-clause-places c = front_places _ _ _ c.loop-rest.invariant.0

grown : (ts new : List Token) (t : Token) (n : ℕ) → new ≡ ts ++ t ∷ [] → length ts < n → length new ≤ n
grown ts new t n e less = omega (arith, ap length e, length-append ts (t ∷ []))

-- a token is pushed
pub loop-rest-preserved : goal.loop-rest-preserved
loop-rest-preserved c =
    let parts = c.split_at-in-loop-rest.ensures in
    let less : length c.loop-rest.items < c.args.most = search rules in (
      rw c.in_ok-push.ensures.ok
          (front_token _ _ _ _ _ c.in-Some.len (front (goal.at.loop-rest-preserved c).After-split_at) c.in-Some.ensures parts.front refl parts.back),
      grown _ _ _ _ c.in_ok-push.ensures.ok less,
    )

-- so many
pub returns-clause-only : goal.returns-clause-only
returns-clause-only c = λ us lexes.
    let all : length c.loop-rest.items ≡ c.args.most = omega (arith, c.loop-rest.invariant.1) in
    (refl, first_lexed _ _ _ us _ c.loop-rest.invariant.0 all lexes)

pub returns-clause-only_bad : goal.returns-clause-only_bad
returns-clause-only_bad c = λ us i bad.
    let all : length c.loop-rest.items ≡ c.args.most = omega (arith, c.loop-rest.invariant.1) in
    first_before_bad _ _ _ us i _ c.loop-rest.invariant.0 all bad

pub returns-clause-places : goal.returns-clause-places
returns-clause-places c = front_places _ _ _ c.loop-rest.invariant.0
