-- Each kind of token by its first byte.
use Rattle.std.proofs.Common.{◌≡◌, ◌<◌, ◌∷◌, ◌+◌, ℕ, subst, rules}
use Rattle.ctr_model.specs.Grammar.{IsLetter, IsDigit, IsSign}
use Rattle.ctr_model.specs.Places.{NoneBegins}
use Rattle.ctr_lex.specs.One.{IsLongestToken}
use Rattle.ctr_lex.proofs.Ones.{word_one, numeral_one, minus_one, minus_none, sign_one, nothing_begins}
use Rattle.ctr_lex.proofs.one.len_from.Goals as goal

pub returns-then-is_letter : goal.returns-then-is_letter
returns-then-is_letter c =
    let letter : IsLetter c.args.first = search rules in
    word_one _ _ _ letter c.word_len.ensures.within c.word_len.ensures.all c.word_len.ensures.stops

pub returns-then-is_digit : goal.returns-then-is_digit
returns-then-is_digit c =
    let digit : IsDigit c.args.first = search rules in
    numeral_one _ _ _ digit c.digits_len.ensures.within c.digits_len.ensures.all c.digits_len.ensures.stops

pub returns-then-digits-eq0 : goal.returns-then-digits-eq0
returns-then-digits-eq0 c =
    let minus : c.args.first ≡ 45 = search rules in
    let none : c.digits_len-digits.result ≡ 0 = search rules in
    minus_none _ _ minus (rw none at c.digits_len-digits.ensures.stops)

pub returns-else-digits-eq0 : goal.returns-else-digits-eq0
returns-else-digits-eq0 c =
    let minus : c.args.first ≡ 45 = search rules in
    let some : 0 < c.digits_len-digits.result = search rules in
    minus_one _ _ _ minus some c.digits_len-digits.ensures.within c.digits_len-digits.ensures.all c.digits_len-digits.ensures.stops

pub returns-in_err-text_len : goal.returns-in_err-text_len
returns-in_err-text_len c =
    let quote : 39 ≡ c.args.first = search rules in
    let none : NoneBegins (c.args.first ∷ c.args.rest.now) = subst (λ (d : ℕ). NoneBegins (d ∷ c.args.rest.now)) quote c.in_err-text_len.ensures in
    search (rules, none)

pub returns-then-first-eq-QUOTE : goal.returns-then-first-eq-QUOTE
returns-then-first-eq-QUOTE c =
    let quote : 39 ≡ c.args.first = search rules in
    subst (λ (d : ℕ). IsLongestToken (d ∷ c.args.rest.now) (1 + c.in_ok-text_len.field-0)) quote c.in_ok-text_len.ensures

pub returns-then-is_sign : goal.returns-then-is_sign
returns-then-is_sign c =
    let sign : IsSign c.args.first = search rules in
    sign_one _ _ sign

pub returns-else-is_sign : goal.returns-else-is_sign
returns-else-is_sign c =
    nothing_begins _ _ (λ h. search rules) (λ h. search rules) (λ h. search rules) (λ h. search rules) (λ h. search rules)
