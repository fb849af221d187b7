use Rattle.std.proofs.Common.{List, Err, sym, ap, ◌∙◌, subst, arith, rules}
use Rattle.ctr_types.specs.declared.statement.Line.{Line}
use Rattle.ctr_lex.specs.declared.token.Token.{Token}
use Rattle.ctr_lex.specs.Tokens.{texts_of, AreAt}
use Rattle.ctr_model.specs.Language.{SpellsLine}
use Rattle.ctr_parse.specs.declared.refusal.ParseRefusal.{ParseRefusal}
use Rattle.ctr_parse.specs.Trees.{Follows, outcome, read, whole_line}
use Rattle.ctr_parse.specs.Answers.{IsParsed}
use Rattle.ctr_parse.proofs.PlaceLemmas.{line_decides, line_says, stopped, near, few_read, read_goes, bad_stands, none_stands}
use Rattle.ctr_parse.proofs.parse.line_of.Goals as goal

pub refusal_of-requires-clause-stopped : goal.refusal_of-requires-clause-stopped
refusal_of-requires-clause-stopped c =
    near whole_line SpellsLine line_decides c.args.bytes.now c.as_slice.result.now (subst (AreAt c.args.bytes.now) (sym c.as_slice.ensures) c.in-Ok.ensures.at) (search rules)
    (λ (l : Line). read l) c.in-Err.stop c.in-Err.ensures

pub returns-in-Err : goal.returns-in-Err
returns-in-Err c =
    let goes = stopped whole_line SpellsLine line_decides c.args.bytes.now c.in-Ok.tokens.items c.in-Ok.tokens.bad c.in-Ok.ensures.at (λ few. c.in-Ok.ensures.found (omega (arith, few)))
    (λ (l : Line). read l) c.in-Err.stop (subst (λ (ts : List Token). Follows (λ (l : Line). read l) (Err c.in-Err.stop) (outcome whole_line ts)) c.as_slice.ensures c.in-Err.ensures) in
    subst (λ (e : ParseRefusal). IsParsed SpellsLine c.args.bytes.now (Err e)) (sym c.refusal_of.ensures) goes

pub returns-in-Some : goal.returns-in-Some
returns-in-Some c =
    let reads = ap (outcome whole_line) (sym c.as_slice.ensures) ∙ c.in-Ok-line.ensures in
    let few = few_read whole_line SpellsLine line_decides c.in-Ok.tokens.items c.in-Ok-line.line reads in
    let goes = read_goes whole_line SpellsLine line_decides c.args.bytes.now c.in-Ok.tokens.items c.in-Some.at c.in-Ok-line.line
    (bad_stands c.args.bytes.now (texts_of c.in-Ok.tokens.items) c.in-Ok.tokens.bad c.in-Some.at c.in-Some.is (c.in-Ok.ensures.found (omega (arith, few)))) reads in
    goes

pub returns : goal.returns
returns c =
    let reads = ap (outcome whole_line) (sym c.as_slice.ensures) ∙ c.in-Ok-line.ensures in
    let few = few_read whole_line SpellsLine line_decides c.in-Ok.tokens.items c.in-Ok-line.line reads in
    let says = line_says c.args.bytes.now c.in-Ok.tokens.items c.in-Ok-line.line
    (none_stands c.args.bytes.now (texts_of c.in-Ok.tokens.items) c.in-Ok.tokens.bad c.in_default-bad.is (c.in-Ok.ensures.found (omega (arith, few)))) reads in
    says
