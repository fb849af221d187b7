use Rattle.std.proofs.Common.{List, Err, sym, ap, ◌∙◌, subst, arith, rules}
use Rattle.ctr_types.specs.declared.statement.Statement.{Statement}
use Rattle.ctr_types.specs.declared.statement.Line.{Line}
use Rattle.ctr_lex.specs.declared.token.Token.{Token}
use Rattle.ctr_lex.specs.Tokens.{texts_of, AreAt}
use Rattle.ctr_model.specs.Language.{SpellsStatement}
use Rattle.ctr_parse.specs.declared.refusal.ParseRefusal.{ParseRefusal}
use Rattle.ctr_parse.specs.Trees.{Follows, outcome, read, alone}
use Rattle.ctr_parse.specs.Answers.{IsParsed}
use Rattle.ctr_parse.proofs.PlaceLemmas.{alone_decides, read_says, stopped, near, few_read, read_goes, bad_stands, none_stands}
use Rattle.ctr_parse.proofs.parse.statement_of.Goals as goal

pub refusal_of-requires-clause-stopped : goal.refusal_of-requires-clause-stopped
refusal_of-requires-clause-stopped c =
    near alone SpellsStatement alone_decides c.args.bytes.now c.as_slice.result.now (subst (AreAt c.args.bytes.now) (sym c.as_slice.ensures) c.in-Ok.ensures.at) (search rules)
    (λ (s : Statement). read (record { session = 1; statement = s })) c.in-Err.stop c.in-Err.ensures

pub returns-in-Err : goal.returns-in-Err
returns-in-Err c =
    let goes = stopped alone SpellsStatement alone_decides c.args.bytes.now c.in-Ok.tokens.items c.in-Ok.tokens.bad c.in-Ok.ensures.at (λ few. c.in-Ok.ensures.found (omega (arith, few)))
    (λ (s : Statement). read (record { session = 1; statement = s })) c.in-Err.stop (subst (λ (ts : List Token). Follows (λ (s : Statement). read (record { session = 1; statement = s })) (Err c.in-Err.stop) (outcome alone ts)) c.as_slice.ensures c.in-Err.ensures) in
    subst (λ (e : ParseRefusal). IsParsed SpellsStatement c.args.bytes.now (Err e)) (sym c.refusal_of.ensures) goes

pub returns-in-Some : goal.returns-in-Some
returns-in-Some c =
    let one : Line = record { session = 1; statement = c.in-Ok-alone.statement } in
    let reads = ap (outcome alone) (sym c.as_slice.ensures) ∙ c.in-Ok-alone.ensures in
    let few = few_read alone SpellsStatement alone_decides c.in-Ok.tokens.items one reads in
    let goes = read_goes alone SpellsStatement alone_decides c.args.bytes.now c.in-Ok.tokens.items c.in-Some.at one
    (bad_stands c.args.bytes.now (texts_of c.in-Ok.tokens.items) c.in-Ok.tokens.bad c.in-Some.at c.in-Some.is (c.in-Ok.ensures.found (omega (arith, few)))) reads in
    goes

pub returns : goal.returns
returns c =
    let one : Line = record { session = 1; statement = c.in-Ok-alone.statement } in
    let reads = ap (outcome alone) (sym c.as_slice.ensures) ∙ c.in-Ok-alone.ensures in
    let few = few_read alone SpellsStatement alone_decides c.in-Ok.tokens.items one reads in
    let says = read_says c.args.bytes.now c.in-Ok.tokens.items c.in-Ok-alone.statement
    (none_stands c.args.bytes.now (texts_of c.in-Ok.tokens.items) c.in-Ok.tokens.bad c.in_default-bad.is (c.in-Ok.ensures.found (omega (arith, few)))) reads in
    says
