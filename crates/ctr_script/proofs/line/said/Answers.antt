use Rattle.std.proofs.Common.{◌≡◌, true, false, Err, refl, subst}
use Rattle.ctr_model.specs.Language.{SpellsLine}
use Rattle.ctr_model.specs.Lines.{in_line}
use Rattle.ctr_parse.specs.declared.refusal.ParseRefusal.{ParseRefusal}
use Rattle.ctr_parse.specs.Answers.{IsParsed}
use Rattle.ctr_script.proofs.LineLemmas.{wrong_comment}
use Rattle.ctr_script.proofs.line.said.Goals as goal

never : false ≡ true → ⊥
never e = cc

pub returns-in-Some : goal.returns-in-Some
returns-in-Some c =
    let found = c.in-Some.ensures in
    (refl, wrong_comment c.args.line.now c.in-Some.i (c.if-is_comment.ensures.0 refl) found.0 found.1 found.2)

pub returns-in-Err-ParseError : goal.returns-in-Err-ParseError
returns-in-Err-ParseError c =
    let goes = subst (λ (e : ParseRefusal). IsParsed SpellsLine c.args.line.now (Err e)) c.in-Err-ParseError.field-0-is c.in-Err-ParseError.ensures.parsed in
    (refl, in_line (λ blank. never (c.if-is_skipped.ensures.1 blank)) (λ comment. never (c.if-is_comment.ensures.1 comment)) goes)
