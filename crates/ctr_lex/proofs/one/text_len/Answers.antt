-- What the loop finds to stand behind the text is what the longest text leaves.
use Rattle.std.proofs.Common.{◌≡◌, ◌≤◌, IfSome, None, false, length, arith, rules}
use Rattle.std.proofs.lemmas.Grind.{common_steps}
use Rattle.ctr_lex.proofs.Texts.{behind, text_rest}
use Rattle.ctr_lex.proofs.Ones.{text_answer}
use Rattle.ctr_lex.proofs.one.text_len.Goals as goal

pub returns-then-not-quote : goal.returns-then-not-quote
returns-then-not-quote c =
    let within : IfSome c.loop-i.end (λ n. n ≤ length c.args.bytes.now) = search rules in
    let found : text_rest false None c.args.bytes.now ≡ behind c.args.bytes.now c.loop-i.end = grind (arith, common_steps) in
    text_answer c.args.bytes.now c.loop-i.end within found

pub returns : goal.returns
returns c =
    let within : IfSome c.loop-i.end (λ n. n ≤ length c.args.bytes.now) = search rules in
    let found : text_rest false None c.args.bytes.now ≡ behind c.args.bytes.now c.loop-i.end = grind (arith, common_steps) in
    text_answer c.args.bytes.now c.loop-i.end within found
