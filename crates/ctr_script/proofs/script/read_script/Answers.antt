use Rattle.std.proofs.Common.{◌∙◌, ap, arith, length, sym, subst}
use Rattle.ctr_model.specs.Language.{SpellsLine}
use Rattle.ctr_model.specs.Lines.{IsWritten, IsRefusedIn}
use Rattle.ctr_script.proofs.OneScript.{script_decided, refusal_decided, few_sessions}
use Rattle.ctr_script.proofs.script.read_script.Goals as goal

pub returns-clause-only : goal.returns-clause-only
returns-clause-only g c told =
    let bytes = c.as_slice.result.now in
    let same = c.as_slice.ensures.value ∙ c.in_ok-bytes.ensures.read told in
    let s = c.script_of in
    let laws = c.one_script.ensures in
    record {
      script = λ ls h. script_decided bytes s.result ls s.ensures.read s.ensures.refused (laws.said bytes) (laws.never_both bytes) (subst (λ b. IsWritten SpellsLine b ls) (sym same) h.written);
      refused = λ line at h. refusal_decided bytes s.result line at s.ensures.read s.ensures.refused (laws.place bytes) (laws.never_both bytes) (subst (λ b. IsRefusedIn SpellsLine b line at) (sym same) h.refused);
      too_long = λ long. absurd (omega (arith, long, c.in_ok-bytes.ensures.short, ap length (c.in_ok-bytes.ensures.read told)));
    }

pub returns-clause-sessions : goal.returns-clause-sessions
returns-clause-sessions g c = few_sessions c.as_slice.result.now c.script_of.result c.script_of.ensures.read
