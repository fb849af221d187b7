use Rattle.std.proofs.Common.{◌≡◌, true, ltb, ℕ, sym, ap, subst, ◌∙◌}
use Rattle.ctr_meta.specs.Effects.{one_head_more}
use Rattle.ctr_meta.specs.Needs.{head_there}
use Rattle.ctr_meta.proofs.NeedLaws.{head_of_own, head_of_other}
use Rattle.ctr_meta.proofs.meta.Meta.keeps_head.Goals as goal

pub returns-then-over-x : goal.returns-then-over-x
returns-then-over-x c =
    let t = c.args.self.now.tables in
    let x = c.args.x in
    subst (λ (k : ℕ). true ≡ head_there k (one_head_more x t)) (sym c.if-over-x.true) (sym (head_of_own x t c.requires (λ none. c.if-over-eq0.false (c.if-over-x.true ∙ none))))

pub returns : goal.returns
returns c =
    let t = c.args.self.now.tables in
    ap (λ (k : ℕ). ltb 0 k) c.heads.ensures ∙ sym (head_of_other c.args.x c.args.over t (λ same. c.if-over-x.false (sym same)) c.if-over-eq0.false)
