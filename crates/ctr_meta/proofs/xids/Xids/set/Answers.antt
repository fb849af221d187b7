use Rattle.std.proofs.Common.{◌≡◌, ℕ, None, List, ◌∙◌, ap, sym}
use Rattle.std.specs.HashMap.{HashMap}
use Rattle.ctr_meta.specs.XidList.{XidList}
use Rattle.ctr_meta.specs.Tables.{heads_at, with_heads}
use Rattle.ctr_meta.proofs.XidLaws.{set_absent}
use Rattle.ctr_meta.proofs.xids.Xids.set.Goals as goal

pub returns-clause-entries : goal.returns-clause-entries
returns-clause-entries c =
    let same : c.self.inside.heads.entries ≡ c.args.self.now.entries = ap (λ (a : XidList). a.entries) c.self.view_is in
    (c.get_mut.follows.holds c.args.heads).0 ∙ ap (λ (l : List (ℕ × ℕ)). with_heads c.args.x c.args.heads l) same

pub returns-in_default-clause-entries : goal.returns-in_default-clause-entries
returns-in_default-clause-entries c =
    let same : c.self.inside.heads.entries ≡ c.args.self.now.entries = ap (λ (a : XidList). a.entries) c.self.view_is in
    let none : heads_at c.args.x c.args.self.now.entries ≡ None = ap (heads_at c.args.x) (sym same) ∙ sym c.in_default.ensures.value in
    ap (λ (m : HashMap ℕ ℕ _). m.entries) c.get_mut.follows.holds-at-none ∙ same ∙ sym (set_absent c.args.x c.args.heads c.args.self.now.entries none)
