use Rattle.std.proofs.Common.{◌≡◌, ◌<◌, ◌≤◌, ℕ, List, length, get_or, cond, eqb, Some, None, sym, ap, subst, ◌∙◌}
use Rattle.std.specs.Prelude.{insert, is_ok}
use Rattle.ctr_pool.specs.Kept.{AgeList, AreByAge, age_of}
use Rattle.ctr_pool.proofs.AgeLaws.{age_insert, by_age_insert}
use Rattle.ctr_pool.proofs.ages.Ages.add.Goals as goal

pub invariant_of-self : goal.invariant_of-self
invariant_of-self c =
    let es = c.self.inside.entries.items in
    let gs = c.deref.result.now in
    let at = c.place-at.result in
    let to : es ≡ c.args.self.now.entries = ap (λ (v : AgeList). v.entries) c.self.view_is in
    let put : c.insert.new.self.items ≡ insert es at (c.args.page, c.args.since) = c.insert.ensures.items ∙ ap (λ r. cond (is_ok r) (insert es at (c.args.page, c.args.since)) es) c.unwrap.ensures in
    let none : age_of c.args.page es ≡ None = ap (age_of c.args.page) to ∙ c.requires.new in
    subst AreByAge (sym put)
    (by_age_insert es at c.args.page c.args.since c.self.invariant none (subst (λ (l : List (ℕ × ℕ)). at ≤ length l) c.deref.ensures.value c.place-at.ensures.within)
    (subst (λ (l : List (ℕ × ℕ)). (k : ℕ) (d : ℕ × ℕ) → k < at → (get_or l k d).1 ≤ c.args.since) c.deref.ensures.value c.place-at.ensures.below)
    (subst (λ (l : List (ℕ × ℕ)). (k : ℕ) (d : ℕ × ℕ) → at ≤ k → k < length l → c.args.since ≤ (get_or l k d).1) c.deref.ensures.value c.place-at.ensures.above))

pub returns-clause-ages : goal.returns-clause-ages
returns-clause-ages c q =
    let es = c.self.inside.entries.items in
    let at = c.place-at.result in
    let to : es ≡ c.args.self.now.entries = ap (λ (v : AgeList). v.entries) c.self.view_is in
    let put : c.insert.new.self.items ≡ insert es at (c.args.page, c.args.since) = c.insert.ensures.items ∙ ap (λ r. cond (is_ok r) (insert es at (c.args.page, c.args.since)) es) c.unwrap.ensures in
    let none : age_of c.args.page es ≡ None = ap (age_of c.args.page) to ∙ c.requires.new in
    ap (age_of q) put ∙ age_insert es at c.args.page c.args.since none (subst (λ (l : List (ℕ × ℕ)). at ≤ length l) c.deref.ensures.value c.place-at.ensures.within) q
    ∙ ap (λ (l : List (ℕ × ℕ)). cond (eqb c.args.page q) (Some c.args.since) (age_of q l)) to
