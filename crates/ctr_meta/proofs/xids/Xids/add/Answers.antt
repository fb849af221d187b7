use Rattle.std.proofs.Common.{◌≡◌, ℕ, nat_eq, None, List, ◌∷◌, [], ◌++◌, ◌∙◌, sym, ap, subst, OnOk}
use Rattle.ctr_meta.specs.XidList.{XidList}
use Rattle.ctr_meta.specs.Tables.{heads_at}
use Rattle.indexmap.specs.IndexMap.{insert_entry}
use Rattle.indexmap.proofs.CallerLemmas.{insert_entry-new}
use Rattle.ctr_meta.proofs.xids.Xids.add.Goals as goal

pub returns-clause-entries : goal.returns-clause-entries
returns-clause-entries c =
    let m = c.self.inside.heads in
    let x = c.args.x in
    let h = c.args.heads in
    let same : m.entries ≡ c.args.self.now.entries = ap (λ (a : XidList). a.entries) c.self.view_is in
    let none : heads_at x m.entries ≡ None = subst (λ (l : List (ℕ × ℕ)). heads_at x l ≡ None) (sym same) c.requires.new in
    let put : c.insert.new.self.entries ≡ insert_entry nat_eq m.entries x h = subst (λ r. OnOk r (c.insert.new.self.entries ≡ insert_entry nat_eq m.entries x h)) c.unwrap.ensures c.insert.ensures.entries in
    put ∙ insert_entry-new nat_eq m x h none ∙ ap (λ (l : List (ℕ × ℕ)). l ++ (x, h) ∷ []) same
