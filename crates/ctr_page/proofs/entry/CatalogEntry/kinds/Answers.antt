use Rattle.std.proofs.Common.{◌-◌, ◌∙◌, [], ◌∷◌, take}
use Rattle.ctr_rec.specs.bytes_Fields.{field}
use Rattle.ctr_page.proofs.Holding.{kinds_behind}
use Rattle.ctr_page.proofs.entry.CatalogEntry.kinds.Goals as goal

pub returns : goal.returns
returns c = λ some few.
    let n = field 1 34 c.args.self.now.bytes in
    (λ i. take (n - 1) (c.kind.ensures i ∷ c.kind-2.ensures i ∷ c.kind-3.ensures i ∷ c.kind-4.ensures i ∷ c.kind-5.ensures i ∷ c.kind-6.ensures i ∷ c.kind-7.ensures i ∷ []))
    ∙ kinds_behind n c.args.self.now.bytes some few
