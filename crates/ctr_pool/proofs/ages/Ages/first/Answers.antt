use Rattle.std.proofs.Common.{◌≡◌, ◌<◌, length, ap, ◌∙◌, rules}
use Rattle.ctr_pool.specs.Kept.{AgeList, age_of}
use Rattle.ctr_pool.proofs.AgeLaws.{first_least}
use Rattle.ctr_pool.proofs.ages.Ages.first.Goals as goal

pub returns-clause-least : goal.returns-clause-least
returns-clause-least c p s is =
    let es = c.self.inside.entries.items in
    let to : es ≡ c.args.self.now.entries = ap (λ (v : AgeList). v.entries) c.self.view_is in
    let some : 0 < length es = search rules in
    first_least es c.index.result.now p s c.self.invariant some c.index.ensures (ap (age_of p) to ∙ is)
