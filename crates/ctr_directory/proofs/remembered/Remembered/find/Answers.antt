use Rattle.std.proofs.Common.{◌≡◌, ◌∙◌, subst}
use Rattle.std.specs.Prelude.{ℤ}
use Rattle.std.specs.Int.{w64}
use Rattle.std.specs.Ordering.{int_eq}
use Rattle.std.proofs.lemmas.Int.{to_z-of_z}
use Rattle.indexmap.specs.IndexMap.{get}
use Rattle.ctr_directory.proofs.Buckets.{knows}
use Rattle.ctr_directory.proofs.remembered.Remembered.find.Goals as goal

pub returns : goal.returns
returns c = λ counted pages kept.
    let found : c.copied.result ≡ get int_eq c.args.self.now.places c.args.key =
    subst (λ (z : ℤ). c.copied.result ≡ get int_eq c.args.self.now.places z) (to_z-of_z w64 c.args.key c.ranges.key) (c.copied.ensures ∙ c.get.ensures.value) in
    knows counted pages c.args.self.now (kept c.if-not-self.false) c.if-self.false c.if-self-ne0.false c.args.key c.copied.result found
