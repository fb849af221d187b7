use Rattle.std.proofs.Common.{◌≡◌, ◌∙◌, ap, Some, IsTrue}
use Rattle.std.proofs.lemmas.Result.{err_from_is_err_and}
use Rattle.ctr_disk.specs.Image.{Image}
use Rattle.ctr_home.specs.declared.block.Block.TheVariants.{Root}
use Rattle.ctr_home.specs.Blocks.{BlockValue, held_at}
use Rattle.ctr_home.proofs.ReadLemmas.{root_found, root_refused}
use Rattle.ctr_home.proofs.root.read_root.Given.{Over}
use Rattle.ctr_home.proofs.root.read_root.Goals.{After-at}
use Rattle.ctr_home.proofs.root.read_root.Goals as goal

-- what was read of the home that was found, whatever its root says
number_is : (g : Over) (c : After-at g) → IsTrue g.D.Disk.tells → (v : BlockValue) → held_at Root c.in-Some.home (g.D.Disk.reads c.args.disk.now).root ≡ Some v → c.in_ok-number.number ≡ v.number
number_is g c told v is = c.in_ok-number.ensures.told v told (ap (λ (i : Image). held_at Root c.in-Some.home i.root) c.find_home.ensures.quiet.same ∙ is)

body_is : (g : Over) (c : After-at g) → IsTrue g.D.Disk.tells → (v : BlockValue) → held_at Root c.in-Some.home (g.D.Disk.reads c.args.disk.now).root ≡ Some v → c.read_body.new.into ≡ v.body
body_is g c told v is = c.in_ok-read_body.ensures.told v told (ap (λ (i : Image). held_at Root c.in-Some.home i.root) (c.read_number.ensures.quiet.same ∙ c.find_home.ensures.quiet.same) ∙ is)

pub returns-in_err-root-clause-answer : goal.returns-in_err-root-clause-answer
returns-in_err-root-clause-answer g c told =
    let p = err_from_is_err_and c.from_residual-in_err-root.result c.from_residual-in_err-root.ensures.1 in
    let at = goal.at.returns-in_err-root-clause-answer g c in
    rw (p.1, p.2) (root_refused (g.D.Disk.reads c.args.disk.now) c.in_ok-home.field-0 c.in-Some.home c.in-Some.stamp c.in-Some.is (c.in_ok-home.ensures.told told) c.in_ok-number.number (number_is g at.After-at told) c.read_body.new.into (body_is g at.After-at told) c.at.result c.at.ensures.place _ c.in_err-root.ensures.answer)

pub returns-clause-answer : goal.returns-clause-answer
returns-clause-answer g c told =
    let at = goal.at.returns-clause-answer g c in
    root_found (g.D.Disk.reads c.args.disk.now) c.in_ok-home.field-0 c.in-Some.home c.in-Some.stamp c.in-Some.is (c.in_ok-home.ensures.told told) c.in_ok-number.number (number_is g at.After-at told) c.read_body.new.into (body_is g at.After-at told) c.at.result c.at.ensures.place c.in_ok-root.root c.in_ok-root.ensures.answer
