use Rattle.std.proofs.Common.{◌≡◌, ◌∙◌, ap, Some}
use Rattle.std.proofs.lemmas.Result.{err_from_is_err_and}
use Rattle.ctr_disk.specs.Image.{Image, content}
use Rattle.ctr_home.specs.Blocks.{BlockValue, file_of, held_at}
use Rattle.ctr_home.proofs.ReadLemmas.{misnumbered, reads_none}
use Rattle.ctr_home.proofs.reading.read_home.Goals as goal

pub returns-in_err-check_number-clause-answer : goal.returns-in_err-check_number-clause-answer
returns-in_err-check_number-clause-answer g c told =
    let b = c.args.block in
    let image = g.D.Disk.reads c.args.disk.now in
    let home = c.in-Some.home in
    let p = err_from_is_err_and c.from_residual-in_err-check_number.result c.from_residual-in_err-check_number.ensures.1 in
    let read : (v : BlockValue) → held_at b home (content (file_of b) image) ≡ Some v → c.in_ok-number.number ≡ v.number =
    λ v is. c.in_ok-number.ensures.told v told (ap (λ (i : Image). held_at b home (content (file_of b) i)) c.find_home.ensures.quiet.same ∙ is) in
    rw (p.1, p.2) (reads_none b image c.args.into.now _ (misnumbered b image c.in_ok-home.field-0 home c.in-Some.stamp c.in-Some.is (c.in_ok-home.ensures.told told) c.in_ok-number.number _ read c.in_err-check_number.ensures.row))
