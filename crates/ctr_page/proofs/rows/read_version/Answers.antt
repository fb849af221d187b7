use Rattle.std.proofs.Common.{◌∙◌, ap}
use Rattle.ctr_page.specs.Places.{kept_size}
use Rattle.ctr_page.specs.Reading.{older_in}
use Rattle.ctr_page.proofs.Puts.{sliced}
use Rattle.ctr_page.proofs.rows.read_version.Goals as goal

pub returns-clause-read : goal.returns-clause-read
returns-clause-read c =
    c.older_in.ensures.read
    ∙ ap (older_in c.args.w) (sliced c.args.slot c.start_of-start.result c.kept_size-size.result (kept_size c.args.w) c.args.page.now c.start_of-start.ensures c.kept_size-size.ensures.value)
