use Rattle.std.proofs.Common.{◌≡◌, ◌∙◌, ◌+◌, ℕ, ap}
use Rattle.ctr_disk.specs.types_File.{File}
use Rattle.ctr_disk.specs.Image.{content, section}
use Rattle.ctr_home.specs.Blocks.{file_of, home_place}
use Rattle.ctr_home.proofs.HomeLemmas.{number_read}
use Rattle.ctr_home.proofs.reading.read_number.Goals as goal

pub returns-clause-told : goal.returns-clause-told
returns-clause-told g c v told is =
    let b = c.args.block in
    let home = c.args.home in
    let image = g.D.Disk.reads c.args.disk.now in
    let read : c.read.new.into ≡ section (home_place b home + 1) 4 (content (file_of b) image) =
    c.in_ok-read.ensures.told told ∙ ap (λ (k : ℕ). section (k + 1) 4 (content c.file.result image)) c.at.ensures.place
    ∙ ap (λ (f : File). section (home_place b home + 1) 4 (content f image)) c.file.ensures in
    c.get_u32.ensures.got ∙ number_read b home (content (file_of b) image) v is c.read.new.into read
