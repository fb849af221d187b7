use Rattle.std.proofs.Common.{◌≡◌, ◌∙◌, ◌+◌, ℕ, length, ap}
use Rattle.ctr_disk.specs.types_File.{File}
use Rattle.ctr_disk.specs.Image.{content, section}
use Rattle.ctr_disk.proofs.Moments.{on_ok}
use Rattle.ctr_home.specs.Blocks.{file_of, body_len, home_place}
use Rattle.ctr_home.proofs.HomeLemmas.{body_read}
use Rattle.ctr_home.proofs.reading.read_body.Goals as goal

pub returns-clause-told : goal.returns-clause-told
returns-clause-told g c v told is =
    let b = c.args.block in
    let home = c.args.home in
    let image = g.D.Disk.reads c.args.disk.now in
    on_ok c.read.result _ (c.read.new.into ≡ v.body) (λ (read : c.read.new.into ≡ section (c.at.result + 13) (length c.args.into.now) (content c.file.result image)).
    read ∙ ap (λ (n : ℕ). section (c.at.result + 13) n (content c.file.result image)) c.requires ∙ ap (λ (k : ℕ). section (k + 13) (body_len b) (content c.file.result image)) c.at.ensures.place
    ∙ ap (λ (f : File). section (home_place b home + 13) (body_len b) (content f image)) c.file.ensures ∙ body_read b home (content (file_of b) image) v is) (c.read.ensures.told told)
