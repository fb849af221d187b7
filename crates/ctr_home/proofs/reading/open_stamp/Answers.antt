use Rattle.std.proofs.Common.{◌≡◌, ◌∙◌, ◌+◌, ◌≤◌, ℕ, length, ap, arith}
use Rattle.ctr_disk.specs.types_File.{File}
use Rattle.ctr_disk.specs.Image.{content, section}
use Rattle.ctr_home.specs.Blocks.{file_of, home_len, home_place}
use Rattle.ctr_home.proofs.HomeLemmas.{stamp_is}
use Rattle.ctr_home.proofs.reading.open_stamp.Goals as goal

pub returns-clause-told : goal.returns-clause-told
returns-clause-told g c told =
    let b = c.args.block in
    let home = c.args.home in
    let image = g.D.Disk.reads c.args.disk.now in
    let bytes = content (file_of b) image in
    let size = c.in_ok-size.ensures.told told ∙ ap (λ (f : File). length (content f image)) c.file.ensures in
    let whole : home_place b home + home_len b ≤ length bytes = omega (arith, size, c.at.ensures.place, c.home_len.ensures, c.if-branch-at.false) in
    let read : c.read.new.into ≡ section (home_place b home) 13 bytes =
    c.in_ok-read.ensures.told told ∙ ap (λ i. section c.at-2.result 13 (content c.file-2.result i)) c.size.ensures.same.0
    ∙ ap (λ (k : ℕ). section k 13 (content c.file-2.result image)) c.at-2.ensures.place ∙ ap (λ (f : File). section (home_place b home) 13 (content f image)) c.file-2.ensures in
    stamp_is b home bytes whole c.read.new.into read c.stamp_behind.result c.stamp_behind.ensures.open c.stamp_behind.ensures.shut
