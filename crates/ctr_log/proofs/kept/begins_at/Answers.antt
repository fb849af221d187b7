use Rattle.std.proofs.Common.{◌≡◌, ◌∙◌, ◌==◌, sym, ap, get_or, ℕ}
use Rattle.ctr_home.specs.disk_Image.{content}
use Rattle.ctr_home.specs.bytes_Fields.{field}
use Rattle.ctr_log.proofs.KeptReading.{first_read, begins_test}
use Rattle.ctr_log.proofs.kept.begins_at.Goals as goal

pub returns-clause-told : goal.returns-clause-told
returns-clause-told g c told =
    let bytes = content c.args.file (g.D.Disk.reads c.args.disk.now) in
    let read = c.in_ok-read.ensures.told told in
    let gate : get_or bytes 0 0 ≡ 1 = sym (ap (λ l. get_or l 0 0) read) ∙ c.if-head-ne1.false in
    let number : c.get_u64.result ≡ field 8 9 bytes = c.get_u64.ensures.got ∙ ap (field 8 9) read ∙ first_read bytes in
    ap (λ (n : ℕ). n == c.args.next) number ∙ sym (begins_test c.args.next bytes gate)
