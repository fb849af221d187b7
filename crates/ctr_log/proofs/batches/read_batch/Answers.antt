use Rattle.std.proofs.Common.{◌≡◌, ◌∙◌, ◌+◌, ◌^◌, ◌<◌, length, drop, ap, sym, refl, arith}
use Rattle.std.specs.Prelude.{IsTrue}
use Rattle.std.proofs.lemmas.Result.{err_from_is_err_and}
use Rattle.ctr_home.specs.disk_Image.{Image, content, section}
use Rattle.ctr_home.proofs.bytes_FieldLaws.{field_fits}
use Rattle.ctr_log.specs.Batch.{OpensBatch}
use Rattle.ctr_home.specs.Checks.{judged}
use Rattle.ctr_log.specs.LogChecks.{gate_checks, frame_bytes}
use Rattle.ctr_log.proofs.DamageLaws.{this_damage, this_undamaged, shut_passes, head_told, frames_told, count_told}
use Rattle.ctr_log.proofs.BatchLemmas.{part_whole, refuses_store, refuses_undamaged, gate_read, head_lacks, frames_lack, count_lacks, batch_found, frames_low}
use Rattle.ctr_log.proofs.batches.read_batch.Given.{Over}
use Rattle.ctr_log.proofs.batches.read_batch.Goals.{After-deref}
use Rattle.ctr_log.proofs.batches.read_batch.Goals as goal

-- the frames that were read are this part of the file
part : (g : Over) (c : After-deref g) → IsTrue g.D.Disk.tells → c.deref.result.now ≡ section (c.args.gate + 21) c.in_ok-len.len (content c.args.file (g.D.Disk.reads c.args.disk.now))
part g c told =
    c.deref.ensures.value ∙ c.in_ok-frames.ensures.told told ∙ ap (λ (i : Image). section (c.args.gate + 21) c.in_ok-len.len (content c.args.file i)) c.in_ok-read.ensures.same.0

-- and all of the batch's frames
whole : (g : Over) (c : After-deref g) → IsTrue g.D.Disk.tells → c.args.size ≡ length (content c.args.file (g.D.Disk.reads c.args.disk.now))
    → c.deref.result.now ≡ frame_bytes (drop c.args.gate (content c.args.file (g.D.Disk.reads c.args.disk.now)))
whole g c told size =
    part_whole c.args.size c.args.gate c.args.next (content c.args.file (g.D.Disk.reads c.args.disk.now)) c.read.new.into (c.in_ok-read.ensures.told told) size (omega (arith, size)) (omega arith) c.if-head-ne1.false c.in_ok-len.len c.deref.result.now c.in_ok-len.ensures.fits.0 c.in_ok-len.ensures.fits.1 (part g c told)

few : (g : Over) (c : After-deref g) → length c.deref.result.now < 2 ^ 64
few g c = omega (arith, ap length c.deref.ensures.value, c.in_ok-frames.ensures.long.0, c.in_ok-frames.ensures.long.1)

pub returns-then-head-ne1-clause-found : goal.returns-then-head-ne1-clause-found
returns-then-head-ne1-clause-found g c told size =
    let bytes = content c.args.file (g.D.Disk.reads c.args.disk.now) in
    λ e. c.if-head-ne1.true (gate_read c.args.size c.args.gate c.args.next bytes c.read.new.into (c.in_ok-read.ensures.told told) size (omega (arith, size)) (omega arith) ∙ e)

pub returns-in_err-len-clause-refused : goal.returns-in_err-len-clause-refused
returns-in_err-len-clause-refused g c told size =
    let bytes = content c.args.file (g.D.Disk.reads c.args.disk.now) in
    let p = err_from_is_err_and c.from_residual-in_err-len.result c.from_residual-in_err-len.ensures.1 in
    let fails = c.in_err-len.ensures.fits in
    rw (p.1, p.2) (refuses_store c.args.file (OpensBatch c.args.next (drop c.args.gate bytes)) c.in_err-len.field-0.0 fails.0
    (head_lacks c.args.size c.args.gate c.args.next bytes c.read.new.into (c.in_ok-read.ensures.told told) size (omega (arith, size)) (omega arith) c.if-head-ne1.false fails.1))

pub returns-in_err-frames-clause-refused : goal.returns-in_err-frames-clause-refused
returns-in_err-frames-clause-refused g c told size =
    let bytes = content c.args.file (g.D.Disk.reads c.args.disk.now) in
    let p = err_from_is_err_and c.from_residual-in_err-frames.result c.from_residual-in_err-frames.ensures.1 in
    rw (p.1, p.2) (refuses_undamaged c.args.file (OpensBatch c.args.next (drop c.args.gate bytes)) c.in_err-frames.field-0.0 c.in_err-frames.ensures.not_damaged)

pub returns-in_err-count-clause-refused : goal.returns-in_err-count-clause-refused
returns-in_err-count-clause-refused g c told size =
    let bytes = content c.args.file (g.D.Disk.reads c.args.disk.now) in
    let p = err_from_is_err_and c.from_residual-in_err-count.result c.from_residual-in_err-count.ensures.1 in
    let fails = c.in_err-count.ensures.found in
    let at = (goal.at.returns-in_err-count-clause-refused g c).After-deref in
    rw (p.1, p.2) (refuses_store c.args.file (OpensBatch c.args.next (drop c.args.gate bytes)) c.in_err-count.field-0.0 fails.0
    (frames_lack c.args.size c.args.gate c.args.next bytes c.read.new.into (c.in_ok-read.ensures.told told) size (omega (arith, size)) (omega arith) c.if-head-ne1.false c.in_ok-len.len c.deref.result.now c.in_ok-len.ensures.fits.0
    c.in_ok-len.ensures.fits.1 (part g at told) fails.1))

pub returns-in_err-check_count-clause-refused : goal.returns-in_err-check_count-clause-refused
returns-in_err-check_count-clause-refused g c told size =
    let bytes = content c.args.file (g.D.Disk.reads c.args.disk.now) in
    let p = err_from_is_err_and c.from_residual-in_err-check_count.result c.from_residual-in_err-check_count.ensures.1 in
    let fails = c.in_err-check_count.ensures.fits in
    let at = (goal.at.returns-in_err-check_count-clause-refused g c).After-deref in
    rw (p.1, p.2) (refuses_store c.args.file (OpensBatch c.args.next (drop c.args.gate bytes)) c.in_err-check_count.field-0.0 fails.0
    (count_lacks c.args.size c.args.gate c.args.next bytes c.read.new.into (c.in_ok-read.ensures.told told) size (omega (arith, size)) (omega arith) c.if-head-ne1.false c.in_ok-len.len c.deref.result.now c.in_ok-len.ensures.fits.0
    c.in_ok-len.ensures.fits.1 (part g at told) c.in_ok-count.count c.in_ok-count.ensures.found (few g at) fails.1))

pub returns-clause-found : goal.returns-clause-found
returns-clause-found g c told size =
    let bytes = content c.args.file (g.D.Disk.reads c.args.disk.now) in
    let at = (goal.at.returns-clause-found g c).After-deref in
    let counts = c.in_ok-check_count.ensures.fits in
    batch_found c.args.size c.args.gate c.args.next bytes c.read.new.into (c.in_ok-read.ensures.told told) size (omega (arith, size)) (omega arith) c.if-head-ne1.false c.in_ok-len.len c.deref.result.now c.in_ok-len.ensures.fits.0
    c.in_ok-len.ensures.fits.1 (part g at told) c.in_ok-count.count c.in_ok-count.ensures.found (few g at) c.in_ok-len.ensures.bytes (field_fits 4 17 c.read.new.into c.in_ok-len.ensures.bytes) counts (record { frames = c.in_ok-frames.frames; count = c.in_ok-count.count }) (sym c.deref.ensures.value) refl

pub returns-clause-small : goal.returns-clause-small
returns-clause-small g c =
    let has = c.in_ok-count.ensures.found in
    let long = c.in_ok-frames.ensures.long in
    (frames_low (length c.in_ok-frames.frames.items) c.in_ok-len.len long.0 long.1, (has.0, sym c.deref.ensures.value ∙ has.1, has.2))

-- ---- the first check that fails

pub returns-then-head-ne1-clause-damage : goal.returns-then-head-ne1-clause-damage
returns-then-head-ne1-clause-damage g c told size =
    let bytes = content c.args.file (g.D.Disk.reads c.args.disk.now) in
    shut_passes c.args.size c.args.gate c.args.next bytes c.read.new.into (c.in_ok-read.ensures.told told) size c.args.file c.if-head-ne1.true

pub returns-in_err-len-clause-damage : goal.returns-in_err-len-clause-damage
returns-in_err-len-clause-damage g c told size =
    let bytes = content c.args.file (g.D.Disk.reads c.args.disk.now) in
    let p = err_from_is_err_and c.from_residual-in_err-len.result c.from_residual-in_err-len.ensures.1 in
    rw (p.1, p.2) (this_damage (judged c.args.file (gate_checks c.args.next c.args.gate (drop c.args.gate bytes))) c.in_err-len.field-0.0 (head_told c.args.size c.args.gate c.args.next bytes c.read.new.into (c.in_ok-read.ensures.told told) size c.args.file c.if-head-ne1.false c.in_err-len.field-0.0 c.in_err-len.ensures.damage))

pub returns-in_err-frames-clause-damage : goal.returns-in_err-frames-clause-damage
returns-in_err-frames-clause-damage g c told size =
    let bytes = content c.args.file (g.D.Disk.reads c.args.disk.now) in
    let p = err_from_is_err_and c.from_residual-in_err-frames.result c.from_residual-in_err-frames.ensures.1 in
    rw (p.1, p.2) (this_undamaged (judged c.args.file (gate_checks c.args.next c.args.gate (drop c.args.gate bytes))) c.in_err-frames.field-0.0 c.in_err-frames.ensures.not_damaged)

pub returns-in_err-count-clause-damage : goal.returns-in_err-count-clause-damage
returns-in_err-count-clause-damage g c told size =
    let bytes = content c.args.file (g.D.Disk.reads c.args.disk.now) in
    let p = err_from_is_err_and c.from_residual-in_err-count.result c.from_residual-in_err-count.ensures.1 in
    let at = (goal.at.returns-in_err-count-clause-damage g c).After-deref in
    rw (p.1, p.2) (this_damage (judged c.args.file (gate_checks c.args.next c.args.gate (drop c.args.gate bytes))) c.in_err-count.field-0.0 (frames_told c.args.size c.args.gate c.args.next bytes c.read.new.into (c.in_ok-read.ensures.told told) size c.args.file c.if-head-ne1.false c.in_ok-len.ensures.damage c.deref.result.now (whole g at told size) c.in_err-count.field-0.0 c.in_err-count.ensures.damage))

pub returns-in_err-check_count-clause-damage : goal.returns-in_err-check_count-clause-damage
returns-in_err-check_count-clause-damage g c told size =
    let bytes = content c.args.file (g.D.Disk.reads c.args.disk.now) in
    let p = err_from_is_err_and c.from_residual-in_err-check_count.result c.from_residual-in_err-check_count.ensures.1 in
    let at = (goal.at.returns-in_err-check_count-clause-damage g c).After-deref in
    rw (p.1, p.2) (this_damage (judged c.args.file (gate_checks c.args.next c.args.gate (drop c.args.gate bytes))) c.in_err-check_count.field-0.0 (count_told c.args.size c.args.gate c.args.next bytes c.read.new.into (c.in_ok-read.ensures.told told) size c.args.file c.if-head-ne1.false c.in_ok-len.ensures.damage c.deref.result.now (whole g at told size) c.in_ok-count.ensures.damage c.in_ok-count.count c.in_ok-count.ensures.count ∙ sym c.in_err-check_count.ensures.damage))

pub returns-clause-damage : goal.returns-clause-damage
returns-clause-damage g c told size =
    let bytes = content c.args.file (g.D.Disk.reads c.args.disk.now) in
    let at = (goal.at.returns-clause-damage g c).After-deref in
    count_told c.args.size c.args.gate c.args.next bytes c.read.new.into (c.in_ok-read.ensures.told told) size c.args.file c.if-head-ne1.false c.in_ok-len.ensures.damage c.deref.result.now (whole g at told size) c.in_ok-count.ensures.damage c.in_ok-count.count c.in_ok-count.ensures.count ∙ sym c.in_ok-check_count.ensures.damage
