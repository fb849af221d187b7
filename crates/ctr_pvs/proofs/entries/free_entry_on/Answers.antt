use Rattle.std.proofs.Common.{◌≡◌, ◌<◌, false, sym, ap, subst, ◌∙◌, arith}
use Rattle.std.specs.Prelude.{◌==◌}
use Rattle.ctr_page.specs.declared.rows.VersionEntry.{VersionEntry}
use Rattle.ctr_page.specs.Columns.{kinds_width}
use Rattle.ctr_page.specs.Places.{kept_size, room_for}
use Rattle.ctr_page.specs.Reading.{older_at}
use Rattle.ctr_page.proofs.Searches.{passes_one, lies_on_page}
use Rattle.ctr_pvs.specs.Entries.{checks_version, is_free_version}
use Rattle.ctr_pvs.proofs.entries.free_entry_on.Goals as goal

pub check_version-requires-clause-inside : goal.check_version-requires-clause-inside
check_version-requires-clause-inside c =
    let rooms : c.room_for-count.result ≡ room_for (kept_size (kinds_width c.args.kinds.now)) = c.room_for-count.ensures ∙ ap room_for (c.kept_size.ensures.value ∙ ap kept_size c.kinds_width-w.ensures.value) in
    let on_page : c.loop-number.number < room_for (kept_size (kinds_width c.args.kinds.now)) = subst (λ r. c.loop-number.number < r) rooms (omega (arith, c.loop-number-test.true)) in
    omega (arith, lies_on_page (kept_size (kinds_width c.args.kinds.now)) c.loop-number.number on_page, c.requires.whole)

pub read_version-requires-clause-inside : goal.read_version-requires-clause-inside
read_version-requires-clause-inside c =
    let rooms : c.room_for-count.result ≡ room_for (kept_size c.kinds_width-w.result) = c.room_for-count.ensures ∙ ap room_for c.kept_size.ensures.value in
    let on_page : c.loop-number.number < room_for (kept_size c.kinds_width-w.result) = subst (λ r. c.loop-number.number < r) rooms (omega (arith, c.loop-number-test.true)) in
    omega (arith, lies_on_page (kept_size c.kinds_width-w.result) c.loop-number.number on_page, c.requires.whole)

pub loop-number-preserved : goal.loop-number-preserved
loop-number-preserved c =
    let isnt : is_free_version (kinds_width c.args.kinds.now) c.args.page.now c.loop-number.number ≡ false =
    ap (λ w. (older_at w c.loop-number.number c.args.page.now).used == 0) (sym c.kinds_width-w.ensures.value) ∙ ap (λ (v : VersionEntry). v.used == 0) (sym c.read_version.ensures.read) ∙ sym c.if-eq.ensures in
    passes_one (checks_version c.args.kinds.now c.args.counted c.args.page.now) (is_free_version (kinds_width c.args.kinds.now) c.args.page.now) 0 c.loop-number.number c.loop-number.invariant (sym c.in_ok-check_version.ensures.checked) isnt
