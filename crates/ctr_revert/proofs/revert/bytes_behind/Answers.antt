use Rattle.std.proofs.Common.{◌≡◌, Ok, ◌∙◌, ap, subst}
use Rattle.std.proofs.lemmas.Result.{err_from_is_err_and}
use Rattle.ctr_page.specs.Columns.{kinds_width}
use Rattle.ctr_pvs.specs.record_effects_States.{pages_in}
use Rattle.ctr_pvs.specs.walk_Damage.{searched}
use Rattle.ctr_pvs.proofs.walk_Joins.{answers_ok, pages_join}
use Rattle.ctr_pvs.proofs.walk_Searches.{passed_page, leaves_behind}
use Rattle.ctr_pvs.specs.walk_Tables.{kinds_said}
use Rattle.ctr_revert.specs.Reverting.{EntrySaidFrom, IsMadeOr, BytesSaid}
use Rattle.ctr_revert.proofs.Lost.{by_reading, ends_kept, ends_damaged, none_of}
use Rattle.ctr_revert.proofs.revert.bytes_behind.Goals as goal

pub returns-in_err-made-clause-ends : goal.returns-in_err-made-clause-ends
returns-in_err-made-clause-ends g c =
    let p = err_from_is_err_and c.from_residual.result c.from_residual.ensures.1 in
    let f = c.args.from.now in
    let t = c.args.table.now in
    let n = c.args.counted in
    let pages = pages_in c.args.store.now.now in
    rw (p.1, p.2) (λ told sound.
    passed_page _ _ c.in_err-made.field-0.0 f.older.page (EntrySaidFrom n t f (pages f.older.page)) (BytesSaid n pages t f)
    (λ bad said. ends_damaged n pages t f (none_of f.made c.in_default.not-Some) c.if-from-eq0.false bad said) (c.in_err-made.ensures.said told sound))

pub returns-in_err-made-clause-leaves : goal.returns-in_err-made-clause-leaves
returns-in_err-made-clause-leaves g c =
    let p = err_from_is_err_and c.from_residual.result c.from_residual.ensures.1 in
    rw (p.1, p.2) (λ a one. leaves_behind g.O.Origin.first g.D.Disk _ _ tt c.in_err-made.field-0.0 a c.args.store.now c.look_behind.new.store one c.in_err-made.ensures.leaves)

pub returns-clause-ends : goal.returns-clause-ends
returns-clause-ends g c = λ told sound.
    let f = c.args.from.now in
    let t = c.args.table.now in
    let pages = pages_in c.args.store.now.now in
    let wide : c.kinds_width-w.result ≡ kinds_width (kinds_said t) = c.kinds_width-w.ensures.value ∙ ap kinds_width c.kinds.ensures.value in
    let said = c.in_ok-made.ensures.said told sound in
    let none = none_of f.made c.in_default.not-Some in
    let made = subst (λ n. IsMadeOr n c.in_ok-made.made c.or_blank.result) wide c.or_blank.ensures in (
      ends_kept c.args.counted pages t f none c.if-from-eq0.false c.in_ok-made.made said,
      by_reading (kinds_width (kinds_said t)) pages f c.in_ok-made.made c.or_blank.result none c.if-from-eq0.false said.2 said.3 made,
    )

pub returns-clause-leaves : goal.returns-clause-leaves
returns-clause-leaves g c = λ a one.
    answers_ok g.O.Origin.first g.D.Disk _ _ a c.look_behind.new.store
    (pages_join g.D.Disk a c.args.store.now c.look_behind.new.store g.O.Origin.first _ _ tt (searched (Ok c.in_ok-made.made)) one c.in_ok-made.ensures.leaves)
