use Rattle.std.proofs.Common.{◌≡◌, ℕ, ◌<◌, inl, [], ◌∷◌, Err, refl, sym, ap, subst}
use Rattle.ctr_page.specs.declared.header.Header.{Header}
use Rattle.ctr_meta.specs.Tables.{Tables}
use Rattle.ctr_page.specs.Making.{header_bytes}
use Rattle.ctr_base.specs.redo_States.{State}
use Rattle.ctr_undamaged.specs.record_effects_Changing.{format_record, laid_clear}
use Rattle.ctr_stops.specs.store_Store.{Logs}
use Rattle.ctr_page_turns.specs.actions_Sites.{site_of}
use Rattle.ctr_page_turns.specs.actions_Actions.{Formats, site_after}
use Rattle.ctr_stops.specs.actions_Facts.{HasBlank, HasNoPageBut}
use Rattle.ctr_page_turns.specs.passed_Logged.{IsBlankPage}
use Rattle.ctr_page_turns.specs.Turns.{LogsARecord}
use Rattle.ctr_extend.specs.Ways.{chain_header}
use Rattle.ctr_extend.specs.declared.ways.OnWay.TheVariants.{Made}
use Rattle.ctr_extend.specs.declared.ways.Extended.TheVariants.{On}
use Rattle.ctr_extend.proofs.Steps.{moved}
use Rattle.ctr_extend.proofs.making.make.Goals as goal

pub returns-in-Ok-clause-turns : goal.returns-in-Ok-clause-turns
returns-in-Ok-clause-turns g c =
    c.a_turn_goes_on.ensures.answered g.O.Origin.first c.args.store.now c.format.new.store tt (On (Made c.args.page c.args.next)) (LogsARecord (format_record c.args.x c.args.page c.header_of.result, c.in-Ok.ensures.one))

pub returns-in-Err-clause-turns : goal.returns-in-Err-clause-turns
returns-in-Err-clause-turns g c =
    c.a_turn_goes_on.ensures.failed g.O.Origin.first c.args.store.now c.format.new.store c.in-Err.fault (Err c.in-Err.fault) (Err c.in-Err.fault) (LogsARecord (format_record c.args.x c.args.page c.header_of.result, c.in-Err.ensures.one)) refl refl

pub returns-in-Ok-clause-inside : goal.returns-in-Ok-clause-inside
returns-in-Ok-clause-inside g c = (c.requires.counted.0, subst (λ (n : ℕ). c.args.page < n) (sym c.in-Ok.ensures.one.takes.counted) c.requires.counted.1)

pub returns-in-Ok-clause-left : goal.returns-in-Ok-clause-left
returns-in-Ok-clause-left g c =
    let takes = c.in-Ok.ensures.one.takes in
    (takes.left, ap (λ (t : Tables). t.next) takes.tables)

pub returns-in-Ok-clause-numbers : goal.returns-in-Ok-clause-numbers
returns-in-Ok-clause-numbers g c = c.in-Ok.ensures.one.takes.next

pub returns-in-Ok-clause-steps : goal.returns-in-Ok-clause-steps
returns-in-Ok-clause-steps g c = λ told sound state way first.
    let x = c.args.x in
    let p = c.args.page in
    let v = c.args.store.now in
    let w = c.format.new.store in
    let h = chain_header c.args.chain c.args.next in
    let is = c.header_of.ensures.is in
    let e = c.in-Ok.ensures in
    let logs = subst (λ (k : Header). Logs (format_record x p k ∷ []) v w) is (e.one.logs told sound) in
    let leaves = subst (λ (k : Header). site_of w.now ≡ site_after x (Formats p k) (site_of v.now)) is (e.leaves told sound c.requires.counted.0) in
    let acts = c.a_record_acts.ensures x (Formats p h) (format_record x p h) v w logs way.holds.0 leaves (c.pages_lie_as_their_actions.ensures.formats v.now x p h (e.whole told sound), tt) in (
      refl,
      record {
        acts = acts;
        first = first;
        on_way = record {
          holds = (
            moved x (HasBlank p h) (site_after x (Formats p h) (site_of v.now)) (site_of w.now) leaves (c.an_action_gives_its_fact.ensures.formatted x p h (site_of v.now) way.holds.0),
            (
              c.what_is_done_stays.ensures.held x x (Formats p h) (HasNoPageBut (p ∷ [])) v.now w.now acts.does state.few state.sound tt (inl tt) way.holds.1.0,
              tt,
            ),
          );
          blank = subst (λ (t : State). IsBlankPage p h t) (sym logs.now) (c.a_formatted_page_is_blank.ensures.made v.now x p h (e.whole told sound));
        };
      },
    )

pub returns-in-Err-clause-refused : goal.returns-in-Err-clause-refused
returns-in-Err-clause-refused g c = λ told sound state way.
    let x = c.args.x in
    let p = c.args.page in
    let v = c.args.store.now in
    let s = v.now in
    let h = c.header_of.result in
    c.a_record_is_refused_by_the_disk_alone.ensures x (Formats p h) (laid_clear p (header_bytes h)) v c.format.new.store (Err c.in-Err.fault) state way.holds.0
    (c.meta-tables.ensures.now told sound c.requires.room.going) (c.in-Err.ensures.one.refused told sound)
