use Rattle.std.proofs.Common.{◌≡◌, ◌+◌, [], sym, ◌∙◌, ap, subst}
use Rattle.std.specs.Prelude.{filter}
use Rattle.ctr_rec.specs.declared.record.Record.TheVariants.{Abort}
use Rattle.ctr_meta.specs.Items.{is_item_by}
use Rattle.ctr_meta.specs.Kept.{TablesKept}
use Rattle.ctr_meta.specs.Tables.{Tables}
use Rattle.ctr_page_turns.specs.record_effects_States.{pages_in}
use Rattle.ctr_record_laws.specs.Owed.{IsLastItem}
use Rattle.ctr_page_turns.specs.actions_Sites.{Site, site_of}
use Rattle.ctr_page_turns.specs.actions_Actions.{item_count}
use Rattle.ctr_catalog.specs.Writing.{undo_record}
use Rattle.ctr_txn.specs.Held.{number_drawn}
use Rattle.ctr_rollback.proofs.Records.{undo_next, undo_leaves_room, none_counted, one_done, one_failed}
use Rattle.ctr_rollback.proofs.Running.{writing_still}
use Rattle.ctr_rollback.proofs.rolling.turn.Goals as goal

-- ---- the mark

pub returns-in-Ok-clause-one : goal.returns-in-Ok-clause-one
returns-in-Ok-clause-one g c = (Abort (number_drawn c.args.s c.args.txns.now), one_done g.O.Origin.first g.D.Disk _ c.args.store.now c.mark.new.store tt _ c.in-Ok.ensures.one)

pub returns-in-Err-clause-one : goal.returns-in-Err-clause-one
returns-in-Err-clause-one g c = (Abort (number_drawn c.args.s c.args.txns.now), one_failed g.O.Origin.first g.D.Disk _ c.args.store.now c.mark.new.store c.in-Err.fault c.in-Err.ensures.one)

pub returns-in-Ok-clause-txns : goal.returns-in-Ok-clause-txns
returns-in-Ok-clause-txns g c = (c.in-Ok.ensures.ends.0.1, c.in-Ok.ensures.ends.0.0)

pub returns-in-Ok-clause-rolls : goal.returns-in-Ok-clause-rolls
returns-in-Ok-clause-rolls g c = λ told sound may.
    let x = number_drawn c.args.s c.args.txns.now in
    let s = c.args.store.now.now in
    let none = none_counted (is_item_by x) s.tables.items
    (subst (λ n. filter (is_item_by n) s.tables.items ≡ []) c.me-x.ensures
    (subst (λ (t : Tables). filter (is_item_by c.me-x.result) t.items ≡ []) (ap (λ (k : TablesKept). k.tables) c.meta.ensures.tables ∙ c.meta.ensures.now told sound c.requires.may.room.going) (c.next_item.ensures.none c.in-None.is))) in
    (none, c.in-Ok.ensures.acts told sound (c.what_is_held_pays.ensures.aborted x (site_of s) may.is_open none))

pub returns-in-Err-clause-rolls : goal.returns-in-Err-clause-rolls
returns-in-Err-clause-rolls g c = λ told sound may.
    let x = number_drawn c.args.s c.args.txns.now in
    let s = c.args.store.now.now in
    let none = none_counted (is_item_by x) s.tables.items
    (subst (λ n. filter (is_item_by n) s.tables.items ≡ []) c.me-x.ensures
    (subst (λ (t : Tables). filter (is_item_by c.me-x.result) t.items ≡ []) (ap (λ (k : TablesKept). k.tables) c.meta.ensures.tables ∙ c.meta.ensures.now told sound c.requires.may.room.going) (c.next_item.ensures.none c.in-None.is))) in
    c.in-Err.ensures.refused told sound may.sound (c.what_is_held_pays.ensures.aborted x (site_of s) may.is_open none)

-- ---- an item

pub returns-in-Ok-undo-clause-one : goal.returns-in-Ok-undo-clause-one
returns-in-Ok-undo-clause-one g c = let one = c.in-Ok-undo.ensures.one in (undo_record c.in-Some.item one.0, one_done g.O.Origin.first g.D.Disk _ c.args.store.now c.undo.new.store tt _ one.1)

pub returns-in-Err-undo-clause-one : goal.returns-in-Err-undo-clause-one
returns-in-Err-undo-clause-one g c = let one = c.in-Err-undo.ensures.one in (undo_record c.in-Some.item one.0, one_failed g.O.Origin.first g.D.Disk _ c.args.store.now c.undo.new.store c.in-Err-undo.fault one.1)

pub returns-in-Ok-undo-clause-txns : goal.returns-in-Ok-undo-clause-txns
returns-in-Ok-undo-clause-txns g c =
    let w = c.requires.may.writer in (
      c.begin_rollback.ensures.numbers,
      writing_still c.args.s c.args.txns.now c.begin_rollback.new.self c.requires.may.one c.counts_sessions.ensures w (c.begin_rollback.ensures.sets w.t w.there),
      c.begin_rollback.ensures.sets,
    )

pub returns-in-Ok-undo-clause-items : goal.returns-in-Ok-undo-clause-items
returns-in-Ok-undo-clause-items g c =
    let one = c.in-Ok-undo.ensures.one in
    let w = c.requires.may.writer in
    c.begin_rollback.ensures.items w.t w.there c.args.store.now.meta c.undo.new.store.meta (undo_leaves_room c.in-Some.item one.0 c.args.store.now.meta c.undo.new.store.meta one.1.takes.left)

pub returns-in-Ok-undo-clause-over : goal.returns-in-Ok-undo-clause-over
returns-in-Ok-undo-clause-over g c =
    let one = c.in-Ok-undo.ensures.one in
    ap (λ n. n.next) c.begin_rollback.ensures.numbers ∙ c.requires.may.over
    ∙ sym (ap (λ (t : Tables). t.next) one.1.takes.tables ∙ undo_next c.in-Some.item one.0 c.args.store.now.meta.tables)

pub returns-in-Ok-undo-clause-rolls : goal.returns-in-Ok-undo-clause-rolls
returns-in-Ok-undo-clause-rolls g c = λ told sound may.
    let x = number_drawn c.args.s c.args.txns.now in
    let s = c.args.store.now.now in
    let i = c.in-Some.item in
    let last = subst (λ n. IsLastItem n i s.tables.items) c.me-x.ensures
    (subst (λ (t : Tables). IsLastItem c.me-x.result i t.items) (ap (λ (k : TablesKept). k.tables) c.meta.ensures.tables ∙ c.meta.ensures.now told sound c.requires.may.room.going) c.in-Some.ensures.latest) in
    let acts = c.in-Ok-undo.ensures.acts x told sound may.sound (c.the_latest_item_can_be_undone.ensures.owed x (site_of s) i last) in (
      i,
      last,
      acts,
      c.the_latest_item_can_be_undone.ensures.fewer x (site_of s) i (c.pages_are_in_bounds.ensures (pages_in s)) may.sound.sound last ∙ ap (λ (z : Site). item_count x z.tables + 1) (sym acts.does.leaves),
    )

pub returns-in-Err-undo-clause-rolls : goal.returns-in-Err-undo-clause-rolls
returns-in-Err-undo-clause-rolls g c = λ told sound may.
    let x = number_drawn c.args.s c.args.txns.now in
    let s = c.args.store.now.now in
    let i = c.in-Some.item in
    let last = subst (λ n. IsLastItem n i s.tables.items) c.me-x.ensures
    (subst (λ (t : Tables). IsLastItem c.me-x.result i t.items) (ap (λ (k : TablesKept). k.tables) c.meta.ensures.tables ∙ c.meta.ensures.now told sound c.requires.may.room.going) c.in-Some.ensures.latest) in
    c.in-Err-undo.ensures.refused x told sound may.sound (c.the_latest_item_can_be_undone.ensures.owed x (site_of s) i last)
