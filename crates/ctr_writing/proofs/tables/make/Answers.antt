use Rattle.std.proofs.Common.{◌≡◌, refl, sym, ◌∙◌, ap, subst}
use Rattle.ctr_looks.specs.txn_Numbered.{NumbersHeld}
use Rattle.ctr_looks.specs.ctr_ddl.Tables.{IsMadeAt, MakesBy, MakingLeaves, MayMake, next_made}
use Rattle.ctr_looks.specs.ctr_session_world.Ready.{StandOver}
use Rattle.ctr_looks.specs.ctr_session_world.World.{SessionsHeld}
use Rattle.ctr_looks.proofs.ctr_session_world.Ready.{stands_still, turns_ready}
use Rattle.ctr_writing.proofs.Turned.{turned_done, turned_failed}
use Rattle.ctr_writing.proofs.tables.make.Goals as goal

pub returns-in-At-clause-over : goal.returns-in-At-clause-over
returns-in-At-clause-over g c =
    let a = c.args.store.now in
    let b = c.make_table-made.new.store in
    let s = c.args.s in
    let old = c.args.txns.now in
    let new = c.spend_room.new.txns in
    let stand = c.requires.may.stand in
    let left = subst (λ m. MakingLeaves m a.meta b.meta) c.in-At.is c.in-Ok.ensures.left in
    let stays = c.spend_room.ensures.stays c.requires.item in
    let over : StandOver new b = record {
      next = ap (λ (n : NumbersHeld). n.next) c.spend_room.ensures.numbers ∙ stand.next ∙ sym left.1;
      items = c.spend_room.ensures.items a.meta b.meta c.requires.item left stand.items;
    } in
    (turns_ready g.O.Origin.first g.D.Disk s old new a b c.in-Ok.made c.in-Ok.ensures.turns over stays.0, stays.1)

pub returns-in-CatalogFull-clause-over : goal.returns-in-CatalogFull-clause-over
returns-in-CatalogFull-clause-over g c =
    let a = c.args.store.now in
    let b = c.make_table-made.new.store in
    let txns = c.args.txns.now in
    let left = subst (λ m. MakingLeaves m a.meta b.meta) c.in-CatalogFull.is c.in-Ok.ensures.left in
    (turns_ready g.O.Origin.first g.D.Disk c.args.s txns txns a b c.in-Ok.made c.in-Ok.ensures.turns (stands_still txns a b left c.requires.may.stand) (λ q some two. refl), λ unasked. unasked)

pub returns-in-At-clause-told : goal.returns-in-At-clause-told
returns-in-At-clause-told g c = λ run opened locks tells sound next at.
    let a = c.args.store.now in
    let b = c.make_table-made.new.store in
    let s = c.args.s in
    let name = c.args.name.now in
    let schema = c.args.schema.now in
    let h : SessionsHeld = record { txns = c.args.txns.now; locks = locks } in
    let may = subst (λ x. MayMake x name a.now) (sym c.me-x.ensures) (c.a_table_may_be_written.ensures.made run opened a b h s name schema next c.requires.may.one at) in
    let made = c.in-Ok.made in
    let turned = subst (λ m. MakesBy c.me-x.result name schema.columns a.now b.now m) c.in-At.is (c.in-Ok.ensures.makes tells sound may) in
    let next_is = subst (λ m. b.next ≡ next_made m a.next) c.in-At.is c.in-Ok.ensures.numbers in
    let rests = c.rests.ensures tells sound (c.a_turn_goes_or_counts_a_fault.ensures.going g.O.Origin.first a b made c.in-Ok.ensures.turns) in
    c.a_turn_of_a_table_is_told.ensures.made run opened a b h s name schema next c.in-At.field-0 c.requires.may.one at (subst (λ x. IsMadeAt x c.in-At.field-0 name schema.columns a.now b.now) c.me-x.ensures turned)
    (c.a_turn_is_told_by_its_number.ensures.logged g.O.Origin.first a b made tells sound c.in-Ok.ensures.turns next_is rests) c.spend_room.new.txns (c.spend_room.ensures.run c.requires.item)

pub returns-in-CatalogFull-clause-told : goal.returns-in-CatalogFull-clause-told
returns-in-CatalogFull-clause-told g c = λ run opened locks tells sound next at.
    let a = c.args.store.now in
    let b = c.make_table-made.new.store in
    let s = c.args.s in
    let name = c.args.name.now in
    let schema = c.args.schema.now in
    let h : SessionsHeld = record { txns = c.args.txns.now; locks = locks } in
    let may = subst (λ x. MayMake x name a.now) (sym c.me-x.ensures) (c.a_table_may_be_written.ensures.made run opened a b h s name schema next c.requires.may.one at) in
    let made = c.in-Ok.made in
    let turned = subst (λ m. MakesBy c.me-x.result name schema.columns a.now b.now m) c.in-CatalogFull.is (c.in-Ok.ensures.makes tells sound may) in
    let next_is = subst (λ m. b.next ≡ next_made m a.next) c.in-CatalogFull.is c.in-Ok.ensures.numbers in
    let rests = c.rests.ensures tells sound (c.a_turn_goes_or_counts_a_fault.ensures.going g.O.Origin.first a b made c.in-Ok.ensures.turns) in
    c.a_turn_of_a_table_is_told.ensures.full run opened a b h s name schema next c.requires.may.one at turned
    (c.a_turn_is_told_by_its_number.ensures.read g.O.Origin.first a b made tells sound c.in-Ok.ensures.turns next_is turned.same rests)

pub returns-in-Err-clause-refused : goal.returns-in-Err-clause-refused
returns-in-Err-clause-refused g c = λ run opened locks tells sound next at.
    let a = c.args.store.now in
    let b = c.make_table-made.new.store in
    let s = c.args.s in
    let name = c.args.name.now in
    let schema = c.args.schema.now in
    let h : SessionsHeld = record { txns = c.args.txns.now; locks = locks } in
    let may = subst (λ x. MayMake x name a.now) (sym c.me-x.ensures) (c.a_table_may_be_written.ensures.made run opened a b h s name schema next c.requires.may.one at) in
    c.in-Err.ensures.refused tells sound may

pub returns-in-Err-clause-disk : goal.returns-in-Err-clause-disk
returns-in-Err-clause-disk g c = turned_failed g.O.Origin.first g.D.Disk _ _ c.in-Err.fault c.in-Err.ensures.turns

pub returns-in-At-clause-disk : goal.returns-in-At-clause-disk
returns-in-At-clause-disk g c = turned_done g.O.Origin.first g.D.Disk _ _ c.in-Ok.made _ c.in-Ok.ensures.turns

pub returns-in-CatalogFull-clause-disk : goal.returns-in-CatalogFull-clause-disk
returns-in-CatalogFull-clause-disk g c = turned_done g.O.Origin.first g.D.Disk _ _ c.in-Ok.made _ c.in-Ok.ensures.turns
