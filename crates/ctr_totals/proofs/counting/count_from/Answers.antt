use Rattle.std.proofs.Common.{◌≡◌, ℕ, List, Some, Ok, sym, subst, arith}
use Rattle.std.specs.Prelude.{IsTrue, IfSome, ⊤}
use Rattle.std.proofs.lemmas.Int.{ints}
use Rattle.ctr_base.specs.Base.{IsSoundImage}
use Rattle.ctr_disk.specs.declared.fault.StoreFault.TheVariants.{Fault}
use Rattle.ctr_load.specs.Statements.{load_columns}
use Rattle.ctr_page.specs.declared.rows.Place.{Place}
use Rattle.ctr_area.specs.Images.{is_committed_in}
use Rattle.ctr_walk.specs.redo_States.{State}
use Rattle.ctr_record_effects.specs.States.{area_in}
use Rattle.ctr_record_effects.specs.Standing.{IsDatabaseState}
use Rattle.ctr_actions.specs.Sites.{site_of}
use Rattle.ctr_walk.proofs.Damages.{reads_err, reads_behind}
use Rattle.ctr_walk.proofs.Joins.{pages_join, answers_ok}
use Rattle.ctr_cursor.specs.declared.position.Position.TheVariants.{Slot}
use Rattle.ctr_cursor.specs.Pass.{next_position}
use Rattle.ctr_cursor.specs.Standing.{IsPosition, IsCountedPosition}
use Rattle.ctr_totals.specs.declared.counting.Counted.{Counted}
use Rattle.ctr_totals.specs.declared.counting.SlotAt.{SlotAt}
use Rattle.ctr_totals.specs.declared.counting.Totals.{Totals}
use Rattle.ctr_totals.specs.Facts.{number_at}
use Rattle.ctr_totals.specs.Along.{GoesAlong, IsSlotIn}
use Rattle.ctr_totals.proofs.Left.{rests_read}
use Rattle.ctr_totals.proofs.Counted.{Rest, begins, at_slot, goes_on, no_more, over, is_small, within_more}
use Rattle.ctr_totals.proofs.counting.count_from.Given.{Over}
use Rattle.ctr_totals.proofs.counting.count_from.Goals.{In-Some}
use Rattle.ctr_totals.proofs.counting.count_from.Goals as goal

pub loop-left-init : goal.loop-left-init
loop-left-init g c = record {
  read = rests_read g.O.Origin.first g.D.Disk c.args.store.now tt (λ told sound. c.rests.ensures told sound c.requires.going) c.requires.going;
  inside = c.requires.within;
  within = record { rows = omega arith; most = omega (arith, ints); least = omega (arith, ints) };
  all = λ told sound e places database columns goes position. begins c.args.store.now.now e places c.args.first goes position;
}

pub returns-in_default-clause-counts : goal.returns-in_default-clause-counts
returns-in_default-clause-counts g c = λ e places told sound database columns goes position few.
    no_more c.args.store.now.now e places c.loop-left.left c.loop-left.at c.loop-left.totals (c.loop-left.invariant.all told sound e places database columns goes position) (subst (IsSlotIn c.loop-left.at) c.in_default.is c.slot_in.ensures)

-- at a slot
module _ (g : Over) (c : In-Some g) where
  abbrev s : State
  s = c.args.store.now.now

  abbrev slot : SlotAt
  slot = c.in-Some.slot

  at_is : c.loop-left.at ≡ Some (Slot slot.entry slot.bucket slot.place)
  at_is = subst (IsSlotIn c.loop-left.at) c.in-Some.is c.slot_in.ensures

  module _ (told : IsTrue g.D.Disk.tells) (sound : IsSoundImage g.O.Origin.first) (e : ℕ) (places : List Place) (database : IsDatabaseState s) (columns : ((area_in s).title e).columns ≡ load_columns)
      (goes : GoesAlong (site_of s) e c.args.first places) (position : IfSome c.args.first (λ x. IsPosition x (site_of s)))
    where
      here : Rest s e places c.loop-left.left (Some (Slot slot.entry slot.bucket slot.place)) c.loop-left.totals
      here = subst (λ x. Rest s e places c.loop-left.left x c.loop-left.totals) at_is (c.loop-left.invariant.all told sound e places database columns goes position)

      own : ((area_in s).title slot.entry).columns ≡ load_columns
      own = subst (λ d. ((area_in s).title d).columns ≡ load_columns) (sym (at_slot s e places c.loop-left.left slot.entry slot.bucket slot.place c.loop-left.totals here)) columns

pub count_one-requires-clause-within : goal.count_one-requires-clause-within
count_one-requires-clause-within g c = subst (λ x. IfSome x (IsCountedPosition c.loop-left.store.now.counted)) (at_is g (goal.at.count_one-requires-clause-within g c).In-Some) c.loop-left.invariant.inside

pub returns-in-Err-clause-refused : goal.returns-in-Err-clause-refused
returns-in-Err-clause-refused g c = λ e places told sound database columns goes position.
    let k = (goal.at.returns-in-Err-clause-refused g c).In-Some in
    subst (λ (u : State). IsDatabaseState u → ((area_in u).title c.in-Some.slot.entry).columns ≡ load_columns → IsPosition (Slot c.in-Some.slot.entry c.in-Some.slot.bucket c.in-Some.slot.place) (site_of u) → c.in-Err.fault ≡ Fault)
    (c.loop-left.invariant.read.logs told sound).now (c.in-Err.ensures.refused told sound) database (own g k told sound e places database columns goes position) (here g k told sound e places database columns goes position).position

pub returns-in-Err-clause-leaves : goal.returns-in-Err-clause-leaves
returns-in-Err-clause-leaves g c =
    let first = g.O.Origin.first in
    let mid = c.loop-left.store in
    let new = c.count_one.new.store in
    reads_behind first g.D.Disk Totals tt c.args.store.now mid new c.in-Err.fault c.loop-left.invariant.read (reads_err first g.D.Disk Counted ⊤ c.in-Err.fault mid new c.in-Err.ensures.leaves)

pub with-totals-requires : goal.with-totals-requires
with-totals-requires g c = record { small = is_small c.loop-left.left c.loop-left.totals c.loop-left.invariant.within c.loop-left-test.true }

pub loop-left-preserved : goal.loop-left-preserved
loop-left-preserved g c =
    let k = (goal.at.loop-left-preserved g c).In-Some in
    let first = g.O.Origin.first in
    let mid = c.loop-left.store in
    let new = c.count_one.new.store in
    record {
      read = answers_ok first g.D.Disk c.in-Ok.counted tt c.args.store.now new (pages_join g.D.Disk c.args.store.now mid new first ⊤ Counted tt (Ok c.in-Ok.counted) c.loop-left.invariant.read c.in-Ok.ensures.leaves);
      inside = subst (λ n. IfSome c.in-Ok.counted.next (IsCountedPosition n)) (sym c.in-Ok.ensures.leaves.keeps.counted) c.in-Ok.ensures.inside;
      within = within_more c.loop-left.left c.loop-left.totals c.with-totals.result c.loop-left.invariant.within c.loop-left-test.true c.with-totals.ensures.near;
      all = λ told sound e places database columns goes position.
          let s = c.args.store.now.now in
          let slot = c.in-Some.slot in
          let same = (c.loop-left.invariant.read.logs told sound).now in
          let is = here g k told sound e places database columns goes position in
          let number = subst (λ (u : State). IsDatabaseState u → ((area_in u).title slot.entry).columns ≡ load_columns → IsPosition (Slot slot.entry slot.bucket slot.place) (site_of u) → c.in-Ok.counted.number ≡ number_at (is_committed_in u.tables) (area_in u) slot.place)
          same (c.in-Ok.ensures.number told sound) database (own g k told sound e places database columns goes position) is.position in
          let next = subst (λ (u : State). c.in-Ok.counted.next ≡ next_position (site_of u) (Slot slot.entry slot.bucket slot.place)) same (c.in-Ok.ensures.next told sound) in
          goes_on s (λ x y at led. c.a_pass_goes_from_position_to_position.ensures.leads s x y database at led) e places c.loop-left.left slot.entry slot.bucket slot.place c.loop-left.totals c.with-totals.result c.in-Ok.counted.number c.in-Ok.counted.next is number next c.with-totals.ensures.adds;
    }

pub returns-clause-counts : goal.returns-clause-counts
returns-clause-counts g c = λ e places told sound database columns goes position few.
    over c.args.store.now.now e places c.loop-left.at c.loop-left.totals (subst (λ n. Rest c.args.store.now.now e places n c.loop-left.at c.loop-left.totals) c.loop-left-test.false (c.loop-left.invariant.all told sound e places database columns goes position)) few
