use Rattle.std.proofs.Common.{◌≡◌, ℤ, Bool, Option, Some, refl, subst}
use Rattle.std.specs.Prelude.{IfOk, IfErr, IfSome}
use Rattle.ctr_disk.specs.declared.fault.StoreFault.TheVariants.{Fault}
use Rattle.ctr_area.specs.Images.{is_committed_in}
use Rattle.ctr_area.specs.Reading.{older_said}
use Rattle.ctr_extend.specs.record_laws_Owed.{older_copy}
use Rattle.ctr_extend.specs.record_effects_States.{area_in}
use Rattle.ctr_extend.specs.passed_Laid.{width_in}
use Rattle.ctr_page.specs.declared.rows.VersionEntry.{VersionEntry}
use Rattle.std.specs.Option.{option_map}
use Rattle.ctr_extend.specs.heap_Ways.{IsWay, kept_version, writing_by}
use Rattle.ctr_area.specs.Areas.{nowhere}
use Rattle.ctr_write.specs.declared.stages.Written.TheVariants.{Done}
use Rattle.ctr_page.specs.declared.rows.Place.{Place}
use Rattle.ctr_write.specs.Stages.{IsCountedWrite, LeavesItem, HasKept}
use Rattle.ctr_write.specs.Keeping.{IsCopyFor}
use Rattle.ctr_write.specs.Laying.{Wish, MayLay, LaysHead, IsReadyFor}
use Rattle.ctr_write.proofs.Ending.{so_far, left_so}
use Rattle.ctr_write.proofs.Used.{ready_now, ready_kept, copy_is, kept_as, none_of, some_of, of_slot, to_keep_is, slot_used, slot_key, lays_over, keeps_one}
use Rattle.ctr_write.proofs.rewriting.write_read.Goals as goal

pub returns-in-None-clause-inside : goal.returns-in-None-clause-inside
returns-in-None-clause-inside g c = so_far Done (λ w. LeavesItem 1 w c.args.store.now.meta c.lay_over.new.store.meta) (λ w. IsCountedWrite w c.lay_over.new.store.now.counted) c.lay_over.result tt c.lay_over.ensures.is

pub returns-in-None-clause-left : goal.returns-in-None-clause-left
returns-in-None-clause-left g c = left_so 1 Done c.args.store.now.meta c.args.store.now.meta c.lay_over.new.store.meta c.lay_over.result refl c.lay_over.ensures.is

pub returns-in-None-clause-steps : goal.returns-in-None-clause-steps
returns-in-None-clause-steps g c = λ key told sound may.
    let x = c.args.x in
    let e = c.args.entry in
    let at = c.args.place in
    let slot = c.args.slot in
    let kept = c.args.kept in
    let s = c.args.store.now.now in
    let t = c.lay_over.new.store.now in
    let way = c.way_of-way.result in
    let columns = ((area_in s).title e).columns in
    let old = (area_in s).slot at in
    let by : ℤ → Wish = λ k. record { x = x; entry = e; key = k; head = c.args.head.now } in
    let wish = by key in
    let is : IsWay (is_committed_in s.tables slot.head.xid) slot way = subst (λ (b : Bool). IsWay b slot way) (c.is_committed.ensures told sound) c.way_of-way.ensures.table in
    let copy = kept_as wish at slot kept s may way c.to_keep.result (c.to_keep.ensures.copy columns (slot_used wish at slot kept s may)) in
    let none = none_of (older_copy old) (kept_version way old) (subst (λ (o : Option VersionEntry). option_map (older_said columns) o ≡ option_map (older_copy old) (kept_version way old)) c.in-None.is copy) in
    let steps = subst (λ (k : ℤ). MayLay (by k) s → IsReadyFor e at slot way nowhere s → IfOk c.lay_over.result (λ w. LaysHead (by k) at (writing_by way nowhere) s t)) (slot_key wish at slot kept s may) (c.lay_over.ensures.steps e told sound) in
    lays_over wish at slot kept s may t (writing_by way nowhere) (λ w. LeavesItem 1 w c.args.store.now.meta c.lay_over.new.store.meta) c.lay_over.result c.lay_over.ensures.is
    (steps may.lay (ready_now wish at slot kept s may way is none))

pub returns-in-Some-kept-clause-steps : goal.returns-in-Some-kept-clause-steps
returns-in-Some-kept-clause-steps g c = λ key told sound may.
    let x = c.args.x in
    let e = c.args.entry in
    let at = c.args.place in
    let slot = c.args.slot in
    let kept = c.args.kept in
    let q = c.in-Some-kept.q in
    let s = c.args.store.now.now in
    let t = c.lay_over-in-Some-kept.new.store.now in
    let way = c.way_of-way.result in
    let by : ℤ → Wish = λ k. record { x = x; entry = e; key = k; head = c.args.head.now } in
    let wish = by key in
    let is : IsWay (is_committed_in s.tables slot.head.xid) slot way = subst (λ (b : Bool). IsWay b slot way) (c.is_committed.ensures told sound) c.way_of-way.ensures.table in
    let has : HasKept x e key q s = subst (λ (o : Option Place). IfSome o (λ p. HasKept x e key p s)) c.in-Some-kept.is may.copy in
    let fits = c.a_place_of_a_table_fits.ensures.versions s e q may.lay.sound (copy_is wish at slot kept s may q has).here in
    let ready = ready_kept wish at slot kept s may way q has is (c.a_slot_is_put_at_its_place.ensures.width s e slot may.made) (λ some. (fits.4, fits.5)) in
    let steps = subst (λ (k : ℤ). MayLay (by k) s → IsReadyFor e at slot way q s → IfOk c.lay_over-in-Some-kept.result (λ w. LaysHead (by k) at (writing_by way q) s t)) (slot_key wish at slot kept s may) (c.lay_over-in-Some-kept.ensures.steps e told sound) in
    lays_over wish at slot kept s may t (writing_by way q) (λ w. LeavesItem 1 w c.args.store.now.meta c.lay_over-in-Some-kept.new.store.meta) c.lay_over-in-Some-kept.result c.lay_over-in-Some-kept.ensures.is
    (steps may.lay ready)

pub returns-in-None-kept-clause-steps : goal.returns-in-None-kept-clause-steps
returns-in-None-kept-clause-steps g c = λ key told sound may.
    let x = c.args.x in
    let e = c.args.entry in
    let at = c.args.place in
    let slot = c.args.slot in
    let kept = c.args.kept in
    let s = c.args.store.now.now in
    let t = c.keep_first.new.store.now in
    let way = c.way_of-way.result in
    let version = c.in-Some.version in
    let columns = ((area_in s).title e).columns in
    let old = (area_in s).slot at in
    let committed = is_committed_in s.tables slot.head.xid in
    let wish : Wish = record { x = x; entry = e; key = key; head = c.args.head.now } in
    let used = slot_used wish at slot kept s may in
    let is : IsWay committed slot way = subst (λ (b : Bool). IsWay b slot way) (c.is_committed.ensures told sound) c.way_of-way.ensures.table in
    let wide = c.a_slot_is_put_at_its_place.ensures.width s e slot may.made in
    let w = width_in (area_in s) e in
    let some = some_of (older_copy old) (older_said columns version) (kept_version way old) (kept_as wish at slot kept s may way (Some version) (c.in-Some.ensures.copy columns used)) in
    let v = some.0 in
    let copy : IsCopyFor e at v version s = record {
      used = may.of_key.0;
      of_slot = of_slot committed slot old w wide way v some.1;
      made = c.in-Some.ensures.made s.counted columns may.made used;
      is = some.2;
    } in
    keeps_one wish at slot kept s may t v c.keep_first.result c.in-None-kept.is (to_keep_is committed slot old w wide way v is some.1)
    (c.keep_first.ensures.steps at v told sound (record { sound = may.lay.sound; is_open = may.lay.is_open; there = may.there; no_page = may.no_page; copy = copy }))

pub returns-in-None-clause-refused : goal.returns-in-None-clause-refused
returns-in-None-clause-refused g c = λ key told sound may.
    let x = c.args.x in
    let e = c.args.entry in
    let at = c.args.place in
    let slot = c.args.slot in
    let kept = c.args.kept in
    let s = c.args.store.now.now in
    let way = c.way_of-way.result in
    let columns = ((area_in s).title e).columns in
    let old = (area_in s).slot at in
    let by : ℤ → Wish = λ k. record { x = x; entry = e; key = k; head = c.args.head.now } in
    let wish = by key in
    let is : IsWay (is_committed_in s.tables slot.head.xid) slot way = subst (λ (b : Bool). IsWay b slot way) (c.is_committed.ensures told sound) c.way_of-way.ensures.table in
    let copy = kept_as wish at slot kept s may way c.to_keep.result (c.to_keep.ensures.copy columns (slot_used wish at slot kept s may)) in
    let none = none_of (older_copy old) (kept_version way old) (subst (λ (o : Option VersionEntry). option_map (older_said columns) o ≡ option_map (older_copy old) (kept_version way old)) c.in-None.is copy) in
    subst (λ (k : ℤ). MayLay (by k) s → IsReadyFor e at slot way nowhere s → IfErr c.lay_over.result (λ f. f ≡ Fault)) (slot_key wish at slot kept s may) (c.lay_over.ensures.refused e told sound)
    may.lay (ready_now wish at slot kept s may way is none)

pub returns-in-Some-kept-clause-refused : goal.returns-in-Some-kept-clause-refused
returns-in-Some-kept-clause-refused g c = λ key told sound may.
    let x = c.args.x in
    let e = c.args.entry in
    let at = c.args.place in
    let slot = c.args.slot in
    let kept = c.args.kept in
    let q = c.in-Some-kept.q in
    let s = c.args.store.now.now in
    let way = c.way_of-way.result in
    let by : ℤ → Wish = λ k. record { x = x; entry = e; key = k; head = c.args.head.now } in
    let wish = by key in
    let is : IsWay (is_committed_in s.tables slot.head.xid) slot way = subst (λ (b : Bool). IsWay b slot way) (c.is_committed.ensures told sound) c.way_of-way.ensures.table in
    let has : HasKept x e key q s = subst (λ (o : Option Place). IfSome o (λ p. HasKept x e key p s)) c.in-Some-kept.is may.copy in
    let fits = c.a_place_of_a_table_fits.ensures.versions s e q may.lay.sound (copy_is wish at slot kept s may q has).here in
    let ready = ready_kept wish at slot kept s may way q has is (c.a_slot_is_put_at_its_place.ensures.width s e slot may.made) (λ some. (fits.4, fits.5)) in
    subst (λ (k : ℤ). MayLay (by k) s → IsReadyFor e at slot way q s → IfErr c.lay_over-in-Some-kept.result (λ f. f ≡ Fault)) (slot_key wish at slot kept s may) (c.lay_over-in-Some-kept.ensures.refused e told sound)
    may.lay ready

pub returns-in-None-kept-clause-refused : goal.returns-in-None-kept-clause-refused
returns-in-None-kept-clause-refused g c = λ key told sound may.
    let x = c.args.x in
    let e = c.args.entry in
    let at = c.args.place in
    let slot = c.args.slot in
    let kept = c.args.kept in
    let s = c.args.store.now.now in
    let way = c.way_of-way.result in
    let version = c.in-Some.version in
    let columns = ((area_in s).title e).columns in
    let old = (area_in s).slot at in
    let committed = is_committed_in s.tables slot.head.xid in
    let wish : Wish = record { x = x; entry = e; key = key; head = c.args.head.now } in
    let used = slot_used wish at slot kept s may in
    let is : IsWay committed slot way = subst (λ (b : Bool). IsWay b slot way) (c.is_committed.ensures told sound) c.way_of-way.ensures.table in
    let wide = c.a_slot_is_put_at_its_place.ensures.width s e slot may.made in
    let some = some_of (older_copy old) (older_said columns version) (kept_version way old) (kept_as wish at slot kept s may way (Some version) (c.in-Some.ensures.copy columns used)) in
    let v = some.0 in
    let copy : IsCopyFor e at v version s = record {
      used = may.of_key.0;
      of_slot = of_slot committed slot old (width_in (area_in s) e) wide way v some.1;
      made = c.in-Some.ensures.made s.counted columns may.made used;
      is = some.2;
    } in
    c.keep_first.ensures.refused at v told sound (record { sound = may.lay.sound; is_open = may.lay.is_open; there = may.there; no_page = may.no_page; copy = copy })
