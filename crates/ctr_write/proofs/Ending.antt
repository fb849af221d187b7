-- What turns that look for a free place end in.
use Rattle.std.proofs.Common.{◌≡◌, ℕ, inl, inr, Option, None, Some, Result, Ok, Err, sym, subst}
use Rattle.std.specs.Prelude.{IfOk}
use Rattle.ctr_disk.specs.declared.fault.StoreFault.{StoreFault}
use Rattle.ctr_meta.specs.Kept.{TablesKept}
use Rattle.ctr_page.specs.declared.checks.Chain.TheVariants.{Rows, Versions}
use Rattle.ctr_page.specs.declared.rows.Place.{Place}
use Rattle.ctr_page.specs.Places.{bucket_of}
use Rattle.ctr_redo.specs.States.{State}
use Rattle.ctr_extend.specs.record_effects_States.{area_in}
use Rattle.ctr_extend.specs.record_laws_Owed.{FirstVersion, IsRoomFor}
use Rattle.ctr_extend.specs.heap_Finding.{FindsFree}
use Rattle.ctr_extend.specs.declared.ways.OnWay.TheVariants.{Wanted}
use Rattle.ctr_write.specs.declared.stages.Written.{Written}
use Rattle.ctr_write.specs.declared.stages.Written.TheVariants.{On, Done}
use Rattle.ctr_write.specs.declared.stages.Stage.TheVariants.{Kept}
use Rattle.ctr_write.specs.Stages.{LeavesItem}
use Rattle.ctr_write.specs.Extending.{ExtendsFor}
use Rattle.ctr_write.specs.Laying.{Wish, LaysHead}
use Rattle.ctr_write.specs.Keeping.{off, KeepsOff}
use Rattle.ctr_write.specs.Steps.{EndsPlacing, MayPlace, EndsKeeping}
use Rattle.ctr_area.specs.Areas.{RowVersion}
use Rattle.ctr_extend.specs.pvs_Along.{FindsFreeEntry}

-- a turn that is at a stage behind it has that stage's facts, whatever the disk tells
pub so_far : (is : Written) (Left : Written → Type 0) (P : Written → Type 0) (result : Result Written StoreFault) → P is → IfOk result (λ w. (w ≡ is) × Left w) → IfOk result P
so_far is Left P (Ok w) holds ends = subst P (sym ends.0) holds
so_far is Left P (Err e) holds ends = tt

pub left_so : (n : ℕ) (is : Written) (k j l : TablesKept) (result : Result Written StoreFault) → j ≡ k → IfOk result (λ w. (w ≡ is) × LeavesItem n w j l) → IfOk result (λ w. LeavesItem n w k l)
left_so n is k j l (Ok w) same ends = subst (λ (m : TablesKept). LeavesItem n w m l) same ends.1
left_so n is k j l (Err e) same ends = tt

module _ (wish : Wish) (s t : State) where
  pub room_of : (b : ℕ) (free : Option Place) (at : Place) → MayPlace wish s → b ≡ bucket_of wish.key → free ≡ Some at → FindsFree (area_in s) wish.entry b free
      → IsRoomFor (area_in s) wish.entry wish.key at
  room_of b free at may bucket is found =
      let there = subst (λ (n : ℕ). FindsFree (area_in s) wish.entry n (Some at)) bucket (subst (λ (o : Option Place). FindsFree (area_in s) wish.entry b o) is found) in
      record { here = there.0; free = there.1; none = may.none }

  pub wants_rows : (b : ℕ) (free : Option Place) (result : Result Written StoreFault) → b ≡ bucket_of wish.key → free ≡ None → FindsFree (area_in s) wish.entry b free
      → IfOk result (ExtendsFor wish.x (Rows wish.entry b) Wanted s t) → IfOk result (EndsPlacing wish s t)
  wants_rows b free (Ok w) bucket is found extends = inr (record {
    none = subst (λ (n : ℕ). FindsFree (area_in s) wish.entry n None) bucket (subst (λ (o : Option Place). FindsFree (area_in s) wish.entry b o) is found);
    extends = subst (λ (n : ℕ). ExtendsFor wish.x (Rows wish.entry n) Wanted s t w) bucket extends;
  })
  wants_rows b free (Err e) bucket is found extends = tt

  pub lays_first : (at : Place) (Left : Written → Type 0) (result : Result Written StoreFault) → IsRoomFor (area_in s) wish.entry wish.key at → IfOk result (λ w. (w ≡ Done) × Left w)
      → IfOk result (λ w. LaysHead wish at FirstVersion s t) → IfOk result (EndsPlacing wish s t)
  lays_first at Left (Ok w) free ends lays = inl (record { done = ends.0; at = at; free = free; lays = lays })
  lays_first at Left (Err e) free ends lays = tt

module _ (x e : ℕ) (at : Place) (v : RowVersion) (s t : State) where
  pub wants_versions : (free : Option Place) (result : Result Written StoreFault) → free ≡ None → FindsFreeEntry (area_in s) e free
      → IfOk result (ExtendsFor x (Versions e) Wanted s t) → IfOk result (EndsKeeping (off x e at v) s t)
  wants_versions free (Ok w) is found extends = inr (record {
    none = subst (λ (o : Option Place). FindsFreeEntry (area_in s) e o) is found;
    extends = extends;
  })
  wants_versions free (Err f) is found extends = tt

  pub keeps_first : (q : Place) (Left : Written → Type 0) (result : Result Written StoreFault) → IfOk result (λ w. (w ≡ On (Kept q)) × Left w)
      → IfOk result (λ w. KeepsOff (off x e at v) q s t) → IfOk result (EndsKeeping (off x e at v) s t)
  keeps_first q Left (Ok w) ends keeps = inl (record { q = q; is = ends.0; keeps = keeps })
  keeps_first q Left (Err f) ends keeps = tt

pub free_at : (e : ℕ) (s : State) (free : Option Place) (q : Place) → free ≡ Some q → FindsFreeEntry (area_in s) e free → FindsFreeEntry (area_in s) e (Some q)
free_at e s free q is found = subst (λ (o : Option Place). FindsFreeEntry (area_in s) e o) is found
