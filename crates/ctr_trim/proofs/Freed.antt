-- What a call leaves that frees a version entry, behind a page that was read.
use Rattle.std.proofs.Common.{◌≡◌, ℕ, inl, inr, List, Result, Ok, Err, refl, sym, ◌∙◌, ap, subst, arith}
use Rattle.std.specs.Prelude.{⊤, IsTrue}
use Rattle.std.proofs.lemmas.List.{length-replicate}
use Rattle.ctr_types.specs.declared.value.Column.{Column}
use Rattle.ctr_disk.specs.declared.disk.Disk.{Ghosts}
use Rattle.ctr_disk.specs.Image.{Image}
use Rattle.ctr_disk.specs.declared.fault.StoreFault.{StoreFault}
use Rattle.ctr_page.specs.declared.rows.Place.{Place}
use Rattle.ctr_page.specs.Columns.{kinds_of, kinds_width}
use Rattle.ctr_passed.specs.area_Reading.{width_on}
use Rattle.ctr_pvs.specs.base_Base.{IsSoundImage}
use Rattle.ctr_pvs.specs.store_Store.{View, LeavesPage}
use Rattle.ctr_pvs.proofs.walk_Damages.{reads_behind}
use Rattle.ctr_pvs.proofs.walk_Records.{one_behind}
use Rattle.ctr_record_effects.specs.States.{pages_in}
use Rattle.ctr_passed.specs.Logged.{IsOlderOf}
use Rattle.ctr_pvs.specs.Writing.{blank_entry, blank_record, DropsEntry}

-- a version entry that isn't used is one of any table of its width
pub blank_made : (counted : ℕ) (cs : List Column) (w : ℕ) → w ≡ kinds_width (kinds_of cs) → IsOlderOf counted cs (blank_entry w)
blank_made counted cs w is = subst (λ n. IsOlderOf counted cs (blank_entry n)) (sym is) (record {
  is = record { used = omega arith; key = omega arith; version = (omega arith, omega arith, length-replicate (kinds_width (kinds_of cs)) 0); older = (omega arith, omega arith) };
  state = omega arith;
  row = λ used. absurd (cc used);
  leads = λ used some. absurd (some refl);
})

module _ {D : Type 0} (first : Image) (g : Ghosts D) (at : Place) (a b c : View D) (page : LeavesPage {T = ⊤} first g a b (Ok tt)) where
  pub drops_behind : (result : Result ⊤ StoreFault) → DropsEntry first g at b c result → (IsTrue g.tells → IsSoundImage first → pages_in b.now ≡ pages_in a.now) → DropsEntry first g at a c result
  drops_behind (Ok t) (w, one, wide) same = (
    w,
    one_behind first g (blank_record at w) a b c tt page (Ok t) one,
    λ told sound. wide told sound ∙ ap (λ (pages : ℕ → List ℕ). width_on pages at.page) (same told sound),
  )
  drops_behind (Err e) (inl read) same = inl (reads_behind first g ⊤ tt a b c e page read)
  drops_behind (Err e) (inr (w, one)) same = inr (w, one_behind first g (blank_record at w) a b c tt page (Err e) one)
