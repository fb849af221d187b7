-- A version entry that is lent is the one that the area has at its place.
use Rattle.std.proofs.Common.{◌≡◌, ℕ, cond, List, Result, Ok, Err, sym, ◌∙◌, ap, subst}
use Rattle.std.specs.Prelude.{⊤, length, IsTrue, IfOk, OnErr}
use Rattle.std.proofs.lemmas.Bool.{eq-eqb}
use Rattle.ctr_disk.specs.declared.disk.Disk.{Ghosts}
use Rattle.ctr_disk.specs.Image.{Image}
use Rattle.ctr_disk.specs.declared.fault.StoreFault.{StoreFault}
use Rattle.ctr_disk.specs.declared.fault.StoreFault.TheVariants.{Fault, Damaged}
use Rattle.ctr_page.specs.declared.walk.BadChain.{BadChain}
use Rattle.ctr_page.specs.declared.rows.Place.{Place}
use Rattle.ctr_page.specs.Places.{kept_size}
use Rattle.ctr_page.specs.Reading.{older_at}
use Rattle.ctr_passed.specs.area_Areas.{free_older}
use Rattle.ctr_passed.specs.area_Reading.{older_said, header_on, columns_on, width_on}
use Rattle.ctr_types.specs.declared.value.Column.{Column}
use Rattle.ctr_passed.specs.Logged.{IsOlderOf}
use Rattle.ctr_walk.specs.base_Base.{IsSoundImage}
use Rattle.ctr_passed.specs.redo_States.{State}
use Rattle.ctr_walk.specs.store_Store.{View, LeavesPage}
use Rattle.ctr_walk.specs.Damage.{damage_told, EndsTold}
use Rattle.ctr_walk.proofs.Joins.{pages_join}
use Rattle.ctr_walk.proofs.Damages.{reads}
use Rattle.ctr_passed.specs.record_effects_States.{pages_in}
use Rattle.ctr_walk.specs.declared.table.TableOf.{TableOf}
use Rattle.ctr_pvs.specs.declared.lending.LentVersion.{LentVersion}
use Rattle.ctr_pvs.specs.Table.{TableSaid}
use Rattle.ctr_walk.specs.Tables.{kinds_said}
use Rattle.ctr_pvs.specs.Reading.{kept_on_check, lies_check, WidthSaid, version_check_at, PassesAt}
use Rattle.ctr_pvs.specs.Lending.{entry_lent, VersionLiesAt, IsKeptAt, VersionSaidAt, LendsVersion}
use Rattle.ctr_pvs.proofs.Told.{page_of_table, by_table, lies_of_entry}

-- the table of the page was found, and the version entry passes
pub version_passes : (counted : ℕ) (pages : ℕ → List ℕ) (at : Place) (t : TableOf) (w : ℕ) → TableSaid 2 counted pages at.page (Ok t) → WidthSaid counted t at.slot (pages at.page) (Ok w)
    → PassesAt (version_check_at counted pages at) pages at w
version_passes counted pages at t w said wide =
    let page = page_of_table 2 counted pages at.page t said in
    record {
      passes = by_table 2 counted pages at.page t (λ e ks. kept_on_check counted e ks at.slot (pages at.page)) (Ok tt) said wide.0;
      behind_catalog = page.behind;
      of_kind = page.of_kind;
      wide = wide.1 ∙ page.wide;
      lies = ap (λ v. lies_check (kept_size v) at.slot) wide.1 ∙ lies_of_entry counted t.entry (kinds_said t) at.slot (pages at.page) wide.0;
    }

-- it is that of the area
pub kept_there : (check : Result ⊤ BadChain) (pages : ℕ → List ℕ) (at : Place) (w : ℕ) (l : LentVersion) → PassesAt check pages at w → entry_lent l ≡ older_at w at.slot (pages at.page) → IsKeptAt pages at l
kept_there check pages at w l passes is =
    let cs = columns_on pages at.page in
    ap (older_said cs) (is ∙ ap (λ v. older_at v at.slot (pages at.page)) passes.wide)
    ∙ sym (ap (λ b. cond b (older_said cs (older_at (width_on pages at.page) at.slot (pages at.page))) free_older) (eq-eqb (header_on pages at.page).kind 2 passes.of_kind))

-- it lies where one of its width does
pub lies_still : (at : Place) (w : ℕ) (result : Result LentVersion StoreFault) → VersionLiesAt at w → IfOk result (λ l. length l.payload.now ≡ w) → IfOk result (λ l. VersionLiesAt at (length l.payload.now))
lies_still at w (Ok l) lies is = subst (VersionLiesAt at) (sym is) lies
lies_still at w (Err e) lies is = tt

-- What is lent behind the page on which all passed.
module _ {D : Type 0} (first : Image) (g : Ghosts D) (at : Place) (a b : View D) (w : ℕ) (one : LeavesPage {T = ℕ} first g a b (Ok w))
    (passes : IsTrue g.tells → IsSoundImage first → PassesAt (version_check_at a.now.counted (pages_in a.now) at) (pages_in a.now) at w) where
  abbrev IsRead : Result LentVersion StoreFault → Type 0
  IsRead result = IfOk result (λ l. entry_lent l ≡ older_at w at.slot (pages_in b.now at.page))

  read_before : (l : LentVersion) → IsTrue g.tells → IsSoundImage first → entry_lent l ≡ older_at w at.slot (pages_in b.now at.page) → entry_lent l ≡ older_at w at.slot (pages_in a.now at.page)
  read_before l told sound is = is ∙ ap (λ (s : State). older_at w at.slot (pages_in s at.page)) (one.logs told sound).now

  pub finds : (result : Result LentVersion StoreFault) → IsTrue g.tells → IsSoundImage first → IsRead result → IfOk result (IsKeptAt (pages_in a.now) at)
  finds (Ok l) told sound is = kept_there (version_check_at a.now.counted (pages_in a.now) at) (pages_in a.now) at w l (passes told sound) (read_before l told sound is)
  finds (Err e) told sound is = tt

  pub made : (columns : List Column) (result : Result LentVersion StoreFault) → IsTrue g.tells → IsSoundImage first → IsOlderOf a.now.counted columns (older_at w at.slot (pages_in a.now at.page)) → IsRead result
      → IfOk result (λ l. IsOlderOf a.now.counted columns (entry_lent l))
  made columns (Ok l) told sound is read = subst (IsOlderOf a.now.counted columns) (sym (read_before l told sound read)) is
  made columns (Err e) told sound is read = tt

  pub lends : (c : View D) (result : Result LentVersion StoreFault) → LeavesPage {T = LentVersion} first g b c result → (IsTrue g.tells → IsSoundImage first → IsRead result) → LendsVersion first g at a c result
  lends c result two is = record {
    ends = λ told sound. ends result told sound (is told sound) (two.refused told sound);
    leaves = reads first g result a c (pages_join g a b c first ℕ LentVersion w result one two);
  }
    where
      ends : (r : Result LentVersion StoreFault) → IsTrue g.tells → IsSoundImage first → IsRead r → OnErr r (r ≡ Err Fault) → EndsTold (damage_told g c) (VersionSaidAt a.now.counted (pages_in a.now) at) r
      ends (Ok l) told sound is_read none = ((passes told sound).passes, finds (Ok l) told sound is_read)
      ends (Err Fault) told sound is_read none = tt
      ends (Err (Damaged d)) told sound is_read fault = absurd (let f = fault in cc)
