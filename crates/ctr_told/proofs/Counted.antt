-- A table that a session counts on has a name that is its alone, and so is the one that it finds.
use Rattle.std.proofs.Common.{◌≡◌, ◌⊎◌, ⊎_elim, ℕ, ◌+◌, ◌<◌, ◌==◌, true, false, List, Some, None, sym, ap, ◌∙◌, subst}
use Rattle.std.specs.Prelude.{drop}
use Rattle.std.specs.Ordering.{nat_cmp}
use Rattle.std.specs.FinMap.Entries.{find}
use Rattle.ctr_model.specs.declared.state.Transaction.{Transaction}
use Rattle.ctr_model.specs.State.{has_name}
use Rattle.ctr_versions.specs.Chains.{changed_since}
use Rattle.ctr_versions.specs.Keys.{schema_writes}
use Rattle.ctr_versions.proofs.Keys.{known}
use Rattle.ctr_area.specs.Areas.{Title}
use Rattle.ctr_area.specs.Images.{is_live}
use Rattle.ctr_rollback.specs.record_laws_Owed.{IsNameFreeFor}
use Rattle.ctr_legal.specs.Kept.{IsKept, IsFirm}
use Rattle.ctr_sessions.proofs.Own.{last_none}
use Rattle.ctr_views.specs.names_Search.{IsEntryFound}
use Rattle.ctr_views.proofs.names_Entries.{named_so, name_of}
use Rattle.ctr_views.proofs.names_Held.{name_alone}
use Rattle.ctr_views.proofs.names_Search.{undropped_found, found_undropped}
use Rattle.ctr_rollback.specs.actions_Facts.{HasTable}
use Rattle.ctr_views.specs.actions_Sites.{Site}
use Rattle.ctr_views.specs.paged_Paged.{xids_of}
use Rattle.ctr_views.specs.paged_Shown.{Scene, IsShown}
use Rattle.ctr_views.specs.Viewing.{Viewer, sees_by}
use Rattle.ctr_views.proofs.Looking.{names_shown, look, looking, found_as, as_found}
use Rattle.ctr_rollback.specs.kept_Carried.{IsUnderLock}

module _ (low : ℕ) (site : Site) (scene : Scene) (shown : IsShown low site scene) (kept : IsKept scene.state) (v : Viewer scene) where
  pub firm : IsFirm scene.state.asked v.t
  firm = kept.firm v.s v.t v.is_t v.calm.0

  module _ (name : List ℕ) (counts : (has_name name v.t.uses ≡ true) ⊎ (has_name name v.t.holds ≡ true)) where
    unstuck : has_name name scene.state.stuck ≡ false
    unstuck = known (has_name name scene.state.stuck)
        (λ stuck. let clear = kept.clear v.s v.t v.is_t in absurd (⊎_elim (clear.uses name stuck) (clear.holds name stuck) counts))
        (λ isnt. isnt)

    unheld : (r : ℕ) (u : Transaction) → (r == v.s) ≡ false → find nat_cmp r scene.state.sessions ≡ Some u → has_name name u.holds ≡ false
    unheld r u two is_u = known (has_name name u.holds)
        (λ held. let apart = kept.apart r v.s u v.t two is_u v.is_t in absurd (⊎_elim (apart.uses name held) (apart.holds name held) counts))
        (λ isnt. isnt)

    pub alone : IsNameFreeFor v.session.me site.tables.items site.area.title name
    alone = name_alone site.tables.items site.area.title scene.run.sessions scene.state v.s v.session name shown.holds v.at unstuck unheld

    pub quiet : changed_since v.t.snapshot (schema_writes name scene.state.asked) ≡ None
    quiet = last_none (v.t.snapshot + 1) (drop v.t.snapshot (schema_writes name scene.state.asked)) (⊎_elim (firm.uses name) (firm.holds name) counts)

  pub counted_found : (e : ℕ) (title : Title) → e < 32 → site.area.title e ≡ title → IsUnderLock v.t (HasTable e title) site → IsEntryFound (sees_by site v) title.name site.area e
  counted_found e title lt has under =
      let name = title.name in
      let named = named_so site.area.title name e (ap is_live has ∙ under.0) (ap (λ (t : Title). t.name) has) in
      let stands = undropped_found site.counted low site.tables site.area (xids_of site.tables scene.run.commits) scene.state (look low site scene shown v firm name) shown.paged.sound shown.paged.bounds (names_shown low site scene shown) (looking low site scene shown v firm name)
      (alone name under.1) (quiet name under.1) e lt named (ap (λ (t : Title). t.dropper) has ∙ under.2) in
      found_as low site scene shown v name e (lt, named, stands)

  pub found_counted : (name : List ℕ) → (has_name name v.t.uses ≡ true) ⊎ (has_name name v.t.holds ≡ true) → (e : ℕ) → IsEntryFound (sees_by site v) name site.area e
      → ((site.area.title e).name ≡ name) × IsUnderLock v.t (HasTable e (site.area.title e)) site
  found_counted name counts e found =
      let its = as_found low site scene shown v name e found in
      let title = site.area.title e in
      let is = name_of site.area.title name e found.1 in
      let none = found_undropped site.counted low site.tables site.area (xids_of site.tables scene.run.commits) scene.state (look low site scene shown v firm name) shown.paged.sound shown.paged.bounds (names_shown low site scene shown) (looking low site scene shown v firm name)
      (alone name counts) (quiet name counts) e its.0 its.1 its.2 in
      (is.1, (is.0, subst (λ n. (has_name n v.t.uses ≡ true) ⊎ (has_name n v.t.holds ≡ true)) (sym is.1) counts, none))
