-- A session of a scene that is shown looks for a name as the laws of names ask.
use Rattle.std.proofs.Common.{◌≡◌, ℕ, ◌<◌, List, Option, Some, None, ⊎_elim, refl, sym, ◌∙◌, ap, subst}
use Rattle.std.specs.Prelude.{◌+◌, true, drop, unwrap_or}
use Rattle.std.specs.Ordering.{nat_cmp}
use Rattle.std.specs.FinMap.Entries.{find}
use Rattle.ctr_model.specs.declared.state.Transaction.{Transaction}
use Rattle.ctr_model.specs.State.{has_name}
use Rattle.ctr_versions.specs.Chains.{changed_since}
use Rattle.ctr_versions.specs.Engine.{SessionHeld, ShowsSession}
use Rattle.ctr_versions.specs.Keys.{schema_writes}
use Rattle.ctr_paged.specs.area_Images.{is_committed_in, versions_in}
use Rattle.ctr_paged.specs.area_Sound.{IsSchemaItem}
use Rattle.ctr_paged.specs.legal_Kept.{IsFirm}
use Rattle.ctr_paged.proofs.sessions_Own.{last_none}
use Rattle.ctr_paged.proofs.record_laws_Latest.{live_some}
use Rattle.ctr_paged.specs.ctr_names.Held.{IsNameHeldBy}
use Rattle.ctr_paged.specs.ctr_names.Search.{IsOfTables, ShowsNames, Looker, IsLooking, IsEntryFound, finds}
use Rattle.ctr_catalog.proofs.names_Fates.{found_same}
use Rattle.ctr_paged.specs.actions_Sites.{Site}
use Rattle.ctr_paged.specs.Paged.{xids_of}
use Rattle.ctr_paged.specs.Shown.{Scene, IsShown}
use Rattle.ctr_views.specs.Viewing.{Viewer, sees_by}

-- what is found is one
pub one_found : {X : Type 0} (a b : X) (o : Option X) → o ≡ Some a → o ≡ Some b → a ≡ b
one_found a b o is_a is_b = ap (λ o. unwrap_or o a) (sym is_a ∙ is_b)

module _ (low : ℕ) (site : Site) (scene : Scene) (shown : IsShown low site scene) where
  pub of_tables : IsOfTables site.tables (xids_of site.tables scene.run.commits)
  of_tables = record { next = refl; live = refl; aborted = refl }

  pub names_shown : ShowsNames low site.tables site.area (xids_of site.tables scene.run.commits) scene.state
  names_shown = record { xids_are = of_tables; chains = shown.paged.shows.stands; one = shown.stands; ordered = shown.paged.ordered }

  module _ (v : Viewer scene) where
    -- the session shows its transaction
    pub session_shown : ShowsSession low scene.state.answered (xids_of site.tables scene.run.commits) (versions_in (is_committed_in site.tables) site.area) v.session v.t
    session_shown =
        let its = shown.paged.shows.inside v.s v.t v.is_t in
        subst (λ (b : SessionHeld). ShowsSession low scene.state.answered (xids_of site.tables scene.run.commits) (versions_in (is_committed_in site.tables) site.area) b v.t)
        (one_found its.0 v.session (find nat_cmp v.s scene.run.sessions) its.1 v.at) its.2

    -- its test is the one of the tables
    pub sees_as : (λ (x : ℕ). sees_by site v x) ≡ finds (xids_of site.tables scene.run.commits) v.session
    sees_as = λ i x. found_same site.counted site.tables site.area shown.paged.sound (xids_of site.tables scene.run.commits) of_tables v.session v.me v.is_me x i

    pub found_as : (name : List ℕ) (e : ℕ) → IsEntryFound (finds (xids_of site.tables scene.run.commits) v.session) name site.area e → IsEntryFound (sees_by site v) name site.area e
    found_as name e its = subst (λ test. IsEntryFound test name site.area e) (sym sees_as) its

    pub as_found : (name : List ℕ) (e : ℕ) → IsEntryFound (sees_by site v) name site.area e → IsEntryFound (finds (xids_of site.tables scene.run.commits) v.session) name site.area e
    as_found name e its = subst (λ test. IsEntryFound test name site.area e) sees_as its

    module _ (firm : IsFirm scene.state.asked v.t) (name : List ℕ) where
      abbrev IsQuiet : Type 0
      IsQuiet = changed_since v.t.snapshot (schema_writes name scene.state.asked) ≡ None

      -- where it holds the name, nobody has changed it
      held_quiet : (f : ℕ) → 0 < v.session.me → (site.area.title f).name ≡ name → IsNameHeldBy scene.run.sessions scene.state v.session.me (site.area.title f).name → IsQuiet
      held_quiet f some is_name held =
          let one = shown.paged.shows.apart v.s held.s v.session held.session v.at held.at some (sym held.me) in
          let same = one_found held.t v.t (find nat_cmp v.s scene.state.sessions) (ap (λ s. find nat_cmp s scene.state.sessions) one ∙ held.is_t) v.is_t in
          last_none (v.t.snapshot + 1) (drop v.t.snapshot (schema_writes name scene.state.asked))
          (firm.holds name (subst (λ (u : Transaction). has_name name u.holds ≡ true) same (subst (λ n. has_name n held.t.holds ≡ true) is_name held.holds)))

      -- what it has made or dropped itself it holds
      item_quiet : (f : ℕ) → IsSchemaItem v.session.me f site.tables.items → (site.area.title f).name ≡ name → IsQuiet
      item_quiet f item is_name =
          let sound = shown.paged.sound in
          let live = ⊎_elim (λ made. sound.owned.creates v.session.me f made) (λ dropped. sound.owned.drops v.session.me f dropped) item in
          ⊎_elim (held_quiet f (live_some site.counted site.tables site.area sound v.session.me live) is_name)
          (λ others. absurd (others.0 v.s v.session v.at refl)) (shown.holds.owned v.session.me f item)

      -- the looker that it is
      abbrev pub look : Looker
      look = record { session = v.session; t = v.t; name = name }

      pub looking : IsLooking low site.tables site.area (xids_of site.tables scene.run.commits) scene.state look
      looking = record { shown = session_shown; calm = v.calm; firm = item_quiet }
