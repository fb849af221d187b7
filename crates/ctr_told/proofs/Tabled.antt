-- A session that holds a name has it alone, and what it finds under the name it may drop.
use Rattle.std.proofs.Common.{◌≡◌, ◌≢◌, inr, ℕ, ◌<◌, ◌==◌, true, false, List, [], Some, None, refl, sym, ◌∙◌, ap, subst, arith}
use Rattle.std.proofs.lemmas.Bool.{eqb-true}
use Rattle.std.specs.Option.{option_map}
use Rattle.ctr_disk.specs.declared.disk.Disk.{Ghosts}
use Rattle.ctr_model.specs.declared.database.Table.{Table}
use Rattle.ctr_model.specs.Database.{table_at}
use Rattle.ctr_model.specs.State.{view}
use Rattle.ctr_versions.specs.Chains.{changed_since}
use Rattle.ctr_versions.specs.Keys.{schema_writes}
use Rattle.ctr_area.specs.Images.{is_committed_in, is_live}
use Rattle.ctr_area.specs.Sound.{IsAmong, stands_for}
use Rattle.ctr_rollback.specs.record_effects_States.{area_in}
use Rattle.ctr_rollback.specs.record_laws_Owed.{IsNameFreeFor, OwedByDrop}
use Rattle.ctr_rollback.proofs.record_laws_Xids.{in_among}
use Rattle.ctr_legal.specs.Kept.{IsKept}
use Rattle.ctr_views.proofs.names_Entries.{name_of}
use Rattle.ctr_views.proofs.names_Search.{unseen, found_undropped}
use Rattle.ctr_area.specs.Areas.{Title}
use Rattle.ctr_area.proofs.Buckets.{each_of}
use Rattle.ctr_rollback.specs.actions_Facts.{Fact, IsOpen, HasPage, HasNoPageBut, HasBlank, HasSlot, HasCopy, HasTable, HoldsFact}
use Rattle.ctr_views.specs.actions_Sites.{Site, site_of}
use Rattle.ctr_rollback.specs.paged_Moving.{IsActing}
use Rattle.ctr_views.specs.paged_Paged.{xids_of}
use Rattle.ctr_views.specs.paged_Shown.{Scene, IsShown}
use Rattle.ctr_rollback.specs.store_Store.{View}
use Rattle.ctr_views.specs.Viewing.{Viewer}
use Rattle.ctr_views.proofs.Looking.{names_shown, look, looking}
use Rattle.ctr_rollback.specs.kept_Carried.{IsUnderLock}
use Rattle.ctr_rollback.specs.kept_Tables.{IsTable, AreTables}
use Rattle.ctr_rollback.specs.kept_Walk.{Mind}
use Rattle.ctr_rollback.specs.kept_Turns.{Start, scene_now, state_now}
use Rattle.ctr_rollback.proofs.kept_Walking.{keeps_reached}
use Rattle.ctr_told.specs.Tables.{IsAtTable, FindsIt}
use Rattle.ctr_told.proofs.Counted.{firm, alone, quiet}
use Rattle.ctr_told.proofs.Idle.{idle_open, idle_none, idle_more}

module _ {D : Type 0} (g : Ghosts D) (c : Start) (opened : D) (a : View D) (w : Mind) (is : IsAtTable g c opened a w) where
  abbrev site : Site
  site = site_of a.now

  abbrev scene : Scene
  scene = scene_now c w

  abbrev me : ℕ
  me = is.seat.session.me

  abbrev low : ℕ
  low = is.keeps.walks.scene.low

  abbrev shown : IsShown low site scene
  shown = is.keeps.walks.scene.shown

  abbrev kept : IsKept (state_now c w)
  kept = (keeps_reached c.lines c.moment c.base c.stuck c.size (g.moment_of a.disk) site w is.keeps.walks).kept

  abbrev viewer : Viewer scene
  viewer = record { s = is.s; session = is.seat.session; t = is.seat.t; me = Some me; at = is.seat.at; is_t = is.seat.is_t; calm = is.calm; is_me = refl }

  abbrev pub acting : IsActing scene me
  acting = record { s = is.s; session = is.seat.session; t = is.seat.t; at = is.seat.at; is_t = is.seat.is_t; unasked = is.calm.0; me = refl }

  pub name_alone_its : IsNameFreeFor me a.now.tables.items (area_in a.now).title is.name
  name_alone_its = alone low site scene shown kept viewer is.name (inr is.holds)

  pub name_quiet : changed_since is.seat.t.snapshot (schema_writes is.name (state_now c w).asked) ≡ None
  name_quiet = quiet low site scene shown kept viewer is.name (inr is.holds)

  pub is_open : HoldsFact me IsOpen site
  is_open = is.keeps.walks.scene.carried.held is.s is.seat.session IsOpen is.seat.at (idle_open is.more (w.facts is.s) is.carries)

  pub no_page : HoldsFact me (HasNoPageBut []) site
  no_page = is.keeps.walks.scene.carried.held is.s is.seat.session (HasNoPageBut []) is.seat.at (idle_none is.more (w.facts is.s) is.carries)

  pub unseen_name : table_at (view (state_now c w) is.seat.t) is.name ≡ None → (f : ℕ) → f < 32 → is_live ((area_in a.now).title f) ≡ true → ((area_in a.now).title f).name ≡ is.name
      → stands_for (is_committed_in a.now.tables) me ((area_in a.now).title f) ≡ false
  unseen_name none f lt alive named =
      let fi = firm low site scene shown kept viewer in
      unseen site.counted low site.tables site.area (xids_of site.tables w.run.commits) (state_now c w) (look low site scene shown viewer fi is.name) shown.paged.sound shown.paged.bounds (names_shown low site scene shown) (looking low site scene shown viewer fi is.name)
      (in_among me a.now.tables.opens is_open) name_alone_its name_quiet (ap (option_map (λ (t : Table). t.schema)) none) f lt alive named

  pub owed_drop : (e : ℕ) → FindsIt is e → OwedByDrop a.now.tables (area_in a.now) me e
  owed_drop e found =
      let fi = firm low site scene shown kept viewer in
      let its = name_of (area_in a.now).title is.name e found.1 in
      record {
        is_open = is_open;
        inside = found.0;
        live = its.0;
        undropped = found_undropped site.counted low site.tables site.area (xids_of site.tables w.run.commits) (state_now c w) (look low site scene shown viewer fi is.name) shown.paged.sound shown.paged.bounds (names_shown low site scene shown) (looking low site scene shown viewer fi is.name)
            name_alone_its name_quiet e found.0 found.1 found.2;
        alone = subst (IsNameFreeFor me a.now.tables.items (area_in a.now).title) (sym its.1) name_alone_its;
      }

  -- ---- the tables that it counts on beside

  pub tables_held : (f : Fact) → IsAmong f is.more → HoldsFact me f site
  tables_held f in_ = is.keeps.walks.scene.carried.held is.s is.seat.session f is.seat.at (idle_more is.more (w.facts is.s) is.carries f in_)

  pub tables_under : (f : Fact) → IsAmong f is.more → IsUnderLock is.seat.t f site
  tables_under f in_ = is.keeps.walks.scene.carried.under is.s is.seat.t f is.seat.is_t (idle_more is.more (w.facts is.s) is.carries f in_)

  free_or_live : (n : ℕ) → (n == 1) ≡ true → n ≡ 0 → ⊥
  free_or_live n live free = let one = eqb-true n 1 live in omega (arith, one, free)

  -- none of them is of a free entry
  pub apart_free : (e f : ℕ) (title : Title) → ((area_in a.now).title f).state ≡ 0 → IsAmong (HasTable e title) is.more → e ≢ f
  apart_free e f title free in_ same = free_or_live title.state (tables_under (HasTable e title) in_).0 (ap (λ (t : Title). t.state) (sym (tables_held (HasTable e title) in_)) ∙ ap (λ n. ((area_in a.now).title n).state) same ∙ free)

-- what leaves each table leaves all facts of tables
pub by_table : (P : Fact → Type 0) (rest : List Fact) → AreTables rest → ((e : ℕ) (title : Title) → IsAmong (HasTable e title) rest → P (HasTable e title)) → (f : Fact) → IsAmong f rest → P f
by_table P rest tables each f in_ = by f (each_of IsTable f rest tables in_) in_
  where
    by : (f : Fact) → IsTable f → IsAmong f rest → P f
    by (HasTable e title) is there = each e title there
    by IsOpen is there = absurd is
    by (HasPage p) is there = absurd is
    by (HasNoPageBut ps) is there = absurd is
    by (HasBlank p h) is there = absurd is
    by (HasSlot e at slot) is there = absurd is
    by (HasCopy e at v q) is there = absurd is
