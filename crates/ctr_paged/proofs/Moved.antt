-- Each action leaves what is shown: the scene to which it leads, in the site that it leaves.
use Rattle.std.proofs.Common.{◌≡◌, ◌⊎◌, ⊎_elim, inl, inr, ℕ, ◌<◌, true, List, [], ◌∷◌, ◌++◌, ◌+◌, length, Some, None, refl, sym, ◌∙◌, ap, subst}
use Rattle.std.specs.Prelude.{nat_eq, ◌&&◌, ◌||◌}
use Rattle.std.specs.List.{list_any}
use Rattle.std.proofs.lemmas.Bool.{false≢true, eq-eqb, cases_lt}
use Rattle.ctr_rec.specs.declared.record.SlogItem.{SlogItem}
use Rattle.ctr_rec.specs.declared.record.SlogItem.TheVariants.{AllocOf, FreeOf, CreateOf, DropOf}
use Rattle.std.specs.Ordering.{nat_cmp}
use Rattle.std.specs.FinMap.Entries.{put}
use Rattle.ctr_model.specs.Maps.{without}
use Rattle.ctr_model.specs.State.{with_transaction, without_transaction}
use Rattle.ctr_versions.specs.Laws.{with_own}
use Rattle.ctr_versions.specs.Undoing.{IsNotAtWork}
use Rattle.ctr_versions.specs.Versions.{name_written}
use Rattle.ctr_versions.proofs.Reading.{session_moved}
use Rattle.ctr_actions.specs.meta_Effects.{with_item}
use Rattle.ctr_actions.specs.area_Changes.{new_title, empty_chains, ChangesEntry}
use Rattle.ctr_actions.specs.area_Images.{made_by_entry, is_live}
use Rattle.ctr_actions.specs.record_laws_Owed.{OwedByCreate, OwedByDrop, OwedByCommit, OwedByAbort}
use Rattle.ctr_paged.proofs.Rows.{theirs}
use Rattle.ctr_names.proofs.Stand.{item_drawn}
use Rattle.std.proofs.Math.Bool.{and-false}
use Rattle.ctr_versions.proofs.Keys.{known}
use Rattle.ctr_names.specs.meta_Items.{is_wanted}
use Rattle.ctr_names.specs.meta_Wanted.{Wanted}
use Rattle.ctr_names.specs.meta_Wanted.TheVariants.{Allocation, OfPage, Creation, Dropping}
use Rattle.ctr_actions.specs.area_Areas.{Title}
use Rattle.ctr_actions.specs.area_Sound.{IsAmong, IsSchemaItem}
use Rattle.ctr_actions.proofs.record_laws_Items.{any_there}
use Rattle.ctr_actions.specs.record_laws_Bounds.{IsInBounds}
use Rattle.ctr_actions.specs.Sites.{Site}
use Rattle.ctr_actions.specs.Actions.{Action, Begins, Allocates, Formats, Links, LinksOlder, Keeps, Writes, Creates, Drops, Commits, Frees, Uncreates, Undrops, Aborts, Reclaims, Reverts, Trims, Cuts, FreesOlder, MakesDead, Unlinks, UnlinksOlder, FreesEntry, Forgets, Checkpoints, Owes, site_after}
use Rattle.ctr_actions.proofs.Latest.{last_among}
use Rattle.ctr_paged.specs.Paged.{engine_at, ShowsPaged}
use Rattle.ctr_paged.specs.Shown.{Scene, IsShown}
use Rattle.ctr_paged.specs.Moving.{with_its, UndoesOwn, UndoesOrphans, MovesTo}
use Rattle.ctr_names.proofs.Holding.{same_items, alloc_items, free_items, linked_items, freed_items}
use Rattle.ctr_paged.proofs.Pages.{alloc_shows, free_shows, format_keeps, link_keeps, older_link_keeps, older_unlink_keeps, keep_keeps, free_entry_keeps}
use Rattle.ctr_paged.proofs.Shown.{shown_still, shown_reverted, shown_forgotten, shown_drawn, shown_row, shown_created, shown_dropped, shown_asked, shown_aborted, shown_orphan, IsUndone, undone_site, is_uncreated, is_undropped, shown_undone, shown_less, shown_released, shown_dead, shown_freed, shown_trimmed, shown_cut, shown_unlinked}
use Rattle.ctr_paged.proofs.Turns.{uncalm_own, uncalm_orphan}

-- the item of a page that left its chain is one of the page
page_free : (p : ℕ) (items : List SlogItem) → IsAmong (FreeOf p) items → list_any (is_wanted (OfPage p)) items ≡ true
page_free p items in_ = any_there (OfPage p) (FreeOf p) items (eq-eqb p p refl) in_

page_alloc : (x p : ℕ) (items : List SlogItem) → list_any (is_wanted (Allocation x p)) items ≡ true → list_any (is_wanted (OfPage p)) items ≡ true
page_alloc x p [] is = absurd (false≢true is)
page_alloc x p (AllocOf y q ∷ items) is = known (nat_eq q p)
    (λ one. ap (λ b. b || list_any (is_wanted (OfPage p)) items) one)
    (λ two. ap (λ b. b || list_any (is_wanted (OfPage p)) items) two ∙ page_alloc x p items (sym (ap (λ b. b || list_any (is_wanted (Allocation x p)) items) (ap (λ b. nat_eq y x && b) two ∙ and-false (nat_eq y x))) ∙ is))
page_alloc x p (FreeOf q ∷ items) is = known (nat_eq q p)
    (λ one. ap (λ b. b || list_any (is_wanted (OfPage p)) items) one)
    (λ two. ap (λ b. b || list_any (is_wanted (OfPage p)) items) two ∙ page_alloc x p items is)
page_alloc x p (CreateOf y e ∷ items) is = page_alloc x p items is
page_alloc x p (DropOf y e ∷ items) is = page_alloc x p items is

-- an entry that isn't one of the 32 isn't live
within : (site : Site) → IsInBounds site.area → (e : ℕ) → is_live (site.area.title e) ≡ true → e < 32
within site bounds e alive = ⊎_elim (λ lt. lt) (λ ge. absurd (false≢true (ap is_live (sym (bounds.titles e ge)) ∙ alive))) (cases_lt e 32)

module _ (low : ℕ) (site : Site) (scene : Scene) (shown : IsShown low site scene) where
  abbrev paged : ShowsPaged low site scene.run scene.state
  paged = shown.paged

  -- the scene is as it was
  same : (s : Site) (b : Scene) → b ≡ scene → IsShown low s scene → IsShown low s b
  same s b is there = subst (IsShown low s) (sym is) there

  -- ---- an item of a table is undone

  undone_by : (x e : ℕ) (w : Wanted) (u : Title) → IsUndone low site scene shown x e w u → (b : Scene) → UndoesOwn x scene b ⊎ UndoesOrphans x e w site scene b → IsShown low (undone_site low site scene shown e w u) b
  undone_by x e w u undone b = ⊎_elim
      (λ own. same (undone_site low site scene shown e w u) b own.leads (shown_undone low site scene shown x e w u undone own.by.s own.by.session own.by.at own.by.me))
      (λ orphan. ⊎_elim
      (λ more. same (undone_site low site scene shown e w u) b more.4 (shown_less low site scene shown x e w u undone more.0 more.1 more.2.0 more.2.1 more.3))
      (λ last. subst (IsShown low (undone_site low site scene shown e w u)) (sym last.1) (shown_released low site scene shown x e w u undone (λ y f item name. last.0 y f (item, name))))
      orphan.leads)

  item_some : (y f : ℕ) → IsSchemaItem y f site.tables.items → 0 < y
  item_some y f item = (item_drawn site.counted site.tables site.area paged.sound y f item).0

  -- nobody at work has the number of whose item is undone
  idle : (x e : ℕ) (w : Wanted) (b : Scene) → 0 < x → UndoesOwn x scene b ⊎ UndoesOrphans x e w site scene b → IsNotAtWork x (engine_at site scene.run) scene.state
  idle x e w b some = ⊎_elim
      (λ own. subst (λ y. IsNotAtWork y (engine_at site scene.run) scene.state) own.by.me
      (uncalm_own low site scene.run scene.state paged own.by.s own.by.session own.by.at (subst (λ y. 0 < y) (sym own.by.me) some) own.undoing))
      (λ orphan. uncalm_orphan low site scene.run scene.state paged x orphan.nobodys)

  -- ---- the law, an action each

  pub moved : (x : ℕ) (a : Action) (b : Scene) → Owes x a site → IsInBounds (site_after x a site).area → MovesTo low x a site scene b → IsShown low (site_after x a site) b
  moved x Begins b owed bounds draws =
      subst (IsShown low (site_after x Begins site)) (sym draws.leads) (subst (λ y. IsShown low (site_after y Begins site) (record {
        run = record scene.run { sessions = put nat_cmp draws.by.s (record draws.by.session { me = y }) scene.run.sessions };
        state = with_transaction draws.by.s draws.granted scene.state;
      })) (sym owed.is_next)
      (shown_drawn low site scene shown draws.by.s draws.by.session draws.by.t draws.by.at draws.by.is_t draws.by.unasked draws.granted draws.by.me
      (session_moved low scene.state.answered (engine_at site scene.run).xids (engine_at site scene.run).versions draws.by.session draws.by.t draws.granted draws.is_granted.snapshot draws.is_granted.own draws.is_granted.asked
      (theirs low site scene.run scene.state paged draws.by.s draws.by.session draws.by.t draws.by.at draws.by.is_t))
      (draws.is_granted.asked ∙ draws.by.unasked) (draws.is_granted.own ∙ draws.unwritten)))
  moved x (Allocates p) b owed bounds is = same (site_after x (Allocates p) site) b is (shown_still low site scene shown (site_after x (Allocates p) site).area (site_after x (Allocates p) site).tables (record { next = refl; opens = refl; aborted = refl }) (alloc_items x p site.tables.items) refl
      (alloc_shows low site scene.run scene.state paged x p owed bounds))
  moved x (Formats p h) b owed bounds is = same (site_after x (Formats p h) site) b is (shown_still low site scene shown (site_after x (Formats p h) site).area site.tables (record { next = refl; opens = refl; aborted = refl }) (same_items site.tables.items) refl
      (format_keeps low site scene.run scene.state paged x p h owed bounds))
  moved x (Links p e k) b owed bounds is = same (site_after x (Links p e k) site) b is (shown_still low site scene shown (site_after x (Links p e k) site).area (site_after x (Links p e k) site).tables (record { next = refl; opens = refl; aborted = refl }) (linked_items x p site.tables.items) refl
      (link_keeps low site scene.run scene.state paged x p e k owed bounds))
  moved x (LinksOlder p e) b owed bounds is = same (site_after x (LinksOlder p e) site) b is (shown_still low site scene shown (site_after x (LinksOlder p e) site).area (site_after x (LinksOlder p e) site).tables (record { next = refl; opens = refl; aborted = refl }) (linked_items x p site.tables.items) refl
      (older_link_keeps low site scene.run scene.state paged x p e owed bounds))
  moved x (Keeps e at older) b owed bounds is = same (site_after x (Keeps e at older) site) b is (shown_still low site scene shown (site_after x (Keeps e at older) site).area site.tables (record { next = refl; opens = refl; aborted = refl }) (same_items site.tables.items) refl
      (keep_keeps low site scene.run scene.state paged e at older owed.1 bounds))
  moved x (Writes m) b owed bounds writes =
      subst (IsShown low (site_after x (Writes m) site)) (sym writes.leads)
      (shown_row low site scene shown writes.by.s writes.by.session writes.by.t writes.by.at writes.by.is_t writes.by.unasked m writes.table owed.1 bounds (writes.by.me ∙ sym owed.0) writes.on writes.free)
  moved x (Creates e name columns left) b owed bounds writes =
      subst (IsShown low (site_after x (Creates e name columns left) site)) (sym writes.leads) (subst (λ y. IsShown low (record site { tables = with_item (CreateOf y e) site.tables; area = left }) (with_its writes.by.s (with_own (name_written name (Some (made_by_entry (e, new_title y name columns)))) writes.by.t) scene)) writes.by.me
      (shown_created low site scene shown writes.by.s writes.by.session writes.by.t writes.by.at writes.by.is_t writes.by.unasked left e name columns
      (subst (λ y. OwedByCreate site.tables site.area y e name) (sym writes.by.me) owed.0) (subst (λ y. ChangesEntry e (new_title y name columns) empty_chains site.area left) (sym writes.by.me) owed.1) bounds writes.holds))
  moved x (Drops e) b owed bounds (writes, steady) =
      subst (IsShown low (site_after x (Drops e) site)) (sym writes.leads) (subst (λ y. IsShown low (site_after y (Drops e) site) (with_its writes.by.s (with_own (name_written (site.area.title e).name None) writes.by.t) scene)) writes.by.me
      (shown_dropped low site scene shown writes.by.s writes.by.session writes.by.t writes.by.at writes.by.is_t writes.by.unasked e
      (subst (λ y. OwedByDrop site.tables site.area y e) (sym writes.by.me) owed) (subst (λ y. IsInBounds (site_after y (Drops e) site).area) (sym writes.by.me) bounds) writes.calm steady writes.holds))
  moved x Commits b owed bounds asks =
      subst (IsShown low (site_after x Commits site)) (sym asks.leads) (subst (λ y. IsShown low (site_after y Commits site) (record {
        run = record scene.run { commits = scene.run.commits ++ y ∷ [] };
        state = with_transaction asks.by.s (record asks.by.t { asked = Some (length scene.state.asked + 1) }) (record scene.state { asked = scene.state.asked ++ asks.by.t.own ∷ [] });
      })) asks.by.me
      (shown_asked low site scene shown asks.by.s asks.by.session asks.by.t asks.by.at asks.by.is_t asks.by.unasked asks.calm asks.untouched (subst (OwedByCommit site.tables) (sym asks.by.me) owed)))
  moved x (Frees p) b owed bounds is = same (site_after x (Frees p) site) b is (shown_still low site scene shown (site_after x (Frees p) site).area (site_after x (Frees p) site).tables (record { next = refl; opens = refl; aborted = refl }) (freed_items p site.tables.items) refl
      (free_shows low site scene.run scene.state paged p (page_alloc x p site.tables.items owed) bounds))
  moved x (Uncreates e) b owed bounds undoes =
      let item = (last_among x (CreateOf x e) site.tables.items owed).0 in
      undone_by x e (Creation e) (record (site.area.title e) { state = 2 })
      (is_uncreated low site scene shown x e (idle x e (Creation e) b (item_some x e (inl item)) undoes) owed (within site paged.bounds e (paged.sound.names.creates x e item).0) bounds) b undoes
  moved x (Undrops e) b owed bounds undoes =
      let item = (last_among x (DropOf x e) site.tables.items owed).0 in
      undone_by x e (Dropping e) (record (site.area.title e) { dropper = 0 })
      (is_undropped low site scene shown x e (idle x e (Dropping e) b (item_some x e (inr item)) undoes) owed (within site paged.bounds e (paged.sound.names.drops x e item).0) bounds) b undoes
  moved x Aborts b owed bounds ends = ⊎_elim
      (λ own. subst (IsShown low (site_after x Aborts site)) (sym own.leads) (subst (λ y. IsShown low (site_after y Aborts site) (record {
        run = record scene.run { sessions = without nat_cmp own.by.s scene.run.sessions };
        state = without_transaction own.by.s scene.state;
      })) own.by.me
      (shown_aborted low site scene shown own.by.s own.by.session own.by.t own.by.at own.by.is_t own.by.unasked (subst (OwedByAbort site.tables) (sym own.by.me) owed))))
      (λ orphan. same (site_after x Aborts site) b orphan.1 (shown_orphan low site scene shown x owed orphan.0))
      ends
  moved x (Reclaims p) b owed bounds is = same (site_after x (Reclaims p) site) b is (shown_still low site scene shown (site_after x (Reclaims p) site).area (site_after x (Reclaims p) site).tables (record { next = refl; opens = refl; aborted = refl }) (freed_items p site.tables.items) refl
      (free_shows low site scene.run scene.state paged p (page_free p site.tables.items owed) bounds))
  moved x (Reverts e at way) b owed bounds is = same (site_after x (Reverts e at way) site) b is (shown_reverted low site scene shown e at way owed bounds)
  moved x (Trims passes e at way) b owed bounds (old, is) = same (site_after x (Trims passes e at way) site) b is (shown_trimmed low site scene shown passes old e at way owed bounds)
  moved x (Cuts passes e at q) b owed bounds (old, is) = same (site_after x (Cuts passes e at q) site) b is (shown_cut low site scene shown passes old e at q owed bounds)
  moved x (FreesOlder e q) b owed bounds is = same (site_after x (FreesOlder e q) site) b is (shown_still low site scene shown (site_after x (FreesOlder e q) site).area site.tables (record { next = refl; opens = refl; aborted = refl }) (same_items site.tables.items) refl
      (free_entry_keeps low site scene.run scene.state paged q owed.unlinked bounds))
  moved x (MakesDead passes e) b owed bounds (old, mark, is) = same (site_after x (MakesDead passes e) site) b is (shown_dead low site scene shown passes mark.mark e mark.is old owed bounds)
  moved x (Unlinks p e k) b owed bounds is = same (site_after x (Unlinks p e k) site) b is (shown_unlinked low site scene shown p e k owed bounds)
  moved x (UnlinksOlder p e) b owed bounds is = same (site_after x (UnlinksOlder p e) site) b is (shown_still low site scene shown (site_after x (UnlinksOlder p e) site).area (site_after x (UnlinksOlder p e) site).tables (record { next = refl; opens = refl; aborted = refl }) (free_items p site.tables.items) refl
      (older_unlink_keeps low site scene.run scene.state paged p e owed bounds))
  moved x (FreesEntry e title left) b owed bounds is = same (site_after x (FreesEntry e title left) site) b is (shown_freed low site scene shown left e title owed.0 owed.1 owed.2 bounds)
  moved x (Forgets y) b owed bounds is = same (site_after x (Forgets y) site) b is (shown_forgotten low site scene shown y owed.gone owed.none)
  moved x (Checkpoints lists) b owed bounds is = same site b is shown
