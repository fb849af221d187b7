-- The row of a key, as its slot tells who changed it.
use Rattle.std.proofs.Common.{◌≡◌, ℕ, ℤ, false, Option, Some, None, ◌∙◌}
use Rattle.std.specs.Prelude.{is_some, option_and_then}
use Rattle.std.specs.Option.{option_map_or}
use Rattle.ctr_meta.specs.Seen.{xid_is_changed}
use Rattle.ctr_page.specs.declared.rows.Place.{Place}
use Rattle.ctr_area.specs.Sound.{AreKeyed, IsUsedSlot}
use Rattle.ctr_wishes.specs.ctr_reading.heap_Finding.{FindsKey}
use Rattle.ctr_wishes.specs.actions_Sites.{Site}
use Rattle.ctr_txn.specs.paged_Shown.{Scene}
use Rattle.ctr_wishes.specs.ctr_views.Scanning.{IsNoSlot}
use Rattle.ctr_wishes.specs.ctr_views.Viewing.{Viewer, newest_in, number_since}
use Rattle.ctr_asking.specs.Causes.{IsNewer, newer_at}
use Rattle.ctr_asking.proofs.Numbers.{unseen_is}

module _ (site : Site) (scene : Scene) (v : Viewer scene) (e : ℕ) (key : ℤ) (changed : Option ℕ) (keyed : AreKeyed site.area)
    (told : (at : Place) → IsUsedSlot site.area e at → option_map_or (xid_is_changed site.tables v.session.snapshot) (newest_in site at) false ≡ is_some (number_since site v (newest_in site at)))
    (slot : (at : Place) → IsUsedSlot site.area e at → (site.area.slot at).key ≡ key → number_since site v (newest_in site at) ≡ changed)
    (none : IsNoSlot site.area e key → None ≡ changed) where
  pub newer_is : (n : Option ℕ) → IsNewer scene.run.commits site v.session.snapshot e key n → n ≡ changed
  newer_is n newer = newer.2 ∙ by_found newer.0 newer.1
    where
      by_found : (found : Option Place) → FindsKey site.area e key found → option_and_then (newer_at scene.run.commits site v.session.snapshot) found ≡ changed
      by_found None finds = none (finds keyed)
      by_found (Some at) finds =
          unseen_is site.tables scene.run.commits v.session.snapshot v.t.snapshot (newest_in site at) (told at finds.0) ∙ slot at finds.0 finds.1
